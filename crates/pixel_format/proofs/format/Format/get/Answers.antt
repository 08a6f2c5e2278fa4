use Rattle.std.proofs.Common.{◌≡◌, true, false, ap, sym, ◌∙◌}
use Rattle.pixel_format.specs.Formats.{Layout}
use Rattle.pixel_format.proofs.OrderLemmas.{value_by_order}
use Rattle.pixel_format.proofs.format.Format.get.Goals as goal
use Rattle.pixel_format.proofs.format.Format.get.Goals.{then-self, else-self}

pub returns : goal.returns
returns c =
    let f = c.args.self.now in
    let bytes = c.bytes-count.ensures in
    let order : c.self.inside.big_endian ≡ f.big_endian = ap (λ (f : Layout). f.big_endian) c.self.view_is in
    elim c.if-self.branch [
      | then-self w ↦ w.number-is ∙ (w.read_uint-number.ensures ∙ value_by_order f true c.bytes-count.result c.args.bytes.now bytes.format (sym w.if-self.true ∙ order) bytes.value c.requires)
      | else-self w ↦ w.number-is ∙ (w.read_uint-number-else-self.ensures ∙ value_by_order f false c.bytes-count.result c.args.bytes.now bytes.format (sym w.if-self.false ∙ order) bytes.value c.requires)
    ]
