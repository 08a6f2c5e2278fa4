use Rattle.std.proofs.Common.{w32, SFits, rules, arith}
use Rattle.std.proofs.lemmas.Int.{ints, to_z-of_z}
use Rattle.strokes.proofs.InkLemmas.{text-off}
use Rattle.strokes.proofs.points.is_in_text.Goals as goal

pub returns-then-p-from : goal.returns-then-p-from
returns-then-p-from c = text-off c.args.font.now c.args.text.now c.args.p.x c.args.p.y c.height.ensures.font
    (let f : SFits w32 c.args.p.y = search rules in omega (arith, ints, to_z-of_z w32 c.args.p.y f, c.from.ensures, c.height.ensures.value, c.if-p-from.true))
