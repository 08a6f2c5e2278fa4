use Rattle.std.proofs.Common.{◌≡◌, ◌-◌, sym, ap, ◌∙◌, subst, arith}
use Rattle.frame.specs.Areas.{in_span}
use Rattle.frame.specs.Canvases.{Canvas}
use Rattle.frame.specs.Pictures.{Picture, HasShape, colour_at, changed}
use Rattle.multibuf.proofs.CopyLemmas.{whole_row, picked, one_row_more, all_rows, same_canvas}
use Rattle.multibuf.proofs.copying.copy_all.Goals as goal

pub loop-y-preserved : goal.loop-y-preserved
loop-y-preserved c =
    let held = c.loop-y.invariant in
    let from = colour_at c.args.from.now.picture in
    let row = in_span c.loop-y.y 0 (c.width-last.result - 1) in
    let after : c.copy_span.new.self.picture ≡ changed c.loop-y.to.picture row from = ap (λ (f : Canvas). f.picture) c.copy_span.ensures in
    let P : Picture → Type 0 = λ p. HasShape p in
    record {
      shape = subst P (sym after) (c.changes_only_there.ensures.shape c.loop-y.to.picture row from held.shape);
      width = ap (λ (p : Picture). p.width) after ∙ held.width;
      height = ap (λ (p : Picture). p.height) after ∙ held.height;
      rows = λ x v inside up.
          let here = c.changes_only_there.ensures.colour c.loop-y.to.picture row from x v held.shape (omega arith) (omega arith) in
          picked (row x v) _ _ _ (ap (λ (p : Picture). colour_at p x v) after ∙ here) (λ off. held.rows x v inside (whole_row c.loop-y.y _ x v (omega arith) up off));
      writes = ap (λ (f : Canvas). f.writes) c.copy_span.ensures ∙ one_row_more _ _ c.loop-y.y _ _ held.writes (omega arith);
    }

pub returns : goal.returns
returns c =
    let held = c.loop-y.invariant in
    let at_end : c.loop-y.y ≡ c.args.from.now.picture.height = omega arith in
    let picture = c.pictures_equal_by_points.ensures c.loop-y.to.picture c.args.from.now.picture held.shape c.width-width.ensures.shape (omega arith) (omega arith) (λ x v inside up. held.rows x v (omega arith) (omega arith)) in
    same_canvas _ _ _ picture (all_rows _ _ c.loop-y.y _ _ _ held.writes at_end (omega arith))
