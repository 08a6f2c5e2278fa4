use Rattle.std.proofs.Common.{ℕ, ◌==◌, Option, ap, sym, ◌∙◌}
use Rattle.paint_ops.specs.Rows.{row_written}
use Rattle.paint_ops.proofs.CanvasLemmas.{written-is_at, row_written-no_colours}
use Rattle.paint_ops.proofs.bitmaps.put_found.Goals as goal

pub returns-in-Some : goal.returns-in-Some
returns-in-Some c =
    let a = c.args in
    let f = a.target.now in
    c.put.ensures
    ∙ written-is_at f a.x a.y c.in-Some.colour c.requires.shape c.requires.inside.0
    ∙ ap (λ (found : Option ℕ). row_written f a.y (λ u. u == a.x) (λ _. found)) (sym c.in-Some.is)

pub returns-in_default : goal.returns-in_default
returns-in_default c =
    let a = c.args in
    sym (row_written-no_colours a.target.now a.y (λ u. u == a.x) (λ _. a.found) c.requires.shape c.requires.count (λ u _ _. c.in_default.is))
