use Rattle.std.proofs.Common.{sym, ◌∙◌, pos, ◌≤ℤ◌, rules, w32, arith}
use Rattle.std.proofs.lemmas.Int.{ints, to_z-of_z}
use mir.Val.{SFits}
use Rattle.gfx_base.specs.Range.{is_within}
use Rattle.gfx_base.specs.Rects.{has, point_at}
use Rattle.paint_ops.specs.Strips.{in_strip}
use Rattle.paint_ops.proofs.CanvasLemmas.{row_written-same_tests, row_written-no_tests}
use Rattle.paint_ops.proofs.FillLemmas.{LiesBetween, has-on_row, has-none}
use Rattle.paint_ops.proofs.fill.fill_rect.Goals as goal
use Rattle.paint_ops.proofs.fill.fill_rect.Goals.{else-rect-y-via-then-rect-y+else-y-rect, else-rect-y-via-else-rect-y}

pub returns-then-y-rect : goal.returns-then-y-rect
returns-then-y-rect c =
    let a = c.args in
    let r = a.rect.now in
    let y0 : SFits w32 r.y0 = search rules in
    let y1 : SFits w32 r.y1 = search rules in
    let x0 : SFits w32 r.x0 = search rules in
    let x1 : SFits w32 r.x1 = search rules in
    let top : r.y0 ≤ℤ pos a.strip.y = omega (arith, ints) in
    let bottom : pos a.strip.y ≤ℤ r.y1 = omega (arith, ints) in
    simp to_z-of_z at c.fill_columns.ensures
    ∙ row_written-same_tests a.target.now a.strip.y a.colour (in_strip a.strip) (λ u. is_within r.x0 r.x1 (pos u)) (λ u. has r (point_at (pos u) (pos a.strip.y))) c.requires.strip.shape (λ u _ _. has-on_row r (pos u) (pos a.strip.y) top bottom)

pub returns-else-rect-y : goal.returns-else-rect-y
returns-else-rect-y c =
    let a = c.args in
    let r = a.rect.now in
    sym (row_written-no_tests a.target.now a.strip.y a.colour (in_strip a.strip) (λ u. has r (point_at (pos u) (pos a.strip.y))) c.requires.strip.shape c.requires.strip.count (λ u _ _.
    has-none r (pos u) (pos a.strip.y) (λ (b : LiesBetween r (pos u) (pos a.strip.y)). elim c.else-rect-y.branch [
      | else-rect-y-via-then-rect-y+else-y-rect w ↦ let y1 : SFits w32 r.y1 = search rules in omega (arith, ints, b.bottom)
      | else-rect-y-via-else-rect-y w ↦ let y0 : SFits w32 r.y0 = search rules in omega (arith, ints, b.top)
    ])))
