use Rattle.std.proofs.Common.{◌∙◌, pos, ◌≤ℤ◌, ◌<ℤ◌, ◌&&◌, ◌||◌, rules, w32, arith}
use Rattle.std.specs.Ordering.{int_eq}
use Rattle.std.proofs.lemmas.Int.{ints, to_z-of_z}
use mir.Val.{SFits}
use Rattle.gfx_base.specs.declared.rect.Rect.{Rect}
use Rattle.gfx_base.specs.Rects.{has, point_at}
use Rattle.paint_ops.specs.Strips.{in_strip}
use Rattle.paint_ops.proofs.CanvasLemmas.{row_written-either, row_written-same_tests, fits-row_written}
use Rattle.paint_ops.proofs.FillLemmas.{sides, sides-apart, side-alone}
use Rattle.paint_ops.proofs.fill.draw_sides.Goals as goal

pub fill_rect-requires-then-rect : goal.fill_rect-requires-then-rect
fill_rect-requires-then-rect c = record { strip = rw c.fill_rect.ensures (fits-row_written _ _ _ _ _ c.requires.strip) }

pub returns-then-rect : goal.returns-then-rect
returns-then-rect c =
    let a = c.args in
    let r = a.rect.now in
    let x0 : SFits w32 r.x0 = search rules in
    let x1 : SFits w32 r.x1 = search rules in
    let y0 : SFits w32 r.y0 = search rules in
    let y1 : SFits w32 r.y1 = search rules in
    let left : Rect = record { x0 = r.x0; y0 = r.y0; x1 = r.x0; y1 = r.y1 } in
    let right : Rect = record { x0 = r.x1; y0 = r.y0; x1 = r.x1; y1 = r.y1 } in
    let some : r.x0 <ℤ r.x1 = omega (arith, ints) in
    let ordered : r.x0 ≤ℤ r.x1 = omega (arith, ints) in
    simp to_z-of_z at c.fill_rect-then-rect.ensures
    ∙ rw (simp to_z-of_z at c.fill_rect.ensures) (row_written-either a.target.now a.strip.y a.colour (in_strip a.strip) (λ u. has left (point_at (pos u) (pos a.strip.y))) (λ u. has right (point_at (pos u) (pos a.strip.y))) (λ u. has r (point_at (pos u) (pos a.strip.y)) && (int_eq (pos u) r.x0 || int_eq (pos u) r.x1)) c.requires.strip.shape (λ u _ _. sides-apart r (pos u) (pos a.strip.y) some) (λ u _ _. sides r (pos u) (pos a.strip.y) ordered))

pub returns-else-rect : goal.returns-else-rect
returns-else-rect c =
    let a = c.args in
    let r = a.rect.now in
    let x0 : SFits w32 r.x0 = search rules in
    let x1 : SFits w32 r.x1 = search rules in
    let narrow : r.x1 ≤ℤ r.x0 = omega (arith, ints) in
    c.fill_rect-else-rect.ensures
    ∙ row_written-same_tests a.target.now a.strip.y a.colour (in_strip a.strip) (λ u. has r (point_at (pos u) (pos a.strip.y))) (λ u. has r (point_at (pos u) (pos a.strip.y)) && (int_eq (pos u) r.x0 || int_eq (pos u) r.x1)) c.requires.strip.shape (λ u _ _. side-alone r (pos u) (pos a.strip.y) narrow)
