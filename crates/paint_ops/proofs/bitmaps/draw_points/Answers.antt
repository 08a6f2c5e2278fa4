use Rattle.std.proofs.Common.{◌≡◌, ℕ, sym, ◌∙◌, ◌+◌, pos, ◌-ℤ◌, ◌≤ℤ◌, rules, w32, arith}
use Rattle.std.proofs.lemmas.Int.{ints, to_z-of_z}
use mir.Val.{SFits}
use Rattle.paint_ops.specs.Operations.{bitmap_colour}
use Rattle.paint_ops.specs.Rows.{row_written}
use Rattle.paint_ops.proofs.RowLemmas.{has_shape-row_drawn}
use Rattle.paint_ops.proofs.CanvasLemmas.{count-below}
use Rattle.paint_ops.proofs.PaneLemmas.{column_is, column-inside}
use Rattle.paint_ops.proofs.ColumnLemmas.{columns_before, columns-start, columns-step, columns-done}
use Rattle.paint_ops.proofs.CellLemmas.{bitmap-inside}
use Rattle.paint_ops.proofs.bitmaps.draw_points.Goals as goal

pub loop-u-init : goal.loop-u-init
loop-u-init c = columns-start _ _ _ _ c.requires.part.shape c.requires.part.count

pub put_found-requires-clause-shape : goal.put_found-requires-clause-shape
put_found-requires-clause-shape c = rw c.loop-u.invariant (has_shape-row_drawn _ _ _ _ c.requires.part.shape)

pub put_found-requires-clause-count : goal.put_found-requires-clause-count
put_found-requires-clause-count c = rw c.loop-u.invariant (count-below _)

pub loop-u-preserved : goal.loop-u-preserved
loop-u-preserved c =
    let a = c.args in
    let f = a.target.now in
    let k = c.loop-u.u in
    let colour = λ (u : ℕ). bitmap_colour a.bitmap.now (pos u -ℤ a.x) (pos a.row) in
    let shape = c.requires.part.shape in
    let x : SFits w32 a.x = search rules in
    let before : c.loop-u.target ≡ row_written f a.part.y (columns_before a.part.left k) colour = simp to_z-of_z at c.loop-u.invariant in
    let e = column_is c.from.result a.x k c.from.ensures c.requires.x (omega (arith, c.requires.part.within, shape.most_width)) in
    let not_left : pos 0 ≤ℤ (pos k -ℤ a.x) = omega (arith, ints) in
    let z = column-inside _ (pos k -ℤ a.x) e not_left in
    let is = bitmap-inside a.bitmap.now (pos k -ℤ a.x) _ a.row z (omega (arith, ints)) c.requires.row ∙ sym c.at.ensures in
    let after : c.put_found.new.target ≡ row_written f a.part.y (columns_before a.part.left (k + 1)) colour = columns-step f c.loop-u.target c.put_found.new.target a.part.y a.part.left k c.at.result colour shape c.loop-u.auto.u is before c.put_found.ensures in
    simp to_z-of_z after

pub returns : goal.returns
returns c =
    let a = c.args in
    let x : SFits w32 a.x = search rules in
    let end : c.loop-u.u ≡ a.part.right + 1 = omega (arith, c.requires.part.some) in
    simp to_z-of_z at c.loop-u.invariant ∙ columns-done a.target.now a.part.y c.loop-u.u a.part _ c.requires.part.shape end
