use Rattle.std.proofs.Common.{◌≡◌, ℕ, ◌∙◌, ◌+◌, pos, ◌-ℤ◌, ◌≤ℤ◌, [], ◌∷◌, rules, w32, arith}
use Rattle.std.proofs.lemmas.Int.{ints, to_z-of_z}
use mir.Val.{SFits}
use Rattle.paint_ops.specs.Operations.{is_in_text, on_points}
use Rattle.paint_ops.specs.Rows.{row_written}
use Rattle.paint_ops.proofs.PaneLemmas.{column_is, column-inside}
use Rattle.paint_ops.proofs.ColumnLemmas.{columns_before, columns-start, columns-put, columns-skip, columns-done}
use Rattle.paint_ops.proofs.CellLemmas.{cell-set, cell-clear}
use Rattle.paint_ops.proofs.glyphs.draw_glyph.Goals as goal
use Rattle.paint_ops.proofs.glyphs.draw_glyph.Goals.{then-is_set, else-is_set}

pub loop-u-init : goal.loop-u-init
loop-u-init c = columns-start _ _ _ _ c.requires.part.shape c.requires.part.count

pub overflow_cast-from : goal.overflow_cast-from
overflow_cast-from c =
    let a = c.args in
    let e = column_is c.from.result a.x c.loop-u.u c.from.ensures c.requires.x (omega (arith, c.requires.part.within, c.requires.part.shape.most_width)) in
    rw e (omega (arith, ints), omega (arith, ints))

pub loop-u-preserved : goal.loop-u-preserved
loop-u-preserved c =
    let a = c.args in
    let f = a.target.now in
    let k = c.loop-u.u in
    let colour = λ (u : ℕ). on_points (is_in_text a.font.now (a.code ∷ []) (pos u -ℤ a.x) (pos a.row)) a.colour in
    let shape = c.requires.part.shape in
    let x : SFits w32 a.x = search rules in
    let before : c.loop-u.target ≡ row_written f a.part.y (columns_before a.part.left k) colour = simp to_z-of_z at c.loop-u.invariant in
    let e = column_is c.from.result a.x k c.from.ensures c.requires.x (omega (arith, c.requires.part.within, shape.most_width)) in
    let not_left : pos 0 ≤ℤ (pos k -ℤ a.x) = omega (arith, ints) in
    let z = column-inside _ (pos k -ℤ a.x) e not_left in
    let after : c.if-is_set.target ≡ row_written f a.part.y (columns_before a.part.left (k + 1)) colour = elim c.if-is_set.branch [
      | then-is_set w ↦
          w.target-is ∙ w.put.ensures
          ∙ rw before (columns-put f a.part.y a.part.left k a.colour colour shape c.loop-u.auto.u (omega (arith, c.requires.part.within)) (cell-set a.font.now a.code (pos k -ℤ a.x) _ a.row a.colour c.is_set.result z (omega (arith, ints)) c.is_set.ensures w.if-is_set.true))
      | else-is_set w ↦
          w.target-is ∙ before ∙ columns-skip f a.part.y a.part.left k colour shape c.loop-u.auto.u (cell-clear a.font.now a.code (pos k -ℤ a.x) _ a.row a.colour c.is_set.result z (omega (arith, ints)) c.is_set.ensures w.if-is_set.false)
    ] in
    simp to_z-of_z after

pub returns : goal.returns
returns c =
    let a = c.args in
    let x : SFits w32 a.x = search rules in
    let end : c.loop-u.u ≡ a.part.right + 1 = omega (arith, c.requires.part.some) in
    simp to_z-of_z at c.loop-u.invariant ∙ columns-done a.target.now a.part.y c.loop-u.u a.part _ c.requires.part.shape end
