use Rattle.std.proofs.Common.{◌⊎◌, inl, inr, sym, pos, ◌-ℤ◌, ◌<ℤ◌, ◌≤ℤ◌, arith}
use Rattle.std.proofs.lemmas.Int.{ints}
use Rattle.paint_ops.specs.Operations.{bitmap_colour}
use Rattle.paint_ops.specs.Strips.{in_strip}
use Rattle.paint_ops.proofs.CanvasLemmas.{row_written-no_colours}
use Rattle.paint_ops.proofs.PaneLemmas.{column_is}
use Rattle.paint_ops.proofs.CellLemmas.{bitmap-above, bitmap-below}
use Rattle.paint_ops.proofs.bitmaps.draw_bitmap.Goals as goal
use Rattle.paint_ops.proofs.bitmaps.draw_bitmap.Goals.{else-row-ge0-via-then-row-ge0+else-row-from, else-row-ge0-via-else-row-ge0}

pub returns-else-row-ge0 : goal.returns-else-row-ge0
returns-else-row-ge0 c =
    let a = c.args in
    let row = pos a.strip.y -ℤ a.corner.y in
    let e = column_is c.from.result a.corner.y a.strip.y c.from.ensures c.requires.corner.1 (omega (arith, c.requires.strip.row, c.requires.strip.shape.most_height)) in
    let off : (row <ℤ pos 0) ⊎ (pos a.bitmap.now.height ≤ℤ row) = elim c.else-row-ge0.branch [
      | else-row-ge0-via-then-row-ge0+else-row-from w ↦ inr (omega (arith, ints))
      | else-row-ge0-via-else-row-ge0 w ↦ inl (omega (arith, ints))
    ] in
    sym (row_written-no_colours a.target.now a.strip.y (in_strip a.strip) (λ u. bitmap_colour a.bitmap.now (pos u -ℤ a.corner.x) row) c.requires.strip.shape c.requires.strip.count (λ u _ _. elim off [
      | inl above ↦ bitmap-above a.bitmap.now (pos u -ℤ a.corner.x) row above
      | inr below ↦ bitmap-below a.bitmap.now (pos u -ℤ a.corner.x) row below
    ]))
