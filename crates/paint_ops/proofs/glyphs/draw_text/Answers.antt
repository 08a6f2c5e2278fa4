use Rattle.std.proofs.Common.{sym, pos, ◌-ℤ◌, ◌<ℤ◌, ◌≤ℤ◌, arith}
use Rattle.std.proofs.lemmas.Int.{ints}
use Rattle.paint_ops.specs.Operations.{is_in_text}
use Rattle.paint_ops.specs.Strips.{in_strip}
use Rattle.paint_ops.proofs.CanvasLemmas.{row_written-no_tests}
use Rattle.paint_ops.proofs.PaneLemmas.{column_is}
use Rattle.paint_ops.proofs.CellLemmas.{text-above, text-below}
use Rattle.paint_ops.proofs.glyphs.draw_text.Goals as goal
use Rattle.paint_ops.proofs.glyphs.draw_text.Goals.{else-row-ge0-via-then-row-ge0+else-row-from, else-row-ge0-via-else-row-ge0}

pub returns-else-row-ge0 : goal.returns-else-row-ge0
returns-else-row-ge0 c =
    let a = c.args in
    let row = pos a.strip.y -ℤ a.corner.y in
    let e = column_is c.from.result a.corner.y a.strip.y c.from.ensures c.requires.corner.1 (omega (arith, c.requires.strip.row, c.requires.strip.shape.most_height)) in
    sym (row_written-no_tests a.target.now a.strip.y a.colour (in_strip a.strip) (λ u. is_in_text a.font.now a.text.now (pos u -ℤ a.corner.x) row) c.requires.strip.shape c.requires.strip.count (λ u _ _. elim c.else-row-ge0.branch [
      | else-row-ge0-via-then-row-ge0+else-row-from w ↦
          let below : pos a.font.now.height ≤ℤ row = omega (arith, ints) in
          text-below a.font.now a.text.now (pos u -ℤ a.corner.x) row w.height.ensures.font below
      | else-row-ge0-via-else-row-ge0 w ↦
          let above : row <ℤ pos 0 = omega (arith, ints) in
          text-above a.font.now a.text.now (pos u -ℤ a.corner.x) row above
    ]))
