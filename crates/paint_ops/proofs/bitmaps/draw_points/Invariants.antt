use Rattle.std.proofs.Common.{◌≡◌, pos, ◌-ℤ◌}
use Rattle.paint_ops.specs.Operations.{bitmap_colour}
use Rattle.paint_ops.specs.Rows.{row_written}
use Rattle.paint_ops.proofs.ColumnLemmas.{columns_before}
use Rattle.paint_ops.proofs.bitmaps.draw_points.Given as goal

abbrev pub invariant-loop-u : goal.invariant-loop-u
invariant-loop-u l = l.target ≡ row_written l.fn.target l.part.y (columns_before l.part.left l.u) (λ u. bitmap_colour l.bitmap (pos u -ℤ l.x) (pos l.row))
