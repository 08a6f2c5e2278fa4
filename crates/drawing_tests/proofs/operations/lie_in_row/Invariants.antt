use Rattle.std.proofs.Common.{take}
use Rattle.std.specs.List.{All}
use Rattle.paint_ops.specs.Rows.{LiesInRow}
use Rattle.drawing_tests.proofs.operations.lie_in_row.Given as goal

abbrev pub invariant-loop-span : goal.invariant-loop-span
invariant-loop-span l = All (LiesInRow l.width) (take l.span-index l.spans)
