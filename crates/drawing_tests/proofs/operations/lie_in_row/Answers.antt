use Rattle.std.proofs.lemmas.List.{take_all}
use Rattle.std.proofs.lemmas.List.Elements.{recursion_from_All}
use Rattle.paint_ops.specs.Rows.{LiesInRow}
use Rattle.drawing_tests.proofs.operations.lie_in_row.Goals as goal

pub returns : goal.returns
returns c h = recursion_from_All (LiesInRow c.args.width) c.args.spans.now (rw (take_all c.loop-span.span-index c.args.spans.now c.loop-span-test.false) at c.loop-span.invariant)
