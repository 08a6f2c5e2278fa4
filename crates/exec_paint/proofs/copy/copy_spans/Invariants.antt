use Rattle.std.proofs.Common.{◌≡◌}
use Rattle.frame.specs.Pictures.{colour_at}
use Rattle.paint_ops.proofs.CallerLemmas.{in_first}
use Rattle.exec_paint.specs.Writes.{in_row, written_once}
use Rattle.exec_paint.proofs.copy.copy_spans.Given as goal

abbrev pub invariant-loop-span : goal.invariant-loop-span
invariant-loop-span l = l.target ≡ written_once l.fn.target (in_row l.y (in_first l.spans l.span-index)) (colour_at l.device.picture)
