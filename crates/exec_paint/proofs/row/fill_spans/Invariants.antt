use Rattle.std.proofs.Common.{◌≡◌}
use Rattle.paint_ops.proofs.CallerLemmas.{in_first}
use Rattle.exec_paint.specs.Rows.{row_mapped}
use Rattle.exec_paint.proofs.row.fill_spans.Given as goal

abbrev pub invariant-loop-span : goal.invariant-loop-span
invariant-loop-span l = l.target.picture ≡ row_mapped l.fn.target.picture l.y (in_first l.spans l.span-index) (λ u old. l.colour)
