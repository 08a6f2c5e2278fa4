use Rattle.paint_ops.specs.Rows.{colour_on_screen}
use Rattle.paint_ops.specs.Panes.{inputs_of_pane}
use Rattle.paint_ops.proofs.SpanLemmas.{AreDrawn}
use Rattle.paint_ops.proofs.drawing.draw.Given as goal

abbrev pub invariant-loop-span : goal.invariant-loop-span
invariant-loop-span l = AreDrawn l.fn.target l.target l.y l.span-index l.spans (λ u. colour_on_screen l.assets (inputs_of_pane l.pane) l.op l.pane.origin u l.y)
