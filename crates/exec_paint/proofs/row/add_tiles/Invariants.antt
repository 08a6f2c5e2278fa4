use Rattle.paint_ops.proofs.CallerLemmas.{in_first}
use Rattle.exec_paint.specs.Marks.{AddsTiles}
use Rattle.exec_paint.proofs.row.add_tiles.Given as goal

abbrev pub invariant-loop-span : goal.invariant-loop-span
invariant-loop-span l = AddsTiles l.width l.y (in_first l.spans l.span-index) l.fn.tiles l.tiles
