use Rattle.std.proofs.Common.{◌≡◌, drop}
use Rattle.paint_ops.specs.Operations.{is_in_cells}
use Rattle.strokes.proofs.points.is_in_cells.Given as goal

abbrev pub invariant-loop-code : goal.invariant-loop-code
invariant-loop-code l = is_in_cells l.font l.text l.x l.row ≡ is_in_cells l.font (drop l.code-index l.text) l.left l.row
