use Rattle.strokes.specs.Parts.{is_drawn, AddsTilesOf}
use Rattle.strokes.proofs.TileLemmas.{to_column}
use Rattle.strokes.proofs.points.add_row.Given as goal

abbrev pub invariant-loop-x : goal.invariant-loop-x
invariant-loop-x l = AddsTilesOf l.width l.height (to_column (is_drawn l.assets l.context l.shape l.corner l.area l.holes) l.y l.x) l.fn.tiles l.tiles
