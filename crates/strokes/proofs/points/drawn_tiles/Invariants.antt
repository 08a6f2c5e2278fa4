use Rattle.gfx_base.specs.TileSets.{AreTilesOf}
use Rattle.exec_paint.proofs.CallerLemmas.{to_row}
use Rattle.strokes.specs.Parts.{is_drawn}
use Rattle.strokes.proofs.points.drawn_tiles.Given as goal

abbrev pub invariant-loop-y : goal.invariant-loop-y
invariant-loop-y l = AreTilesOf l.width l.height (to_row (is_drawn l.assets l.context l.shape l.corner l.area l.holes) l.y) l.tiles
