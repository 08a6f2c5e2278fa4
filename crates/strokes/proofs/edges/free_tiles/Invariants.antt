use Rattle.std.proofs.Common.{pos}
use Rattle.gfx_base.specs.Rects.{point_at}
use Rattle.gfx_base.specs.TileSets.{AreTilesOf}
use Rattle.exec_paint.specs.Plans.{IsPlanFrom}
use Rattle.exec_paint.proofs.CallerLemmas.{to_row}
use Rattle.strokes.specs.Parts.{is_free}
use Rattle.strokes.proofs.edges.free_tiles.Given as goal

abbrev pub invariant-loop-y : goal.invariant-loop-y
invariant-loop-y l = record {
  tiles : AreTilesOf l.width l.height (to_row (λ u v. is_free l.area l.holes (point_at (pos u) (pos v))) l.y) l.tiles;
  plan : IsPlanFrom l.y l.area l.holes l.plan;
}
