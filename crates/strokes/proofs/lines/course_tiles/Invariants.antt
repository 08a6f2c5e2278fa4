use Rattle.std.proofs.Common.{◌≤ℤ◌}
use Rattle.std.specs.Int.{int_max}
use Rattle.gfx_base.specs.TileSets.{AreTilesOf}
use Rattle.strokes.proofs.CourseLemmas.{to_step}
use Rattle.strokes.proofs.lines.course_tiles.Given as goal

abbrev pub invariant-loop-x : goal.invariant-loop-x
invariant-loop-x l = record {
  from : int_max l.l.x l.first ≤ℤ l.x;
  tiles : AreTilesOf l.width l.height (to_step l.l l.r l.is_steep l.corner l.area l.holes l.x) l.tiles;
}
