use Rattle.std.proofs.Common.{◌+◌, ◌≤◌, drop, length}
use Rattle.scene.specs.Looks.{looks_of}
use Rattle.scene.specs.Places.{place_at}
use Rattle.scene.specs.Paths.{AreOnLevels}
use Rattle.exec_paint.specs.Plans.{HideTo}
use Rattle.strokes.proofs.visible.take_holes.Given as goal

abbrev pub invariant-loop-i : goal.invariant-loop-i
invariant-loop-i l = record {
  ancestors : AreOnLevels (place_at l.stack) l.screen 1 l.ancestors;
  few : length l.holes.items + l.which + 1 ≤ l.i;
  holes : HideTo (looks_of l.assets l.screen l.stack) l.area l.holes.items (drop l.i l.stack) (drop (l.which + 1) l.stack);
}
