use Rattle.std.proofs.Common.{[], ◌+◌, ◌≤◌, Bool, drop, length}
use Rattle.std.specs.List.{AllByRecursion}
use Rattle.scene.specs.Looks.{looks_of}
use Rattle.scene.specs.Places.{place_at}
use Rattle.scene.specs.Paths.{AreOnLevels}
use Rattle.exec_paint.specs.Layers.{IsLayer, windows_in}
use Rattle.exec_paint.specs.Plans.{PaintTo, HideTo}
use Rattle.exec_paint.proofs.plan.take_above.Given as goal

abbrev pub invariant-loop-i : goal.invariant-loop-i
invariant-loop-i g l = record {
  ancestors : AreOnLevels (place_at l.stack) l.screen 1 l.ancestors;
  layers : AllByRecursion (IsLayer l.screen l.stack) l.layers.items;
  count : length l.layers.items ≤ l.i;
  few_holes : length l.holes.items + l.which + 1 ≤ l.i;
  holes : HideTo (looks_of l.assets l.screen l.stack) l.area l.holes.items (drop l.i l.stack) (drop (l.which + 1) l.stack);
  colours : (bare : Bool) → PaintTo (looks_of l.assets l.screen l.stack) l.stack l.area bare (windows_in l.stack l.fn.layers.items) [] (drop (l.which + 1) l.stack)
      → PaintTo (looks_of l.assets l.screen l.stack) l.stack l.area bare (windows_in l.stack l.layers.items) l.holes.items (drop l.i l.stack);
}
