use Rattle.std.proofs.Common.{◌≡◌, ◌++◌, take, drop, map}
use Rattle.scene.specs.Places.{place_at}
use Rattle.scene.specs.Clips.{clip_in}
use Rattle.scene.specs.Damage.{invalidated}
use Rattle.scene.specs.Paths.{AreOnLevels}
use Rattle.invalidate.proofs.areas.area.Given as goal

abbrev pub invariant-loop-i : goal.invariant-loop-i
invariant-loop-i l = record {
  stack : l.stack
      ≡ map (λ w. invalidated (clip_in l.screen l.fn.stack w) l.a w) (take l.i l.fn.stack)
      ++ drop l.i l.fn.stack;
  ancestors : AreOnLevels (place_at l.fn.stack) l.screen 1 l.ancestors;
}
