use Rattle.std.proofs.Common.{◌≡◌, map, take}
use Rattle.std.specs.Vec.{vec_capacity}
use Rattle.scene.specs.Places.{place_at}
use Rattle.scene.specs.Clips.{clip_in}
use Rattle.scene.specs.Paths.{AreOnLevels}
use Rattle.scene.proofs.clips.put_clips.Given as goal

abbrev pub invariant-loop-i : goal.invariant-loop-i
invariant-loop-i l = record {
  clips : l.clips.items ≡ map (clip_in l.screen l.stack) (take l.i l.stack);
  room : vec_capacity l.clips ≡ vec_capacity l.fn.clips;
  ancestors : AreOnLevels (place_at l.stack) l.screen 1 l.ancestors;
}
