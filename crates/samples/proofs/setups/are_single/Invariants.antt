use Rattle.std.proofs.Common.{◌≡◌, ◌<◌, ◌≤◌, ◌⊎◌, length, get_or, drop, All, AllPairs}
use Rattle.scene.specs.Places.{no_window}
use Rattle.samples.proofs.setups.are_single.Given as goal

-- `next` is the handle of the first window that was met, and `u32::MAX` before any
abbrev pub invariant-loop-i : goal.invariant-loop-i
invariant-loop-i l = record {
  fits : l.next ≤ 4294967295;
  above : All (λ w. l.next ≤ w.handle) (drop l.i l.stack);
  below : All (λ w. w.handle < 4294967295) (drop l.i l.stack);
  rising : AllPairs (λ v w. v.handle < w.handle) (drop l.i l.stack);
  first : (l.next ≡ 4294967295)
      ⊎ ((l.i < length l.stack) × ((get_or l.stack l.i no_window).handle ≡ l.next));
}
