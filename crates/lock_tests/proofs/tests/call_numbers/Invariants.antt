use Rattle.std.proofs.Common.{◌≡◌}
use Rattle.std.specs.List.{range_with_len}
use Rattle.gui_lock.specs.Passes.{IsOf}
use Rattle.lock_tests.proofs.tests.call_numbers.Given as goal

abbrev pub invariant-loop-number : goal.invariant-loop-number
invariant-loop-number g l = IsOf l.lock l.pass × (l.pass.depth ≡ 0) × (l.pass.number ≡ l.fn.pass.number) × (l.pass.mine ≡ range_with_len 0 l.number-counter)
