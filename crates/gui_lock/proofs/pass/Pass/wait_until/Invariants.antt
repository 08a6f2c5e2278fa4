use Rattle.std.proofs.Common.{◌≡◌, ◌⊎◌}
use Rattle.gui_lock.specs.Passes.{Waits}
use Rattle.gui_lock.proofs.pass.Pass.wait_until.Given as goal

abbrev pub invariant-loop : goal.invariant-loop
invariant-loop g l = (l.self ≡ l.fn.self) ⊎ Waits l.fn.lock.passes l.fn.self l.self
