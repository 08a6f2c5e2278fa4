use Rattle.gui_lock.specs.Passes.{IsOf}
use Rattle.lock_bench.proofs.single.Given as goal

abbrev pub invariant-loop : goal.invariant-loop
invariant-loop g l = IsOf l.lock l.pass
