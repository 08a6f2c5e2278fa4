use Rattle.gui_lock.specs.Passes.{IsOf}
use Rattle.lock_tests.proofs.tests.unlock_often.Given as goal

abbrev pub invariant-loop-time : goal.invariant-loop-time
invariant-loop-time l = IsOf l.lock l.pass
