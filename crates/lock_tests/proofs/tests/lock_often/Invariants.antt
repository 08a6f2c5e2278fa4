use Rattle.gui_lock.specs.Passes.{IsOf}
use Rattle.lock_tests.proofs.tests.lock_often.Given as goal

abbrev pub invariant-loop-time : goal.invariant-loop-time
invariant-loop-time g l = IsOf l.lock l.pass
