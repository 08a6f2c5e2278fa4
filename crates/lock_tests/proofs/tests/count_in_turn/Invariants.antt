use Rattle.lock_tests.specs.Threads.{IsFree}
use Rattle.lock_tests.proofs.tests.count_in_turn.Given as goal

abbrev pub invariant-loop-turn : goal.invariant-loop-turn
invariant-loop-turn g l = IsFree l.lock l.fn.pass.number l.pass
