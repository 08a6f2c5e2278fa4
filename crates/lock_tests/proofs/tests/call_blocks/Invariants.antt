use Rattle.lock_tests.specs.Threads.{IsFree}
use Rattle.lock_tests.proofs.tests.call_blocks.Given as goal

abbrev pub invariant-loop-block : goal.invariant-loop-block
invariant-loop-block g l = IsFree l.lock l.fn.pass.number l.pass
