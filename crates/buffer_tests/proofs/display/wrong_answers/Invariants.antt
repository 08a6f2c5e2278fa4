use Rattle.std.specs.Prelude.{IfSome}
use Rattle.flip.specs.Drawers.{IsFree}
use Rattle.buffer_tests.proofs.display.wrong_answers.Given as goal

abbrev pub invariant-loop : goal.invariant-loop
invariant-loop l = IfSome l.back (IsFree l.drawer)
