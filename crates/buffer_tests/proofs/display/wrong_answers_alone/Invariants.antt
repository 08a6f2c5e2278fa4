use Rattle.std.specs.Prelude.{IfSome, IsTrue}
use Rattle.flip.specs.Drawers.{IsFree}
use Rattle.buffer_tests.proofs.display.wrong_answers_alone.Given as goal

abbrev pub invariant-loop : goal.invariant-loop
invariant-loop l = record {
  alone : IsTrue l.drawer.alone;
  free : IfSome l.back (IsFree l.drawer);
}
