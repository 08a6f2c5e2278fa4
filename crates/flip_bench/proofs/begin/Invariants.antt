use Rattle.std.specs.Prelude.{◌≤◌, IsTrue}
use Rattle.multibuf.specs.Buffering.{IsEven}
use Rattle.flip_bench.proofs.begin.Given as goal

abbrev pub invariant-loop-round : goal.invariant-loop-round
invariant-loop-round l = record {
  even : IsEven l.buffers;
  alone : IsTrue l.buffers.drawer.alone;
  switches : l.buffers.switches ≤ l.round;
}
