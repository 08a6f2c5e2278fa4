use Rattle.std.specs.Prelude.{◌≡◌, ◌≤◌}
use Rattle.multibuf.specs.Buffering.{IsEven}
use Rattle.buffer_tests.proofs.drawing.play_parted.Given as goal

abbrev pub invariant-loop-row : goal.invariant-loop-row
invariant-loop-row g l = record {
  even : IsEven l.buffers;
  width : l.buffers.width ≡ 2;
  height : l.buffers.height ≡ 1;
  count : l.buffers.drawer.buffers ≡ l.n;
  switches : l.buffers.switches ≤ l.row-index;
}
