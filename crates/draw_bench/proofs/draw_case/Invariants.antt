use Rattle.std.proofs.Common.{◌≡◌}
use Rattle.draw_bench.proofs.draw_case.Given as goal

abbrev pub invariant-loop-y : goal.invariant-loop-y
invariant-loop-y l = record {
  width : l.target.picture.width ≡ 1024;
  height : l.target.picture.height ≡ 768;
}
