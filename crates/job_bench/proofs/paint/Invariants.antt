use Rattle.std.proofs.Common.{◌≡◌}
use Rattle.job_bench.proofs.paint.Given as goal

abbrev pub invariant-loop-which : goal.invariant-loop-which
invariant-loop-which l = record {
  width : l.device.picture.width ≡ l.target.picture.width;
  height : l.device.picture.height ≡ l.target.picture.height;
}
