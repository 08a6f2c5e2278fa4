use Rattle.std.proofs.Common.{◌≡◌}
use Rattle.job_bench.proofs.paint_grid.Given as goal

abbrev pub invariant-loop : goal.invariant-loop
invariant-loop l = record {
  width : l.device.picture.width ≡ l.target.picture.width;
  height : l.device.picture.height ≡ l.target.picture.height;
}
