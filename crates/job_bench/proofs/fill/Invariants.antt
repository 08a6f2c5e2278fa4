use Rattle.std.proofs.Common.{◌≡◌}
use Rattle.job_bench.proofs.fill.Given as goal

abbrev pub invariant-loop : goal.invariant-loop
invariant-loop l = record {
  width : l.target.picture.width ≡ l.w;
  height : l.target.picture.height ≡ l.h;
}

abbrev pub invariant-loop-y : goal.invariant-loop-y
invariant-loop-y l = record {
  width : l.target.picture.width ≡ l.w;
  height : l.target.picture.height ≡ l.h;
}
