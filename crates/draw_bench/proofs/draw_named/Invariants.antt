use Rattle.std.proofs.Common.{◌≡◌}
use Rattle.draw_bench.proofs.draw_named.Given as goal

abbrev pub invariant-loop : goal.invariant-loop
invariant-loop l = record {
  width : l.target.picture.width ≡ 1024;
  height : l.target.picture.height ≡ 768;
}

abbrev pub invariant-loop-2 : goal.invariant-loop-2
invariant-loop-2 l = record {
  width : l.target.picture.width ≡ 1024;
  height : l.target.picture.height ≡ 768;
}
