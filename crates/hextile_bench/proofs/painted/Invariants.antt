use Rattle.std.proofs.Common.{◌≡◌}
use Rattle.hextile_bench.proofs.painted.Given as goal

-- the frame keeps its sides
abbrev pub invariant-loop-x : goal.invariant-loop-x
invariant-loop-x l = record {
  width : l.frame.picture.width ≡ l.w;
  height : l.frame.picture.height ≡ l.h;
}

abbrev pub invariant-loop-y : goal.invariant-loop-y
invariant-loop-y l = record {
  width : l.frame.picture.width ≡ l.w;
  height : l.frame.picture.height ≡ l.h;
}
