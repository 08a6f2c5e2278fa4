use Rattle.std.specs.Prelude.{◌≡◌}
use Rattle.flip_bench.proofs.copies.Given as goal

abbrev pub invariant-loop : goal.invariant-loop
invariant-loop l = record {
  width : l.to.picture.width ≡ l.w;
  height : l.to.picture.height ≡ l.h;
}

abbrev pub invariant-loop-y : goal.invariant-loop-y
invariant-loop-y l = record {
  width : l.to.picture.width ≡ l.w;
  height : l.to.picture.height ≡ l.h;
}
