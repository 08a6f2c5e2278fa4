use Rattle.std.proofs.Common.{◌≡◌}
use Rattle.hextile_tests.proofs.rectangles.is_row.Given as goal

-- the frame keeps its sides
abbrev pub invariant-loop-x : goal.invariant-loop-x
invariant-loop-x l = record {
  width : l.frame.picture.width ≡ l.count;
  height : l.frame.picture.height ≡ 1;
}
