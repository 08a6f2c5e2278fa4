use Rattle.std.proofs.Common.{◌≤◌}
use Rattle.tree_bench.proofs.filled.Given as goal

abbrev pub invariant-loop-last : goal.invariant-loop-last
invariant-loop-last l = l.tree.handles ≤ l.last
