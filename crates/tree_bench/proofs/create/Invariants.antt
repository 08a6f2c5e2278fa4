use Rattle.std.proofs.Common.{◌≤◌, ◌+◌}
use Rattle.tree_bench.proofs.create.Given as goal

abbrev pub invariant-loop-round : goal.invariant-loop-round
invariant-loop-round l = l.tree.handles ≤ l.round + 256
