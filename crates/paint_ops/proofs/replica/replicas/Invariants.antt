use Rattle.std.proofs.Common.{◌≡◌, take}
use Rattle.paint_ops.proofs.replica.replicas.Given as goal

abbrev pub invariant-loop-item : goal.invariant-loop-item
invariant-loop-item g l = l.replicas.items ≡ take l.item-index l.items
