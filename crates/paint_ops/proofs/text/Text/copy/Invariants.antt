use Rattle.std.proofs.Common.{◌≡◌, take}
use Rattle.paint_ops.proofs.text.Text.copy.Given as goal

abbrev pub invariant-loop-b : goal.invariant-loop-b
invariant-loop-b l = l.bytes.items ≡ take l.b-index l.all
