use Rattle.std.proofs.Common.{arith}
use Rattle.flip.proofs.index.least_free.Goals as goal

pub returns : goal.returns
returns c = λ k below. c.loop-k.invariant k (omega arith)
