use Rattle.std.proofs.Common.{ℕ, ◌<◌}
use Rattle.flip.specs.Indexes.{IsApart}
use Rattle.flip.proofs.index.least_free.Given as goal

abbrev pub invariant-loop-k : goal.invariant-loop-k
invariant-loop-k l = (k : ℕ) → k < l.k → IsApart k l.shown l.waiting → ⊥
