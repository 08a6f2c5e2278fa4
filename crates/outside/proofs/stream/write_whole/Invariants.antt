use Rattle.std.proofs.Common.{◌≡◌, ℕ, List, ◌++◌}
use Rattle.std.specs.Io.KnownBytes.{Appends}
use Rattle.outside.proofs.stream.write_whole.Given as goal

-- a prefix was written, and the rest is left
abbrev pub invariant-loop : goal.invariant-loop
invariant-loop g l = (prefix : List ℕ) × (l.fn.piece ≡ prefix ++ l.rest) × Appends (g.W.Write.contents l.fn.out) (g.W.Write.contents l.out) prefix
