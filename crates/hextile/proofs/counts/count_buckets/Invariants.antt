use Rattle.std.proofs.Common.{◌≤◌}
use Rattle.hextile.specs.Buckets.{bucket_of}
use Rattle.hextile.proofs.BucketLemmas.{AreTaken}
use Rattle.hextile.proofs.counts.count_buckets.Given as goal

-- the buckets that the points so far have taken
abbrev pub invariant-loop-x : goal.invariant-loop-x
invariant-loop-x l = record { taken : AreTaken bucket_of l.points l.x-index l.taken l.count; few : l.count ≤ l.x-index }
