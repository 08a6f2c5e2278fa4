use Rattle.std.proofs.Common.{◌≡◌, take, eqb, count_by}
use Rattle.hextile.proofs.counts.count.Given as goal

-- how many of the points so far have it
abbrev pub invariant-loop-x : goal.invariant-loop-x
invariant-loop-x l = l.count ≡ count_by (λ y. eqb y l.value) (take l.x-index l.points)
