use Rattle.std.proofs.Common.{◌≡◌, length, take}
use Rattle.hextile.specs.Painting.{with_subs}
use Rattle.hextile.proofs.painting.paint.Given as goal

-- the subrectangles so far are painted
abbrev pub invariant-loop-s : goal.invariant-loop-s
invariant-loop-s l = record {
  so_far : l.points ≡ with_subs l.width (length l.fn.points) l.background (take l.s-index l.subs);
}
