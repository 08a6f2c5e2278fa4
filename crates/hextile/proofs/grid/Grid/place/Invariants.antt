use Rattle.hextile.proofs.PlaceLemmas.{IsPlaced}
use Rattle.hextile.proofs.grid.Grid.place.Given as goal

-- the values so far are placed
abbrev pub invariant-loop-i : goal.invariant-loop-i
invariant-loop-i l = record {
  placed : IsPlaced l.self.w l.self.h l.number l.i l.points l.fn.values l.values;
}
