use Rattle.std.proofs.Common.{◌≡◌, ◌-◌, [], take}
use Rattle.hextile.specs.Reading.{read_pixels}
use Rattle.hextile.proofs.reading.read_pixels.Given as goal

-- going on from here reads what reading all reads
abbrev pub invariant-loop-i : goal.invariant-loop-i
invariant-loop-i l = record {
  told : read_pixels l.format (take l.i l.points) (l.count - l.i) l.rest ≡ read_pixels l.format [] l.count l.bytes;
}
