use Rattle.std.proofs.Common.{◌≡◌, ◌-◌, ◌*◌}
use Rattle.hextile.specs.Tiles.{tiles_along}
use Rattle.hextile.specs.Reading.{read_tiles, read_rectangle}
use Rattle.hextile.proofs.PlaceLemmas.{tiles_before}
use Rattle.hextile.proofs.decoding.read_tiles.Given as goal

-- going on from here reads what reading all reads
abbrev pub invariant-loop-number : goal.invariant-loop-number
invariant-loop-number l = record {
  told : read_tiles l.format l.grid.w l.grid.h l.known (tiles_before l.grid.w l.grid.h l.values l.number) (tiles_along l.grid.h * tiles_along l.grid.w - l.number) l.rest ≡ read_rectangle l.format l.grid.w l.grid.h l.bytes;
}
