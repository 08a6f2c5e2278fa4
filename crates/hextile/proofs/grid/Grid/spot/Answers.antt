use Rattle.hextile.proofs.PlaceLemmas.{spot_within}
use Rattle.hextile.proofs.grid.Grid.spot.Goals as goal

pub returns-clause-within : goal.returns-clause-within
returns-clause-within c = rw (c.tile_count-columns.ensures.value, c.width-width.ensures.value) (spot_within c.args.self.w c.args.self.h c.args.number c.args.i c.requires.number c.requires.point).2
