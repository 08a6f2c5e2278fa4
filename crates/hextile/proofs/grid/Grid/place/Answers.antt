use Rattle.std.proofs.Common.{◌≡◌, ◌<◌, length, get_or, refl, arith}
use Rattle.std.proofs.lemmas.List.{length-set}
use Rattle.hextile.proofs.PlaceLemmas.{place_step, placed_tile, placed_others}
use Rattle.hextile.proofs.grid.Grid.place.Goals as goal

pub loop-i-preserved : goal.loop-i-preserved
loop-i-preserved c =
    let a = c.args in
    let i = c.loop-i.i in
    let lt : i < length a.points.now = omega arith in
    record { placed = place_step a.self.w a.self.h a.number i c.spot.result a.points.now a.values.now c.loop-i.values _ c.requires.number (omega (arith, lt, c.requires.points)) c.spot.ensures.value refl (length-set c.loop-i.values c.spot.result (get_or a.points.now i 0)) c.loop-i.invariant.placed }

pub returns-clause-tile : goal.returns-clause-tile
returns-clause-tile c =
    let a = c.args in
    let last : c.loop-i.i ≡ length a.points.now = omega arith in
    placed_tile a.self.w a.self.h a.number a.points.now a.values.now c.loop-i.values c.requires.points (rw last at c.loop-i.invariant.placed)

pub returns-clause-others : goal.returns-clause-others
returns-clause-others c =
    let a = c.args in
    placed_others a.self.w a.self.h a.number c.loop-i.i a.points.now a.values.now c.loop-i.values c.loop-i.invariant.placed
