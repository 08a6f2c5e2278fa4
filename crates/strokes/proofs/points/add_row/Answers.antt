use Rattle.std.proofs.Common.{◌≡◌, ◌+◌, ◌≤◌, pos, w32, SFits, rules, arith}
use Rattle.std.proofs.lemmas.Int.{ints, to_z-of_z}
use Rattle.strokes.specs.Parts.{is_drawn}
use Rattle.gfx_base.specs.Rects.{point_at}
use Rattle.strokes.proofs.TileLemmas.{on-wide_screen, column-start, column-more, column-end, in-area}
use Rattle.strokes.proofs.points.add_row.Goals as goal

pub loop-x-init : goal.loop-x-init
loop-x-init c =
    let a = c.args in
    let f : SFits w32 a.area.now.x0 = search rules in
    let left : pos c.unsigned-x.result ≡ a.area.now.x0 = simp to_z-of_z at c.unsigned-x.ensures.value in
    column-start a.width a.height c.unsigned-x.result a.y (is_drawn a.assets.now a.context.now a.shape.now a.corner a.area.now a.holes.now) a.tiles.now
    (λ u v h. let s = in-area a.area.now a.holes.now (point_at (pos u) (pos v)) _ h in omega (arith, ints, left, s.left))

pub add_inked-requires-clause-area : goal.add_inked-requires-clause-area
add_inked-requires-clause-area c q h = on-wide_screen c.args.width c.args.height c.args.area.now q c.requires.area c.requires.sides.0 c.requires.sides.1 h

pub loop-x-preserved : goal.loop-x-preserved
loop-x-preserved c =
    let a = c.args in
    let f1 : SFits w32 a.area.now.x1 = search rules in
    let right : pos c.unsigned-x-end.result ≡ a.area.now.x1 = simp to_z-of_z at c.unsigned-x-end.ensures.value in
    column-more a.width a.height c.loop-x.x a.y (is_drawn a.assets.now a.context.now a.shape.now a.corner a.area.now a.holes.now) a.tiles.now c.loop-x.tiles c.add_inked.new.tiles
    (omega (arith, ints, c.requires.area.right, right, c.loop-x-test.true)) c.requires.row c.loop-x.invariant c.add_inked.ensures

pub returns : goal.returns
returns c =
    let a = c.args in
    let f1 : SFits w32 a.area.now.x1 = search rules in
    let right : pos c.unsigned-x-end.result ≡ a.area.now.x1 = simp to_z-of_z at c.unsigned-x-end.ensures.value in
    let past : c.unsigned-x-end.result + 1 ≤ c.loop-x.x = c.loop-x-test.false in
    column-end a.width a.height c.loop-x.x a.y (is_drawn a.assets.now a.context.now a.shape.now a.corner a.area.now a.holes.now) a.tiles.now c.loop-x.tiles
    (λ u v h. let s = in-area a.area.now a.holes.now (point_at (pos u) (pos v)) _ h in omega (arith, ints, right, past, s.right)) c.loop-x.invariant
