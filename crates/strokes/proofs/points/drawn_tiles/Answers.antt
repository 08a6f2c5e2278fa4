use Rattle.std.proofs.Common.{◌≡◌, ◌+◌, ◌≤◌, pos, w32, SFits, rules, arith}
use Rattle.std.proofs.lemmas.Int.{ints, to_z-of_z}
use Rattle.gfx_base.specs.Rects.{point_at}
use Rattle.exec_paint.proofs.CallerLemmas.{tiles-none_yet, tiles-all_rows}
use Rattle.strokes.specs.Parts.{is_drawn}
use Rattle.strokes.proofs.TileLemmas.{row-more, in-area}
use Rattle.strokes.proofs.points.drawn_tiles.Goals as goal

pub loop-y-init : goal.loop-y-init
loop-y-init c =
    let a = c.args in
    let f : SFits w32 a.area.now.y0 = search rules in
    let top : pos c.unsigned-y.result ≡ a.area.now.y0 = simp to_z-of_z at c.unsigned-y.ensures.value in
    tiles-none_yet a.width a.height c.unsigned-y.result (is_drawn a.assets.now a.context.now a.shape.now a.corner a.area.now a.holes.now) c.empty-tiles.result
    (λ u v h. let s = in-area a.area.now a.holes.now (point_at (pos u) (pos v)) _ h in omega (arith, ints, top, s.top)) c.empty-tiles.ensures

pub loop-y-preserved : goal.loop-y-preserved
loop-y-preserved c =
    let a = c.args in
    row-more a.width a.height c.loop-y.y (is_drawn a.assets.now a.context.now a.shape.now a.corner a.area.now a.holes.now) c.loop-y.tiles c.add_row.new.tiles c.loop-y.invariant c.add_row.ensures

pub returns : goal.returns
returns c =
    let a = c.args in
    let f1 : SFits w32 a.area.now.y1 = search rules in
    let last : pos c.unsigned-y-end.result ≡ a.area.now.y1 = simp to_z-of_z at c.unsigned-y-end.ensures.value in
    let past : c.unsigned-y-end.result + 1 ≤ c.loop-y.y = c.loop-y-test.false in
    tiles-all_rows a.width a.height c.loop-y.y (is_drawn a.assets.now a.context.now a.shape.now a.corner a.area.now a.holes.now) c.loop-y.tiles
    (λ u v h. let s = in-area a.area.now a.holes.now (point_at (pos u) (pos v)) _ h in omega (arith, ints, last, past, s.bottom)) c.loop-y.invariant
