use Rattle.std.proofs.Common.{◌≡◌, ℕ, ◌≤◌, ◌+◌, ◌-◌, ◌*◌, ◌<◌, ◌^◌, refl, sym, ap, ◌∙◌, rules, arith}
use Rattle.frame.specs.Pictures.{colour_at}
use Rattle.frame.specs.Areas.{span_count, in_span}
use Rattle.frame.specs.Canvases.{Canvas, drawn}
use Rattle.frame.proofs.SpanLemmas.{has_count}
use Rattle.frame.proofs.TileLemmas.{tile-start, tile-row, tile-end, tile-of, shape-of, writes-of}
use Rattle.frame.proofs.frame.Frame.copy_tile.Goals as goal

none_yet : (y k : ℕ) → (y - y) * k ≡ 0
none_yet y k = let none : y - y ≡ 0 = omega arith in rw none (omega arith)

one_row_more : (y y0 k : ℕ) → y0 ≤ y → (y - y0) * k + k ≡ (y + 1 - y0) * k
one_row_more y y0 k low = let e : y + 1 - y0 ≡ y - y0 + 1 = omega arith in rw e (grind arith)

pub loop-y-init : goal.loop-y-init
loop-y-init c =
    let f = c.self.inside in
    let shape = shape-of c.args.self.now f.width f.height f.writes f.points.items c.self.view_is (has_count f.width f.height f.points.len f.points.items c.self.invariant f.points.ok.0) in
    let fits : f.writes < 2 ^ 64 = search rules in
    tile-start c.args.self.now c.args.t.col c.args.t.row _ _ (colour_at c.args.from.now.picture) (ap (λ k. k * 16) c.from-y0.ensures) shape (writes-of c.args.self.now f.width f.height f.writes f.points.items c.self.view_is fits) (none_yet _ _)

pub copy_span-requires-clause-same_sides : goal.copy_span-requires-clause-same_sides
copy_span-requires-clause-same_sides c =
    (c.requires.same_sides.0 ∙ sym (ap (λ (g : Canvas). g.picture.width) c.loop-y.invariant), c.requires.same_sides.1 ∙ sym (ap (λ (g : Canvas). g.picture.height) c.loop-y.invariant))

pub copy_span-requires-clause-inside : goal.copy_span-requires-clause-inside
copy_span-requires-clause-inside c =
    let f = c.self.inside in
    let tile = tile-of c.args.self.now f.width f.height f.writes _ _ _ _ c.args.t.col c.args.t.row f.points.items c.self.view_is c.from-x0.ensures c.from-y0.ensures c.min-x1.ensures c.min-y_end.ensures c.requires.inside in
    let width = ap (λ (g : Canvas). g.picture.width) c.loop-y.invariant in
    let height = ap (λ (g : Canvas). g.picture.height) c.loop-y.invariant in
    (omega (arith, width, tile.right, tile.columns), omega (arith, height, tile.bottom, c.loop-y-test.true))

pub loop-y-preserved : goal.loop-y-preserved
loop-y-preserved c =
    let f = c.self.inside in
    let shape = shape-of c.args.self.now f.width f.height f.writes f.points.items c.self.view_is (has_count f.width f.height f.points.len f.points.items c.self.invariant f.points.ok.0) in
    let tile = tile-of c.args.self.now f.width f.height f.writes _ _ _ _ c.args.t.col c.args.t.row f.points.items c.self.view_is c.from-x0.ensures c.from-y0.ensures c.min-x1.ensures c.min-y_end.ensures c.requires.inside in
    let x0 = c.from-x0.result * 16 in
    let x1 = c.min-x1.result - 1 in
    let y = c.loop-y.y in
    let colour = colour_at c.args.from.now.picture in
    c.copy_span.ensures ∙ ap (λ (g : Canvas). drawn g (in_span y x0 x1) colour (span_count x0 x1)) c.loop-y.invariant
    ∙ tile-row c.args.self.now c.args.t.col c.args.t.row _ _ _ _ y _ _ colour tile shape c.loop-y.auto.y c.loop-y-test.true (one_row_more y _ (span_count x0 x1) c.loop-y.auto.y)

pub returns : goal.returns
returns c =
    let f = c.self.inside in
    let shape = shape-of c.args.self.now f.width f.height f.writes f.points.items c.self.view_is (has_count f.width f.height f.points.len f.points.items c.self.invariant f.points.ok.0) in
    let tile = tile-of c.args.self.now f.width f.height f.writes _ _ _ _ c.args.t.col c.args.t.row f.points.items c.self.view_is c.from-x0.ensures c.from-y0.ensures c.min-x1.ensures c.min-y_end.ensures c.requires.inside in
    let at_end : c.loop-y.y ≡ c.min-y_end.result = omega (arith, c.loop-y.auto.y-end (omega (arith, tile.bottom, tile.rows))) in
    let colour = colour_at c.args.from.now.picture in
    rw at_end at c.loop-y.invariant ∙ tile-end c.args.self.now c.args.t.col c.args.t.row _ _ _ _ _ colour tile shape refl
