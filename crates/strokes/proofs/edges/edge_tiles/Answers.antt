use Rattle.std.proofs.Common.{ℕ, Bool, ◌&&◌, ◌||◌, pos, refl, w32, SFits, rules}
use Rattle.std.proofs.lemmas.Bool.{and_parts}
use Rattle.std.proofs.lemmas.Int.{to_z-of_z}
use Rattle.gfx_base.specs.declared.rect.Rect.{Rect}
use Rattle.gfx_base.specs.Rects.{has, point_at}
use Rattle.gfx_base.specs.TileSets.{AreTilesOf}
use Rattle.paint_ops.specs.Operations.{is_on_edge}
use Rattle.strokes.specs.Parts.{is_free}
use Rattle.strokes.proofs.TileLemmas.{tiles-join, top_edge, low_edge, left_edge, right_edge, edges-free}
use Rattle.strokes.proofs.edges.edge_tiles.Goals as goal

pub returns : goal.returns
returns c =
    let a = c.args in
    let r = a.rect.now in
    let f0 : SFits w32 r.x0 = search rules in
    let f1 : SFits w32 r.y0 = search rules in
    let f2 : SFits w32 r.x1 = search rules in
    let f3 : SFits w32 r.y1 = search rules in
    let free : ℕ → ℕ → Bool = λ x y. is_free a.area.now a.holes.now (point_at (pos x) (pos y)) in
    let part : Rect → ℕ → ℕ → Bool = λ s x y. has s (point_at (pos x) (pos y)) && free x y in
    let top : AreTilesOf a.width a.height (part (top_edge r)) c.common_tiles-tiles.result = simp to_z-of_z at c.common_tiles-tiles.ensures in
    let low : AreTilesOf a.width a.height (part (low_edge r)) c.common_tiles-low.result = simp to_z-of_z at c.common_tiles-low.ensures in
    let left : AreTilesOf a.width a.height (part (left_edge r)) c.common_tiles-left.result = simp to_z-of_z at c.common_tiles-left.ensures in
    let right : AreTilesOf a.width a.height (part (right_edge r)) c.common_tiles-right.result = simp to_z-of_z at c.common_tiles-right.ensures in
    let two = tiles-join a.width a.height (part (top_edge r)) (part (low_edge r)) (λ x y. part (top_edge r) x y || part (low_edge r) x y) c.common_tiles-tiles.result c.common_tiles-low.result c.join.new.self top low c.join.ensures (λ x y. refl) in
    let three = tiles-join a.width a.height (λ x y. part (top_edge r) x y || part (low_edge r) x y) (part (left_edge r)) (λ x y. (part (top_edge r) x y || part (low_edge r) x y) || part (left_edge r) x y) c.join.new.self c.common_tiles-left.result c.join-2.new.self two left c.join-2.ensures (λ x y. refl) in
    tiles-join a.width a.height (λ x y. (part (top_edge r) x y || part (low_edge r) x y) || part (left_edge r) x y) (part (right_edge r)) (λ x y. is_on_edge r (point_at (pos x) (pos y)) && free x y) c.join-2.new.self c.common_tiles-right.result c.join-3.new.self three right c.join-3.ensures
    (λ x y. edges-free r (point_at (pos x) (pos y)) (free x y) (λ h. c.requires.inside (point_at (pos x) (pos y)) (and_parts _ _ h).0))
