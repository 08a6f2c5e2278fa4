-- Tiles of strokes on the screen, by kinds of shapes.
use Rattle.std.proofs.Common.{◌≡◌, ℕ, Bool, true, false, ◌&&◌, ◌||◌, ℤ, pos, ◌+ℤ◌, ◌-ℤ◌, Option, None, List, refl, sym, ap, ◌∙◌, inl, inr, arith}
use Rattle.std.specs.Prelude.{is_some}
use Rattle.std.specs.Ordering.{int_eq}
use Rattle.std.proofs.lemmas.Bool.{cases_Bool, and_parts, false≢true}
use Rattle.std.proofs.lemmas.Bool.Decides.{Decides-int_eq}
use Rattle.std.proofs.lemmas.Int.{ints}
use Rattle.gfx_base.specs.declared.point.Point.{Point}
use Rattle.gfx_base.specs.declared.rect.Rect.{Rect}
use Rattle.gfx_base.specs.Rects.{has, is_empty, shift, canonical, point_at}
use Rattle.gfx_base.specs.TileSets.{AreTilesOf}
use Rattle.gfx_base.proofs.CallerLemmas.{has-shift, has-no_points}
use Rattle.paint_ops.specs.Kinds.{Assets}
use Rattle.paint_ops.specs.Operations.{seen_from, is_on_edge}
use Rattle.paint_ops.proofs.CallerLemmas.{same_test}
use Rattle.context.specs.declared.context.Context.{Context}
use Rattle.exec_paint.specs.declared.plan.Hole.{Hole}
use Rattle.exec_paint.proofs.CallerLemmas.{tiles-same}
use Rattle.strokes.specs.declared.shape.Shape.{Shape}
use Rattle.strokes.specs.Strokes.{colour_behind, colour_of_stroke}
use Rattle.strokes.specs.Parts.{is_free, colour_seen, is_inked, is_drawn}
use Rattle.strokes.proofs.ShapeLemmas.{operation_alone}

on : (here test : Bool) → (here ≡ true → test ≡ true) → here ≡ (here && test)
on true test h = sym (h refl)
on false test h = refl

both_same : (here a b : Bool) → (here ≡ true → a ≡ b) → (a && here) ≡ (here && b)
both_same true true b e = ap (λ (x : Bool). true && x) (e refl)
both_same true false b e = e refl
both_same false true b e = refl
both_same false false b e = refl

here_same : (here a b : Bool) → (here ≡ true → a ≡ b) → (here && a) ≡ (here && b)
here_same true a b e = e refl
here_same false a b e = refl

-- ---- tiles by kinds of shapes

module _ (width height : ℕ) (assets : Assets) (c : Context) (shape : Shape) (corner : Point) (area : Rect) (holes : List Hole) (tiles : List ℕ) where
  -- a shape that puts a colour on each point of the area
  pub full_tiles : ((q : Point) → has area q ≡ true → is_some (colour_of_stroke assets c shape (seen_from corner q)) ≡ true) → AreTilesOf width height (λ u v. is_free area holes (point_at (pos u) (pos v))) tiles
      → AreTilesOf width height (is_inked assets c shape corner area holes) tiles
  full_tiles full are =
      tiles-same width height (λ u v. is_free area holes (point_at (pos u) (pos v))) (is_inked assets c shape corner area holes) tiles
      (λ u v. on (is_free area holes (point_at (pos u) (pos v))) (is_some (colour_seen assets c shape corner u v)) (λ h. full (point_at (pos u) (pos v)) (and_parts (has area (point_at (pos u) (pos v))) _ h).0)) are

  -- a shape whose points a test tells
  pub tested_tiles : (test : Point → Bool) → ((q : Point) → has area q ≡ true → test q ≡ is_some (colour_of_stroke assets c shape (seen_from corner q))) → AreTilesOf width height (λ u v. is_free area holes (point_at (pos u) (pos v)) && test (point_at (pos u) (pos v))) tiles
      → AreTilesOf width height (is_inked assets c shape corner area holes) tiles
  tested_tiles test same are =
      tiles-same width height (λ u v. is_free area holes (point_at (pos u) (pos v)) && test (point_at (pos u) (pos v))) (is_inked assets c shape corner area holes) tiles
      (λ u v. here_same (is_free area holes (point_at (pos u) (pos v))) _ _ (λ h. same (point_at (pos u) (pos v)) (and_parts (has area (point_at (pos u) (pos v))) _ h).0)) are

  pub tested_first : (test : Point → Bool) → ((q : Point) → has area q ≡ true → test q ≡ is_some (colour_of_stroke assets c shape (seen_from corner q))) → AreTilesOf width height (λ u v. test (point_at (pos u) (pos v)) && is_free area holes (point_at (pos u) (pos v))) tiles
      → AreTilesOf width height (is_inked assets c shape corner area holes) tiles
  tested_first test same are =
      tiles-same width height (λ u v. test (point_at (pos u) (pos v)) && is_free area holes (point_at (pos u) (pos v))) (is_inked assets c shape corner area holes) tiles
      (λ u v. both_same (is_free area holes (point_at (pos u) (pos v))) (test (point_at (pos u) (pos v))) _ (λ h. same (point_at (pos u) (pos v)) (and_parts (has area (point_at (pos u) (pos v))) _ h).0)) are

  -- a shape without a colour behind it
  pub drawn_are_inked : ((q : Point) → colour_behind assets c shape q ≡ None) → AreTilesOf width height (is_drawn assets c shape corner area holes) tiles → AreTilesOf width height (is_inked assets c shape corner area holes) tiles
  drawn_are_inked none are =
      tiles-same width height (is_drawn assets c shape corner area holes) (is_inked assets c shape corner area holes) tiles
      (λ u v. ap (λ (o : Option ℕ). is_free area holes (point_at (pos u) (pos v)) && is_some o) (sym (operation_alone assets c shape (seen_from corner (point_at (pos u) (pos v))) (none (seen_from corner (point_at (pos u) (pos v))))))) are

-- ---- edges that are moved

moved_eq : (a b d : ℤ) → int_eq a (b +ℤ d) ≡ int_eq (a -ℤ d) b
moved_eq a b d = same_test _ _ (λ h. (Decides-int_eq (a -ℤ d) b).1 (let e = (Decides-int_eq a (b +ℤ d)).0 h in omega (arith, ints, e))) (λ h. (Decides-int_eq a (b +ℤ d)).1 (let e = (Decides-int_eq (a -ℤ d) b).0 h in omega (arith, ints, e)))

sides_moved : (r : Rect) (dx dy x y : ℤ)
    → ((int_eq x (r.x0 +ℤ dx) || int_eq x (r.x1 +ℤ dx)) || (int_eq y (r.y0 +ℤ dy) || int_eq y (r.y1 +ℤ dy))) ≡ ((int_eq (x -ℤ dx) r.x0 || int_eq (x -ℤ dx) r.x1) || (int_eq (y -ℤ dy) r.y0 || int_eq (y -ℤ dy) r.y1))
sides_moved r dx dy x y = rw (moved_eq x r.x0 dx, moved_eq x r.x1 dx, moved_eq y r.y0 dy, moved_eq y r.y1 dy) refl

pub edge-seen : (r : Rect) (corner q : Point) → has (shift r corner.x corner.y) q ≡ true → is_on_edge (shift r corner.x corner.y) q ≡ is_on_edge r (seen_from corner q)
unfolding shift canonical
edge-seen r corner q h =
    let moved : Rect = record { x0 = r.x0 +ℤ corner.x; y0 = r.y0 +ℤ corner.y; x1 = r.x1 +ℤ corner.x; y1 = r.y1 +ℤ corner.y } in
    let there : has r (seen_from corner q) ≡ true = sym (has-shift r corner.x corner.y q) ∙ h in
    elim (cases_Bool (is_empty moved)) [
      | inl none ↦ absurd (false≢true (sym (has-no_points q) ∙ rw none at h))
      | inr some ↦
          let here : has moved q ≡ true = rw some at h in
          rw some (rw (here, there) (sides_moved r corner.x corner.y q.x q.y))
    ]
