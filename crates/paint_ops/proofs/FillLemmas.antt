-- The points of rectangles and of their edges, row by row.
use Rattle.std.proofs.Common.{◌≡◌, Bool, true, false, ◌&&◌, ◌||◌, ℤ, ◌≤ℤ◌, ◌<ℤ◌, ◌⊎◌, inl, inr, refl, sym, arith}
use Rattle.std.specs.Ordering.{int_eq}
use Rattle.std.proofs.lemmas.Bool.{and_parts, and_from, or_cases, or_left, or_right, or_from, false_from_ne_true}
use Rattle.std.proofs.lemmas.Bool.Decides.{Decides-int_eq}
use Rattle.std.proofs.lemmas.Int.{ints}
use Rattle.gfx_base.specs.declared.rect.Rect.{Rect}
use Rattle.gfx_base.specs.Range.{is_within}
use Rattle.gfx_base.specs.Rects.{has, point_at}
use Rattle.paint_ops.specs.Operations.{is_on_edge}
use Rattle.paint_ops.proofs.StripLemmas.{same_test, within-parts, within-from}

-- a point lies between the sides
pub record LiesBetween (r : Rect) (x y : ℤ) : Type 0 where
  pub left : r.x0 ≤ℤ x
  pub right : x ≤ℤ r.x1
  pub top : r.y0 ≤ℤ y
  pub bottom : y ≤ℤ r.y1

pub has-parts : (r : Rect) (x y : ℤ) → has r (point_at x y) ≡ true → LiesBetween r x y
unfolding has
has-parts r x y h =
    let both = and_parts _ _ h in
    let xs = within-parts r.x0 r.x1 x both.0 in
    let ys = within-parts r.y0 r.y1 y both.1 in
    record { left = xs.0; right = xs.1; top = ys.0; bottom = ys.1 }

pub has-from : (r : Rect) (x y : ℤ) → r.x0 ≤ℤ x → x ≤ℤ r.x1 → r.y0 ≤ℤ y → y ≤ℤ r.y1 → has r (point_at x y) ≡ true
unfolding has
has-from r x y a b c d = and_from _ _ (within-from r.x0 r.x1 x a b) (within-from r.y0 r.y1 y c d)

pub has-none : (r : Rect) (x y : ℤ) → (LiesBetween r x y → ⊥) → has r (point_at x y) ≡ false
has-none r x y never = false_from_ne_true (has r (point_at x y)) (λ h. never (has-parts r x y h))

and-true_last : (a b : Bool) → b ≡ true → a ≡ (a && b)
and-true_last true b e = sym e
and-true_last false b e = refl

-- on one of its rows, a rectangle has the columns of its range
pub has-on_row : (r : Rect) (x y : ℤ) → r.y0 ≤ℤ y → y ≤ℤ r.y1 → is_within r.x0 r.x1 x ≡ has r (point_at x y)
unfolding has
has-on_row r x y low high = and-true_last (is_within r.x0 r.x1 x) (is_within r.y0 r.y1 y) (within-from r.y0 r.y1 y low high)

-- the left and the right edge
pub sides : (r : Rect) (x y : ℤ) → r.x0 ≤ℤ r.x1
    → (has (record { x0 = r.x1; y0 = r.y0; x1 = r.x1; y1 = r.y1 }) (point_at x y) || has (record { x0 = r.x0; y0 = r.y0; x1 = r.x0; y1 = r.y1 }) (point_at x y)) ≡ (has r (point_at x y) && (int_eq x r.x0 || int_eq x r.x1))
sides r x y some =
    let left : Rect = record { x0 = r.x0; y0 = r.y0; x1 = r.x0; y1 = r.y1 } in
    let right : Rect = record { x0 = r.x1; y0 = r.y0; x1 = r.x1; y1 = r.y1 } in
    same_test _ _
    (λ h. elim (or_cases (has right (point_at x y)) (has left (point_at x y)) h) [
      | inl at ↦
          let b = has-parts right x y at in
          and_from _ _ (has-from r x y (omega (arith, ints, b.left)) (omega (arith, ints, b.right)) b.top b.bottom) (or_right _ _ ((Decides-int_eq x r.x1).1 (omega (arith, ints, b.left, b.right))))
      | inr at ↦
          let b = has-parts left x y at in
          and_from _ _ (has-from r x y (omega (arith, ints, b.left)) (omega (arith, ints, b.right)) b.top b.bottom) (or_left _ _ ((Decides-int_eq x r.x0).1 (omega (arith, ints, b.left, b.right))))
    ])
    (λ h. let both = and_parts (has r (point_at x y)) (int_eq x r.x0 || int_eq x r.x1) h in
    let b = has-parts r x y both.0 in
    elim (or_cases (int_eq x r.x0) (int_eq x r.x1) both.1) [
      | inl at ↦ let e = (Decides-int_eq x r.x0).0 at in or_right _ _ (has-from left x y (omega (arith, ints)) (omega (arith, ints)) b.top b.bottom)
      | inr at ↦ let e = (Decides-int_eq x r.x1).0 at in or_left _ _ (has-from right x y (omega (arith, ints)) (omega (arith, ints)) b.top b.bottom)
    ])

-- which don't meet where they differ
pub sides-apart : (r : Rect) (x y : ℤ) → r.x0 <ℤ r.x1 → has (record { x0 = r.x0; y0 = r.y0; x1 = r.x0; y1 = r.y1 }) (point_at x y) ≡ true → has (record { x0 = r.x1; y0 = r.y0; x1 = r.x1; y1 = r.y1 }) (point_at x y) ≡ false
sides-apart r x y some at =
    let b = has-parts (record { x0 = r.x0; y0 = r.y0; x1 = r.x0; y1 = r.y1 }) x y at in
    has-none (record { x0 = r.x1; y0 = r.y0; x1 = r.x1; y1 = r.y1 }) x y (λ d. omega (arith, ints, b.right, d.left))

-- a rectangle of one column is its side, and one of none has none
pub side-alone : (r : Rect) (x y : ℤ) → r.x1 ≤ℤ r.x0 → has r (point_at x y) ≡ (has r (point_at x y) && (int_eq x r.x0 || int_eq x r.x1))
side-alone r x y narrow =
    same_test _ _
    (λ h. let b = has-parts r x y h in
    and_from _ _ h (or_left _ _ ((Decides-int_eq x r.x0).1 (omega (arith, ints, b.left, b.right)))))
    (λ h. (and_parts (has r (point_at x y)) (int_eq x r.x0 || int_eq x r.x1) h).0)

second_or : (h s t : Bool) → t ≡ true → h ≡ (h && (s || t))
second_or true true t e = refl
second_or true false t e = sym e
second_or false s t e = refl

first_or : (h s t : Bool) → t ≡ false → (h && s) ≡ (h && (s || t))
first_or true true t e = refl
first_or true false t e = sym e
first_or false s t e = refl

-- on the first and the last row the edge is the whole row
pub edge-on_end : (r : Rect) (x y : ℤ) → (y ≡ r.y0) ⊎ (y ≡ r.y1) → has r (point_at x y) ≡ is_on_edge r (point_at x y)
edge-on_end r x y end =
    second_or (has r (point_at x y)) (int_eq x r.x0 || int_eq x r.x1) (int_eq y r.y0 || int_eq y r.y1) (elim end [
      | inl e ↦ or_left _ _ ((Decides-int_eq y r.y0).1 e)
      | inr e ↦ or_right _ _ ((Decides-int_eq y r.y1).1 e)
    ])

-- and between them its two sides
pub edge-between : (r : Rect) (x y : ℤ) → (y ≡ r.y0 → ⊥) → (y ≡ r.y1 → ⊥) → (has r (point_at x y) && (int_eq x r.x0 || int_eq x r.x1)) ≡ is_on_edge r (point_at x y)
edge-between r x y not_first not_last =
    first_or (has r (point_at x y)) (int_eq x r.x0 || int_eq x r.x1) (int_eq y r.y0 || int_eq y r.y1) (or_from _ _ (false_from_ne_true (int_eq y r.y0) (λ h. not_first ((Decides-int_eq y r.y0).0 h))) (false_from_ne_true (int_eq y r.y1) (λ h. not_last ((Decides-int_eq y r.y1).0 h))))
