-- The points of rectangles: what the calls on rectangles mean for sets of points.
use Rattle.std.proofs.Common.{◌≡◌, ℤ, ◌+ℤ◌, ◌-ℤ◌, Bool, true, false, ◌&&◌, int_lt, refl, sym, ap, inl, inr, ◌∙◌, arith}
use Rattle.std.specs.Prelude.{IsTrue, ◌↔◌}
use Rattle.std.specs.Int.{int_max, int_min}
use Rattle.std.proofs.lemmas.Bool.{and_parts, and_from, or_cases, or_parts, cases_Bool, false≢true}
use Rattle.std.proofs.lemmas.Int.{ints}
use Rattle.gfx_base.specs.declared.point.Point.{Point}
use Rattle.gfx_base.specs.declared.rect.Rect.{Rect}
use Rattle.gfx_base.specs.Range.{is_within}
use Rattle.gfx_base.specs.Rects.{point_at, has, is_empty, no_points, canonical, meet, cover, hull, shift, LiesIn, IsSmallest}

-- ---- one axis

is_within-meet : (a b c d z : ℤ) → is_within (int_max a c) (int_min b d) z ≡ (is_within a b z && is_within c d z)
unfolding is_within
is_within-meet a b c d z = grind (arith, ints)

is_within-wider : (a b c d z : ℤ) → is_within a b z ≡ true → is_within (int_min a c) (int_max b d) z ≡ true
unfolding is_within
is_within-wider a b c d z h = grind (arith, ints)

is_within-wider_other : (a b c d z : ℤ) → is_within c d z ≡ true → is_within (int_min a c) (int_max b d) z ≡ true
unfolding is_within
is_within-wider_other a b c d z h = grind (arith, ints)

is_within-shift : (a b d z : ℤ) → is_within (a +ℤ d) (b +ℤ d) z ≡ is_within a b (z -ℤ d)
unfolding is_within
is_within-shift a b d z = grind (arith, ints)

is_within-empty : (a b z : ℤ) → int_lt b a ≡ true → is_within a b z ≡ false
unfolding is_within
is_within-empty a b z h = grind (arith, ints)

is_within-low : (a b : ℤ) → int_lt b a ≡ false → is_within a b a ≡ true
unfolding is_within
is_within-low a b h = grind (arith, ints)

is_within-high : (a b : ℤ) → int_lt b a ≡ false → is_within a b b ≡ true
unfolding is_within
is_within-high a b h = grind (arith, ints)

-- a range that has both ends of each of two ranges has what lies between the outermost ends
is_within-hull : (a b c d e f z : ℤ) → is_within e f a ≡ true → is_within e f b ≡ true → is_within e f c ≡ true → is_within e f d ≡ true → is_within (int_min a c) (int_max b d) z ≡ true → is_within e f z ≡ true
unfolding is_within
is_within-hull a b c d e f z ea eb ec ed h = grind (arith, ints)

-- ---- empty rectangles

pub has-empty : (r : Rect) (p : Point) → is_empty r ≡ true → has r p ≡ false
unfolding has is_empty
has-empty r p h =
    elim (or_cases (int_lt r.x1 r.x0) (int_lt r.y1 r.y0) h) [
      | inl x ↦ rw (is_within-empty r.x0 r.x1 p.x x) refl
      | inr y ↦ elim (is_within r.x0 r.x1 p.x) as (λ b. (b && is_within r.y0 r.y1 p.y) ≡ false) [ true ↦ is_within-empty r.y0 r.y1 p.y y | false ↦ refl ]
    ]

-- a rectangle with a point isn't empty
pub is_empty-has : (r : Rect) (p : Point) → has r p ≡ true → is_empty r ≡ false
is_empty-has r p h =
    elim (cases_Bool (is_empty r)) [
      | inl e ↦ absurd (false≢true (sym (has-empty r p e) ∙ h))
      | inr e ↦ e
    ]

-- its corners lie in a rectangle that isn't empty
pub has-corner : (r : Rect) → is_empty r ≡ false → has r (point_at r.x0 r.y0) ≡ true
unfolding has is_empty
has-corner r h =
    let parts = or_parts (int_lt r.x1 r.x0) (int_lt r.y1 r.y0) h in
    and_from _ _ (is_within-low r.x0 r.x1 parts.0) (is_within-low r.y0 r.y1 parts.1)

pub has-far_corner : (r : Rect) → is_empty r ≡ false → has r (point_at r.x1 r.y1) ≡ true
unfolding has is_empty
has-far_corner r h =
    let parts = or_parts (int_lt r.x1 r.x0) (int_lt r.y1 r.y0) h in
    and_from _ _ (is_within-high r.x0 r.x1 parts.0) (is_within-high r.y0 r.y1 parts.1)

pub has-no_points : (p : Point) → has no_points p ≡ false
unfolding is_empty
has-no_points p = has-empty no_points p refl

pub has-canonical : (r : Rect) (p : Point) → has (canonical r) p ≡ has r p
unfolding canonical
has-canonical r p =
    elim (cases_Bool (is_empty r)) [
      | inl e ↦ rw e (has-no_points p ∙ sym (has-empty r p e))
      | inr e ↦ rw e refl
    ]

pub canonical-empty : (r : Rect) → is_empty (canonical r) ≡ true → canonical r ≡ no_points
unfolding canonical
canonical-empty r h =
    elim (cases_Bool (is_empty r)) [
      | inl e ↦ rw e refl
      | inr e ↦ absurd (false≢true (sym e ∙ ap is_empty (sym (rw e refl)) ∙ h))
    ]

-- a test tells whether a rectangle is empty, where it tells whether no point lies in it
pub is_empty-points : (r : Rect) (b : Bool) → b ≡ is_empty r → IsTrue b ↔ ((p : Point) → has r p ≡ false)
is_empty-points r true e = (λ t p. has-empty r p (sym e), λ none. refl)
is_empty-points r false e = (λ t. absurd (false≢true t), λ none. absurd (false≢true (sym (none (point_at r.x0 r.y0)) ∙ has-corner r (sym e))))

-- ---- the calls

crossed : (a b c d : Bool) → ((a && b) && (c && d)) ≡ ((a && c) && (b && d))
crossed true true c d = refl
crossed true false true d = refl
crossed true false false d = refl
crossed false b c d = refl

-- the meeting has just the points that both have
pub has-meet : (a b : Rect) (p : Point) → has (meet a b) p ≡ (has a p && has b p)
unfolding has meet
has-meet a b p =
    has-canonical _ p
    ∙ rw (is_within-meet a.x0 a.x1 b.x0 b.x1 p.x, is_within-meet a.y0 a.y1 b.y0 b.y1 p.y) (crossed (is_within a.x0 a.x1 p.x) (is_within b.x0 b.x1 p.x) (is_within a.y0 a.y1 p.y) (is_within b.y0 b.y1 p.y))

pub meet-empty : (a b : Rect) → is_empty (meet a b) ≡ true → meet a b ≡ no_points
unfolding meet
meet-empty a b h = canonical-empty _ h

has-hull : (a b : Rect) → LiesIn a (hull a b)
unfolding has
has-hull a b p h =
    let l = and_parts _ _ h in
    and_from _ _ (is_within-wider a.x0 a.x1 b.x0 b.x1 p.x l.0) (is_within-wider a.y0 a.y1 b.y0 b.y1 p.y l.1)

has-hull_other : (a b : Rect) → LiesIn b (hull a b)
unfolding has
has-hull_other a b p h =
    let l = and_parts _ _ h in
    and_from _ _ (is_within-wider_other a.x0 a.x1 b.x0 b.x1 p.x l.0) (is_within-wider_other a.y0 a.y1 b.y0 b.y1 p.y l.1)

-- both axes of a corner
corner_in : (r : Rect) (x y : ℤ) → has r (point_at x y) ≡ true → (is_within r.x0 r.x1 x ≡ true) × (is_within r.y0 r.y1 y ≡ true)
unfolding has
corner_in r x y h = and_parts _ _ h

hull-least : (a b other : Rect) → is_empty a ≡ false → is_empty b ≡ false → LiesIn a other → LiesIn b other → LiesIn (hull a b) other
unfolding has
hull-least a b other full_a full_b h k p within =
    let l = and_parts _ _ within in
    let a0 = corner_in other a.x0 a.y0 (h _ (has-corner a full_a)) in
    let a1 = corner_in other a.x1 a.y1 (h _ (has-far_corner a full_a)) in
    let b0 = corner_in other b.x0 b.y0 (k _ (has-corner b full_b)) in
    let b1 = corner_in other b.x1 b.y1 (k _ (has-far_corner b full_b)) in
    and_from _ _ (is_within-hull a.x0 a.x1 b.x0 b.x1 other.x0 other.x1 p.x a0.0 a1.0 b0.0 b1.0 l.0) (is_within-hull a.y0 a.y1 b.y0 b.y1 other.y0 other.y1 p.y a0.1 a1.1 b0.1 b1.1 l.1)

nothing_in : (r other : Rect) → is_empty r ≡ true → LiesIn r other
nothing_in r other e p h = absurd (false≢true (sym (has-empty r p e) ∙ h))

pub cover-smallest : (a b : Rect) → IsSmallest a b (cover a b)
unfolding cover
cover-smallest a b =
    elim (cases_Bool (is_empty a)) [
      | inl ea ↦ rw ea (record {
        first = nothing_in a (canonical b) ea;
        second = λ p h. has-canonical b p ∙ h;
        least = λ other h k p within. k p (sym (has-canonical b p) ∙ within);
      })
      | inr fa ↦
          elim (cases_Bool (is_empty b)) [
            | inl eb ↦ rw (fa, eb) (record {
              first = λ p h. h;
              second = nothing_in b a eb;
              least = λ other h k p within. h p within;
            })
            | inr fb ↦ rw (fa, fb) (record {
              first = has-hull a b;
              second = has-hull_other a b;
              least = λ other h k. hull-least a b other fa fb h k;
            })
          ]
    ]

pub cover-empty : (a b : Rect) → is_empty (cover a b) ≡ true → cover a b ≡ no_points
unfolding cover
cover-empty a b h =
    elim (cases_Bool (is_empty a)) [
      | inl ea ↦ rw ea (canonical-empty b (rw ea at h))
      | inr fa ↦
          elim (cases_Bool (is_empty b)) [
            | inl eb ↦ absurd (false≢true (sym fa ∙ rw (fa, eb) at h))
            | inr fb ↦ absurd (false≢true (sym (has-empty (hull a b) (point_at a.x0 a.y0) (rw (fa, fb) at h)) ∙ has-hull a b _ (has-corner a fa)))
          ]
    ]

pub has-shift : (r : Rect) (dx dy : ℤ) (p : Point) → has (shift r dx dy) p ≡ has r (point_at (p.x -ℤ dx) (p.y -ℤ dy))
unfolding has shift
has-shift r dx dy p = has-canonical _ p ∙ rw (is_within-shift r.x0 r.x1 dx p.x, is_within-shift r.y0 r.y1 dy p.y) refl

pub shift-empty : (r : Rect) (dx dy : ℤ) → is_empty (shift r dx dy) ≡ true → shift r dx dy ≡ no_points
unfolding shift
shift-empty r dx dy h = canonical-empty _ h

-- a rectangle of the same numbers
pub same_rect : (x0 y0 x1 y1 left top right bottom : ℤ) → x0 ≡ left → y0 ≡ top → x1 ≡ right → y1 ≡ bottom → ◌≡◌ {A = Rect} (record { x0 = x0; y0 = y0; x1 = x1; y1 = y1 }) (record { x0 = left; y0 = top; x1 = right; y1 = bottom })
same_rect x0 y0 x1 y1 left top right bottom e f g h = rw (e, f, g, h) refl

-- a point of the same numbers
pub same_point : (x y left top : ℤ) → x ≡ left → y ≡ top → ◌≡◌ {A = Point} (record { x = x; y = y }) (record { x = left; y = top })
same_point x y left top e f = rw (e, f) refl
