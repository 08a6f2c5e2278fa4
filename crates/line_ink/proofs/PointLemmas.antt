-- Which points a line has: those of which the formula holds, each once, from either end the same.
use Rattle.std.proofs.Common.{◌≡◌, ◌≢◌, ◌↔◌, ◌+◌, ◌<◌, ◌≤◌, zero, suc, ℤ, pos, ◌+ℤ◌, ◌-ℤ◌, ◌<ℤ◌, Bool, true, false, List, [], ◌∷◌, map, length, refl, sym, ap, inl, inr, ◌∙◌, arith}
use Rattle.std.specs.Prelude.{int_le, unsigned_abs, All, AllPairs, Contains, filter}
use Rattle.std.specs.Bool.{one_answer}
use Rattle.std.specs.Ordering.{int_eq}
use Rattle.std.proofs.lemmas.Bool.{cases_Bool, and_parts, and_from, false≢true}
use Rattle.std.proofs.lemmas.Bool.Decides.{nat_tests, Decides-int_eq}
use Rattle.std.proofs.lemmas.Int.{ints}
use Rattle.std.proofs.lemmas.List.{length-map}
use Rattle.std.proofs.lemmas.List.Elements.{All-nil, All-cons, All-weaker, All-contains, All-contains_itself, All-filter, filter_passes, Contains-append_right}
use Rattle.std.proofs.lemmas.List.FromFn.{length-map-range_with_len, get_or-map-range_with_len}
use Rattle.std.proofs.lemmas.List.Kept.{AllPairs-filter}
use Rattle.std.proofs.Math.ListN.{get_or-map}
use Rattle.gfx_base.specs.declared.point.Point.{Point}
use Rattle.gfx_base.specs.declared.rect.Rect.{Rect}
use Rattle.gfx_base.specs.Range.{is_within}
use Rattle.gfx_base.specs.Rects.{has}
use Rattle.gfx_base.proofs.CallerLemmas.{same_point}
use Rattle.line_ink.specs.Lines.{flipped, is_same, is_wide, left_of, right_of, y_at, is_on_wide, is_on_line, wide_point, wide_points, points_of_line, clipped}
use Rattle.line_ink.proofs.LineLemmas.{is_same-both, is_same-from, wide-apart, left-right}
use Rattle.line_ink.proofs.CourseLemmas.{within_parts, is_same-flipped}

-- ---- the three forms of a line

is_wide-from : (a b : Point) → is_wide a b ≡ true → unsigned_abs (b.y -ℤ a.y) ≤ unsigned_abs (b.x -ℤ a.x)
is_wide-from a b h = grind (arith, nat_tests)

is_wide-not : (a b : Point) → is_wide a b ≡ false → unsigned_abs (b.x -ℤ a.x) ≤ unsigned_abs (b.y -ℤ a.y)
is_wide-not a b h = grind (arith, nat_tests)

apart : (a b : Point) → is_same a b ≡ false → is_wide a b ≡ true → a.x ≡ b.x → ⊥
apart a b d w = wide-apart a b d (is_wide-from a b w)

apart-steep : (a b : Point) → is_same a b ≡ false → is_wide a b ≡ false → a.y ≡ b.y → ⊥
apart-steep a b d w = wide-apart (flipped a) (flipped b) (is_same-flipped a b d) (is_wide-not a b w)

-- ---- from either end

is_same-turn : (a b : Point) → is_same a b ≡ is_same b a
is_same-turn a b =
    let forth : is_same a b ≡ true → is_same b a ≡ true = λ h. let e = is_same-both a b h in is_same-from b a (sym e.0) (sym e.1) in
    let back : is_same b a ≡ true → is_same a b ≡ true = λ h. let e = is_same-both b a h in is_same-from a b (sym e.0) (sym e.1) in
    one_answer {P = is_same b a ≡ true} (is_same a b) (is_same b a) (forth, back) (λ h. h, λ h. h)

same_points : (a b : Point) → is_same a b ≡ true → a ≡ b
same_points a b h = let e = is_same-both a b h in same_point a.x a.y b.x b.y e.0 e.1

is_wide-turn : (a b : Point) → is_wide a b ≡ is_wide b a
is_wide-turn a b =
    let height : unsigned_abs (b.y -ℤ a.y) ≡ unsigned_abs (a.y -ℤ b.y) = omega (arith, ints) in
    let width : unsigned_abs (b.x -ℤ a.x) ≡ unsigned_abs (a.x -ℤ b.x) = omega (arith, ints) in
    rw (height, width) refl

int_le-turn : (x y : ℤ) → (x ≡ y → ⊥) → int_le x y ≡ true → int_le y x ≡ false
int_le-turn x y apart h = grind (arith, ints)

int_le-other : (x y : ℤ) → int_le x y ≡ false → int_le y x ≡ true
int_le-other x y h = grind (arith, ints)

ends-turn : (a b : Point) → (a.x ≡ b.x → ⊥) → (left_of a b ≡ left_of b a) × (right_of a b ≡ right_of b a)
ends-turn a b apart =
    elim (cases_Bool (int_le a.x b.x)) [
      | inl h ↦ rw (h, int_le-turn a.x b.x apart h) (refl, refl)
      | inr h ↦ rw (h, int_le-other a.x b.x h) (refl, refl)
    ]

wide_points-turn : (a b : Point) → (a.x ≡ b.x → ⊥) → wide_points (left_of a b) (right_of a b) ≡ wide_points (left_of b a) (right_of b a)
wide_points-turn a b apart = let e = ends-turn a b apart in ap (λ l. wide_points l (right_of a b)) e.0 ∙ ap (λ r. wide_points (left_of b a) r) e.1

is_on_wide-turn : (a b p : Point) → (a.x ≡ b.x → ⊥) → is_on_wide (left_of a b) (right_of a b) p ≡ is_on_wide (left_of b a) (right_of b a) p
is_on_wide-turn a b p apart = let e = ends-turn a b apart in ap (λ l. is_on_wide l (right_of a b) p) e.0 ∙ ap (λ r. is_on_wide (left_of b a) r p) e.1

pub points_of_line-turn : (a b : Point) → points_of_line a b ≡ points_of_line b a
unfolding points_of_line
points_of_line-turn a b =
    elim (cases_Bool (is_same a b)) [
      | inl e ↦ rw (e, sym (is_same-turn a b) ∙ e) (ap (λ p. p ∷ []) (same_points a b e))
      | inr d ↦
          elim (cases_Bool (is_wide a b)) [
            | inl w ↦ rw (d, sym (is_same-turn a b) ∙ d, w, sym (is_wide-turn a b) ∙ w) (wide_points-turn a b (apart a b d w))
            | inr w ↦ rw (d, sym (is_same-turn a b) ∙ d, w, sym (is_wide-turn a b) ∙ w) (ap (map flipped) (wide_points-turn (flipped a) (flipped b) (apart-steep a b d w)))
          ]
    ]

pub is_on_line-turn : (a b p : Point) → is_on_line a b p ≡ is_on_line b a p
unfolding is_on_line
is_on_line-turn a b p =
    elim (cases_Bool (is_same a b)) [
      | inl e ↦ rw (e, sym (is_same-turn a b) ∙ e) (ap (is_same p) (same_points a b e))
      | inr d ↦
          elim (cases_Bool (is_wide a b)) [
            | inl w ↦ rw (d, sym (is_same-turn a b) ∙ d, w, sym (is_wide-turn a b) ∙ w) (is_on_wide-turn a b p (apart a b d w))
            | inr w ↦ rw (d, sym (is_same-turn a b) ∙ d, w, sym (is_wide-turn a b) ∙ w) (is_on_wide-turn (flipped a) (flipped b) (flipped p) (apart-steep a b d w))
          ]
    ]

-- ---- members

wide-member : (l r p : Point) → l.x <ℤ r.x → Contains (wide_points l r) p ↔ (is_on_wide l r p ≡ true)
wide-member l r p left =
    let n = unsigned_abs (r.x -ℤ l.x) in
    let long : length (wide_points l r) ≡ n + 1 = length-map-range_with_len (wide_point l r) 0 (n + 1) in (
      λ (h : Contains (wide_points l r) p).
          let k = h.0 in
          let within : k < n + 1 = omega (arith, h.1, long) in
          let is : wide_point l r k ≡ p = sym (get_or-map-range_with_len (wide_point l r) 0 (n + 1) k k p within (omega arith)) ∙ h.2 in
          let x : l.x +ℤ pos k ≡ p.x = ap (λ (q : Point). q.x) is in
          let y : y_at l r (l.x +ℤ pos k) ≡ p.y = ap (λ (q : Point). q.y) is in
          and_from (is_within l.x r.x p.x) (int_eq p.y (y_at l r p.x)) ((within_parts l.x r.x p.x).1 (omega (arith, ints), omega (arith, ints))) ((Decides-int_eq p.y (y_at l r p.x)).1 (sym y ∙ ap (y_at l r) x)),
      λ h.
          let parts = and_parts (is_within l.x r.x p.x) (int_eq p.y (y_at l r p.x)) h in
          let xs = (within_parts l.x r.x p.x).0 parts.0 in
          let y = (Decides-int_eq p.y (y_at l r p.x)).0 parts.1 in
          let k = unsigned_abs (p.x -ℤ l.x) in
          let within : k < n + 1 = omega (arith, ints, xs.0, xs.1) in
          let x : l.x +ℤ pos k ≡ p.x = omega (arith, ints, xs.0) in
          let is : wide_point l r k ≡ p = same_point (l.x +ℤ pos k) (y_at l r (l.x +ℤ pos k)) p.x p.y x (ap (y_at l r) x ∙ sym y) in
          (k, omega (arith, long), get_or-map-range_with_len (wide_point l r) 0 (n + 1) k k p within (omega arith) ∙ is),
    )

flipped-member : (points : List Point) (p : Point) → Contains (map flipped points) p ↔ Contains points (flipped p)
flipped-member points p = (
  λ (h : Contains (map flipped points) p). (h.0, omega (arith, h.1, length-map points flipped), ap flipped (sym (get_or-map flipped points h.0 (flipped p)) ∙ h.2)),
  λ (h : Contains points (flipped p)). (h.0, omega (arith, h.1, length-map points flipped), get_or-map flipped points h.0 (flipped p) ∙ ap flipped h.2),
)

single-member : (a p : Point) → Contains (a ∷ []) p ↔ (is_same p a ≡ true)
single-member a p = (single-from a p, λ h. (0, omega arith, sym (same_points p a h)))
  where
    single-from : (a p : Point) → Contains (a ∷ []) p → is_same p a ≡ true
    single-from a p (zero, h, e) = is_same-from p a (ap (λ (q : Point). q.x) (sym e)) (ap (λ (q : Point). q.y) (sym e))
    single-from a p (suc k, h, e) = absurd (omega (arith, h))

pub member : (a b p : Point) → Contains (points_of_line a b) p ↔ (is_on_line a b p ≡ true)
unfolding points_of_line is_on_line
member a b p =
    elim (cases_Bool (is_same a b)) [
      | inl e ↦ rw e (single-member a p)
      | inr d ↦
          elim (cases_Bool (is_wide a b)) [
            | inl w ↦ rw (d, w) (wide-member (left_of a b) (right_of a b) p (left-right a b (apart a b d w)))
            | inr w ↦ rw (d, w) (
                let f = flipped-member (wide_points (left_of (flipped a) (flipped b)) (right_of (flipped a) (flipped b))) p in
                let m = wide-member (left_of (flipped a) (flipped b)) (right_of (flipped a) (flipped b)) (flipped p) (left-right (flipped a) (flipped b) (apart-steep a b d w)) in
                (λ h. m.0 (f.0 h), λ h. f.1 (m.1 h)))
          ]
    ]

-- ---- each once

wide-once : (l r : Point) → AllPairs ◌≢◌ (wide_points l r)
wide-once l r i j d before within same =
    let n = unsigned_abs (r.x -ℤ l.x) in
    let long : length (wide_points l r) ≡ n + 1 = length-map-range_with_len (wide_point l r) 0 (n + 1) in
    let first = get_or-map-range_with_len (wide_point l r) 0 (n + 1) i i d (omega (arith, long)) (omega arith) in
    let second = get_or-map-range_with_len (wide_point l r) 0 (n + 1) j j d (omega (arith, long)) (omega arith) in
    let x : l.x +ℤ pos i ≡ l.x +ℤ pos j = ap (λ (q : Point). q.x) (sym first ∙ same ∙ second) in
    absurd (omega (arith, ints))

flipped-once : (points : List Point) → AllPairs ◌≢◌ points → AllPairs ◌≢◌ (map flipped points)
flipped-once points once i j d before within same =
    once i j (flipped d) before (omega (arith, length-map points flipped)) (ap flipped (sym (get_or-map flipped points i (flipped d)) ∙ same ∙ get_or-map flipped points j (flipped d)))

pub once : (a b : Point) → AllPairs ◌≢◌ (points_of_line a b)
unfolding points_of_line
once a b =
    elim (cases_Bool (is_same a b)) [
      | inl e ↦ rw e (λ i j d before within same. absurd (omega arith))
      | inr d ↦
          elim (cases_Bool (is_wide a b)) [
            | inl w ↦ rw (d, w) (wide-once (left_of a b) (right_of a b))
            | inr w ↦ rw (d, w) (flipped-once _ (wide-once (left_of (flipped a) (flipped b)) (right_of (flipped a) (flipped b))))
          ]
    ]

-- ---- the clipped points

module _ {X : Type 0} (p : X → Bool) where
  filter-kept : (xs : List X) → All (λ x. p x ≡ true → Contains (filter p xs) x) xs
  filter-kept [] = All-nil _
  filter-kept (y ∷ ys) =
      elim (cases_Bool (p y)) [
        | inl e ↦ rw e (All-cons (λ x. p x ≡ true → Contains (y ∷ filter p ys) x) y ys (λ h. (0, omega arith, refl)) (All-weaker (λ x. p x ≡ true → Contains (filter p ys) x) (λ x. p x ≡ true → Contains (y ∷ filter p ys) x) (λ x k h. Contains-append_right (y ∷ []) (filter p ys) x (k h)) ys (filter-kept ys)))
        | inr e ↦ rw e (All-cons (λ x. p x ≡ true → Contains (filter p ys) x) y ys (λ h. absurd (false≢true (sym e ∙ h))) (filter-kept ys))
      ]

  pub Contains-filter : (xs : List X) (x : X) → Contains (filter p xs) x ↔ (Contains xs x × (p x ≡ true))
  Contains-filter xs x = (
    λ h. (All-contains (Contains xs) (filter p xs) x (All-filter p (Contains xs) xs (All-contains_itself xs)) h, All-contains (λ y. p y ≡ true) (filter p xs) x (filter_passes p xs) h),
    λ h. All-contains (λ y. p y ≡ true → Contains (filter p xs) y) xs x (filter-kept xs) h.0 h.1,
  )

pub clipped-member : (clip : Rect) (a b p : Point) → Contains (clipped clip (points_of_line a b)) p ↔ ((is_on_line a b p ≡ true) × (has clip p ≡ true))
clipped-member clip a b p =
    let f = Contains-filter (has clip) (points_of_line a b) p in
    let m = member a b p in
    (λ h. (m.0 (f.0 h).0, (f.0 h).1), λ h. f.1 (m.1 h.0, h.1))

pub clipped-once : (clip : Rect) (a b : Point) → AllPairs ◌≢◌ (clipped clip (points_of_line a b))
clipped-once clip a b = AllPairs-filter ◌≢◌ (has clip) (points_of_line a b) (once a b)
