-- Walking by a running remainder gives the quotient at each step, and a line's course has the line's points.
use Rattle.std.proofs.Common.{◌≡◌, ◌↔◌, ℕ, ◌+◌, ◌-◌, ◌*◌, ◌/◌, ◌%◌, ◌<◌, ◌≤◌, ℤ, pos, ◌+ℤ◌, ◌-ℤ◌, ◌<ℤ◌, ◌≤ℤ◌, Bool, true, false, IsTrue, List, [], ◌∷◌, map, refl, sym, ap, inl, inr, ◌∙◌, arith}
use Rattle.std.specs.Prelude.{if◌then◌else◌, int_le, int_lt, unsigned_abs}
use Rattle.std.specs.List.{range_with_len}
use Rattle.std.specs.Int.{div_ceil}
use Rattle.std.proofs.lemmas.Bool.{cases_lt, cases_Bool, and_parts, and_from, false≢true}
use Rattle.std.proofs.lemmas.Bool.Decides.{nat_tests}
use Rattle.std.proofs.lemmas.Int.{ints}
use Rattle.std.proofs.lemmas.Nat.{div-add-mod', div-mul-add, mod_below}
use Rattle.std.proofs.lemmas.Grind.{div_ceil_times}
use Rattle.std.proofs.lemmas.Simd.{map-map}
use Rattle.std.proofs.Math.Path.{fun_ext}
use Rattle.std.proofs.Math.Nat.{div-lt_iff_lt-mul, mul-le-mul_left, mul-le-mul_right}
use Rattle.gfx_base.specs.declared.point.Point.{Point}
use Rattle.gfx_base.specs.Range.{is_within}
use Rattle.gfx_base.specs.Rects.{point_at}
use Rattle.line_ink.specs.declared.course.Course.{Course}
use Rattle.line_ink.specs.Lines.{IsInReach, flipped, is_same, is_wide, left_of, right_of, y_at, wide_point, wide_points, points_of_line}
use Rattle.line_ink.specs.Courses.{IsCourse, course_from, course_between, IsAt, half, progress, offset, across, turned, place_at, place, points_of_course}
use Rattle.line_ink.proofs.LineLemmas.{is_same-both, is_same-from, wide-apart, left-right, y_at-ascending, y_at-descending}

-- ---- the running remainder

pub IsAt-start : (c : Course) (i p d : ℕ) → 0 < c.steps → p ≡ progress c i → d ≡ 2 * c.steps → IsAt c i (p / d) (p % d)
IsAt-start c i p d some e f = rw f (record { whole = div-add-mod' p (2 * c.steps) ∙ e; below = mod_below p (2 * c.steps) (omega arith) })

pub IsAt-next : (c : Course) (i q r s : ℕ) → IsAt c i q r → s ≡ r + 2 * c.rise → s < 2 * c.steps → IsAt c (i + 1) q s
unfolding progress
IsAt-next c i q r s at e below = record { whole = omega (arith, at.whole); below = below }

pub IsAt-carry : (c : Course) (i q r s : ℕ) → IsCourse c → IsAt c i q r → s + 2 * c.steps ≡ r + 2 * c.rise → IsAt c (i + 1) (q + 1) s
unfolding progress
IsAt-carry c i q r s is at e = record { whole = omega (arith, at.whole); below = omega (arith, at.below, is.wide) }

pub IsAt-offset : (c : Course) (i q r : ℕ) → IsAt c i q r → q ≡ offset c i
unfolding offset
IsAt-offset c i q r at = sym (div-mul-add q (2 * c.steps) r at.below) ∙ ap (λ n. n / (2 * c.steps)) at.whole

pub IsAt-place : (c : Course) (i q r : ℕ) (p : Point) → IsAt c i q r → p ≡ place_at c i q → p ≡ place c i
unfolding place
IsAt-place c i q r p at e = e ∙ ap (λ k. place_at c i k) (IsAt-offset c i q r at)

-- ---- at which steps the offset is below a number

pub offset_below : (c : Course) (i k : ℕ) → 0 < c.steps → (offset c i < k) ↔ (progress c i < k * (2 * c.steps))
unfolding offset
offset_below c i k some = let positive : 0 < 2 * c.steps = omega arith in div-lt_iff_lt-mul positive

half-most : (c : Course) → half c ≤ c.steps
half-most c = elim c.descends as (λ b. (if b then c.steps - 1 else c.steps) ≤ c.steps) [ true ↦ omega arith | false ↦ omega arith ]

pub offset-most : (c : Course) (i : ℕ) → IsCourse c → i ≤ c.steps → offset c i ≤ c.rise
unfolding progress
offset-most c i is le =
    let below : offset c i < c.rise + 1 = (offset_below c i (c.rise + 1) is.some).1 (omega (arith, half-most c, mul-le-mul_left c.rise le, is.some)) in
    omega arith

pub IsAt-most : (c : Course) (i q r : ℕ) → IsCourse c → i ≤ c.steps → IsAt c i q r → q ≤ c.steps
IsAt-most c i q r is le at = omega (arith, IsAt-offset c i q r at, offset-most c i is le, is.wide)

-- a quotient rounded up is above just the numbers whose product is below the dividend
below_ceil : (m d i : ℕ) → 0 < d → (i < div_ceil m d) ↔ (i * d < m)
below_ceil m d i positive =
    let t = div_ceil_times m d positive in (
      λ (h : i < div_ceil m d). omega (arith, t, mul-le-mul_right d h),
      λ (h : i * d < m). elim (cases_lt i (div_ceil m d)) [ inl lt ↦ lt | inr ge ↦ absurd (omega (arith, t, mul-le-mul_right d ge)) ],
    )

pub first_step-below : (c : Course) (i k n m d : ℕ) → n ≡ div_ceil m d → m ≡ 2 * c.steps * k - half c → d ≡ 2 * c.rise → IsCourse c → 0 < k → k ≤ c.rise → (i < n) ↔ (offset c i < k)
unfolding progress
first_step-below c i k n m d e f g is positive within =
    let ceil = below_ceil m d i (omega arith) in
    let spread : i * d ≡ 2 * c.rise * i = rw g (omega arith) in
    let quotient = offset_below c i k is.some in
    (λ (h : i < n). quotient.1 (omega (arith, ceil.0 (rw e at h))), λ (h : offset c i < k). rw e (ceil.1 (omega (arith, quotient.0 h))))

-- ---- the coordinate across the axis

pub within_parts : (low high z : ℤ) → IsTrue (is_within low high z) ↔ ((low ≤ℤ z) × (z ≤ℤ high))
unfolding is_within
within_parts low high z = (
  λ (h : is_within low high z ≡ true). let p = and_parts (int_le low z) (int_le z high) h in (omega (arith, ints, p.0), omega (arith, ints, p.1)),
  λ (h : (low ≤ℤ z) × (z ≤ℤ high)). and_from (int_le low z) (int_le z high) (grind (arith, ints)) (grind (arith, ints)),
)

within-from : (low high z near far : ℤ) (k : ℕ) → (low ≤ℤ z → z ≤ℤ high → (near ≤ℤ pos k) × (pos k ≤ℤ far)) → (near ≤ℤ pos k → pos k ≤ℤ far → (low ≤ℤ z) × (z ≤ℤ high)) → IsTrue (is_within low high z) ↔ ((near ≤ℤ pos k) × (pos k ≤ℤ far))
within-from low high z near far k forth back =
    let parts = within_parts low high z in
    (λ h. forth (parts.0 h).0 (parts.0 h).1, λ h. parts.1 (back h.0 h.1))

pub within-descending : (descends : Bool) (y0 y1 first near far : ℤ) (k : ℕ) → descends ≡ true → near ≡ first -ℤ y1 → far ≡ first -ℤ y0 → IsTrue (is_within y0 y1 (if descends then first -ℤ pos k else first +ℤ pos k)) ↔ ((near ≤ℤ pos k) × (pos k ≤ℤ far))
within-descending descends y0 y1 first near far k is e f = rw is (within-from y0 y1 (first -ℤ pos k) near far k (λ g h. (omega (arith, ints), omega (arith, ints))) (λ g h. (omega (arith, ints), omega (arith, ints))))

pub within-ascending : (descends : Bool) (y0 y1 first near far : ℤ) (k : ℕ) → descends ≡ false → near ≡ y0 -ℤ first → far ≡ y1 -ℤ first → IsTrue (is_within y0 y1 (if descends then first -ℤ pos k else first +ℤ pos k)) ↔ ((near ≤ℤ pos k) × (pos k ≤ℤ far))
within-ascending descends y0 y1 first near far k is e f = rw is (within-from y0 y1 (first +ℤ pos k) near far k (λ g h. (omega (arith, ints), omega (arith, ints))) (λ g h. (omega (arith, ints), omega (arith, ints))))

-- ---- the line's points

across-from : (s : Bool) (l r : Point) (i : ℕ) → l.x <ℤ r.x → across (course_from s l r) (offset (course_from s l r) i) ≡ y_at l r (l.x +ℤ pos i)
unfolding offset progress
across-from s l r i left =
    let n = unsigned_abs (r.x -ℤ l.x) in
    let m = unsigned_abs (r.y -ℤ l.y) in
    let width : r.x -ℤ l.x ≡ pos n = omega (arith, ints) in
    elim (cases_Bool (int_lt r.y l.y)) [
      | inl h ↦ rw h (sym (y_at-descending l r m n i (omega (arith, ints)) width (omega (arith, ints))))
      | inr h ↦ rw h (sym (y_at-ascending l r m n i width (omega (arith, ints))))
    ]

pub place-from : (s : Bool) (l r : Point) (i : ℕ) → l.x <ℤ r.x → place (course_from s l r) i ≡ turned s (wide_point l r i)
unfolding place
place-from s l r i left = ap (λ y. turned s (point_at (l.x +ℤ pos i) y)) (across-from s l r i left)

pub points-from : (s : Bool) (l r : Point) → l.x <ℤ r.x → points_of_course (course_from s l r) ≡ map (turned s) (wide_points l r)
unfolding points_of_course
points-from s l r left =
    let steps = range_with_len 0 (unsigned_abs (r.x -ℤ l.x) + 1) in
    ap (λ f. map f steps) (fun_ext (λ i. place-from s l r i left)) ∙ sym (map-map (turned s) (wide_point l r) steps)

IsCourse-from : (s : Bool) (l r : Point) → IsInReach l.x → IsInReach l.y → IsInReach r.x → l.x <ℤ r.x → unsigned_abs (r.y -ℤ l.y) ≤ unsigned_abs (r.x -ℤ l.x) → IsCourse (course_from s l r)
IsCourse-from s l r lx ly rx left wide = record { x = lx; y = ly; some = omega (arith, ints); most = omega (arith, ints); wide = wide }

pub IsCourse-between : (s : Bool) (a b : Point) → IsInReach a.x → IsInReach a.y → IsInReach b.x → IsInReach b.y → is_same a b ≡ false → unsigned_abs (b.y -ℤ a.y) ≤ unsigned_abs (b.x -ℤ a.x) → IsCourse (course_between s a b)
IsCourse-between s a b ax ay bx by differ wide =
    let apart = wide-apart a b differ wide in
    let left = left-right a b apart in
    elim (cases_Bool (int_le a.x b.x)) [
      | inl h ↦ rw h (IsCourse-from s a b ax ay bx (rw h at left) wide)
      | inr h ↦ rw h (IsCourse-from s b a bx by ax (rw h at left) (omega (arith, ints)))
    ]

pub is_wide-true : (a b : Point) → unsigned_abs (b.y -ℤ a.y) ≤ unsigned_abs (b.x -ℤ a.x) → is_wide a b ≡ true
is_wide-true a b h = grind (arith, nat_tests)

pub is_wide-false : (a b : Point) → unsigned_abs (b.x -ℤ a.x) < unsigned_abs (b.y -ℤ a.y) → is_wide a b ≡ false
is_wide-false a b h = grind (arith, nat_tests)

map-same : (points : List Point) → map (turned false) points ≡ points
map-same [] = refl
map-same (p ∷ points) = ap (λ ps. p ∷ ps) (map-same points)

pub points-wide : (a b : Point) → is_same a b ≡ false → unsigned_abs (b.y -ℤ a.y) ≤ unsigned_abs (b.x -ℤ a.x) → points_of_course (course_between false a b) ≡ points_of_line a b
unfolding points_of_line
points-wide a b differ wide =
    let left = left-right a b (wide-apart a b differ wide) in
    rw (differ, is_wide-true a b wide) (points-from false (left_of a b) (right_of a b) left ∙ map-same (wide_points (left_of a b) (right_of a b)))

pub points-same : (a b : Point) → is_same a b ≡ true → points_of_line a b ≡ a ∷ []
unfolding points_of_line
points-same a b same = rw same refl

pub is_same-flipped : (a b : Point) → is_same a b ≡ false → is_same (flipped a) (flipped b) ≡ false
is_same-flipped a b h =
    elim (cases_Bool (is_same (flipped a) (flipped b))) [
      | inl e ↦ let both = is_same-both (flipped a) (flipped b) e in absurd (false≢true (sym h ∙ is_same-from a b both.1 both.0))
      | inr e ↦ e
    ]

pub points-steep : (a b : Point) → is_same a b ≡ false → unsigned_abs (b.x -ℤ a.x) < unsigned_abs (b.y -ℤ a.y) → points_of_course (course_between true (flipped a) (flipped b)) ≡ points_of_line a b
unfolding points_of_line
points-steep a b differ steep =
    let left = left-right (flipped a) (flipped b) (wide-apart (flipped a) (flipped b) (is_same-flipped a b differ) (omega arith)) in
    rw (differ, is_wide-false a b steep) (points-from true (left_of (flipped a) (flipped b)) (right_of (flipped a) (flipped b)) left)
