-- Lines: how far they rise, and that they lie between their ends.
use Rattle.std.proofs.Common.{◌≡◌, ℕ, ◌+◌, ◌-◌, ◌*◌, ◌/◌, ◌<◌, ◌≤◌, zero, suc, Bool, true, false, ℤ, pos, negsuc, neg_ℤ, ◌+ℤ◌, ◌-ℤ◌, ◌*ℤ◌, ◌<ℤ◌, ◌≤ℤ◌, refl, sym, ap, ◌∙◌, inl, inr, w32, to_z, of_z, arith}
use Rattle.std.specs.Prelude.{int_le, int_lt, unsigned_abs}
use Rattle.std.specs.Int.{int_div_euclid, int_min, int_max}
use Rattle.std.specs.Ordering.{int_eq}
use Rattle.std.proofs.lemmas.Bool.{cases_Bool, and_parts, and_from, false≢true}
use Rattle.std.proofs.lemmas.Bool.Decides.{Decides-int_eq}
use Rattle.std.proofs.lemmas.Int.{ints, clamps, to_z-of_z}
use Rattle.std.proofs.Math.Nat.{add-div_right, div-eq_of_lt, div-lt_iff_lt-mul, mul-le-mul_left}
use Rattle.gfx_base.specs.declared.point.Point.{Point}
use Rattle.gfx_base.specs.Range.{is_within}
use Rattle.gfx_base.specs.Rects.{has}
use Rattle.line_ink.specs.Lines.{is_same, is_wide, flipped, left_of, right_of, y_at, is_on_wide, is_on_line}
use Rattle.paint_ops.specs.Rows.{IsOrigin}
use Rattle.paint_ops.proofs.CallerLemmas.{within-parts}
use mir.Val.{SFits}
use Rattle.strokes.specs.Parts.{rect_with, IsShort, IsShortPoint, turned}
use Rattle.strokes.proofs.InkLemmas.{has-between}

-- ---- how far a line rises

pub rise-most : (rise step half steps : ℕ) → 0 < steps → step ≤ steps → half ≤ steps → (2 * rise * step + half) / (2 * steps) ≤ rise
rise-most rise step half steps some le small =
    let positive : 0 < 2 * steps = omega arith in
    let below : (2 * rise * step + half) / (2 * steps) < rise + 1 = (div-lt_iff_lt-mul positive).1 (omega (arith, mul-le-mul_left rise le, small, some)) in
    omega arith

-- of n − a by 2 n
floor-descending : (z : ℤ) (a n d : ℕ) → z +ℤ pos a ≡ pos n → d ≡ 2 * n → 0 < n → int_div_euclid z (pos d) ≡ neg_ℤ (pos ((a + (n - 1)) / d))
floor-descending (pos p) a n d e f some =
    let one : p / d ≡ 0 = div-eq_of_lt (omega (arith, ints)) in
    let other : (a + (n - 1)) / d ≡ 0 = div-eq_of_lt (omega (arith, ints)) in
    ap pos one ∙ sym (ap (λ k. neg_ℤ (pos k)) other)
floor-descending (negsuc p) a n d e f some =
    let whole : a + (n - 1) ≡ p + d = omega (arith, ints) in
    let positive : 0 < d = omega arith in
    let step : p / d + 1 ≡ suc (p / d) = omega arith in
    sym (ap (λ k. neg_ℤ (pos k)) (ap (λ s. s / d) whole ∙ add-div_right p positive ∙ step))

neg-times : (k i : ℕ) → neg_ℤ (pos k) *ℤ pos i ≡ neg_ℤ (pos (k * i))
neg-times zero i = omega (arith, ints)
neg-times (suc k) i = refl

twice-neg : (m : ℕ) → pos 2 *ℤ neg_ℤ (pos m) ≡ neg_ℤ (pos (2 * m))
twice-neg m = omega (arith, ints)

y_at-rising : (l r : Point) (m n i : ℕ) (x : ℤ) → x ≡ l.x +ℤ pos i → r.x -ℤ l.x ≡ pos n → r.y -ℤ l.y ≡ pos m → y_at l r x ≡ l.y +ℤ pos ((2 * m * i + n) / (2 * n))
unfolding y_at
y_at-rising l r m n i x at e f =
    let along : x -ℤ l.x ≡ pos i = omega (arith, ints) in
    rw (along, e, f) refl

y_at-falling : (l r : Point) (m n i : ℕ) (x : ℤ) → x ≡ l.x +ℤ pos i → 0 < n → r.x -ℤ l.x ≡ pos n → r.y -ℤ l.y ≡ neg_ℤ (pos m) → y_at l r x ≡ l.y -ℤ pos ((2 * m * i + (n - 1)) / (2 * n))
unfolding y_at
y_at-falling l r m n i x at some e f =
    let along : x -ℤ l.x ≡ pos i = omega (arith, ints) in
    let whole : ((pos 2 *ℤ neg_ℤ (pos m)) *ℤ pos i +ℤ pos n) +ℤ pos (2 * m * i) ≡ pos n = rw (twice-neg m, neg-times (2 * m) i) (omega (arith, ints)) in
    let quotient = floor-descending ((pos 2 *ℤ neg_ℤ (pos m)) *ℤ pos i +ℤ pos n) (2 * m * i) n (2 * n) whole refl some in
    rw (along, e, f) (ap (λ q. l.y +ℤ q) quotient ∙ omega (arith, ints))

-- how far the line from l to r has gone up or down at x
pub rising : (l r : Point) (x : ℤ) → l.x <ℤ r.x → l.x ≤ℤ x → l.y ≤ℤ r.y
    → y_at l r x ≡ l.y +ℤ pos ((2 * unsigned_abs (r.y -ℤ l.y) * unsigned_abs (x -ℤ l.x) + unsigned_abs (r.x -ℤ l.x)) / (2 * unsigned_abs (r.x -ℤ l.x)))
rising l r x order from up = y_at-rising l r (unsigned_abs (r.y -ℤ l.y)) (unsigned_abs (r.x -ℤ l.x)) (unsigned_abs (x -ℤ l.x)) x (omega (arith, ints)) (omega (arith, ints)) (omega (arith, ints))

pub falling : (l r : Point) (x : ℤ) → l.x <ℤ r.x → l.x ≤ℤ x → r.y <ℤ l.y
    → y_at l r x ≡ l.y -ℤ pos ((2 * unsigned_abs (r.y -ℤ l.y) * unsigned_abs (x -ℤ l.x) + (unsigned_abs (r.x -ℤ l.x) - 1)) / (2 * unsigned_abs (r.x -ℤ l.x)))
falling l r x order from down = y_at-falling l r (unsigned_abs (r.y -ℤ l.y)) (unsigned_abs (r.x -ℤ l.x)) (unsigned_abs (x -ℤ l.x)) x (omega (arith, ints)) (omega (arith, ints)) (omega (arith, ints)) (omega (arith, ints))

-- ---- between the ends

pub y_at-between : (l r : Point) (x : ℤ) → l.x <ℤ r.x → l.x ≤ℤ x → x ≤ℤ r.x → (int_min l.y r.y ≤ℤ y_at l r x) × (y_at l r x ≤ℤ int_max l.y r.y)
y_at-between l r x order from to =
    let n : ℕ = unsigned_abs (r.x -ℤ l.x) in
    let m : ℕ = unsigned_abs (r.y -ℤ l.y) in
    let i : ℕ = unsigned_abs (x -ℤ l.x) in
    let some : 0 < n = omega (arith, ints) in
    let le : i ≤ n = omega (arith, ints) in
    elim (cases_Bool (int_lt r.y l.y)) [
      | inl down ↦
          let falls : r.y <ℤ l.y = grind (arith, ints) in
          let most = rise-most m i (n - 1) n some le (omega arith) in
          let is = falling l r x order from falls in
          (omega (arith, ints, clamps, most, is), omega (arith, ints, clamps, most, is))
      | inr up ↦
          let rises : l.y ≤ℤ r.y = grind (arith, ints) in
          let most = rise-most m i n n some le (omega arith) in
          let is = rising l r x order from rises in
          (omega (arith, ints, clamps, most, is), omega (arith, ints, clamps, most, is))
    ]

-- a point of the line from l to r
pub record LiesOn (l r p : Point) : Type 0 where
  pub from : l.x ≤ℤ p.x
  pub to : p.x ≤ℤ r.x
  pub y : p.y ≡ y_at l r p.x

pub on_wide-parts : (l r p : Point) → is_on_wide l r p ≡ true → LiesOn l r p
on_wide-parts l r p h =
    let both = and_parts _ _ h in
    let within = within-parts l.x r.x p.x both.0 in
    record { from = within.0; to = within.1; y = (Decides-int_eq p.y (y_at l r p.x)).0 both.1 }

record LiesBetweenEnds (l r p : Point) : Type 0 where
  left : l.x ≤ℤ p.x
  right : p.x ≤ℤ r.x
  top : int_min l.y r.y ≤ℤ p.y
  bottom : p.y ≤ℤ int_max l.y r.y

wide_between : (l r p : Point) → l.x <ℤ r.x → is_on_wide l r p ≡ true → LiesBetweenEnds l r p
wide_between l r p order h =
    let on = on_wide-parts l r p h in
    let y = y_at-between l r p.x order on.from on.to in
    record { left = on.from; right = on.to; top = omega (arith, ints, y.0, on.y); bottom = omega (arith, ints, y.1, on.y) }

pub is_same-both : (a b : Point) → is_same a b ≡ true → (a.x ≡ b.x) × (a.y ≡ b.y)
is_same-both a b h =
    let p = and_parts (int_eq a.x b.x) (int_eq a.y b.y) h in
    ((Decides-int_eq a.x b.x).0 p.0, (Decides-int_eq a.y b.y).0 p.1)

pub is_same-from : (a b : Point) → a.x ≡ b.x → a.y ≡ b.y → is_same a b ≡ true
is_same-from a b e f = and_from (int_eq a.x b.x) (int_eq a.y b.y) ((Decides-int_eq a.x b.x).1 e) ((Decides-int_eq a.y b.y).1 f)

-- of two points that differ and lie at least as far apart in x as in y, one lies to the left
wide_apart : (a b : Point) → is_same a b ≡ false → is_wide a b ≡ true → a.x ≡ b.x → ⊥
wide_apart a b h wide e = false≢true (sym h ∙ is_same-from a b e (grind (arith, ints)))

steep_apart : (a b : Point) → is_wide a b ≡ false → a.y ≡ b.y → ⊥
steep_apart a b steep e = grind (arith, ints)

line_between : (l r p : Point) (x0 y0 x1 y1 : ℤ) → LiesBetweenEnds l r p → x0 ≡ l.x → x1 ≡ r.x → y0 ≡ int_min l.y r.y → y1 ≡ int_max l.y r.y → has (rect_with x0 y0 x1 y1) p ≡ true
line_between l r p x0 y0 x1 y1 b e f g h = has-between (rect_with x0 y0 x1 y1) p.x p.y (omega (arith, ints, b.left)) (omega (arith, ints, b.right)) (omega (arith, ints, b.top)) (omega (arith, ints, b.bottom))

ends_between : (a b p : Point) → (a.x ≡ b.x → ⊥) → is_on_wide (left_of a b) (right_of a b) p ≡ true → has (rect_with (int_min a.x b.x) (int_min a.y b.y) (int_max a.x b.x) (int_max a.y b.y)) p ≡ true
ends_between a b p apart h =
    elim (cases_Bool (int_le a.x b.x)) [
      | inl e ↦ line_between a b p _ _ _ _ (wide_between a b p (grind (arith, ints, apart)) (rw e at h)) (grind (arith, ints, clamps)) (grind (arith, ints, clamps)) refl refl
      | inr e ↦ line_between b a p _ _ _ _ (wide_between b a p (grind (arith, ints, apart)) (rw e at h)) (grind (arith, ints, clamps)) (grind (arith, ints, clamps)) (omega (arith, ints, clamps)) (omega (arith, ints, clamps))
    ]

has_turned : (x0 y0 x1 y1 : ℤ) (p : Point) → has (rect_with y0 x0 y1 x1) (flipped p) ≡ true → has (rect_with x0 y0 x1 y1) p ≡ true
unfolding has
has_turned x0 y0 x1 y1 p h = let both = and_parts (is_within y0 y1 p.y) (is_within x0 x1 p.x) h in and_from (is_within x0 x1 p.x) (is_within y0 y1 p.y) both.1 both.0

-- a line lies in the rectangle of its ends
pub line-bounds : (a b p : Point) → is_on_line a b p ≡ true → has (rect_with (int_min a.x b.x) (int_min a.y b.y) (int_max a.x b.x) (int_max a.y b.y)) p ≡ true
unfolding is_on_line
line-bounds a b p h =
    elim (cases_Bool (is_same a b)) [
      | inl same ↦
          let ends = is_same-both a b same in
          let at = is_same-both p a (rw same at h) in
          has-between (rect_with (int_min a.x b.x) (int_min a.y b.y) (int_max a.x b.x) (int_max a.y b.y)) p.x p.y (omega (arith, ints, clamps, ends.0, at.0)) (omega (arith, ints, clamps, ends.0, at.0)) (omega (arith, ints, clamps, ends.1, at.1)) (omega (arith, ints, clamps, ends.1, at.1))
      | inr differ ↦
          elim (cases_Bool (is_wide a b)) [
            | inl wide ↦ ends_between a b p (wide_apart a b differ wide) (rw (differ, wide) at h)
            | inr steep ↦ has_turned (int_min a.x b.x) (int_min a.y b.y) (int_max a.x b.x) (int_max a.y b.y) p (ends_between (flipped a) (flipped b) (flipped p) (steep_apart a b steep) (rw (differ, steep) at h))
          ]
    ]

-- the code's sums of a coordinate of 16 bits and how far a line has gone
pub up_is : (y : ℤ) (k : ℕ) → IsShort y → k ≤ 65535 → to_z w32 (of_z w32 (to_z w32 (of_z w32 y) +ℤ to_z w32 k)) ≡ y +ℤ pos k
up_is y k short le =
    let f : SFits w32 y = omega (arith, ints) in
    let g : to_z w32 k ≡ pos k = omega (arith, ints) in
    let s : SFits w32 (y +ℤ pos k) = omega (arith, ints) in
    rw (to_z-of_z w32 y f, g, to_z-of_z w32 (y +ℤ pos k) s) refl

pub down_is : (y : ℤ) (k : ℕ) → IsShort y → k ≤ 65535 → to_z w32 (of_z w32 (to_z w32 (of_z w32 y) -ℤ to_z w32 k)) ≡ y -ℤ pos k
down_is y k short le =
    let f : SFits w32 y = omega (arith, ints) in
    let g : to_z w32 k ≡ pos k = omega (arith, ints) in
    let s : SFits w32 (y -ℤ pos k) = omega (arith, ints) in
    rw (to_z-of_z w32 y f, g, to_z-of_z w32 (y -ℤ pos k) s) refl

pub turned_short : (is_steep : Bool) (p : Point) → IsShortPoint p → IsShortPoint (turned is_steep p)
turned_short true p short = (short.1, short.0)
turned_short false p short = short

-- the code's sum of a corner and a coordinate of 16 bits
pub sum_is : (o n z : ℤ) → IsOrigin o → IsShort z → n ≡ z → to_z w32 (of_z w32 (to_z w32 (of_z w32 o) +ℤ to_z w32 (of_z w32 n))) ≡ o +ℤ z
sum_is o n z origin short e =
    let f : SFits w32 o = omega (arith, ints) in
    let g : SFits w32 n = omega (arith, ints) in
    let s : SFits w32 (o +ℤ n) = omega (arith, ints) in
    rw (to_z-of_z w32 o f, to_z-of_z w32 n g, to_z-of_z w32 (o +ℤ n) s, e) refl
