-- The points of lines.
use Rattle.std.proofs.Common.{◌≡◌, ℕ, ◌+◌, ◌-◌, ◌*◌, ◌/◌, ◌<◌, ◌≤◌, zero, suc, ℤ, pos, negsuc, ◌+ℤ◌, ◌-ℤ◌, ◌*ℤ◌, ◌<ℤ◌, ◌≤ℤ◌, neg_ℤ, true, false, refl, sym, ap, inl, inr, ◌∙◌, arith}
use Rattle.std.specs.Prelude.{int_le, unsigned_abs}
use Rattle.std.specs.Int.{int_div_euclid}
use Rattle.std.specs.Ordering.{int_eq}
use Rattle.std.proofs.lemmas.Bool.{cases_Bool, and_parts, and_from, false≢true}
use Rattle.std.proofs.lemmas.Bool.Decides.{Decides-int_eq}
use Rattle.std.proofs.lemmas.Int.{ints}
use Rattle.std.proofs.Math.Nat.{add-div_right, div-eq_of_lt}
use Rattle.gfx_base.specs.declared.point.Point.{Point}
use Rattle.line_ink.specs.Lines.{is_same, left_of, right_of, y_at}

-- ---- the ends

pub is_same-both : (a b : Point) → is_same a b ≡ true → (a.x ≡ b.x) × (a.y ≡ b.y)
is_same-both a b h =
    let p = and_parts (int_eq a.x b.x) (int_eq a.y b.y) h in
    ((Decides-int_eq a.x b.x).0 p.0, (Decides-int_eq a.y b.y).0 p.1)

pub is_same-from : (a b : Point) → a.x ≡ b.x → a.y ≡ b.y → is_same a b ≡ true
is_same-from a b e f = and_from (int_eq a.x b.x) (int_eq a.y b.y) ((Decides-int_eq a.x b.x).1 e) ((Decides-int_eq a.y b.y).1 f)

-- the ends of a line that is at least as wide as high differ in x
pub wide-apart : (a b : Point) → is_same a b ≡ false → unsigned_abs (b.y -ℤ a.y) ≤ unsigned_abs (b.x -ℤ a.x) → a.x ≡ b.x → ⊥
wide-apart a b h wide e = false≢true (sym h ∙ is_same-from a b e (omega (arith, ints)))

-- the left end lies to the left
pub left-right : (a b : Point) → (a.x ≡ b.x → ⊥) → (left_of a b).x <ℤ (right_of a b).x
left-right a b apart =
    elim (cases_Bool (int_le a.x b.x)) [
      | inl h ↦ rw h (omega (arith, ints))
      | inr h ↦ rw h (omega (arith, ints))
    ]

-- ---- the quotient that is rounded down

pub rounded_down : (n d : ℤ) → pos 0 <ℤ d → ((int_div_euclid n d *ℤ d) ≤ℤ n) × (n <ℤ (int_div_euclid n d *ℤ d +ℤ d))
rounded_down (pos a) (pos k) positive = let some : 0 < k = omega (arith, ints) in (omega (arith, ints), omega (arith, ints))
rounded_down (negsuc a) (pos k) positive = let some : 0 < k = omega (arith, ints) in (omega (arith, ints), omega (arith, ints))
rounded_down n (negsuc k) positive = absurd (omega (arith, ints))

-- of n − a by 2 n
floor-descending : (z : ℤ) (a n d : ℕ) → z +ℤ pos a ≡ pos n → d ≡ 2 * n → 0 < n → int_div_euclid z (pos d) ≡ neg_ℤ (pos ((a + (n - 1)) / d))
floor-descending (pos p) a n d e f some =
    let one : p / d ≡ 0 = div-eq_of_lt (omega (arith, ints)) in
    let other : (a + (n - 1)) / d ≡ 0 = div-eq_of_lt (omega (arith, ints)) in
    ap pos one ∙ sym (ap (λ k. neg_ℤ (pos k)) other)
floor-descending (negsuc p) a n d e f some =
    let whole : a + (n - 1) ≡ p + d = omega (arith, ints) in
    let positive : 0 < d = omega arith in
    let step : p / d + 1 ≡ suc (p / d) = omega arith in
    sym (ap (λ k. neg_ℤ (pos k)) (ap (λ s. s / d) whole ∙ add-div_right p positive ∙ step))

neg-times : (k i : ℕ) → neg_ℤ (pos k) *ℤ pos i ≡ neg_ℤ (pos (k * i))
neg-times zero i = omega (arith, ints)
neg-times (suc k) i = refl

twice-neg : (m : ℕ) → pos 2 *ℤ neg_ℤ (pos m) ≡ neg_ℤ (pos (2 * m))
twice-neg m = omega (arith, ints)

pub y_at-ascending : (l r : Point) (m n i : ℕ) → r.x -ℤ l.x ≡ pos n → r.y -ℤ l.y ≡ pos m → y_at l r (l.x +ℤ pos i) ≡ l.y +ℤ pos ((2 * m * i + n) / (2 * n))
unfolding y_at
y_at-ascending l r m n i e f =
    let along : (l.x +ℤ pos i) -ℤ l.x ≡ pos i = omega (arith, ints) in
    rw (along, e, f) refl

pub y_at-descending : (l r : Point) (m n i : ℕ) → 0 < n → r.x -ℤ l.x ≡ pos n → r.y -ℤ l.y ≡ neg_ℤ (pos m) → y_at l r (l.x +ℤ pos i) ≡ l.y -ℤ pos ((2 * m * i + (n - 1)) / (2 * n))
unfolding y_at
y_at-descending l r m n i some e f =
    let along : (l.x +ℤ pos i) -ℤ l.x ≡ pos i = omega (arith, ints) in
    let whole : ((pos 2 *ℤ neg_ℤ (pos m)) *ℤ pos i +ℤ pos n) +ℤ pos (2 * m * i) ≡ pos n = rw (twice-neg m, neg-times (2 * m) i) (omega (arith, ints)) in
    let quotient = floor-descending ((pos 2 *ℤ neg_ℤ (pos m)) *ℤ pos i +ℤ pos n) (2 * m * i) n (2 * n) whole refl some in
    rw (along, e, f) (ap (λ q. l.y +ℤ q) quotient ∙ omega (arith, ints))
