-- Ranges of columns.
use Rattle.std.proofs.Common.{◌≡◌, ℕ, ◌≤◌, ◌⊎◌, inl, inr, Bool, true, false, ◌&&◌, nat_le, ℤ, pos, ◌≤ℤ◌, ◌<ℤ◌, refl, sym, ◌∙◌, arith}
use Rattle.std.specs.Prelude.{unsigned_abs, int_le}
use Rattle.std.specs.Int.{int_max, int_min}
use Rattle.std.proofs.lemmas.Bool.{and_parts, and_cases, and_from, false_from_ne_true}
use Rattle.std.proofs.lemmas.Bool.Decides.{nat_tests}
use Rattle.std.proofs.lemmas.Int.{ints, clamps}
use Rattle.gfx_base.specs.Range.{is_within}

-- a test that holds just where another does
pub same_test : (a b : Bool) → (a ≡ true → b ≡ true) → (b ≡ true → a ≡ true) → a ≡ b
same_test true b f g = sym (f refl)
same_test false true f g = g refl
same_test false false f g = refl

pub within-parts : (a b z : ℤ) → is_within a b z ≡ true → (a ≤ℤ z) × (z ≤ℤ b)
unfolding is_within
within-parts a b z h = (grind (arith, ints), grind (arith, ints))

pub within-from : (a b z : ℤ) → a ≤ℤ z → z ≤ℤ b → is_within a b z ≡ true
unfolding is_within
within-from a b z h k = grind (arith, ints)

pub within-none : (a b z : ℤ) → ((a ≤ℤ z) → (z ≤ℤ b) → ⊥) → is_within a b z ≡ false
within-none a b z never = false_from_ne_true (is_within a b z) (λ h. let w = within-parts a b z h in never w.0 w.1)

pub within-outside : (a b z : ℤ) → is_within a b z ≡ false → (z <ℤ a) ⊎ (b <ℤ z)
unfolding is_within
within-outside a b z h = elim (and_cases (int_le a z) (int_le z b) h) [ inl low ↦ inl (omega (arith, ints)) | inr high ↦ inr (omega (arith, ints)) ]

pub in-parts : (l r u : ℕ) → (nat_le l u && nat_le u r) ≡ true → (l ≤ u) × (u ≤ r)
in-parts l r u h = (grind (arith, nat_tests), grind (arith, nat_tests))

pub in-from : (l r u : ℕ) → l ≤ u → u ≤ r → (nat_le l u && nat_le u r) ≡ true
in-from l r u h k = grind (arith, nat_tests)

-- where a range has columns of a strip, from a to b
pub cut-columns : (l r u : ℕ) (x0 x1 a b : ℤ) → a ≡ int_max x0 (pos l) → b ≡ int_min x1 (pos r) → a ≤ℤ b
    → (nat_le (unsigned_abs a) u && nat_le u (unsigned_abs b)) ≡ ((nat_le l u && nat_le u r) && is_within x0 x1 (pos u))
cut-columns l r u x0 x1 a b is_a is_b some =
    same_test _ _
    (λ h. let w = in-parts (unsigned_abs a) (unsigned_abs b) u h in
    and_from _ _ (in-from l r u (omega (arith, ints, clamps)) (omega (arith, ints, clamps))) (within-from x0 x1 (pos u) (omega (arith, ints, clamps)) (omega (arith, ints, clamps))))
    (λ h. let both = and_parts (nat_le l u && nat_le u r) (is_within x0 x1 (pos u)) h in
    let w = in-parts l r u both.0 in
    let z = within-parts x0 x1 (pos u) both.1 in
    in-from (unsigned_abs a) (unsigned_abs b) u (omega (arith, ints, clamps)) (omega (arith, ints, clamps)))

-- where it has none
pub cut-nothing : (l r u : ℕ) (x0 x1 a b : ℤ) → a ≡ int_max x0 (pos l) → b ≡ int_min x1 (pos r) → b <ℤ a → false ≡ ((nat_le l u && nat_le u r) && is_within x0 x1 (pos u))
cut-nothing l r u x0 x1 a b is_a is_b none =
    sym (false_from_ne_true _ (λ h. let both = and_parts (nat_le l u && nat_le u r) (is_within x0 x1 (pos u)) h in
    let w = in-parts l r u both.0 in
    let z = within-parts x0 x1 (pos u) both.1 in
    omega (arith, ints, clamps)))

-- of two tests that don't both hold, the second fails where the first holds
pub second_false : (a b : Bool) → a ≡ true → false ≡ (a && b) → b ≡ false
second_false a b h e = sym (e ∙ rw h refl)
