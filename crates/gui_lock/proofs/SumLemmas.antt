-- Sums over a list that is read by `get_elem?`.
use Rattle.std.proofs.Common.{◌≡◌, ◌≢◌, ℕ, ◌+◌, ◌<◌, ◌≤◌, zero, suc, List, [], ◌∷◌, ◌++◌, set, refl, sym, ap, arith}
use mathlib.Core.Option.{some, some-injective, some-ne-none}
use lib.ListN.{get_elem?}
use Rattle.gui_lock.specs.Rule.{total}

module _ {A : Type 0} (f : A → ℕ) where
  pub total_set : (l : List A) (i : ℕ) (v w : A) → get_elem? l i ≡ some v → total f (set l i w) + f v ≡ total f l + f w
  total_set [] i v w at = absurd (some-ne-none v (sym at))
  total_set (x ∷ xs) zero v w at = let e : f x ≡ f v = ap f (some-injective x v at) in omega arith
  total_set (x ∷ xs) (suc i) v w at = let e = total_set xs i v w at in omega arith

  pub total_at : (l : List A) (i : ℕ) (v : A) → get_elem? l i ≡ some v → f v ≤ total f l
  total_at [] i v at = absurd (some-ne-none v (sym at))
  total_at (x ∷ xs) zero v at = let e : f x ≡ f v = ap f (some-injective x v at) in omega arith
  total_at (x ∷ xs) (suc i) v at = let e = total_at xs i v at in omega arith

  pub total_two : (l : List A) (i j : ℕ) (u v : A) → i ≢ j → get_elem? l i ≡ some u → get_elem? l j ≡ some v → f u + f v ≤ total f l
  total_two [] i j u v ne at there = absurd (some-ne-none u (sym at))
  total_two (x ∷ xs) zero zero u v ne at there = absurd (ne refl)
  total_two (x ∷ xs) zero (suc j) u v ne at there = let e : f x ≡ f u = ap f (some-injective x u at) in let h = total_at xs j v there in omega arith
  total_two (x ∷ xs) (suc i) zero u v ne at there = let e : f x ≡ f v = ap f (some-injective x v there) in let h = total_at xs i u at in omega arith
  total_two (x ∷ xs) (suc i) (suc j) u v ne at there = let h = total_two xs i j u v (λ e. ne (ap suc e)) at there in omega arith

  pub total_snoc : (l : List A) (v : A) → total f (l ++ v ∷ []) ≡ total f l + f v
  total_snoc [] v = omega arith
  total_snoc (x ∷ xs) v = let e = total_snoc xs v in omega arith

  -- where the sum is above 0, so is one of its parts
  pub total_some : (l : List A) → 0 < total f l → (i : ℕ) × (v : A) × (get_elem? l i ≡ some v) × (0 < f v)
  total_some [] h = absurd (omega arith)
  total_some (x ∷ xs) h = first_or (f x) refl (total_some xs)
    where
      first_or : (n : ℕ) → f x ≡ n → (0 < total f xs → (i : ℕ) × (v : A) × (get_elem? xs i ≡ some v) × (0 < f v)) → (i : ℕ) × (v : A) × (get_elem? (x ∷ xs) i ≡ some v) × (0 < f v)
      first_or zero e more = let t = more (omega arith) in (suc t.0, t.1, t.2, t.3)
      first_or (suc n) e more = (zero, x, refl, omega arith)
