-- Runs of values that are alike: each place of a list lies in just one.
use Rattle.std.proofs.Common.{◌≡◌, ℕ, zero, suc, ◌+◌, ◌-◌, ◌<◌, ◌≤◌, Bool, true, false, ◌||◌, ◌==◌, List, length, get_or, drop, refl, ap, subst, ◌∙◌, inl, inr, arith, length-drop}
use Rattle.std.specs.Prelude.{not}
use Rattle.std.specs.List.{prefix_len}
use Rattle.std.proofs.lemmas.Bool.{cases_Bool, cases_lt, cases_order, both_ways, or_parts, or_from, not-false, not_from_true}
use Rattle.std.proofs.lemmas.Bool.Decides.{nat_tests}
use Rattle.std.proofs.lemmas.List.{get_or-drop}
use Rattle.std.proofs.lemmas.List.Sums.{prefix_len-le-length, prefix_len_passes, prefix_len_stops}

pub record AreAlike {A : Type 0} (alike : A → A → Bool) : Type 0 where
  pub itself : (a : A) → alike a a ≡ true
  pub back : (a b : A) → alike a b ≡ true → alike b a ≡ true
  pub on : (a b c : A) → alike a b ≡ true → alike b c ≡ true → alike a c ≡ true

-- a run begins at i: the value before isn't alike
abbrev pub begins_at : {A : Type 0} → (A → A → Bool) → A → List A → ℕ → Bool
begins_at alike d xs i = i == 0 || not (alike (get_or xs (i - 1) d) (get_or xs i d))

-- how many values from i on are alike the one there
abbrev pub reach : {A : Type 0} → (A → A → Bool) → A → List A → ℕ → ℕ
reach alike d xs i = prefix_len (λ x. alike x (get_or xs i d)) (drop i xs)

pub reach-within : {A : Type 0} (alike : A → A → Bool) (d : A) (xs : List A) (i : ℕ) → i < length xs → i + reach alike d xs i ≤ length xs
reach-within alike d xs i inside =
    let few = prefix_len-le-length (λ x. alike x (get_or xs i d)) (drop i xs) in
    let left = length-drop i xs in
    omega arith

pub in_reach : {A : Type 0} (alike : A → A → Bool) (d : A) (xs : List A) (i j : ℕ) → i ≤ j → j < i + reach alike d xs i → alike (get_or xs j d) (get_or xs i d) ≡ true
in_reach alike d xs i j from below =
    let k : ℕ = j - i in
    let at : i + k ≡ j = omega arith in
    let same : get_or (drop i xs) k d ≡ get_or xs j d = get_or-drop i xs k d ∙ ap (λ (n : ℕ). get_or xs n d) at in
    subst (λ (v : _). alike v (get_or xs i d) ≡ true) same (prefix_len_passes (λ x. alike x (get_or xs i d)) (drop i xs) k d (omega arith))

pub past_reach : {A : Type 0} (alike : A → A → Bool) (d : A) (xs : List A) (i : ℕ) → i + reach alike d xs i < length xs → alike (get_or xs (i + reach alike d xs i) d) (get_or xs i d) ≡ false
past_reach alike d xs i more =
    let left = length-drop i xs in
    let n : ℕ = reach alike d xs i in
    subst (λ (v : _). alike v (get_or xs i d) ≡ false) (get_or-drop i xs n d) (prefix_len_stops (λ x. alike x (get_or xs i d)) (drop i xs) d (omega arith))

pub reach-some : {A : Type 0} (alike : A → A → Bool) (d : A) (xs : List A) (i : ℕ) → AreAlike alike → i < length xs → 0 < reach alike d xs i
reach-some alike d xs i laws inside =
    elim (cases_lt 0 (reach alike d xs i)) [
      | inl some ↦ some
      | inr none ↦
          let at : i + reach alike d xs i ≡ i = omega arith in
          absurd (both_ways _ (subst (λ (j : ℕ). alike (get_or xs j d) (get_or xs i d) ≡ false) at (past_reach alike d xs i (omega arith))) (laws.itself (get_or xs i d)))
    ]

-- no run begins within a run
no_begin : {A : Type 0} (alike : A → A → Bool) (d : A) (xs : List A) (i j : ℕ) → AreAlike alike → i < j → j < i + reach alike d xs i → begins_at alike d xs j ≡ true → ⊥
no_begin alike d xs i j laws after below begin =
    let here = in_reach alike d xs i j (omega arith) below in
    let before = in_reach alike d xs i (j - 1) (omega arith) (omega arith) in
    let same = laws.on _ _ _ before (laws.back _ _ here) in
    let later : (j == 0) ≡ false = grind (arith, nat_tests) in
    both_ways _ (or_from _ _ later (not_from_true _ same)) begin

-- two runs with one place are one
pub one_run : {A : Type 0} (alike : A → A → Bool) (d : A) (xs : List A) (i j k : ℕ) → AreAlike alike → begins_at alike d xs i ≡ true → begins_at alike d xs j ≡ true → i ≤ k → k < i + reach alike d xs i → j ≤ k → k < j + reach alike d xs j → i ≡ j
one_run alike d xs i j k laws at_i at_j from_i below_i from_j below_j =
    elim (cases_order i j) [
      | inl same ↦ same
      | inr (inl before) ↦ absurd (no_begin alike d xs i j laws before (omega arith) at_j)
      | inr (inr after) ↦ absurd (no_begin alike d xs j i laws after (omega arith) at_i)
    ]

-- the run that has a place
pub record HasPlace {A : Type 0} (alike : A → A → Bool) (d : A) (xs : List A) (k : ℕ) : Type 0 where
  pub start : ℕ
  pub from : start ≤ k
  pub begins : begins_at alike d xs start ≡ true
  pub below : k < start + reach alike d xs start

pub some_run : {A : Type 0} (alike : A → A → Bool) (d : A) (xs : List A) (k : ℕ) → AreAlike alike → k < length xs → HasPlace alike d xs k
some_run alike d xs zero laws inside =
    let some = reach-some alike d xs 0 laws inside in
    record { start = 0; from = omega arith; begins = refl; below = omega arith }
some_run alike d xs (suc k) laws inside =
    elim (cases_Bool (begins_at alike d xs (suc k))) [
      | inl begin ↦
          let some = reach-some alike d xs (suc k) laws inside in
          record { start = suc k; from = omega arith; begins = begin; below = omega arith }
      | inr none ↦ longer alike d xs k laws inside none (some_run alike d xs k laws (omega arith))
    ]
  where
    longer : {A : Type 0} (alike : A → A → Bool) (d : A) (xs : List A) (k : ℕ) → AreAlike alike → suc k < length xs → begins_at alike d xs (suc k) ≡ false → HasPlace alike d xs k → HasPlace alike d xs (suc k)
    longer alike d xs k laws inside none was =
        let i : ℕ = was.start in
        let from : i ≤ k = was.from in
        let below : k < i + reach alike d xs i = was.below in
        elim (cases_lt (suc k) (i + reach alike d xs i)) [
          | inl more ↦ record { start = i; from = omega arith; begins = was.begins; below = more }
          | inr end ↦
              let at : i + reach alike d xs i ≡ suc k = omega arith in
              let other = subst (λ (j : ℕ). alike (get_or xs j d) (get_or xs i d) ≡ false) at (past_reach alike d xs i (omega arith)) in
              let back : suc k - 1 ≡ k = omega arith in
              let same : alike (get_or xs k d) (get_or xs (suc k) d) ≡ true = subst (λ (j : ℕ). alike (get_or xs j d) (get_or xs (suc k) d) ≡ true) back (not-false _ (or_parts _ _ none).1) in
              absurd (both_ways _ other (laws.on _ _ _ (laws.back _ _ same) (in_reach alike d xs i k from below)))
        ]
