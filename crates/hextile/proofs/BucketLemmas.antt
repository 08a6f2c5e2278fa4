-- Buckets that values are put into are no more than the values, and a tile's values but one take a subrectangle each.
use Rattle.std.proofs.Common.{◌≡◌, ◌≢◌, ℕ, zero, suc, ◌+◌, ◌*◌, ◌%◌, ◌^◌, ◌<◌, ◌≤◌, Bool, true, false, cond, List, [], ◌∷◌, length, get_or, set, replicate, map, count_by, refl, sym, ◌∙◌, inl, inr, arith}
use Rattle.std.specs.List.{AllByRecursion}
use Rattle.std.proofs.Math.ListN.{length-set}
use Rattle.std.proofs.Math.Nat.{mul-le-mul_right}
use Rattle.std.proofs.lemmas.Bool.{cases_eq}
use Rattle.std.proofs.lemmas.List.{get_or-set_same, get_or-set_other}
use Rattle.std.proofs.lemmas.List.Sums.{sum_by-set}
use Rattle.std.proofs.lemmas.Nat.{mod_below, div_below}
use Rattle.hextile.specs.declared.sub.Sub.{Sub}
use Rattle.hextile.specs.Buckets.{bucket_of}
use Rattle.hextile.specs.Encoding.{subrects}
use Rattle.hextile.specs.Rows.{IsTile, HasPoint}
use Rattle.hextile.proofs.SubLemmas.{IsFine, IsCovered, tile_subrects}
use Rattle.hextile.proofs.MeaningLemmas.{value_there}

-- each taken bucket is that of one of the values
abbrev pub AreFrom : (ℕ → ℕ) → List ℕ → ℕ → List Bool → Type 0
AreFrom bucket values n taken = (i : ℕ) → get_or taken i false ≡ true → (k : ℕ) × (k < n) × (bucket (get_or values k 0) ≡ i)

-- the buckets that the first n values have taken, and how many they are
pub record AreTaken (bucket : ℕ → ℕ) (values : List ℕ) (n : ℕ) (taken : List Bool) (count : ℕ) : Type 0 where
  pub long : length taken ≡ 1024
  pub count_is : count ≡ count_by (λ t. t) taken
  pub from : AreFrom bucket values n taken

pub none_yet : (n i : ℕ) → get_or (replicate n false) i false ≡ false
none_yet zero i = refl
none_yet (suc n) zero = refl
none_yet (suc n) (suc i) = none_yet n i

pub bucket_taken : (bucket : ℕ → ℕ) (values : List ℕ) (taken now : List Bool) (place n count grown : ℕ) → place < length taken → place ≡ bucket (get_or values n 0) → get_or taken place false ≡ false → now ≡ set taken place true → grown ≡ count + 1
    → AreTaken bucket values n taken count → AreTaken bucket values (n + 1) now grown
bucket_taken bucket values taken now place n count grown within is free put one before =
    let sums = sum_by-set (λ (t : Bool). cond t 1 0) taken place true false within in
    let none : cond {A = ℕ} (get_or taken place false) 1 0 ≡ 0 = rw free refl in
    rw (put, one) (record {
      long = length-set taken place true ∙ before.long;
      count_is = omega (arith, sums, none, before.count_is);
      from = λ i here.
          elim (cases_eq i place) [
            | inl same ↦ (n, omega arith, sym is ∙ sym same)
            | inr other ↦ let old = before.from i (sym (get_or-set_other taken place i true false other) ∙ here) in (old.0, omega (arith, old.1), old.2)
          ];
    })

pub bucket_kept : (bucket : ℕ → ℕ) (values : List ℕ) (taken now : List Bool) (n count same : ℕ) → now ≡ taken → same ≡ count → AreTaken bucket values n taken count → AreTaken bucket values (n + 1) now same
bucket_kept bucket values taken now n count same e1 e2 before =
    rw (e1, e2) (record { long = before.long; count_is = before.count_is; from = λ i here. let old = before.from i here in (old.0, omega (arith, old.1), old.2) })

pub bucket_within : (v : ℕ) → bucket_of v < 1024
unfolding bucket_of
bucket_within v = div_below (v * 2654435769 % 2 ^ 32) (2 ^ 22) 1024 (omega arith) (mod_below (v * 2654435769) (2 ^ 32) (omega arith))

none_taken : (taken : List Bool) → ((i : ℕ) → get_or taken i false ≡ true → ⊥) → count_by (λ t. t) taken ≤ 0
none_taken [] none = omega arith
none_taken (true ∷ ts) none = absurd (none 0 refl)
none_taken (false ∷ ts) none = none_taken ts (λ i here. none (suc i) here)

at_most_one : (b : Bool) → cond b 1 0 ≤ 1
at_most_one true = omega arith
at_most_one false = omega arith

pub taken_few : (bucket : ℕ → ℕ) (values : List ℕ) (taken : List Bool) → ((v : ℕ) → bucket v < length taken) → AreFrom bucket values (length values) taken → count_by (λ t. t) taken ≤ length values
taken_few bucket [] taken within from = none_taken taken (λ i here. absurd (omega (arith, (from i here).1)))
taken_few bucket (v ∷ vs) taken within from =
    let at = bucket v in
    let less = set taken at false in
    let sums = sum_by-set (λ (t : Bool). cond t 1 0) taken at false false (within v) in
    let one = at_most_one (get_or taken at false) in
    let rest = taken_few bucket vs less (λ u. rw (length-set taken at false) (within u)) (λ i here.
    elim (cases_eq at i) [
      | inl same ↦ let gone : get_or less at false ≡ false = get_or-set_same taken at false false (within v) in let off : true ≡ false = sym here ∙ rw (← same) gone in absurd (cc)
      | inr other ↦ later i other (from i (sym (get_or-set_other taken at i false false (λ e. other (sym e))) ∙ here))
    ]) in
    omega (arith, sums, one, rest)
  where
    later : (i : ℕ) → bucket v ≢ i → (k : ℕ) × (k < length (v ∷ vs)) × (bucket (get_or (v ∷ vs) k 0) ≡ i) → (k : ℕ) × (k < length vs) × (bucket (get_or vs k 0) ≡ i)
    later i other (zero, lt, e) = absurd (other e)
    later i other (suc k, lt, e) = (k, omega arith, e)

-- the value of a point that a subrectangle covers is one of theirs
has_covered : (w background k : ℕ) (values : List ℕ) (ss : List Sub) → AllByRecursion (IsFine w background values) ss → IsCovered w ss k → HasPoint (map (λ (s : Sub). s.value) ss) (get_or values k 0)
has_covered w background k values [] each covered = absurd covered
has_covered w background k values (s ∷ ss) each covered =
    elim covered [
      | inl here ↦ (0, omega arith, value_there w background k values s each.0 here)
      | inr later ↦ let p = has_covered w background k values ss each.1 later in (suc p.0, omega (arith, p.1), p.2)
    ]

length_values : (ss : List Sub) → length (map (λ (s : Sub). s.value) ss) ≡ length ss
length_values [] = refl
length_values (s ∷ ss) = omega (arith, length_values ss)

-- so many different values take a subrectangle each, but for the background
pub different_few : (w background count : ℕ) (values : List ℕ) → IsTile w (length values) → HasPoint values background
    → ((others : List ℕ) → ((k : ℕ) → k < length values → HasPoint others (get_or values k 0)) → count ≤ length others) → count ≤ 1 + length (subrects w background values)
different_few w background count values tile point few =
    let ss = subrects w background values in
    let fine = (tile_subrects w background values tile point).fine in
    let all = few (background ∷ map (λ (s : Sub). s.value) ss) (λ k lt.
    elim (cases_eq (get_or values k 0) background) [
      | inl back ↦ (0, omega arith, sym back)
      | inr other ↦ let p = has_covered w background k values ss fine.each (fine.covers k (omega arith) lt other) in (suc p.0, omega (arith, p.1), p.2)
    ]) in
    omega (arith, all, length_values ss)

pub surely_longer : (n b count subs : ℕ) → 1 + n * b + (b + 2) < 2 + count * (b + 2) → count ≤ 1 + subs → 1 + n * b < 2 + subs * (b + 2)
surely_longer n b count subs long few = omega (arith, long, mul-le-mul_right (b + 2) few)
