-- Lists in which a block of windows stands in one piece.
use Rattle.std.proofs.Common.{◌≡◌, ℕ, ◌+◌, ◌≤◌, Bool, cond, eqb, List, [], ◌∷◌, ◌++◌, filter, length, Option, Some, None, refl, sym, ap, subst, ◌∙◌, inl, inr, arith, length-append}
use Rattle.std.specs.Option.{option_or}
use Rattle.std.specs.List.{AllByRecursion}
use Rattle.std.proofs.lemmas.Bool.{cases_Bool, cases_lt}
use Rattle.std.proofs.lemmas.List.Elements.{filter-append}
use Rattle.std.proofs.lemmas.List.Folds.{find-append}
use Rattle.scene.specs.declared.win.Win.{Win}
use Rattle.scene.specs.Places.{window_of, number_of}
use Rattle.scene.specs.Families.{StandsIn}
use Rattle.win_tree.proofs.FamilyLemmas.{number_of-append}
use Rattle.win_tree.proofs.TreeLemmas.{window_of-absent}
use Rattle.win_tree.proofs.StackLemmas.{AllBy-append, AllBy-first, AllBy-last}

pub number_of-block : (block rest ws : List Win) → StandsIn block rest ws → (x : ℕ) → number_of x ws ≡ number_of x block + number_of x rest
number_of-block block rest ws s x =
    omega (arith, ap (number_of x) s.whole, ap (number_of x) s.left, number_of-append x s.before (block ++ s.after), number_of-append x block s.after, number_of-append x s.before s.after)

pub length-block : (block rest ws : List Win) → StandsIn block rest ws → length ws ≡ length block + length rest
length-block block rest ws s =
    omega (arith, ap length s.whole, ap length s.left, length-append s.before (block ++ s.after), length-append block s.after, length-append s.before s.after)

-- ---- what is true of each window

pub AllBy-rest : (P : Win → Type 0) (block rest ws : List Win) → StandsIn block rest ws → AllByRecursion P ws → AllByRecursion P rest
AllBy-rest P block rest ws s all =
    let A : List Win → Type 0 = λ us. AllByRecursion P us in
    let parts = subst A s.whole all in
    subst A (sym s.left)
    (AllBy-append P s.before s.after (AllBy-first P s.before (block ++ s.after) parts)
    (AllBy-last P block s.after (AllBy-last P s.before (block ++ s.after) parts)))

pub AllBy-block : (P : Win → Type 0) (block rest ws : List Win) → StandsIn block rest ws → AllByRecursion P ws → AllByRecursion P block
AllBy-block P block rest ws s all =
    let A : List Win → Type 0 = λ us. AllByRecursion P us in
    AllBy-first P block s.after (AllBy-last P s.before (block ++ s.after) (subst A s.whole all))

pub AllBy-whole : (P : Win → Type 0) (block rest ws : List Win) → StandsIn block rest ws → AllByRecursion P block → AllByRecursion P rest → AllByRecursion P ws
AllBy-whole P block rest ws s mine others =
    let A : List Win → Type 0 = λ us. AllByRecursion P us in
    let parts = subst A s.left others in
    subst A (sym s.whole)
    (AllBy-append P s.before (block ++ s.after) (AllBy-first P s.before s.after parts)
    (AllBy-append P block s.after mine (AllBy-last P s.before s.after parts)))

-- ---- tests

pub filter-block : (f : Win → Bool) (block rest ws : List Win) → StandsIn block rest ws → filter f block ≡ [] → filter f ws ≡ filter f rest
filter-block f block rest ws s none =
    ap (filter f) s.whole
    ∙ filter-append f s.before (block ++ s.after)
    ∙ ap (λ us. filter f s.before ++ us) (filter-append f block s.after ∙ ap (λ us. us ++ filter f s.after) none)
    ∙ sym (filter-append f s.before s.after)
    ∙ sym (ap (filter f) s.left)

-- ---- look-ups

or_none : (o : Option Win) → option_or o None ≡ o
or_none None = refl
or_none (Some w) = refl

pub window_of-block : (block rest ws : List Win) (x : ℕ) → StandsIn block rest ws → number_of x block + number_of x rest ≤ 1 → window_of ws x ≡ option_or (window_of block x) (window_of rest x)
window_of-block block rest ws x s few =
    let found : List Win → Option Win = λ us. window_of us x in
    let whole : found ws ≡ option_or (found s.before) (option_or (found block) (found s.after)) =
    ap found s.whole ∙ find-append (λ (w : Win). eqb w.handle x) s.before (block ++ s.after)
    ∙ ap (option_or (found s.before)) (find-append (λ (w : Win). eqb w.handle x) block s.after) in
    let left : found rest ≡ option_or (found s.before) (found s.after) = ap found s.left ∙ find-append (λ (w : Win). eqb w.handle x) s.before s.after in
    let count : number_of x rest ≡ number_of x s.before + number_of x s.after = ap (number_of x) s.left ∙ number_of-append x s.before s.after in
    elim (cases_lt 0 (number_of x s.before)) [
      | inl some ↦
          let none : found block ≡ None = window_of-absent x block (omega (arith, few, count, some)) in
          rw (whole, none, left) refl
      | inr zero' ↦
          let none : found s.before ≡ None = window_of-absent x s.before (omega (arith, zero')) in
          rw (whole, left, none) refl
    ]

pub window_of-alone : (w : Win) (o : Option Win) (x : ℕ) → option_or (window_of (w ∷ []) x) o ≡ cond (eqb w.handle x) (Some w) o
window_of-alone w o x = elim (cases_Bool (eqb w.handle x)) [ inl e ↦ rw e refl | inr e ↦ rw e refl ]
