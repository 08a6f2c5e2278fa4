-- The list of what the tasks have, one element of which changes.
use Rattle.std.proofs.Common.{◌≡◌, ◌≢◌, ℕ, zero, suc, ◌+◌, ◌-◌, ◌≤◌, List, [], ◌∷◌, length, set, refl, ap, ◌∙◌, arith}
use Rattle.std.proofs.lemmas.List.{set-get_or, get_or-set_same, get_or-set_other, get_or-replicate, length-set}
use Rattle.context.specs.declared.context.Context.{Context}
use Rattle.context.specs.Contexts.{Owned, first_owned, first_contexts, owned_by, with_owned, with_context, after_save, after_restore, after_saves, with_saved, with_restored, with_written}

pub owned_by-with_owned_other : (all : List Owned) (task other : ℕ) (own : Owned) → 1 ≤ task → 1 ≤ other → other ≢ task → owned_by (with_owned all task own) other ≡ owned_by all other
owned_by-with_owned_other all task other own some other_some differ =
    get_or-set_other all (task - 1) (other - 1) own first_owned (λ same. differ (omega arith))

pub owned_by-with_owned : (all : List Owned) (task : ℕ) (own : Owned) → 1 ≤ task → task ≤ length all → owned_by (with_owned all task own) task ≡ own
owned_by-with_owned all task own some within =
    get_or-set_same all (task - 1) own first_owned (omega arith)

pub length-with_owned : (all : List Owned) (task : ℕ) (own : Owned) → length (with_owned all task own) ≡ length all
length-with_owned all task own = length-set all (task - 1) own

set_twice : {X : Type 0} → (xs : List X) (i : ℕ) (x y : X) → set (set xs i x) i y ≡ set xs i y
set_twice [] i x y = refl
set_twice (z ∷ zs) zero x y = refl
set_twice (z ∷ zs) (suc i) x y = ap (λ rest. z ∷ rest) (set_twice zs i x y)

-- the later of two changes of one task stays
pub with_owned-with_owned : (all : List Owned) (task : ℕ) (first second : Owned) → with_owned (with_owned all task first) task second ≡ with_owned all task second
with_owned-with_owned all task first second = set_twice all (task - 1) first second

pub with_owned-owned_by : (all : List Owned) (task : ℕ) → with_owned all task (owned_by all task) ≡ all
with_owned-owned_by all task = set-get_or all (task - 1) first_owned

pub owned_by-first : (task : ℕ) → 1 ≤ task → task ≤ 16 → owned_by first_contexts task ≡ first_owned
owned_by-first task some within =
    get_or-replicate 16 (task - 1) first_owned first_owned (omega arith)

pub length-after_saves : (n : ℕ) (own : Owned) → length (after_saves n own).saved ≡ n + length own.saved
length-after_saves zero own = omega arith
length-after_saves (suc n) own = omega (arith, length-after_saves n own)

-- two changes of a task, and then what it had
changed_and_back : (all : List Owned) (task : ℕ) (first second : Owned) → with_owned (with_owned (with_owned all task first) task second) task (owned_by all task) ≡ all
changed_and_back all task first second =
    with_owned-with_owned (with_owned all task first) task second (owned_by all task)
    ∙ with_owned-with_owned all task first (owned_by all task)
    ∙ with_owned-owned_by all task

pub restored-written-saved : (all : List Owned) (task : ℕ) (context : Context) → 1 ≤ task → task ≤ length all → with_restored (with_written (with_saved all task) task context) task ≡ all
restored-written-saved all task context some within =
    let own = owned_by all task in
    let saved = with_saved all task in
    let written = with_written saved task context in
    let long : length saved ≡ length all = length-with_owned all task (after_save own) in
    let has_saved : owned_by saved task ≡ after_save own = owned_by-with_owned all task (after_save own) some within in
    let has_written : owned_by written task ≡ with_context (after_save own) context =
    owned_by-with_owned saved task (with_context (owned_by saved task) context) some (omega (arith, long))
    ∙ ap (λ (o : Owned). with_context o context) has_saved in
    ap (λ (o : Owned). with_owned written task (after_restore o)) has_written
    ∙ changed_and_back all task (after_save own) (with_context (owned_by saved task) context)
