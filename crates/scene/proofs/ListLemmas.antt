-- Lists that calls lead to: with a window more, with one changed, without some, and in another order.
use Rattle.std.proofs.Common.{◌≡◌, ℕ, ◌+◌, ◌≤◌, Bool, true, false, cond, eqb, List, [], ◌∷◌, ◌++◌, filter, Option, Some, None, refl, sym, ap, subst, ◌∙◌, inl, inr, arith}
use Rattle.std.specs.Prelude.{◌⊎◌, not, option_map}
use Rattle.std.specs.List.{AllByRecursion}
use Rattle.std.proofs.lemmas.Bool.{cases_Bool, or_cases, or_left, eq-eqb, eqb-true, false≢true}
use Rattle.std.proofs.lemmas.Bool.Decides.{nat_tests}
use Rattle.std.proofs.lemmas.List.{append-nil}
use Rattle.std.proofs.lemmas.List.Elements.{filter-append}
use Rattle.scene.specs.declared.win.Win.{Win}
use Rattle.scene.specs.Places.{place_of, window_of, place_at, number_of, AreSingle}
use Rattle.scene.specs.Changes.{is_below, in_family, LiesBelow, Adds, Fails, TakesAway, Changes, Reorders}
use Rattle.scene.proofs.ChangeLemmas.{no_place, same_place}

no_window_is : (w : Win) → Some w ≡ None → ⊥
no_window_is w e = cc

same_window : (v w : Win) → Some v ≡ Some w → v ≡ w
same_window v w e = cc

differs : (one other : ℕ) → (other ≡ one → ⊥) → eqb one other ≡ false
differs one other h = grind (arith, nat_tests, h)

-- ---- a window in the midst of others

place_at-midst : (before : List Win) (w : Win) (after : List Win) (handle : ℕ) → (handle ≡ w.handle → ⊥) → place_at (before ++ w ∷ after) handle ≡ place_at (before ++ after) handle
place_at-midst [] w after handle differ = rw (differs w.handle handle differ) refl
place_at-midst (v ∷ before) w after handle differ =
    elim (cases_Bool (eqb v.handle handle)) [
      | inl own ↦ rw own refl
      | inr other ↦ rw other (place_at-midst before w after handle differ)
    ]

-- the window is found where none before it has its handle
place_at-here : (before : List Win) (w : Win) (after : List Win) (handle : ℕ) → w.handle ≡ handle → place_at before handle ≡ None → place_at (before ++ w ∷ after) handle ≡ Some (place_of w)
place_at-here [] w after handle own unknown = rw (eq-eqb w.handle handle own) refl
place_at-here (v ∷ before) w after handle own unknown =
    elim (cases_Bool (eqb v.handle handle)) [
      | inl first ↦ absurd (no_place (place_of v) (rw first at unknown))
      | inr other ↦ rw other (place_at-here before w after handle own (rw other at unknown))
    ]

-- none in the front has a handle that none has
place_at-front : (before after : List Win) (handle : ℕ) → place_at (before ++ after) handle ≡ None → place_at before handle ≡ None
place_at-front [] after handle unknown = refl
place_at-front (v ∷ before) after handle unknown =
    elim (cases_Bool (eqb v.handle handle)) [
      | inl own ↦ rw own (rw own at unknown)
      | inr other ↦ rw other (place_at-front before after handle (rw other at unknown))
    ]

filter-midst : (test : Win → Bool) (before : List Win) (w : Win) (after : List Win) → test w ≡ false → filter test (before ++ w ∷ after) ≡ filter test (before ++ after)
filter-midst test [] w after fails = rw fails refl
filter-midst test (v ∷ before) w after fails = ap (λ (vs : List Win). cond (test v) (v ∷ vs) vs) (filter-midst test before w after fails)

pub Adds-midst : (before after : List Win) (w : Win) → place_at (before ++ after) w.handle ≡ None → Adds (before ++ after) (before ++ w ∷ after) w
Adds-midst before after w unknown = record {
  unknown = unknown;
  found = place_at-here before w after w.handle refl (place_at-front before after w.handle unknown);
  others = λ handle differ. place_at-midst before w after handle differ;
  rest = λ test fails. filter-midst test before w after fails;
}

-- on top of all others
pub Adds-last : (ws : List Win) (w : Win) → place_at ws w.handle ≡ None → Adds ws (ws ++ w ∷ []) w
Adds-last ws w unknown =
    let all = append-nil ws in
    subst (λ (vs : List Win). Adds vs (ws ++ w ∷ []) w) all (Adds-midst ws [] w (ap (λ (vs : List Win). place_at vs w.handle) all ∙ unknown))

pub Changes-midst : (before : List Win) (w v : Win) (after : List Win) → v.handle ≡ w.handle → place_at before w.handle ≡ None → Changes (before ++ w ∷ after) (before ++ v ∷ after) w v
Changes-midst before w v after same unknown = record {
  known = place_at-here before w after w.handle refl unknown;
  found = place_at-here before v after w.handle same unknown;
  others = λ handle differ. place_at-midst before v after handle (λ e. differ (e ∙ same)) ∙ sym (place_at-midst before w after handle differ);
  rest = λ test fails fail. filter-midst test before v after fail ∙ sym (filter-midst test before w after fails);
}

-- ---- windows that pass a test

unfound : (handle : ℕ) (ws : List Win) → number_of handle ws ≡ 0 → window_of ws handle ≡ None
unfound handle [] none = refl
unfound handle (w ∷ ws) none =
    elim (cases_Bool (eqb w.handle handle)) [
      | inl own ↦ let n : 1 + number_of handle ws ≡ 0 = rw own at none in absurd (omega (arith, n))
      | inr other ↦ let n : 0 + number_of handle ws ≡ 0 = rw other at none in rw other (unfound handle ws (omega (arith, n)))
    ]

found_kept : (keep : Win → Bool) (handle : ℕ) (u : Win) (ws : List Win) → window_of ws handle ≡ Some u → keep u ≡ true → window_of (filter keep ws) handle ≡ Some u
found_kept keep handle u [] found kept = absurd (no_window_is u (sym found))
found_kept keep handle u (w ∷ ws) found kept =
    elim (cases_Bool (eqb w.handle handle)) [
      | inl own ↦
          let same : w ≡ u = same_window w u (rw own at found) in
          let stays : keep w ≡ true = ap keep same ∙ kept in
          rw (stays, own) (ap Some same)
      | inr other ↦
          elim (cases_Bool (keep w)) [
            | inl stays ↦ rw (stays, other) (found_kept keep handle u ws (rw other at found) kept)
            | inr goes ↦ rw goes (found_kept keep handle u ws (rw other at found) kept)
          ]
    ]

found_none : (keep : Win → Bool) (handle : ℕ) (ws : List Win) → window_of ws handle ≡ None → window_of (filter keep ws) handle ≡ None
found_none keep handle [] none = refl
found_none keep handle (w ∷ ws) none =
    elim (cases_Bool (eqb w.handle handle)) [
      | inl own ↦ absurd (no_window_is w (rw own at none))
      | inr other ↦
          elim (cases_Bool (keep w)) [
            | inl stays ↦ rw (stays, other) (found_none keep handle ws (rw other at none))
            | inr goes ↦ rw goes (found_none keep handle ws (rw other at none))
          ]
    ]

found_dropped : (keep : Win → Bool) (handle : ℕ) (u : Win) (ws : List Win) → number_of handle ws ≤ 1 → window_of ws handle ≡ Some u → keep u ≡ false → window_of (filter keep ws) handle ≡ None
found_dropped keep handle u [] few found goes = refl
found_dropped keep handle u (w ∷ ws) few found drops =
    elim (cases_Bool (eqb w.handle handle)) [
      | inl own ↦
          let same : w ≡ u = same_window w u (rw own at found) in
          let gone : keep w ≡ false = ap keep same ∙ drops in
          let n : 1 + number_of handle ws ≤ 1 = rw own at few in
          rw gone (found_none keep handle ws (unfound handle ws (omega (arith, n))))
      | inr other ↦
          let n : 0 + number_of handle ws ≤ 1 = rw other at few in
          let rest = found_dropped keep handle u ws (omega (arith, n)) (rw other at found) drops in
          elim (cases_Bool (keep w)) [
            | inl stays ↦ rw (stays, other) rest
            | inr goes ↦ rw goes rest
          ]
    ]

filter_kept : (keep test : Win → Bool) (ws : List Win) → AllByRecursion (λ v. keep v ≡ false → test v ≡ false) ws → filter test (filter keep ws) ≡ filter test ws
filter_kept keep test [] all = refl
filter_kept keep test (w ∷ ws) all =
    elim (cases_Bool (keep w)) [
      | inl stays ↦ rw stays (ap (λ (vs : List Win). cond (test w) (w ∷ vs) vs) (filter_kept keep test ws all.1))
      | inr goes ↦ rw (goes, all.0 goes) (filter_kept keep test ws all.1)
    ]

filter_fails : (keep test : Win → Bool) (ws : List Win) → AllByRecursion (λ v. keep v ≡ true → test v ≡ false) ws → filter test (filter keep ws) ≡ []
filter_fails keep test [] all = refl
filter_fails keep test (w ∷ ws) all =
    elim (cases_Bool (keep w)) [
      | inl stays ↦ rw (stays, all.0 stays) (filter_fails keep test ws all.1)
      | inr goes ↦ rw goes (filter_fails keep test ws all.1)
    ]

-- ---- a window and those below it

none_has : (handle : ℕ) (w : Win) (ws : List Win) → number_of handle ws ≡ 0 → AllByRecursion (λ v. eqb v.handle handle ≡ true → v ≡ w) ws
none_has handle w [] none = tt
none_has handle w (v ∷ ws) none =
    elim (cases_Bool (eqb v.handle handle)) [
      | inl own ↦ let n : 1 + number_of handle ws ≡ 0 = rw own at none in absurd (omega (arith, n))
      | inr other ↦ let n : 0 + number_of handle ws ≡ 0 = rw other at none in (λ own. absurd (false≢true (sym other ∙ own)), none_has handle w ws (omega (arith, n)))
    ]

-- the window alone has its handle
only_one : (handle : ℕ) (w : Win) (ws : List Win) → number_of handle ws ≤ 1 → window_of ws handle ≡ Some w → AllByRecursion (λ v. eqb v.handle handle ≡ true → v ≡ w) ws
only_one handle w [] few found = tt
only_one handle w (v ∷ ws) few found =
    elim (cases_Bool (eqb v.handle handle)) [
      | inl own ↦
          let n : 1 + number_of handle ws ≤ 1 = rw own at few in
          (λ h. same_window v w (rw own at found), none_has handle w ws (omega (arith, n)))
      | inr other ↦
          let n : 0 + number_of handle ws ≤ 1 = rw other at few in
          (λ own. absurd (false≢true (sym other ∙ own)), only_one handle w ws (omega (arith, n)) (rw other at found))
    ]

family_fails : (all : List Win) (w : Win) (test : Win → Bool) (ws : List Win) → Fails all w test → AllByRecursion (λ v. eqb v.handle w.handle ≡ true → v ≡ w) ws → AllByRecursion (λ v. in_family all w.handle v ≡ true → test v ≡ false) ws
family_fails all w test [] fails only = tt
family_fails all w test (v ∷ ws) fails only = (
  λ h. elim (or_cases (eqb v.handle w.handle) (is_below all w.handle (place_of v)) h) [
    | inl own ↦ ap test (only.0 own) ∙ fails.0
    | inr below ↦ fails.1 v below
  ],
  family_fails all w test ws fails only.1,
)

not_false : (b : Bool) → not b ≡ false → b ≡ true
not_false true h = refl
not_false false h = absurd (false≢true (sym h))

others_fail : (family test : Win → Bool) (ws : List Win) → AllByRecursion (λ v. family v ≡ true → test v ≡ false) ws → AllByRecursion (λ v. not (family v) ≡ false → test v ≡ false) ws
others_fail family test [] all = tt
others_fail family test (v ∷ ws) all = (λ h. all.0 (not_false (family v) h), others_fail family test ws all.1)

not_true : (b : Bool) → b ≡ true → not b ≡ false
not_true b e = rw e refl

handle_of-found : (ws : List Win) (handle : ℕ) (u : Win) → window_of ws handle ≡ Some u → u.handle ≡ handle
handle_of-found [] handle u found = absurd (no_window_is u (sym found))
handle_of-found (w ∷ ws) handle u found =
    elim (cases_Bool (eqb w.handle handle)) [
      | inl own ↦ ap (λ (v : Win). v.handle) (sym (same_window w u (rw own at found))) ∙ eqb-true w.handle handle own
      | inr other ↦ handle_of-found ws handle u (rw other at found)
    ]

-- what is found in the family, but for its first, lies below
found_below : (ws : List Win) (w : Win) (handle : ℕ) (u : Win) → (handle ≡ w.handle → ⊥) → window_of ws handle ≡ Some u → in_family ws w.handle u ≡ true → LiesBelow ws w.handle handle
found_below ws w handle u differ found family q is =
    let same : place_of u ≡ q = same_place (place_of u) q (sym (ap (option_map place_of) found) ∙ is) in
    elim (or_cases (eqb u.handle w.handle) (is_below ws w.handle (place_of u)) family) [
      | inl own ↦ absurd (differ (sym (handle_of-found ws handle u found) ∙ eqb-true u.handle w.handle own))
      | inr below ↦ ap (is_below ws w.handle) (sym same) ∙ below
    ]

takes_other : (ws : List Win) (w : Win) (handle : ℕ) (o : Option Win) → AreSingle ws → (handle ≡ w.handle → ⊥) → window_of ws handle ≡ o
    → (place_at (filter (λ v. not (in_family ws w.handle v)) ws) handle ≡ place_at ws handle) ⊎ ((place_at (filter (λ v. not (in_family ws w.handle v)) ws) handle ≡ None) × LiesBelow ws w.handle handle)
takes_other ws w handle None single differ none = inl (ap (option_map place_of) (found_none (λ v. not (in_family ws w.handle v)) handle ws none ∙ sym none))
takes_other ws w handle (Some u) single differ found =
    let keep : Win → Bool = λ v. not (in_family ws w.handle v) in
    elim (cases_Bool (in_family ws w.handle u)) [
      | inl family ↦ inr (ap (option_map place_of) (found_dropped keep handle u ws (single handle) found (not_true (in_family ws w.handle u) family)), found_below ws w handle u differ found family)
      | inr other ↦ inl (ap (option_map place_of) (found_kept keep handle u ws found (ap not other) ∙ sym found))
    ]

own_family : (ws : List Win) (w : Win) → in_family ws w.handle w ≡ true
own_family ws w = or_left (eqb w.handle w.handle) (is_below ws w.handle (place_of w)) (eq-eqb w.handle w.handle refl)

pub TakesAway-filter : (ws : List Win) (w : Win) → AreSingle ws → window_of ws w.handle ≡ Some w → TakesAway ws (filter (λ v. not (in_family ws w.handle v)) ws) w
TakesAway-filter ws w single found =
    let keep : Win → Bool = λ v. not (in_family ws w.handle v) in
    record {
      known = ap (option_map place_of) found;
      gone = ap (option_map place_of) (found_dropped keep w.handle w ws (single w.handle) found (not_true (in_family ws w.handle w) (own_family ws w)));
      others = λ handle differ. takes_other ws w handle (window_of ws handle) single differ refl;
      rest = λ test fails. filter_kept keep test ws (others_fail (in_family ws w.handle) test ws (family_fails ws w test ws fails (only_one w.handle w ws (single w.handle) found)));
    }

-- ---- a window and those below it on top of all

found_first : (xs ys : List Win) (handle : ℕ) (u : Win) → window_of xs handle ≡ Some u → window_of (xs ++ ys) handle ≡ Some u
found_first [] ys handle u found = absurd (no_window_is u (sym found))
found_first (x ∷ xs) ys handle u found =
    elim (cases_Bool (eqb x.handle handle)) [
      | inl own ↦ rw own (rw own at found)
      | inr other ↦ rw other (found_first xs ys handle u (rw other at found))
    ]

found_then : (xs ys : List Win) (handle : ℕ) → window_of xs handle ≡ None → window_of (xs ++ ys) handle ≡ window_of ys handle
found_then [] ys handle none = refl
found_then (x ∷ xs) ys handle none =
    elim (cases_Bool (eqb x.handle handle)) [
      | inl own ↦ absurd (no_window_is x (rw own at none))
      | inr other ↦ rw other (found_then xs ys handle (rw other at none))
    ]

found_parted : (family : Win → Bool) (ws : List Win) (handle : ℕ) (o : Option Win) → AreSingle ws → window_of ws handle ≡ o → window_of (filter (λ v. not (family v)) ws ++ filter family ws) handle ≡ o
found_parted family ws handle None single none =
    found_then (filter (λ v. not (family v)) ws) (filter family ws) handle (found_none (λ v. not (family v)) handle ws none) ∙ found_none family handle ws none
found_parted family ws handle (Some u) single found =
    elim (cases_Bool (family u)) [
      | inl here ↦
          found_then (filter (λ v. not (family v)) ws) (filter family ws) handle (found_dropped (λ v. not (family v)) handle u ws (single handle) found (not_true (family u) here))
          ∙ found_kept family handle u ws found here
      | inr other ↦ found_first (filter (λ v. not (family v)) ws) (filter family ws) handle u (found_kept (λ v. not (family v)) handle u ws found (ap not other))
    ]

pub Reorders-top : (ws : List Win) (w : Win) → AreSingle ws → window_of ws w.handle ≡ Some w → Reorders ws (filter (λ v. not (in_family ws w.handle v)) ws ++ filter (in_family ws w.handle) ws) w
Reorders-top ws w single found =
    let family : Win → Bool = in_family ws w.handle in
    let rest = filter (λ v. not (family v)) ws in
    record {
      known = ap (option_map place_of) found;
      found = λ handle. ap (option_map place_of) (found_parted family ws handle (window_of ws handle) single refl);
      rest = λ test fails.
          let all = family_fails ws w test ws fails (only_one w.handle w ws (single w.handle) found) in
          filter-append test rest (filter family ws)
          ∙ ap (λ (vs : List Win). filter test rest ++ vs) (filter_fails family test ws all)
          ∙ append-nil (filter test rest)
          ∙ filter_kept (λ v. not (family v)) test ws (others_fail family test ws all);
    }
