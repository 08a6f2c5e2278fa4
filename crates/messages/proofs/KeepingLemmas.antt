-- What holds of windows after a message, since each window that is given values keeps it.
use Rattle.std.proofs.Common.{◌≡◌, ℕ, cond, eqb, List, [], ◌∷◌, ◌++◌, map, ℤ, Option, Some, None, refl, sym, ap, subst, ◌∙◌, inl, inr}
use Rattle.std.specs.Prelude.{option_map, unwrap_or}
use Rattle.std.proofs.lemmas.Bool.{cases_Bool, eqb-true}
use Rattle.std.proofs.lemmas.List.Sums.{fold-append}
use Rattle.gfx_base.specs.declared.rect.Rect.{Rect}
use Rattle.paint_ops.specs.Kinds.{Assets}
use Rattle.scene.specs.declared.win.Win.{Win}
use Rattle.scene.specs.Places.{place_of, window_of, AreSingle}
use Rattle.scene.specs.Clips.{deepest_level}
use Rattle.scene.specs.Families.{window_changed}
use Rattle.scene.proofs.CallerLemmas.{AreSingle-same, AreFound, all_found}
use Rattle.messages.specs.Reactions.{values_after}
use Rattle.messages.specs.Delivery.{rest_of, with_new_values, reactions_of, after_message, handed_on, lineage, delivered_along, delivered}
use Rattle.messages.specs.Puts.{Put, after_put, after_puts}
use Rattle.messages.proofs.WindowLemmas.{place-with_new_values, rest_of-with_new_values}

-- ---- values that depend on the window

-- the windows once each of a handle has values that may depend on it
abbrev pub revalued : Rect → ℕ → (Win → List ℤ) → List Win → List Win
revalued screen h values us = window_changed h (λ w. with_new_values screen us (values w) w) us

by_up : (P : List Win → Type 0) (f : ℕ → List Win) (now : List Win) → ((up : ℕ) → P (f up)) → P now → (o : Option ℕ) → P (unwrap_or (option_map f o) now)
by_up P f now all here None = here
by_up P f now all here (Some up) = all up

pub kept_along : (assets : Assets) (screen : Rect) (message : ℕ) (argument : ℤ) (P : List Win → Type 0) → ((us : List Win) (h : ℕ) (values : Win → List ℤ) → P us → P (revalued screen h values us))
    → (path ws : List Win) → P ws → P (delivered_along assets screen message argument path ws)
kept_along assets screen message argument P keeps [] ws start = start
kept_along assets screen message argument P keeps (w ∷ path) ws start =
    let now = window_changed w.handle (after_message assets screen ws message argument) ws in
    let here : P now = keeps ws w.handle (λ v. values_after argument (reactions_of assets message v) v.values) start in
    by_up P (λ up. delivered_along assets screen up argument path now) now (λ up. kept_along assets screen up argument P keeps path now here) here (handed_on assets message w)

-- ---- what stays of each window

same_changed : {X : Type 0} (of : Win → X) (h : ℕ) (f : Win → Win) (ws : List Win) → ((w : Win) → of (f w) ≡ of w) → map of (window_changed h f ws) ≡ map of ws
unfolding window_changed
same_changed of h f [] same = refl
same_changed of h f (w ∷ ws) same =
    elim (cases_Bool (eqb w.handle h)) [
      | inl e ↦ rw (e, same w, same_changed of h f ws same) refl
      | inr e ↦ rw (e, same_changed of h f ws same) refl
    ]

pub same_along : {X : Type 0} (of : Win → X) (assets : Assets) (screen : Rect) (message : ℕ) (argument : ℤ) (path ws : List Win) → ((us : List Win) (values : List ℤ) (w : Win) → of (with_new_values screen us values w) ≡ of w)
    → map of (delivered_along assets screen message argument path ws) ≡ map of ws
same_along of assets screen message argument path ws same =
    let P : List Win → Type 0 = λ us. map of us ≡ map of ws in
    kept_along assets screen message argument P (λ us h values before. same_changed of h (λ w. with_new_values screen us (values w) w) us (λ w. same us (values w) w) ∙ before) path ws refl

pub places_revalued : (screen : Rect) (h : ℕ) (values : Win → List ℤ) (us : List Win) → map place_of (revalued screen h values us) ≡ map place_of us
places_revalued screen h values us = same_changed place_of h (λ w. with_new_values screen us (values w) w) us (λ w. place-with_new_values screen us (values w) w)

pub places_along : (assets : Assets) (screen : Rect) (message : ℕ) (argument : ℤ) (path ws : List Win) → map place_of (delivered_along assets screen message argument path ws) ≡ map place_of ws
places_along assets screen message argument path ws = same_along place_of assets screen message argument path ws (λ us values w. place-with_new_values screen us values w)

pub rests_along : (assets : Assets) (screen : Rect) (message : ℕ) (argument : ℤ) (path ws : List Win) → map rest_of (delivered_along assets screen message argument path ws) ≡ map rest_of ws
rests_along assets screen message argument path ws = same_along rest_of assets screen message argument path ws (λ us values w. rest_of-with_new_values screen us values w)

-- ---- values for one window

changed_none : (h : ℕ) (f : Win → Win) (ws : List Win) → window_of ws h ≡ None → window_changed h f ws ≡ ws
unfolding window_changed
changed_none h f [] none = refl
changed_none h f (w ∷ ws) none =
    elim (cases_Bool (eqb w.handle h)) [
      | inl e ↦ absurd (let bad : Some w ≡ None = rw e at none in cc)
      | inr e ↦ rw (e, changed_none h f ws (rw e at none)) refl
    ]

handle_found : (ws : List Win) (h : ℕ) (w : Win) → window_of ws h ≡ Some w → w.handle ≡ h
handle_found [] h w e = absurd cc
handle_found (v ∷ ws) h w e =
    elim (cases_Bool (eqb v.handle h)) [
      | inl at ↦ let is : Some v ≡ Some w = rw at at e in let same : v ≡ w = cc in ap (λ (u : Win). u.handle) (sym same) ∙ eqb-true v.handle h at
      | inr off ↦ handle_found ws h w (rw off at e)
    ]

changed_alike : (h : ℕ) (f g : Win → Win) (ws us : List Win) (w : Win) → AreFound ws us → window_of ws h ≡ Some w → f w ≡ g w → window_changed h f us ≡ window_changed h g us
unfolding window_changed
changed_alike h f g ws [] w all is same = refl
changed_alike h f g ws (v ∷ us) w all is same =
    let later = changed_alike h f g ws us w all.1 is same in
    elim (cases_Bool (eqb v.handle h)) [
      | inl e ↦
          let mine : Some v ≡ Some w = sym all.0 ∙ ap (window_of ws) (eqb-true v.handle h e) ∙ is in
          let one : v ≡ w = cc in
          rw (e, later) (ap (λ u. u ∷ map (λ x. cond (eqb x.handle h) (g x) x) us) (ap f one ∙ same ∙ ap g (sym one)))
      | inr e ↦ rw (e, later) refl
    ]

-- what is kept where the window that is found has other values
one_kept : (screen : Rect) (P : List Win → Type 0) → ((us : List Win) (w : Win) (values : List ℤ) → window_of us w.handle ≡ Some w → P us → P (after_put screen us (record { handle = w.handle; values = values })))
    → (us : List Win) (h : ℕ) (values : Win → List ℤ) → AreSingle us → P us → (o : Option Win) → window_of us h ≡ o → P (revalued screen h values us)
one_kept screen P keeps us h values single here None e = subst P (sym (changed_none h (λ w. with_new_values screen us (values w) w) us e)) here
one_kept screen P keeps us h values single here (Some w) e =
    let handle = handle_found us h w e in
    let f : Win → Win = λ v. with_new_values screen us (values v) v in
    let g : Win → Win = λ v. with_new_values screen us (values w) v in
    let is : window_changed w.handle g us ≡ window_changed h f us = ap (λ k. window_changed k g us) handle ∙ sym (changed_alike h f g us us w (all_found us single) e refl) in
    subst P is (keeps us w (values w) (ap (window_of us) handle ∙ e) here)

-- What holds of the windows holds after a message, if it is kept wherever a window that its handle finds is given values.
pub kept_by_puts : (assets : Assets) (screen : Rect) (message : ℕ) (argument : ℤ) (P : List Win → Type 0)
    → ((us : List Win) (w : Win) (values : List ℤ) → window_of us w.handle ≡ Some w → P us → P (after_put screen us (record { handle = w.handle; values = values })))
    → (path ws : List Win) → AreSingle ws → P ws → P (delivered_along assets screen message argument path ws)
kept_by_puts assets screen message argument P keeps path ws single start =
    let Q : List Win → Type 0 = λ us. AreSingle us × P us in
    let both : Q (delivered_along assets screen message argument path ws) = kept_along assets screen message argument Q
    (λ us h values s. (AreSingle-same (revalued screen h values us) us (places_revalued screen h values us) s.0, one_kept screen P keeps us h values s.0 s.1 (window_of us h) refl))
    path ws (single, start) in
    both.1

pub puts_along : (assets : Assets) (screen : Rect) (message : ℕ) (argument : ℤ) (path ws : List Win) → AreSingle ws → (puts : List Put) × (delivered_along assets screen message argument path ws ≡ after_puts screen puts ws)
puts_along assets screen message argument path ws single =
    let P : List Win → Type 0 = λ us. (puts : List Put) × (us ≡ after_puts screen puts ws) in
    kept_by_puts assets screen message argument P
    (λ us w values found so.
    let put : Put = record { handle = w.handle; values = values } in
    (so.0 ++ put ∷ [], ap (λ vs. after_put screen vs put) so.1 ∙ sym (fold-append (after_put screen) ws so.0 (put ∷ []))))
    path ws single ([], refl)

-- ---- after a message

-- what is kept wherever the windows of a handle have values that may depend on the window
pub kept_by_message : (assets : Assets) (screen : Rect) (message : ℕ) (argument : ℤ) (w : Win) (ws : List Win) (P : List Win → Type 0)
    → ((us : List Win) (h : ℕ) (values : Win → List ℤ) → P us → P (revalued screen h values us))
    → P ws → P (delivered assets screen message argument w ws)
unfolding delivered
kept_by_message assets screen message argument w ws P keeps start = kept_along assets screen message argument P keeps (lineage deepest_level ws w) ws start

-- what is kept wherever a window that its handle finds has values
pub kept_by_message_of : (assets : Assets) (screen : Rect) (message : ℕ) (argument : ℤ) (w : Win) (ws : List Win) (P : List Win → Type 0)
    → ((us : List Win) (v : Win) (values : List ℤ) → window_of us v.handle ≡ Some v → P us → P (after_put screen us (record { handle = v.handle; values = values })))
    → AreSingle ws → P ws → P (delivered assets screen message argument w ws)
unfolding delivered
kept_by_message_of assets screen message argument w ws P keeps single start = kept_by_puts assets screen message argument P keeps (lineage deepest_level ws w) ws single start
