-- Windows that are given values.
use Rattle.std.proofs.Common.{◌≡◌, ℕ, zero, suc, ◌≤◌, length, Bool, true, false, cond, List, [], ◌∷◌, map, set, get_or, ℤ, Option, Some, None, refl, sym, ap, ◌∙◌}
use Rattle.std.specs.Prelude.{slice_get}
use Rattle.std.specs.Cmp.Lexicographic.{pointwise}
use Rattle.std.specs.Cmp.Rules.{signed_items}
use Rattle.std.specs.Ordering.{int_eq}
use Rattle.std.proofs.lemmas.Bool.{false_from_ne_true}
use Rattle.std.proofs.lemmas.List.{set-get_or, get_or_past}
use Rattle.std.proofs.lemmas.Option.{get_or_from_slice_get}
use Rattle.gfx_base.specs.declared.rect.Rect.{Rect}
use Rattle.gfx_base.specs.Rects.{is_empty, meet}
use Rattle.paint_ops.specs.declared.class.Reaction.{Reaction}
use Rattle.paint_ops.specs.Kinds.{Class, Assets}
use Rattle.scene.specs.declared.win.Win.{Win}
use Rattle.scene.specs.Places.{Place, place_of, place_at}
use Rattle.scene.specs.Clips.{deepest_level, clip_of}
use Rattle.scene.specs.Looks.{class_of, no_class}
use Rattle.scene.specs.Damage.{grown, with_invalid, invalidated}
use Rattle.scene.proofs.CallerLemmas.{place_at-same}
use Rattle.invalidate.specs.Invalidation.{wholly_invalidated}
use Rattle.messages.specs.Reactions.{reactions_to, values_after, first_up}
use Rattle.messages.specs.Delivery.{with_values, rest_of, with_new_values, after_message, handed_on}

-- ---- what stays of a window

by_test : (b : Bool) (w v : Win) (P : Win → Type 0) → P w → P v → P (cond b w v)
by_test true w v P p q = p
by_test false w v P p q = q

-- what each window has that differs at most in values and invalid rectangle
pub kept : (screen : Rect) (ws : List Win) (values : List ℤ) (w : Win) (P : Win → Type 0) → P w → P (with_values values w) → ((r : Option Rect) → P (with_invalid (with_values values w) r)) → P (with_new_values screen ws values w)
kept screen ws values w P p q r =
    let v = with_values values w in
    let clip = clip_of deepest_level screen (place_at ws) (place_of v) in
    by_test (pointwise int_eq w.values values) w (wholly_invalidated screen ws v) P p
    (by_test (is_empty (meet clip clip)) v (with_invalid v (Some (grown v.invalid (meet clip clip)))) P q (r (Some (grown v.invalid (meet clip clip)))))

pub place-with_new_values : (screen : Rect) (ws : List Win) (values : List ℤ) (w : Win) → place_of (with_new_values screen ws values w) ≡ place_of w
place-with_new_values screen ws values w = let P : Win → Type 0 = λ v. place_of v ≡ place_of w in kept screen ws values w P refl refl (λ r. refl)

pub class-with_new_values : (screen : Rect) (ws : List Win) (values : List ℤ) (w : Win) → (with_new_values screen ws values w).class ≡ w.class
class-with_new_values screen ws values w = let P : Win → Type 0 = λ v. v.class ≡ w.class in kept screen ws values w P refl refl (λ r. refl)

pub rest_of-with_new_values : (screen : Rect) (ws : List Win) (values : List ℤ) (w : Win) → rest_of (with_new_values screen ws values w) ≡ rest_of w
rest_of-with_new_values screen ws values w = let P : Win → Type 0 = λ v. rest_of v ≡ rest_of w in kept screen ws values w P refl refl (λ r. refl)

-- ---- a window in its place

itself : (ws : List Win) (i : ℕ) (w : Win) → slice_get ws i ≡ Some w → set ws i w ≡ ws
itself ws i w at = ap (set ws i) (sym (get_or_from_slice_get ws i w w at)) ∙ set-get_or ws i w

pub places-set : (ws : List Win) (i : ℕ) (w v : Win) → slice_get ws i ≡ Some w → place_of v ≡ place_of w → map place_of (set ws i v) ≡ map place_of ws
places-set [] i w v at same = refl
places-set (u ∷ ws) zero w v at same = let is : u ≡ w = cc in ap (λ q. q ∷ map place_of ws) (same ∙ ap place_of (sym is))
places-set (u ∷ ws) (suc i) w v at same = ap (λ qs. place_of u ∷ qs) (places-set ws i w v at same)

pub get-set : (ws : List Win) (i : ℕ) (w v : Win) → slice_get ws i ≡ Some w → slice_get (set ws i v) i ≡ Some v
get-set [] i w v at = absurd cc
get-set (u ∷ ws) zero w v at = refl
get-set (u ∷ ws) (suc i) w v at = get-set ws i w v at

set-twice : (ws : List Win) (i : ℕ) (v u : Win) → set (set ws i v) i u ≡ set ws i u
set-twice [] i v u = refl
set-twice (w ∷ ws) zero v u = refl
set-twice (w ∷ ws) (suc i) v u = ap (λ us. w ∷ us) (set-twice ws i v u)

pub wholly-same : (screen : Rect) (us ws : List Win) (v : Win) → map place_of us ≡ map place_of ws → wholly_invalidated screen us v ≡ wholly_invalidated screen ws v
wholly-same screen us ws v places =
    ap (λ (found : ℕ → Option Place). let clip = clip_of deepest_level screen found (place_of v) in invalidated clip clip v) (place_at-same us ws places)

-- ---- values put in the place of a window

pub put_same : (screen : Rect) (ws : List Win) (i : ℕ) (w d : Win) (values : List ℤ) → slice_get ws i ≡ Some w → pointwise int_eq (get_or ws i d).values values ≡ true → ws ≡ set ws i (with_new_values screen ws values w)
put_same screen ws i w d values at e =
    let is : pointwise int_eq w.values values ≡ true = ap (λ (v : Win). pointwise int_eq v.values values) (sym (get_or_from_slice_get ws i w d at)) ∙ e in
    rw is (sym (itself ws i w at))

pub put_other : (screen : Rect) (ws : List Win) (i : ℕ) (w d : Win) (values : List ℤ) → slice_get ws i ≡ Some w → pointwise int_eq (get_or ws i d).values values ≡ false
    → let us = set ws i (with_values values (get_or ws i d)) in
    (us' : List Win) → ((v : Win) → slice_get us i ≡ Some v → us' ≡ set us i (wholly_invalidated screen us v)) → us' ≡ set ws i (with_new_values screen ws values w)
put_other screen ws i w d values at e us' is =
    let same = get_or_from_slice_get ws i w d at in
    let us = set ws i (with_values values (get_or ws i d)) in
    let v = with_values values w in
    let so : us ≡ set ws i v = ap (λ u. set ws i (with_values values u)) same in
    let off : pointwise int_eq w.values values ≡ false = ap (λ (u : Win). pointwise int_eq u.values values) (sym same) ∙ e in
    let there : slice_get us i ≡ Some v = ap (λ xs. slice_get xs i) so ∙ get-set ws i w v at in
    let places = places-set ws i w v at refl in
    is v there
    ∙ ap (λ xs. set xs i (wholly_invalidated screen xs v)) so
    ∙ set-twice ws i v (wholly_invalidated screen (set ws i v) v)
    ∙ ap (set ws i) (wholly-same screen (set ws i v) ws v places)
    ∙ rw off refl

-- ---- one window's reactions

same_values : (vs : List ℤ) → pointwise int_eq vs vs ≡ true
same_values vs = (signed_items vs vs).1 refl

pub itself_given : (screen : Rect) (ws : List Win) (w : Win) → with_new_values screen ws w.values w ≡ w
itself_given screen ws w = rw (same_values w.values) refl

pub differ : (vs us : List ℤ) → (vs ≡ us → ⊥) → pointwise int_eq vs us ≡ false
differ vs us other = false_from_ne_true (pointwise int_eq vs us) (λ e. other ((signed_items vs us).0 e))

-- the class that a look-up by a window's number finds
found_class : (classes all : List Class) (ws : List Win) (i n : ℕ) (w d : Win) → slice_get ws i ≡ Some w → n ≡ (get_or ws i d).class → classes ≡ all → get_or classes n no_class ≡ get_or all w.class no_class
found_class classes all ws i n w d at number is =
    ap (λ k. get_or classes k no_class) (number ∙ ap (λ (v : Win). v.class) (get_or_from_slice_get ws i w d at))
    ∙ ap (λ ks. get_or ks w.class no_class) is

pub class_is : (assets : Assets) (classes : List Class) (ws : List Win) (i n : ℕ) (w d : Win) → slice_get ws i ≡ Some w → n ≡ (get_or ws i d).class → classes ≡ assets.classes → get_or classes n no_class ≡ class_of assets w
class_is assets classes ws i n w d at number is = found_class classes assets.classes ws i n w d at number is

pub no_class_there : (assets : Assets) (classes : List Class) (ws : List Win) (i n : ℕ) (w d : Win) → slice_get ws i ≡ Some w → n ≡ (get_or ws i d).class → classes ≡ assets.classes → length classes ≤ n → class_of assets w ≡ no_class
no_class_there assets classes ws i n w d at number is past =
    sym (class_is assets classes ws i n w d at number is) ∙ get_or_past classes n no_class past

-- a window without reactions stays as it was
pub no_reactions : (assets : Assets) (screen : Rect) (ws : List Win) (i message : ℕ) (argument : ℤ) (w : Win) → slice_get ws i ≡ Some w → class_of assets w ≡ no_class → ws ≡ set ws i (after_message assets screen ws message argument w)
no_reactions assets screen ws i message argument w at none =
    let F : Class → List Win = λ k. set ws i (with_new_values screen ws (values_after argument (reactions_to message k.reactions) w.values) w) in
    let stays : F no_class ≡ ws = rw (same_values w.values) (itself ws i w at) in
    sym (ap F none ∙ stays)

pub nothing_handed_on : (assets : Assets) (message : ℕ) (w : Win) → class_of assets w ≡ no_class → None ≡ handed_on assets message w
nothing_handed_on assets message w none = sym (ap (λ (k : Class). first_up (reactions_to message k.reactions)) none)

pub reacted_so : (assets : Assets) (screen : Rect) (ws : List Win) (i message : ℕ) (argument z : ℤ) (w d : Win) (values : List ℤ) (reactions : List Reaction)
    → slice_get ws i ≡ Some w → z ≡ argument → reactions ≡ (class_of assets w).reactions → values ≡ values_after z (reactions_to message reactions) (get_or ws i d).values
    → with_new_values screen ws values w ≡ after_message assets screen ws message argument w
reacted_so assets screen ws i message argument z w d values reactions at same is by =
    ap (λ vs. with_new_values screen ws vs w)
    (by
    ∙ ap (λ (v : Win). values_after z (reactions_to message reactions) v.values) (get_or_from_slice_get ws i w d at)
    ∙ ap (λ a. values_after a (reactions_to message reactions) w.values) same
    ∙ ap (λ rs. values_after argument (reactions_to message rs) w.values) is)
