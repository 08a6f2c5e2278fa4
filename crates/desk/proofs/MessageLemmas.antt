-- Values of windows, and messages: what they leave as it was, and that what is invalid changes nothing of what they do.
use Rattle.std.proofs.Common.{◌≡◌, ℕ, zero, suc, ◌≤◌, get_or, set, eqb, List, [], ◌∷◌, map, ℤ, Option, Some, None, refl, sym, ap, subst, ◌∙◌, inl, inr}
use Rattle.std.specs.Prelude.{slice_get, slice_set, option_map, unwrap_or}
use Rattle.std.specs.List.{AllByRecursion}
use Rattle.std.specs.Cmp.Lexicographic.{pointwise}
use Rattle.std.specs.Cmp.Rules.{signed_items}
use Rattle.std.specs.Ordering.{int_eq}
use Rattle.std.proofs.lemmas.Bool.{cases_Bool}
use Rattle.gfx_base.specs.declared.point.Point.{Point}
use Rattle.gfx_base.specs.declared.rect.Rect.{Rect}
use Rattle.paint_ops.specs.Kinds.{Assets}
use Rattle.scene.specs.declared.win.Win.{Win}
use Rattle.scene.specs.Places.{window_of, no_window}
use Rattle.scene.specs.Clips.{deepest_level, clip_in}
use Rattle.scene.specs.Looks.{looks_of}
use Rattle.scene.specs.Changes.{DamageCovers}
use Rattle.scene.specs.Families.{window_changed}
use Rattle.scene.specs.Stacks.{IsStack, AreGiven, desktop_screen}
use Rattle.scene.proofs.CallerLemmas.{bare, set_is_changed, DamageCovers-same, DamageCovers-then}
use Rattle.messages.specs.Reactions.{values_after}
use Rattle.messages.specs.Delivery.{with_values, rest_of, with_new_values, reactions_of, after_message, handed_on, lineage, delivered_along, delivered}
use Rattle.messages.proofs.CallerLemmas.{rest_of-with_new_values, revalued, kept_by_message, revalued_valid, damage_revalued}
use Rattle.desk.specs.Setups.{Setup}
use Rattle.desk.specs.Scenes.{HasClass, IsScene}
use Rattle.desk.specs.Windows.{with_value, with_message}
use Rattle.desk.proofs.FirstLemmas.{IsAt}
use Rattle.desk.proofs.SceneLemmas.{found_handle}
use Rattle.desk.proofs.IgnoreLemmas.{bare_invalidated}
use Rattle.desk.proofs.ShapeLemmas.{Keeps, window_of-map, changed-map}
use Rattle.desk.proofs.BareLemmas.{keeps_bare}

-- ---- what holds after a message holds since each window that is given values keeps it

some_keeps : (P : List Win → Type 0) (f : Win → List Win) (ws : List Win) (o : Option Win) → ((w : Win) → P (f w)) → P ws → P (unwrap_or (option_map f o) ws)
some_keeps P f ws None all here = here
some_keeps P f ws (Some w) all here = all w

pub message_keeps : (assets : Assets) (screen : Rect) (h message : ℕ) (argument : ℤ) (ws : List Win) (P : List Win → Type 0) → ((us : List Win) (k : ℕ) (values : Win → List ℤ) → P us → P (revalued screen k values us)) → P ws → P (with_message assets screen h message argument ws)
message_keeps assets screen h message argument ws P keeps here =
    some_keeps P (λ w. delivered assets screen message argument w ws) ws (window_of ws h) (λ w. kept_by_message assets screen message argument w ws P keeps here) here

-- ---- what stays of windows

rest_revalued : (screen : Rect) (h : ℕ) (values : Win → List ℤ) (ws : List Win) → map rest_of (revalued screen h values ws) ≡ map rest_of ws
rest_revalued screen h values ws = changed-map rest_of (λ w. with_new_values screen ws (values w) w) h ws (λ w. rest_of-with_new_values screen ws (values w) w)

pub rest_value : (screen : Rect) (h index : ℕ) (value : ℤ) (ws : List Win) → map rest_of (with_value screen h index value ws) ≡ map rest_of ws
rest_value screen h index value ws = rest_revalued screen h (λ w. slice_set w.values index value) ws

pub rest_message : (assets : Assets) (screen : Rect) (h message : ℕ) (argument : ℤ) (ws : List Win) → map rest_of (with_message assets screen h message argument ws) ≡ map rest_of ws
rest_message assets screen h message argument ws =
    message_keeps assets screen h message argument ws (λ us. map rest_of us ≡ map rest_of ws) (λ us k values same. rest_revalued screen k values us ∙ same) refl

pub value_valid : (screen : Rect) (h index : ℕ) (value : ℤ) (ws : List Win) → IsStack ws → IsStack (with_value screen h index value ws)
value_valid screen h index value ws stack = revalued_valid screen h (λ w. slice_set w.values index value) ws stack

pub message_valid : (assets : Assets) (screen : Rect) (h message : ℕ) (argument : ℤ) (ws : List Win) → IsStack ws → IsStack (with_message assets screen h message argument ws)
message_valid assets screen h message argument ws stack = message_keeps assets screen h message argument ws (λ us. IsStack us) (λ us k values valid. revalued_valid screen k values us valid) stack

-- ---- scenes

record Skips (P : Win → Type 0) : Type 0 where
  more : (w : Win) → P w → P (rest_of w)
  less : (w : Win) → P (rest_of w) → P w

all_more : (P : Win → Type 0) (ws : List Win) → Skips P → AllByRecursion P ws → AllByRecursion P (map rest_of ws)
all_more P [] s all = tt
all_more P (w ∷ ws) s all = (s.more w all.0, all_more P ws s all.1)

all_less : (P : Win → Type 0) (ws : List Win) → Skips P → AllByRecursion P (map rest_of ws) → AllByRecursion P ws
all_less P [] s all = tt
all_less P (w ∷ ws) s all = (s.less w all.0, all_less P ws s all.1)

all_rest : (P : Win → Type 0) (ws vs : List Win) → Skips P → map rest_of vs ≡ map rest_of ws → AllByRecursion P ws → AllByRecursion P vs
all_rest P ws vs s e all = all_less P vs s (subst (AllByRecursion P) (sym e) (all_more P ws s all))

pub given_rest : (handles : ℕ) (ws vs : List Win) → map rest_of vs ≡ map rest_of ws → AreGiven handles ws → AreGiven handles vs
given_rest handles ws vs e given = all_rest (λ w. w.handle ≤ handles) ws vs (record { more = λ w is. is; less = λ w is. is }) e given

screen-rest : (ws : List Win) → desktop_screen (map rest_of ws) ≡ desktop_screen ws
screen-rest [] = refl
screen-rest (w ∷ ws) = refl

pub scene_rest : (setup : Setup) (ws vs : List Win) (handles : ℕ) → map rest_of vs ≡ map rest_of ws → IsStack vs → IsScene setup ws handles → IsScene setup vs handles
scene_rest setup ws vs handles e stack s = record {
  stack = stack;
  given = given_rest handles ws vs e s.given;
  screen = sym (screen-rest vs) ∙ ap desktop_screen e ∙ screen-rest ws ∙ s.screen;
  classes = all_rest (HasClass setup) ws vs (record { more = λ w is. is; less = λ w is. is }) e s.classes;
}

-- ---- the damage

pub value_covers : (assets : Assets) (screen : Rect) (h index : ℕ) (value : ℤ) (ws : List Win) (p : Point) → DamageCovers (looks_of assets screen ws) ws (looks_of assets screen (with_value screen h index value ws)) (with_value screen h index value ws) p
value_covers assets screen h index value ws p = damage_revalued assets screen h (λ w. slice_set w.values index value) ws p

pub message_covers : (assets : Assets) (screen : Rect) (h message : ℕ) (argument : ℤ) (ws : List Win) (p : Point)
    → DamageCovers (looks_of assets screen ws) ws (looks_of assets screen (with_message assets screen h message argument ws)) (with_message assets screen h message argument ws) p
message_covers assets screen h message argument ws p =
    message_keeps assets screen h message argument ws (λ us. DamageCovers (looks_of assets screen ws) ws (looks_of assets screen us) us p)
    (λ us k values so_far. DamageCovers-then (looks_of assets screen ws) ws (looks_of assets screen us) us (looks_of assets screen (revalued screen k values us)) (revalued screen k values us) p so_far (damage_revalued assets screen k values us p)) (DamageCovers-same (looks_of assets screen ws) ws p)

-- ---- whatever is invalid

pub changed_both : (f change other : Win → Win) (k : Keeps f) (h : ℕ) (ws : List Win) → ((w : Win) → f (change w) ≡ other (f w)) → map f (window_changed h change ws) ≡ window_changed h other (map f ws)
unfolding window_changed
changed_both f change other k h [] same = refl
changed_both f change other k h (w ∷ ws) same =
    let test : eqb (f w).handle h ≡ eqb w.handle h = ap (λ (n : ℕ). eqb n h) (k.handle w) in
    elim (cases_Bool (eqb w.handle h)) [
      | inl at ↦ rw (test, at, same w, changed_both f change other k h ws same) refl
      | inr off ↦ rw (test, off, changed_both f change other k h ws same) refl
    ]

bare_new_values : (screen : Rect) (us : List Win) (values : List ℤ) (w : Win) → bare (with_new_values screen us values w) ≡ with_values values (bare w)
bare_new_values screen us values w =
    elim (cases_Bool (pointwise int_eq w.values values)) [
      | inl same ↦ rw same (ap (λ (vs : List ℤ). with_values vs (bare w)) ((signed_items w.values values).0 same))
      | inr other ↦ rw other (bare_invalidated (clip_in screen us (with_values values w)) (clip_in screen us (with_values values w)) (with_values values w))
    ]

-- a value of a window alone
abbrev pub revalued_at : ℕ → ℕ → ℤ → List Win → List Win
revalued_at h index value us = window_changed h (λ w. with_values (slice_set w.values index value) w) us

pub bare_value : (screen : Rect) (h index : ℕ) (value : ℤ) (ws : List Win) → map bare (with_value screen h index value ws) ≡ revalued_at h index value (map bare ws)
bare_value screen h index value ws =
    changed_both bare (λ w. with_new_values screen ws (slice_set w.values index value) w) (λ w. with_values (slice_set w.values index value) w) keeps_bare h ws (λ w. bare_new_values screen ws (slice_set w.values index value) w)

-- what a message makes of the values of a lineage
abbrev pub plain_after : Assets → ℕ → ℤ → Win → Win
plain_after assets message argument w = with_values (values_after argument (reactions_of assets message w) w.values) w

abbrev pub plain_along : Assets → ℕ → ℤ → List Win → List Win → List Win
plain_along assets message argument [] us = us
plain_along assets message argument (w ∷ above) us =
    let now = window_changed w.handle (plain_after assets message argument) us in
    unwrap_or (option_map (λ up. plain_along assets up argument above now) (handed_on assets message w)) now

abbrev pub plainly_sent : Assets → ℕ → ℕ → ℤ → List Win → List Win
plainly_sent assets h message argument us = unwrap_or (option_map (λ w. plain_along assets message argument (lineage deepest_level us w) us) (window_of us h)) us

bare_along : (assets : Assets) (screen : Rect) (message : ℕ) (argument : ℤ) (path ws : List Win) → map bare (delivered_along assets screen message argument path ws) ≡ plain_along assets message argument (map bare path) (map bare ws)
bare_along assets screen message argument [] ws = refl
bare_along assets screen message argument (w ∷ path) ws =
    let now : List Win = window_changed w.handle (after_message assets screen ws message argument) ws in
    let here : map bare now ≡ window_changed w.handle (plain_after assets message argument) (map bare ws) =
    changed_both bare (after_message assets screen ws message argument) (plain_after assets message argument) keeps_bare w.handle ws (λ v. bare_new_values screen ws (values_after argument (reactions_of assets message v) v.values) v) in
    on_up (handed_on assets message w) now (window_changed w.handle (plain_after assets message argument) (map bare ws)) here (λ up. bare_along assets screen up argument path now)
  where
    on_up : (o : Option ℕ) (now plain : List Win) → map bare now ≡ plain → ((up : ℕ) → map bare (delivered_along assets screen up argument path now) ≡ plain_along assets up argument (map bare path) (map bare now))
        → map bare (unwrap_or (option_map (λ up. delivered_along assets screen up argument path now) o) now) ≡ unwrap_or (option_map (λ up. plain_along assets up argument (map bare path) plain) o) plain
    on_up None now plain here later = here
    on_up (Some up) now plain here later = later up ∙ ap (plain_along assets up argument (map bare path)) here

lineage_bare : (levels : ℕ) (ws : List Win) (w : Win) → map bare (lineage levels ws w) ≡ lineage levels (map bare ws) (bare w)
lineage_bare zero ws w = refl
lineage_bare (suc levels) ws w =
    ap (λ (vs : List Win). bare w ∷ vs)
    (above (window_of ws w.parent) (λ v. lineage_bare levels ws v) ∙ ap (λ (o : Option Win). unwrap_or (option_map (lineage levels (map bare ws)) o) []) (sym (window_of-map bare keeps_bare ws w.parent)))
  where
    above : (o : Option Win) → ((v : Win) → map bare (lineage levels ws v) ≡ lineage levels (map bare ws) (bare v)) → map bare (unwrap_or (option_map (lineage levels ws) o) []) ≡ unwrap_or (option_map (lineage levels (map bare ws)) (option_map bare o)) []
    above None later = refl
    above (Some v) later = later v

delivered_bare : (assets : Assets) (screen : Rect) (message : ℕ) (argument : ℤ) (w : Win) (ws : List Win) → map bare (delivered assets screen message argument w ws) ≡ plain_along assets message argument (lineage deepest_level (map bare ws) (bare w)) (map bare ws)
unfolding delivered
delivered_bare assets screen message argument w ws =
    bare_along assets screen message argument (lineage deepest_level ws w) ws ∙ ap (λ (path : List Win). plain_along assets message argument path (map bare ws)) (lineage_bare deepest_level ws w)

pub bare_message : (assets : Assets) (screen : Rect) (h message : ℕ) (argument : ℤ) (ws : List Win) → map bare (with_message assets screen h message argument ws) ≡ plainly_sent assets h message argument (map bare ws)
bare_message assets screen h message argument ws =
    by_window (window_of ws h)
    ∙ ap (λ (o : Option Win). unwrap_or (option_map (λ w. plain_along assets message argument (lineage deepest_level (map bare ws) w) (map bare ws)) o) (map bare ws)) (sym (window_of-map bare keeps_bare ws h))
  where
    by_window : (o : Option Win) → map bare (unwrap_or (option_map (λ w. delivered assets screen message argument w ws) o) ws) ≡ unwrap_or (option_map (λ w. plain_along assets message argument (lineage deepest_level (map bare ws) w) (map bare ws)) (option_map bare o)) (map bare ws)
    by_window None = refl
    by_window (Some w) = delivered_bare assets screen message argument w ws

-- ---- the list of the windows after a call

-- the values of the window at a place, with one of them another number
pub values_are : (index at : ℕ) (value z : ℤ) (ws us : List Win) (values : List ℤ) → z ≡ value → us ≡ ws → values ≡ slice_set (get_or us at no_window).values index z → values ≡ slice_set (get_or ws at no_window).values index value
values_are index at value z ws us values same is so = so ∙ ap (λ (vs : List Win). slice_set (get_or vs at no_window).values index z) is ∙ ap (slice_set (get_or ws at no_window).values index) same

pub value_is : (screen : Rect) (h index at : ℕ) (value : ℤ) (values : List ℤ) (ws new : List Win) → IsStack ws → values ≡ slice_set (get_or ws at no_window).values index value → IsAt ws h at (get_or ws at no_window) → ((w : Win) → slice_get ws at ≡ Some w → new ≡ set ws at (with_new_values screen ws values w)) → new ≡ with_value screen h index value ws
value_is screen h index at value values ws new stack same is now =
    let w = get_or ws at no_window in
    let f : Win → Win = λ v. with_new_values screen ws (slice_set v.values index value) v in
    now w is.place
    ∙ ap (λ (vs : List ℤ). set ws at (with_new_values screen ws vs w)) same
    ∙ set_is_changed ws at w f stack.single is.place
    ∙ ap (λ (n : ℕ). window_changed n f ws) (found_handle ws h w is.live)

pub message_is : (assets : Assets) (screen : Rect) (h message at : ℕ) (argument z : ℤ) (ws new : List Win) → z ≡ argument → IsAt ws h at (get_or ws at no_window) → ((w : Win) → slice_get ws at ≡ Some w → new ≡ delivered assets screen message z w ws) → new ≡ with_message assets screen h message argument ws
message_is assets screen h message at argument z ws new same is now =
    now (get_or ws at no_window) is.place ∙ ap (λ (o : Option Win). unwrap_or (option_map (λ w. delivered assets screen message z w ws) o) ws) (sym is.live) ∙ ap (λ (y : ℤ). with_message assets screen h message y ws) same
