-- What the painter's picture looks at, and the calls that change nothing of it.
use Rattle.std.proofs.Common.{◌≡◌, ℕ, ℤ, ◌+◌, zero, suc, pos, Bool, true, false, cond, List, [], ◌∷◌, length, map, Option, Some, None, refl, sym, ap, subst, ◌∙◌, inl, inr}
use Rattle.std.specs.List.{list_any}
use Rattle.std.proofs.Math.Path.{fun_ext}
use Rattle.std.proofs.lemmas.Bool.{cases_Bool}
use Rattle.gfx_base.specs.declared.rect.Rect.{Rect}
use Rattle.gfx_base.specs.Rects.{point_at}
use Rattle.frame.specs.Pictures.{picture_of}
use Rattle.scene.specs.declared.win.Win.{Win}
use Rattle.scene.specs.Clips.{clip_in}
use Rattle.scene.specs.Families.{new_window, on_top_of, window_changed}
use Rattle.scene.proofs.CallerLemmas.{bare, bare-area, painted-same}
use Rattle.calls.specs.declared.call.Call.{Call}
use Rattle.calls.specs.declared.call.Call.TheVariants.{Begin, End, Create, Delete, MoveTo, MoveBy, Resize, Show, Hide, ToTop, ToBottom, SetClass, Invalidate, InvalidateRect, InvalidateArea, Exec, Exec1, Scan, SetTrans, SetMemdev, SetValue, Send, Select, Colour, BkColour, TextMode, Font, Save, Restore, Fill, Frame, Line, Bitmap, Text, DevCreate, DevDelete, DevSelect, DevCopy}
use Rattle.calls.specs.declared.entry.Entry.{Entry}
use Rattle.calls.specs.declared.entry.Entry.TheVariants as entry
use Rattle.calls.specs.declared.reply.Reply.{Reply}
use Rattle.calls.specs.declared.reply.Reply.TheVariants.{Done, Refused}
use Rattle.calls.specs.declared.reply.Refusal.{Refusal}
use Rattle.desk.specs.declared.changes.Change.{Change}
use Rattle.desk.specs.declared.changes.Change.TheVariants as change
use Rattle.desk.specs.Setups.{Setup, screen_of, painter}
use Rattle.invalidate.specs.Invalidation.{is_invalid}
use Rattle.desk.specs.Changes.{list_after}
use Rattle.desk.specs.Jobs.{jobs_of}
use Rattle.desk.specs.Desks.{Desk, Step, Objection, opening_desk, is_context_call, objections, refusal_of, unless_refused, changed, created, after_create, after_job, after_jobs, painted, rect_with, effect, other_effect, desk_effect, desk_step, is_drawing}
use Rattle.engine.specs.States.{State, desk_of, opening, objections_to, effect_of, step, state_after}
use Rattle.engine.proofs.CallerLemmas.{is_turn_call, plain_step}
use Rattle.desk.specs.Devices.{DevicePictures}
use Rattle.desk.specs.Drawing.{Work, Draw, Copy, Make, Discard, work_of, reply_to}
use Rattle.desk.specs.Windows.{with_memdev}
use Rattle.gui_core.specs.Promises.{is_window_call, changes_windows, window_calls}
use Rattle.desk.proofs.CallerLemmas.{bare-job, on_top_of-map, changed_both, revalued_at, bare_value, plainly_sent, bare_message, keeps_bare, bare_after_change, bare_window, bare_rect, listed_bare, objections-bare}

-- ---- a refused call

refused_stays : {S : Type 0} (o : Option Refusal) (s : S) (done : Step S) (refusal : Refusal) → ((r : Refusal) → done.reply ≡ Refused r → ⊥) → (unless_refused o s done).reply ≡ Refused refusal → (unless_refused o s done).state ≡ s
refused_stays None s done refusal fine e = absurd (fine refusal e)
refused_stays (Some why) s done refusal fine e = refl

effect_is_no_refusal : (setup : Setup) (s : Desk) (call : Call) (r : Refusal) → (effect setup s call).reply ≡ Refused r → ⊥
effect_is_no_refusal setup s (Create parent x y w h class) r e = absurd cc
effect_is_no_refusal setup s (Delete h) r e = absurd cc
effect_is_no_refusal setup s (MoveTo h x y) r e = absurd cc
effect_is_no_refusal setup s (MoveBy h dx dy) r e = absurd cc
effect_is_no_refusal setup s (Resize h width height) r e = absurd cc
effect_is_no_refusal setup s (Show h) r e = absurd cc
effect_is_no_refusal setup s (Hide h) r e = absurd cc
effect_is_no_refusal setup s (ToTop h) r e = absurd cc
effect_is_no_refusal setup s (ToBottom h) r e = absurd cc
effect_is_no_refusal setup s (SetClass h class) r e = absurd cc
effect_is_no_refusal setup s (SetTrans h trans) r e = absurd cc
effect_is_no_refusal setup s (SetValue h index value) r e = absurd cc
effect_is_no_refusal setup s (Send h message argument) r e = absurd cc
effect_is_no_refusal setup s (Invalidate h) r e = absurd cc
effect_is_no_refusal setup s (InvalidateRect h x0 y0 x1 y1) r e = absurd cc
effect_is_no_refusal setup s (InvalidateArea x0 y0 x1 y1) r e = absurd cc
effect_is_no_refusal setup s Exec r e = absurd cc
effect_is_no_refusal setup s Exec1 r e = absurd cc
effect_is_no_refusal setup s Scan r e = absurd cc
effect_is_no_refusal setup s call r e = absurd cc

reply_is_done : (r : Refusal) → ◌≡◌ {A = Reply} Done (Refused r) → ⊥
reply_is_done r same = absurd cc

work_is_no_refusal : (ds : DevicePictures) (work : Work) (r : Refusal) → reply_to ds work ≡ Refused r → ⊥
work_is_no_refusal ds (Draw shape) r e = absurd cc
work_is_no_refusal ds (Copy device x y) r e = absurd cc
work_is_no_refusal ds (Make w h) r e = absurd cc
work_is_no_refusal ds (Discard device) r e = absurd cc

other_is_no_refusal : (setup : Setup) (s : Desk) (actor : ℕ) (o : Option Work) (call : Call) (r : Refusal) → (other_effect setup s actor o call).reply ≡ Refused r → ⊥
other_is_no_refusal setup s actor None call r e = effect_is_no_refusal setup s call r e
other_is_no_refusal setup s actor (Some work) call r e = work_is_no_refusal s.devices work r e

pub no_effect_refuses : (setup : Setup) (s : Desk) (actor : ℕ) (call : Call) (r : Refusal) → (desk_effect setup s actor call).reply ≡ Refused r → ⊥
no_effect_refuses setup s actor call r e =
    elim (cases_Bool (is_context_call call)) [
      | inl on ↦ reply_is_done r (rw on at e)
      | inr other ↦ other_is_no_refusal setup s actor (work_of call) call r (rw other at e)
    ]

pub nothing_refuses : (setup : Setup) (s : State) (actor : ℕ) (call : Call) (r : Refusal) → (effect_of setup s actor call).reply ≡ Refused r → ⊥
nothing_refuses setup s actor Begin r e = reply_is_done r e
nothing_refuses setup s actor End r e = reply_is_done r e
nothing_refuses setup s actor call r e = no_effect_refuses setup (desk_of s) actor call r e

pub refusal_changes_nothing : (setup : Setup) (s : State) (e : Entry) (refusal : Refusal) → (step setup s e).reply ≡ Refused refusal → (step setup s e).state ≡ s
unfolding step
refusal_changes_nothing setup s (entry.Call actor call) refusal e =
    refused_stays (refusal_of (objections_to setup s actor call)) s (effect_of setup s actor call) refusal (nothing_refuses setup s actor call) e
refusal_changes_nothing setup s (entry.Shown k) refusal e = absurd (reply_is_done refusal e)

-- ---- the same scenery

-- two states have the same windows, but for what is invalid
pub record AreAlike (s t : Desk) : Type 0 where
  pub windows : map bare s.windows ≡ map bare t.windows
  pub handles : s.handles ≡ t.handles

alike_refl : (s : Desk) → AreAlike s s
alike_refl s = record { windows = refl; handles = refl }

alike_sym : (s t : Desk) → AreAlike s t → AreAlike t s
alike_sym s t e = record { windows = sym e.windows; handles = sym e.handles }

alike_after : (s t u : Desk) → AreAlike s t → AreAlike t u → AreAlike s u
alike_after s t u first second = record { windows = first.windows ∙ second.windows; handles = first.handles ∙ second.handles }

job_alike : (setup : Setup) (s : Desk) → AreAlike (after_job setup s) s
job_alike setup s = record { windows = bare-job s.windows; handles = refl }

jobs_alike : (setup : Setup) (n : ℕ) (s : Desk) → AreAlike (after_jobs setup n s) s
jobs_alike setup zero s = alike_refl s
jobs_alike setup (suc n) s = alike_after _ (after_job setup s) s (jobs_alike setup n (after_job setup s)) (job_alike setup s)

painted_alike : (setup : Setup) (s t : Desk) (n m : ℕ) → AreAlike s t → AreAlike (painted setup s n).state (painted setup t m).state
painted_alike setup s t n m e = alike_after _ s _ (jobs_alike setup n s) (alike_after s t _ e (alike_sym _ t (jobs_alike setup m t)))

-- ---- each call

created_bare : (setup : Setup) (s : Desk) (w : Win) → map bare (after_create setup s w).windows ≡ on_top_of w.parent (bare w ∷ []) (map bare s.windows)
created_bare setup s w =
    bare_after_change (screen_of setup) w.handle s.windows (on_top_of w.parent (w ∷ []) s.windows)
    ∙ sym (on_top_of-map bare keeps_bare w.parent (w ∷ []) s.windows)

created_alike : (setup : Setup) (s t : Desk) (parent : ℕ) (x y : ℤ) (w h class : ℕ) → AreAlike s t → AreAlike (created setup s (new_window (s.handles + 1) parent x y w h class)).state (created setup t (new_window (t.handles + 1) parent x y w h class)).state
created_alike setup s t parent x y w h class e = record {
  windows =
      created_bare setup s (new_window (s.handles + 1) parent x y w h class)
      ∙ ap (λ (n : ℕ). on_top_of parent (new_window (n + 1) parent x y w h class ∷ []) (map bare s.windows)) e.handles
      ∙ ap (on_top_of parent (new_window (t.handles + 1) parent x y w h class ∷ [])) e.windows
      ∙ sym (created_bare setup t (new_window (t.handles + 1) parent x y w h class));
  handles = ap (λ (n : ℕ). n + 1) e.handles;
}

changed_alike : (setup : Setup) (s t : Desk) (h : ℕ) (c : Change) → AreAlike s t → AreAlike (changed setup s h (list_after h c s.windows)).state (changed setup t h (list_after h c t.windows)).state
changed_alike setup s t h c e = record {
  windows =
      bare_after_change (screen_of setup) h s.windows (list_after h c s.windows)
      ∙ sym (listed_bare h c s.windows)
      ∙ ap (list_after h c) e.windows
      ∙ listed_bare h c t.windows
      ∙ sym (bare_after_change (screen_of setup) h t.windows (list_after h c t.windows));
  handles = e.handles;
}

-- the first invalid window's job, if there is one
abbrev one_job : Desk → ℕ
one_job s = cond (list_any is_invalid s.windows) 1 0

bare_memdev : (h : ℕ) (memdev : Bool) (ws : List Win) → map bare (window_changed h (with_memdev memdev) ws) ≡ window_changed h (with_memdev memdev) (map bare ws)
bare_memdev h memdev ws = changed_both bare (with_memdev memdev) (with_memdev memdev) keeps_bare h ws (λ w. refl)

-- each call leads from alike states to alike ones
effect_alike : (setup : Setup) (s t : Desk) (call : Call) → AreAlike s t → AreAlike (effect setup s call).state (effect setup t call).state
effect_alike setup s t (Create parent x y w h class) e = created_alike setup s t parent x y w h class e
effect_alike setup s t (Delete h) e = changed_alike setup s t h change.Delete e
effect_alike setup s t (MoveTo h x y) e = changed_alike setup s t h (change.MoveTo x y) e
effect_alike setup s t (MoveBy h dx dy) e = changed_alike setup s t h (change.MoveBy dx dy) e
effect_alike setup s t (Resize h width height) e = changed_alike setup s t h (change.Resize width height) e
effect_alike setup s t (Show h) e = changed_alike setup s t h change.Show e
effect_alike setup s t (Hide h) e = changed_alike setup s t h change.Hide e
effect_alike setup s t (ToTop h) e = changed_alike setup s t h change.ToTop e
effect_alike setup s t (ToBottom h) e = changed_alike setup s t h change.ToBottom e
effect_alike setup s t (SetClass h class) e = changed_alike setup s t h (change.SetClass class) e
effect_alike setup s t (SetTrans h trans) e = changed_alike setup s t h (change.SetTrans trans) e
effect_alike setup s t (SetMemdev h memdev) e = record {
  windows = bare_memdev h memdev s.windows ∙ ap (window_changed h (with_memdev memdev)) e.windows ∙ sym (bare_memdev h memdev t.windows);
  handles = e.handles;
}
effect_alike setup s t (SetValue h index value) e = record {
  windows = bare_value (screen_of setup) h index value s.windows ∙ ap (revalued_at h index value) e.windows ∙ sym (bare_value (screen_of setup) h index value t.windows);
  handles = e.handles;
}
effect_alike setup s t (Send h message argument) e = record {
  windows = bare_message setup.assets (screen_of setup) h message argument s.windows ∙ ap (plainly_sent setup.assets h message argument) e.windows ∙ sym (bare_message setup.assets (screen_of setup) h message argument t.windows);
  handles = e.handles;
}
effect_alike setup s t (Invalidate h) e = record {
  windows = bare_window (screen_of setup) h s.windows ∙ e.windows ∙ sym (bare_window (screen_of setup) h t.windows);
  handles = e.handles;
}
effect_alike setup s t (InvalidateRect h x0 y0 x1 y1) e =
    let local : Rect = rect_with x0 y0 x1 y1 in
    record {
      windows = bare_rect (screen_of setup) h local s.windows ∙ e.windows ∙ sym (bare_rect (screen_of setup) h local t.windows);
      handles = e.handles;
    }
effect_alike setup s t (InvalidateArea x0 y0 x1 y1) e =
    let area : Rect = rect_with x0 y0 x1 y1 in
    record {
      windows = bare-area (clip_in (screen_of setup) s.windows) area s.windows ∙ e.windows ∙ sym (bare-area (clip_in (screen_of setup) t.windows) area t.windows);
      handles = e.handles;
    }
effect_alike setup s t Exec e = painted_alike setup s t (jobs_of s.windows) (jobs_of t.windows) e
effect_alike setup s t Exec1 e = painted_alike setup s t (one_job s) (one_job t) e
effect_alike setup s t Scan e = record { windows = e.windows; handles = e.handles }
effect_alike setup s t call e = record { windows = e.windows; handles = e.handles }

unless_alike : (o : Option Refusal) (s t : Desk) (done end : Step Desk) → AreAlike s t → AreAlike done.state end.state → AreAlike (unless_refused o s done).state (unless_refused o t end).state
unless_alike None s t done end before after = after
unless_alike (Some refusal) s t done end before after = before

windows_alike : (setup : Setup) (s t : Desk) (actor : ℕ) (call : Call) → is_context_call call ≡ false → work_of call ≡ None → AreAlike s t → AreAlike (desk_step setup s actor call).state (desk_step setup t actor call).state
windows_alike setup s t actor call other none e =
    let classes = length setup.assets.classes in
    let same : objections classes s.windows call ≡ objections classes t.windows call =
    sym (objections-bare classes s.windows call) ∙ ap (λ (ws : List Win). objections classes ws call) e.windows ∙ objections-bare classes t.windows call in
    rw (other, none)
    (subst (λ (l : List Objection). AreAlike (unless_refused (refusal_of l) s (effect setup s call)).state (unless_refused (refusal_of (objections classes t.windows call)) t (effect setup t call)).state) (sym same)
    (unless_alike (refusal_of (objections classes t.windows call)) s t (effect setup s call) (effect setup t call) e (effect_alike setup s t call e)))

-- calls that may change windows are neither on contexts nor work
window_is_plain : (call : Call) → is_window_call call ≡ true → (is_context_call call ≡ false) × (work_of call ≡ None)
window_is_plain (Select h) window = absurd cc
window_is_plain (DevSelect device) window = absurd cc
window_is_plain (Colour c) window = absurd cc
window_is_plain (BkColour c) window = absurd cc
window_is_plain (TextMode trans) window = absurd cc
window_is_plain (Font font) window = absurd cc
window_is_plain Save window = absurd cc
window_is_plain Restore window = absurd cc
window_is_plain (Fill x0 y0 x1 y1) window = absurd cc
window_is_plain (Frame x0 y0 x1 y1) window = absurd cc
window_is_plain (Line x0 y0 x1 y1) window = absurd cc
window_is_plain (Bitmap bitmap x y) window = absurd cc
window_is_plain (Text x y string) window = absurd cc
window_is_plain (DevCreate w h) window = absurd cc
window_is_plain (DevDelete device) window = absurd cc
window_is_plain (DevCopy device x y) window = absurd cc
window_is_plain call window = (refl, refl)

-- nor do they draw, begin or end
window_draws_nothing : (d : Desk) (actor : ℕ) (call : Call) → is_window_call call ≡ true → (is_turn_call call ≡ false) × (is_drawing d actor call ≡ false)
window_draws_nothing d actor Begin window = absurd cc
window_draws_nothing d actor End window = absurd cc
window_draws_nothing d actor Exec window = absurd cc
window_draws_nothing d actor Exec1 window = absurd cc
window_draws_nothing d actor (Fill x0 y0 x1 y1) window = absurd cc
window_draws_nothing d actor (Frame x0 y0 x1 y1) window = absurd cc
window_draws_nothing d actor (Line x0 y0 x1 y1) window = absurd cc
window_draws_nothing d actor (Bitmap bitmap x y) window = absurd cc
window_draws_nothing d actor (Text x y string) window = absurd cc
window_draws_nothing d actor (DevCopy device x y) window = absurd cc
window_draws_nothing d actor call window = (refl, refl)

-- the states' windows are alike
abbrev StatesAlike : State → State → Type 0
StatesAlike s t = AreAlike (desk_of s) (desk_of t)

step_alike : (setup : Setup) (s t : State) (e : Entry) → changes_windows e ≡ true → StatesAlike s t → StatesAlike (step setup s e).state (step setup t e).state
unfolding step
step_alike setup s t (entry.Call actor call) window e =
    let plain = window_is_plain call window in
    let of_s = window_draws_nothing (desk_of s) actor call window in
    let of_t = window_draws_nothing (desk_of t) actor call window in
    let alike = windows_alike setup (desk_of s) (desk_of t) actor call plain.0 plain.1 e in
    let first = plain_step setup s actor call of_s.0 of_s.1 in
    let second = plain_step setup t actor call of_t.0 of_t.1 in
    record {
      windows = ap (λ (k : Step State). map bare k.state.windows) first ∙ alike.windows ∙ sym (ap (λ (k : Step State). map bare k.state.windows) second);
      handles = ap (λ (k : Step State). k.state.handles) first ∙ alike.handles ∙ sym (ap (λ (k : Step State). k.state.handles) second);
    }
step_alike setup s t (entry.Shown k) window e = absurd cc

-- the other calls change nothing but what is invalid
context_leaves : (setup : Setup) (d : Desk) (actor : ℕ) (call : Call) → is_context_call call ≡ true → AreAlike d (desk_effect setup d actor call).state
context_leaves setup d actor call on = rw on (record { windows = refl; handles = refl })

work_leaves : (setup : Setup) (d : Desk) (actor : ℕ) (call : Call) (work : Work) → is_context_call call ≡ false → work_of call ≡ Some work → AreAlike d (desk_effect setup d actor call).state
work_leaves setup d actor call work other is = rw (other, is) (record { windows = refl; handles = refl })

desk_leaves : (setup : Setup) (d : Desk) (actor : ℕ) (call : Call) → is_window_call call ≡ false → AreAlike d (desk_effect setup d actor call).state
desk_leaves setup d actor (Select h) window = context_leaves setup d actor (Select h) refl
desk_leaves setup d actor (DevSelect device) window = context_leaves setup d actor (DevSelect device) refl
desk_leaves setup d actor (Colour c) window = context_leaves setup d actor (Colour c) refl
desk_leaves setup d actor (BkColour c) window = context_leaves setup d actor (BkColour c) refl
desk_leaves setup d actor (TextMode trans) window = context_leaves setup d actor (TextMode trans) refl
desk_leaves setup d actor (Font font) window = context_leaves setup d actor (Font font) refl
desk_leaves setup d actor Save window = context_leaves setup d actor Save refl
desk_leaves setup d actor Restore window = context_leaves setup d actor Restore refl
desk_leaves setup d actor (Fill x0 y0 x1 y1) window = work_leaves setup d actor (Fill x0 y0 x1 y1) _ refl refl
desk_leaves setup d actor (Frame x0 y0 x1 y1) window = work_leaves setup d actor (Frame x0 y0 x1 y1) _ refl refl
desk_leaves setup d actor (Line x0 y0 x1 y1) window = work_leaves setup d actor (Line x0 y0 x1 y1) _ refl refl
desk_leaves setup d actor (Bitmap bitmap x y) window = work_leaves setup d actor (Bitmap bitmap x y) _ refl refl
desk_leaves setup d actor (Text x y string) window = work_leaves setup d actor (Text x y string) _ refl refl
desk_leaves setup d actor (DevCreate w h) window = work_leaves setup d actor (DevCreate w h) _ refl refl
desk_leaves setup d actor (DevDelete device) window = work_leaves setup d actor (DevDelete device) _ refl refl
desk_leaves setup d actor (DevCopy device x y) window = work_leaves setup d actor (DevCopy device x y) _ refl refl
desk_leaves setup d actor Exec window = alike_sym _ d (jobs_alike setup (jobs_of d.windows) d)
desk_leaves setup d actor Exec1 window = alike_sym _ d (jobs_alike setup (one_job d) d)
desk_leaves setup d actor Scan window = alike_refl d
desk_leaves setup d actor Begin window = alike_refl d
desk_leaves setup d actor End window = alike_refl d
desk_leaves setup d actor call window = absurd cc

effect_leaves : (setup : Setup) (s : State) (actor : ℕ) (call : Call) → is_window_call call ≡ false → StatesAlike s (effect_of setup s actor call).state
effect_leaves setup s actor Begin window = record { windows = refl; handles = refl }
effect_leaves setup s actor End window = record { windows = refl; handles = refl }
effect_leaves setup s actor call window = let alike = desk_leaves setup (desk_of s) actor call window in record { windows = alike.windows; handles = alike.handles }

unless_leaves : (o : Option Refusal) (s : State) (done : Step State) → StatesAlike s done.state → StatesAlike s (unless_refused o s done).state
unless_leaves None s done alike = alike
unless_leaves (Some refusal) s done alike = alike_refl (desk_of s)

other_alike : (setup : Setup) (s : State) (e : Entry) → changes_windows e ≡ false → StatesAlike s (step setup s e).state
unfolding step
other_alike setup s (entry.Call actor call) window = unless_leaves (refusal_of (objections_to setup s actor call)) s (effect_of setup s actor call) (effect_leaves setup s actor call window)
other_alike setup s (entry.Shown k) window = record { windows = refl; handles = refl }

entries_alike : (setup : Setup) (s t : State) (es : List Entry) → StatesAlike s t → StatesAlike (state_after setup s (window_calls es)) (state_after setup t es)
entries_alike setup s t [] alike = alike
entries_alike setup s t (e ∷ es) alike =
    elim (cases_Bool (changes_windows e)) [
      | inl window ↦ rw window (entries_alike setup (step setup s e).state (step setup t e).state es (step_alike setup s t e window alike))
      | inr other ↦ rw other (entries_alike setup s (step setup t e).state es (alike_after (desk_of s) (desk_of t) (desk_of (step setup t e).state) alike (other_alike setup t e other)))
    ]

pub painter-alike : (setup : Setup) (ws vs : List Win) → map bare ws ≡ map bare vs → painter setup ws ≡ painter setup vs
painter-alike setup ws vs e =
    ap (picture_of setup.config.w setup.config.h) (fun_ext (λ x. fun_ext (λ y. painted-same setup.assets (screen_of setup) vs ws (point_at (pos x) (pos y)) e)))

pub painting_moves_nothing : (setup : Setup) (es : List Entry) → painter setup (state_after setup (opening setup) (window_calls es)).windows ≡ painter setup (state_after setup (opening setup) es).windows
painting_moves_nothing setup es =
    let alike = entries_alike setup (opening setup) (opening setup) es (alike_refl (opening_desk setup)) in
    painter-alike setup _ _ alike.windows
