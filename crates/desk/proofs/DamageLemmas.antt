-- The damage covers every change: outside it the picture is the painter's.
use Rattle.std.proofs.Common.{◌≡◌, ◌≢◌, ℕ, ℤ, pos, zero, suc, ◌+◌, ◌+ℤ◌, ◌-ℤ◌, ◌<◌, Bool, true, false, cond, eqb, List, [], ◌∷◌, length, map, Option, Some, None, refl, sym, ap, subst, ◌∙◌, inl, inr, arith}
use Rattle.std.specs.Prelude.{position}
use Rattle.std.specs.List.{list_any, AllZip}
use Rattle.std.proofs.lemmas.Bool.{cases_Bool, or_parts, and_from, false≢true}
use Rattle.std.proofs.lemmas.Int.{ints}
use Rattle.std.proofs.lemmas.List.{length-map}
use Rattle.gfx_base.specs.declared.point.Point.{Point}
use Rattle.gfx_base.specs.declared.rect.Rect.{Rect}
use Rattle.gfx_base.specs.Range.{is_within}
use Rattle.gfx_base.specs.Rects.{has, is_empty, meet, point_at}
use Rattle.gfx_base.proofs.CallerLemmas.{has-meet, cover-smallest}
use Rattle.context.specs.Contexts.{Owned, owned_by}
use Rattle.scene.specs.declared.win.Win.{Win}
use Rattle.scene.specs.Places.{Place, window_of, place_at}
use Rattle.scene.specs.Clips.{deepest_level, frame_of, clip_of, clip_in}
use Rattle.scene.specs.Painting.{Looks}
use Rattle.scene.specs.Damage.{some_has, grown, invalidated}
use Rattle.scene.specs.Changes.{DamageCovers, clips_have, ChangesAlone}
use Rattle.scene.specs.Families.{new_window, desktop_with, on_top_of, moved_to, resized_to, with_shown, window_changed}
use Rattle.scene.proofs.CallerLemmas.{bare, bare-area, AreasCover-areas, DamageCovers-alone, clips_have-found}
use Rattle.win_tree.proofs.CallerLemmas.{IsNew}
use Rattle.calls.specs.declared.call.Call.{Call}
use Rattle.calls.specs.declared.call.Call.TheVariants.{Create, Delete, MoveTo, MoveBy, Resize, Show, Hide, ToTop, ToBottom, SetClass, Invalidate, InvalidateRect, InvalidateArea, Exec, Exec1, Scan, SetTrans, SetMemdev, SetValue, Send, Fill, Frame, Line, Bitmap, Text, DevCreate, DevDelete, DevCopy}
use Rattle.frame.specs.Pictures.{Picture}
use Rattle.desk.specs.declared.changes.Change.{Change}
use Rattle.desk.specs.declared.changes.Change.TheVariants as change
use Rattle.desk.specs.Setups.{Setup, screen_of, looks_of}
use Rattle.desk.specs.Windows.{moved_by, with_class, after_change, with_invalid_window, with_invalid_rect, with_invalid_area, with_trans, with_memdev, with_value, with_message}
use Rattle.desk.specs.Changes.{list_after}
use Rattle.invalidate.specs.Invalidation.{is_invalid, on_screen}
use Rattle.desk.specs.Jobs.{jobs_of}
use Rattle.desk.specs.Desks.{Desk, opening_desk, is_context_call, objections, desk_objections, bad_size, no_class, refusal_of, changed, created, after_job, after_jobs, rect_with, effect, desk_effect, context_after, with_own, work_done, other_objections, other_effect}
use Rattle.desk.specs.Drawing.{Work, work_of, ink_of, ink_puts}
use Rattle.desk.specs.Stains.{Stain, no_stain, without_patch, stain_after_jobs, left_stained, with_points, stain_after_call}
use Rattle.desk.specs.Promises.{IsRightOutside}
use Rattle.desk.proofs.IgnoreLemmas.{bare-job}
use Rattle.desk.proofs.SceneLemmas.{found_handle}
use Rattle.desk.proofs.EffectLemmas.{MayChange, may_change, MayBeMade, may_be_made, few_windows}
use Rattle.desk.proofs.ShapeLemmas.{has_ancestors-map}
use Rattle.messages.specs.Delivery.{rest_of}
use Rattle.desk.proofs.MessageLemmas.{rest_value, rest_message, value_covers, message_covers}
use Rattle.desk.proofs.BareLemmas.{bare_after_change, bare_window, bare_rect}
use Rattle.desk.proofs.BoneLemmas.{stack_alone, bones, keeps_bones, bones_window, live_bones}
use Rattle.desk.proofs.CoverLemmas.{desk, IsShaped, shaped_same, shaped_rest, shaped_memdev, Leads, change_covers, leads_raised, leads_lowered, leads_without, leads_created, leads_changed}
use Rattle.desk.proofs.PictureLemmas.{IsPictured, pictured_some, job_covers}
use Rattle.desk.proofs.MemdevLemmas.{memdev_covers}
use Rattle.desk.proofs.InkLemmas.{pictured_ink, stays_beside}

-- ---- the desktop

on_axis : (last z : ℕ) → z < last → is_within (pos 0) ((pos 0 +ℤ pos last) -ℤ pos 1) (pos z) ≡ true
unfolding is_within
on_axis last z less = grind (arith, ints)

on_side : (last z : ℕ) → z < last → is_within (pos 0) (pos last -ℤ pos 1) (pos z) ≡ true
unfolding is_within
on_side last z less = grind (arith, ints)

on_screen_of : (setup : Setup) (x y : ℕ) → x < setup.config.w → y < setup.config.h → has (screen_of setup) (point_at (pos x) (pos y)) ≡ true
unfolding has
on_screen_of setup x y x_in y_in = rw (on_side setup.config.w x x_in, on_side setup.config.h y y_in) refl

-- the desktop has all points of the screen
desk_has : (setup : Setup) (found : ℕ → Option Place) (x y : ℕ) → x < setup.config.w → y < setup.config.h → has (clip_of deepest_level (screen_of setup) found (desk setup)) (point_at (pos x) (pos y)) ≡ true
unfolding has
desk_has setup found x y x_in y_in =
    let frame : Rect = frame_of (point_at (pos 0) (pos 0)) (desk setup) in
    let in_frame : has frame (point_at (pos x) (pos y)) ≡ true = rw (on_axis setup.config.w x x_in, on_axis setup.config.h y y_in) refl in
    has-meet frame (screen_of setup) (point_at (pos x) (pos y)) ∙ and_from (has frame (point_at (pos x) (pos y))) (has (screen_of setup) (point_at (pos x) (pos y))) in_frame (on_screen_of setup x y x_in y_in)

-- so a window is at each of them
inside : (setup : Setup) (ws : List Win) (handles x y : ℕ) → IsShaped setup ws handles → x < setup.config.w → y < setup.config.h → clips_have (looks_of setup ws) ws (point_at (pos x) (pos y)) ≡ true
inside setup ws handles x y s x_in y_in = clips_have-found setup.assets (screen_of setup) ws 1 (desk setup) (point_at (pos x) (pos y)) s.desktop (desk_has setup (λ h. place_at ws h) x y x_in y_in)

-- ---- the opening_desk

opening_shaped : (setup : Setup) → IsShaped setup (opening_desk setup).windows 1
opening_shaped setup =
    let d : Win = desktop_with setup.config.w setup.config.h (screen_of setup) in
    record {
      stack = stack_alone (bones d) refl refl (record { x = refl; y = refl; width = omega arith; height = omega arith; shown = refl; class = refl; trans = refl }) (bones_window d (omega arith));
      given = (omega arith, tt);
      desktop = refl;
    }

opening_covers : (setup : Setup) → IsRightOutside setup (opening_desk setup) no_stain
opening_covers setup x y x_in y_in outside clean =
    absurd (false≢true (sym outside ∙ rw (desk_has setup (λ h. place_at (opening_desk setup).windows h) x y x_in y_in, on_screen_of setup x y x_in y_in) refl))

-- ---- changes that are covered

-- the damage covers the change at each point of the screen
abbrev Covers : Setup → List Win → List Win → Type 0
Covers setup ws vs = (x y : ℕ) → x < setup.config.w → y < setup.config.h → DamageCovers (looks_of setup ws) ws (looks_of setup vs) vs (point_at (pos x) (pos y))

right_after : (setup : Setup) (s : Desk) (stain : Stain) (vs : List Win) (handles : ℕ) → IsRightOutside setup s stain → Covers setup s.windows vs → IsRightOutside setup (record { windows = vs; handles = handles; picture = s.picture; contexts = s.contexts; devices = s.devices }) stain
right_after setup s stain vs handles right covers x y x_in y_in outside clean =
    let d = covers x y x_in y_in in
    right x y x_in y_in (d.stays outside) clean ∙ sym (d.covers outside)

-- ---- one window of which more is invalid

grown_has : (o : Option Rect) (r : Rect) (p : Point) → some_has o p ≡ true → has (grown o r) p ≡ true
grown_has None r p some = absurd (false≢true some)
grown_has (Some old) r p some = let both = cover-smallest old r in both.first p some

alone_same : (looks : Looks) (p : Point) (w : Win) → ChangesAlone looks p w w
alone_same looks p w = record { place = refl; opaque = refl; grows = λ h. h; covers = λ here. inr refl }

alone_invalid : (setup : Setup) (us : List Win) (p : Point) (clip area : Rect) (w : Win) → ChangesAlone (looks_of setup us) p w (invalidated clip area w)
alone_invalid setup us p clip area w =
    elim (cases_Bool (is_empty (meet area clip))) [
      | inl e ↦ rw e (alone_same (looks_of setup us) p w)
      | inr e ↦ rw e (record { place = refl; opaque = refl; grows = λ h. grown_has w.invalid (meet area clip) p h; covers = λ here. inr refl })
    ]

alone_changed : (looks : Looks) (p : Point) (h : ℕ) (f : Win → Win) (ws : List Win) → ((w : Win) → ChangesAlone looks p w (f w)) → AllZip (ChangesAlone looks p) ws (window_changed h f ws)
unfolding window_changed
alone_changed looks p h f [] alone = tt
alone_changed looks p h f (w ∷ ws) alone =
    elim (cases_Bool (eqb w.handle h)) [
      | inl at ↦ rw at (alone w, alone_changed looks p h f ws alone)
      | inr off ↦ rw off (alone_same looks p w, alone_changed looks p h f ws alone)
    ]

invalid_covers : (setup : Setup) (ws : List Win) (h : ℕ) (clip area : Win → Rect) → Covers setup ws (window_changed h (λ w. invalidated (clip w) (area w) w) ws)
invalid_covers setup ws h clip area x y x_in y_in =
    let p : Point = point_at (pos x) (pos y) in
    DamageCovers-alone setup.assets (screen_of setup) ws (window_changed h (λ w. invalidated (clip w) (area w) w) ws) p
    (alone_changed (looks_of setup ws) p h (λ w. invalidated (clip w) (area w) w) ws (λ w. alone_invalid setup ws p (clip w) (area w) w))

-- ---- calls on one window

own_leads : (setup : Setup) (ws : List Win) (handles : ℕ) (w : Win) (c : Change) → IsShaped setup ws handles → window_of ws w.handle ≡ Some w → w.handle ≢ 1 → Leads setup ws (list_after w.handle c ws) handles w.handle
own_leads setup ws handles w change.Delete s live other = leads_without setup ws handles w s live other
own_leads setup ws handles w (change.MoveTo x y) s live other = leads_changed setup ws handles w (moved_to x y) (record { keeps = λ v. refl }) s live other
own_leads setup ws handles w (change.MoveBy dx dy) s live other = leads_changed setup ws handles w (moved_by dx dy) (record { keeps = λ v. refl }) s live other
own_leads setup ws handles w (change.Resize width height) s live other = leads_changed setup ws handles w (resized_to width height) (record { keeps = λ v. refl }) s live other
own_leads setup ws handles w change.Show s live other = leads_changed setup ws handles w (with_shown true) (record { keeps = λ v. refl }) s live other
own_leads setup ws handles w change.Hide s live other = leads_changed setup ws handles w (with_shown false) (record { keeps = λ v. refl }) s live other
own_leads setup ws handles w change.ToTop s live other = leads_raised setup ws handles w s live other
own_leads setup ws handles w change.ToBottom s live other = leads_lowered setup ws handles w s live other
own_leads setup ws handles w (change.SetClass class) s live other = leads_changed setup ws handles w (with_class class) (record { keeps = λ v. refl }) s live other
own_leads setup ws handles w (change.SetTrans trans) s live other = leads_changed setup ws handles w (with_trans trans) (record { keeps = λ v. refl }) s live other

leads_listed : (setup : Setup) (ws : List Win) (handles h : ℕ) (c : Change) → IsShaped setup ws handles → MayChange ws h → Leads setup ws (list_after h c ws) handles h
leads_listed setup ws handles h c s m =
    let own = found_handle ws h m.win m.live in
    subst (λ (n : ℕ). Leads setup ws (list_after n c ws) handles n) own
    (own_leads setup ws handles m.win c s (ap (window_of ws) own ∙ m.live) (λ e. m.other (sym own ∙ e)))

-- ---- all calls

-- what holds after each call
pub record Holds (setup : Setup) (s : Desk) (stain : Stain) : Type 0 where
  pub shaped : IsShaped setup s.windows s.handles
  pub covers : IsRightOutside setup s stain
  pub pictured : IsPictured setup.config.w setup.config.h s.picture

pub opening_holds : (setup : Setup) → Holds setup (opening_desk setup) no_stain
opening_holds setup = record { shaped = opening_shaped setup; covers = opening_covers setup; pictured = record { colours = λ x y. 0; is = refl } }

job_holds : (setup : Setup) (s : Desk) (stain : Stain) → Holds setup s stain → Holds setup (after_job setup s) (without_patch setup s.windows stain)
job_holds setup s stain h = record {
  shaped = shaped_same setup s.windows _ s.handles (bare-job s.windows) h.shaped;
  covers = job_covers setup s stain (position is_invalid s.windows) refl h.pictured h.covers;
  pictured = pictured_some setup.config.w setup.config.h (looks_of setup s.windows) s.windows (position is_invalid s.windows) s.picture h.pictured;
}

jobs_hold : (setup : Setup) (n : ℕ) (s : Desk) (stain : Stain) → Holds setup s stain → Holds setup (after_jobs setup n s) (stain_after_jobs setup n s stain)
jobs_hold setup zero s stain h = h
jobs_hold setup (suc n) s stain h = jobs_hold setup n (after_job setup s) (without_patch setup s.windows stain) (job_holds setup s stain h)

-- a change of what is invalid alone
marked_holds : (setup : Setup) (s : Desk) (stain : Stain) (vs : List Win) → map bare vs ≡ map bare s.windows → Covers setup s.windows vs → Holds setup s stain → Holds setup (record s { windows = vs }) stain
marked_holds setup s stain vs same covers is = record {
  shaped = shaped_same setup s.windows vs s.handles same is.shaped;
  covers = right_after setup s stain vs s.handles is.covers covers;
  pictured = is.pictured;
}

-- a change of values and of what is invalid alone
valued_holds : (setup : Setup) (s : Desk) (stain : Stain) (vs : List Win) → map rest_of vs ≡ map rest_of s.windows → Covers setup s.windows vs → Holds setup s stain → Holds setup (record s { windows = vs }) stain
valued_holds setup s stain vs same covers is = record {
  shaped = shaped_rest setup s.windows vs s.handles same is.shaped;
  covers = right_after setup s stain vs s.handles is.covers covers;
  pictured = is.pictured;
}

-- a window that is composed aside, or no longer
memdev_holds : (setup : Setup) (s : Desk) (stain : Stain) (h : ℕ) (memdev : Bool) → Holds setup s stain → Holds setup (record s { windows = window_changed h (with_memdev memdev) s.windows }) stain
memdev_holds setup s stain h memdev is =
    let ws = s.windows in
    let vs = window_changed h (with_memdev memdev) ws in
    record {
      shaped = shaped_memdev setup ws s.handles h memdev is.shaped;
      covers = right_after setup s stain vs s.handles is.covers (λ x y x_in y_in. memdev_covers setup.assets (screen_of setup) ws h memdev (point_at (pos x) (pos y)));
      pictured = is.pictured;
    }

-- a call that leads to a list
led_holds : (setup : Setup) (s : Desk) (stain : Stain) (now : List Win) (handles h : ℕ) → Leads setup s.windows now handles h → Holds setup s stain → Holds setup (record { windows = after_change (screen_of setup) h s.windows now; handles = handles; picture = s.picture; contexts = s.contexts; devices = s.devices }) stain
led_holds setup s stain now handles h leads is = record {
  shaped = shaped_same setup now _ handles (bare_after_change (screen_of setup) h s.windows now) leads.shaped;
  covers = right_after setup s stain _ handles is.covers (λ x y x_in y_in. change_covers setup s.windows now handles h (point_at (pos x) (pos y)) leads (inside setup now handles x y leads.shaped x_in y_in));
  pictured = is.pictured;
}

changed_holds : (setup : Setup) (s : Desk) (stain : Stain) (h : ℕ) (c : Change) → MayChange s.windows h → Holds setup s stain → Holds setup (changed setup s h (list_after h c s.windows)).state stain
changed_holds setup s stain h c fine is = led_holds setup s stain (list_after h c s.windows) s.handles h (leads_listed setup s.windows s.handles h c is.shaped fine) is

created_holds : (setup : Setup) (s : Desk) (stain : Stain) (parent : ℕ) (x y : ℤ) (w h class : ℕ) → MayBeMade (length setup.assets.classes) s.windows parent w h class → Holds setup s stain → Holds setup (created setup s (new_window (s.handles + 1) parent x y w h class)).state stain
created_holds setup s stain parent x y w h class m is =
    let ws = s.windows in
    let win : Win = new_window (s.handles + 1) parent x y w h class in
    let new : IsNew (map bones ws) s.handles (bones win) (bones m.over') = record {
      stack = is.shaped.stack;
      given = is.shaped.given;
      fresh = omega arith;
      parent = live_bones ws parent m.over' m.live;
      above = has_ancestors-map bones keeps_bones 7 ws m.over' ∙ m.above;
      few = subst (λ (n : ℕ). n < 256) (sym (length-map ws bones)) (few_windows (length ws) m.few);
      window = bones_window win (omega arith);
    } in
    led_holds setup s stain (on_top_of parent (win ∷ []) ws) (s.handles + 1) (s.handles + 1) (leads_created setup ws s.handles win (bones m.over') is.shaped new refl) is

effect_holds : (setup : Setup) (s : Desk) (stain : Stain) (call : Call) → refusal_of (objections (length setup.assets.classes) s.windows call) ≡ None → Holds setup s stain → Holds setup (effect setup s call).state (left_stained setup s call stain)
effect_holds setup s stain (Create parent x y w h class) e is = created_holds setup s stain parent x y w h class (may_be_made (length setup.assets.classes) s.windows parent x y w h class e) is
effect_holds setup s stain (Delete h) e is = changed_holds setup s stain h change.Delete (may_change s.windows h [] e).0 is
effect_holds setup s stain (MoveTo h x y) e is = changed_holds setup s stain h (change.MoveTo x y) (may_change s.windows h [] e).0 is
effect_holds setup s stain (MoveBy h dx dy) e is = changed_holds setup s stain h (change.MoveBy dx dy) (may_change s.windows h [] e).0 is
effect_holds setup s stain (Resize h width height) e is = changed_holds setup s stain h (change.Resize width height) (may_change s.windows h (bad_size width height ∷ []) e).0 is
effect_holds setup s stain (Show h) e is = changed_holds setup s stain h change.Show (may_change s.windows h [] e).0 is
effect_holds setup s stain (Hide h) e is = changed_holds setup s stain h change.Hide (may_change s.windows h [] e).0 is
effect_holds setup s stain (ToTop h) e is = changed_holds setup s stain h change.ToTop (may_change s.windows h [] e).0 is
effect_holds setup s stain (ToBottom h) e is = changed_holds setup s stain h change.ToBottom (may_change s.windows h [] e).0 is
effect_holds setup s stain (SetClass h class) e is = changed_holds setup s stain h (change.SetClass class) (may_change s.windows h (no_class (length setup.assets.classes) class ∷ []) e).0 is
effect_holds setup s stain (SetTrans h trans) e is = changed_holds setup s stain h (change.SetTrans trans) (may_change s.windows h [] e).0 is
effect_holds setup s stain (SetMemdev h memdev) e is = memdev_holds setup s stain h memdev is
effect_holds setup s stain (SetValue h index value) e is =
    valued_holds setup s stain (with_value (screen_of setup) h index value s.windows) (rest_value (screen_of setup) h index value s.windows) (λ x y x_in y_in. value_covers setup.assets (screen_of setup) h index value s.windows (point_at (pos x) (pos y))) is
effect_holds setup s stain (Send h message argument) e is =
    valued_holds setup s stain (with_message setup.assets (screen_of setup) h message argument s.windows) (rest_message setup.assets (screen_of setup) h message argument s.windows) (λ x y x_in y_in. message_covers setup.assets (screen_of setup) h message argument s.windows (point_at (pos x) (pos y))) is
effect_holds setup s stain (Invalidate h) e is =
    let clip : Win → Rect = clip_in (screen_of setup) s.windows in
    marked_holds setup s stain (with_invalid_window (screen_of setup) h s.windows) (bare_window (screen_of setup) h s.windows) (invalid_covers setup s.windows h clip clip) is
effect_holds setup s stain (InvalidateRect h x0 y0 x1 y1) e is =
    let local : Rect = rect_with x0 y0 x1 y1 in
    marked_holds setup s stain (with_invalid_rect (screen_of setup) h local s.windows) (bare_rect (screen_of setup) h local s.windows) (invalid_covers setup s.windows h (clip_in (screen_of setup) s.windows) (λ w. on_screen s.windows w local)) is
effect_holds setup s stain (InvalidateArea x0 y0 x1 y1) e is =
    let area : Rect = rect_with x0 y0 x1 y1 in
    marked_holds setup s stain (with_invalid_area (screen_of setup) area s.windows) (bare-area (clip_in (screen_of setup) s.windows) area s.windows)
    (λ x y x_in y_in. AreasCover-areas setup.assets (screen_of setup) s.windows (area ∷ []) (point_at (pos x) (pos y))) is
effect_holds setup s stain Exec e is = jobs_hold setup (jobs_of s.windows) s stain is
effect_holds setup s stain Exec1 e is = jobs_hold setup (cond (list_any is_invalid s.windows) 1 0) s stain is
effect_holds setup s stain Scan e is = is
effect_holds setup s stain call e is = is

-- a call on a context leaves the windows and the picture as they are
owning_holds : (setup : Setup) (s : Desk) (stain : Stain) (task : ℕ) (own : Owned) → Holds setup s stain → Holds setup (with_own s task own).state stain
owning_holds setup s stain task own is = record { shaped = is.shaped; covers = is.covers; pictured = is.pictured }

-- work leaves the windows, and the picture outside its points
work_holds : (setup : Setup) (s : Desk) (stain : Stain) (task : ℕ) (work : Work) → Holds setup s stain → Holds setup (work_done setup s (owned_by s.contexts task).context work).state (with_points setup s task (Some work) stain)
work_holds setup s stain task work is =
    let c = (owned_by s.contexts task).context in
    let looks = looks_of setup s.windows in
    let ink = ink_of setup.assets s.devices c work in
    record {
      shaped = is.shaped;
      covers = λ x y x_in y_in outside clean.
          let p : Point = point_at (pos x) (pos y) in
          let both = or_parts (stain p) (ink_puts looks s.windows c ink p) clean in
          let wide : x < s.picture.width = rw (ap (λ (q : Picture). q.width) is.pictured.is) x_in in
          let high : y < s.picture.height = rw (ap (λ (q : Picture). q.height) is.pictured.is) y_in in
          stays_beside looks s.windows c ink s.picture x y wide high both.1 ∙ is.covers x y x_in y_in outside both.0;
      pictured = pictured_ink setup.config.w setup.config.h looks s.windows c ink s.picture is.pictured;
    }

-- calls on contexts paint nothing and draw nothing
context_stains_nothing : (setup : Setup) (s : Desk) (task : ℕ) (call : Call) (stain : Stain) → is_context_call call ≡ true → stain_after_call setup s task call stain ≡ stain
context_stains_nothing setup s task Exec stain on = absurd cc
context_stains_nothing setup s task Exec1 stain on = absurd cc
context_stains_nothing setup s task (Fill x0 y0 x1 y1) stain on = absurd cc
context_stains_nothing setup s task (Frame x0 y0 x1 y1) stain on = absurd cc
context_stains_nothing setup s task (Line x0 y0 x1 y1) stain on = absurd cc
context_stains_nothing setup s task (Bitmap bitmap x y) stain on = absurd cc
context_stains_nothing setup s task (Text x y string) stain on = absurd cc
context_stains_nothing setup s task (DevCreate w h) stain on = absurd cc
context_stains_nothing setup s task (DevDelete device) stain on = absurd cc
context_stains_nothing setup s task (DevCopy device x y) stain on = absurd cc
context_stains_nothing setup s task call stain on = refl

-- work paints no patch
work_leaves_stain : (setup : Setup) (s : Desk) (call : Call) (work : Work) (stain : Stain) → work_of call ≡ Some work → left_stained setup s call stain ≡ stain
work_leaves_stain setup s Exec work stain is = absurd cc
work_leaves_stain setup s Exec1 work stain is = absurd cc
work_leaves_stain setup s call work stain is = refl

other_holds : (setup : Setup) (s : Desk) (stain : Stain) (actor : ℕ) (call : Call) (o : Option Work) → work_of call ≡ o → refusal_of (other_objections setup s actor o call) ≡ None → Holds setup s stain → Holds setup (other_effect setup s actor o call).state (with_points setup s actor o (left_stained setup s call stain))
other_holds setup s stain actor call None is fine holds = effect_holds setup s stain call fine holds
other_holds setup s stain actor call (Some work) is fine holds =
    subst (λ (left : Stain). Holds setup (work_done setup s (owned_by s.contexts actor).context work).state (with_points setup s actor (Some work) left)) (sym (work_leaves_stain setup s call work stain is))
    (work_holds setup s stain actor work holds)

pub any_effect_holds : (setup : Setup) (s : Desk) (stain : Stain) (actor : ℕ) (call : Call) → refusal_of (desk_objections setup s actor call) ≡ None → Holds setup s stain → Holds setup (desk_effect setup s actor call).state (stain_after_call setup s actor call stain)
any_effect_holds setup s stain actor call fine is =
    elim (cases_Bool (is_context_call call)) [
      | inl on ↦
          subst (λ (after : Stain). Holds setup (desk_effect setup s actor call).state after) (sym (context_stains_nothing setup s actor call stain on))
          (rw on (owning_holds setup s stain actor (context_after (owned_by s.contexts actor) call) is))
      | inr other ↦ rw other (other_holds setup s stain actor call (work_of call) refl (rw other at fine) is)
    ]
