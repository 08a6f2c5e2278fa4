-- After any calls the picture is the painter's outside the damage and the stain; where no window is invalid, outside the stain. Calls that draw nothing stain nothing.
use Rattle.std.proofs.Common.{◌≡◌, ℕ, pos, zero, suc, Bool, true, false, cond, List, [], ◌∷◌, Option, Some, None, refl, sym, ap, ◌∙◌}
use Rattle.std.specs.Prelude.{is_some}
use Rattle.std.specs.List.{list_any}
use Rattle.std.specs.Option.{option_map_or}
use Rattle.std.proofs.lemmas.Bool.{or_parts, or_from, and_right}
use Rattle.gfx_base.specs.declared.point.Point.{Point}
use Rattle.gfx_base.specs.declared.rect.Rect.{Rect}
use Rattle.gfx_base.specs.Rects.{point_at}
use Rattle.scene.specs.declared.win.Win.{Win}
use Rattle.scene.specs.Painting.{Looks, painted}
use Rattle.scene.specs.Damage.{some_has, is_invalid_at, is_seen, is_damaged}
use Rattle.calls.specs.declared.call.Call.{Call}
use Rattle.calls.specs.declared.call.Call.TheVariants.{Exec, Exec1}
use Rattle.calls.specs.declared.reply.Refusal.{Refusal}
use Rattle.frame.specs.Pictures.{Picture, colour_at}
use Rattle.frame.proofs.CallerLemmas.{colour_at-picture_of}
use Rattle.desk.specs.Setups.{Setup, looks_of, painter}
use Rattle.invalidate.specs.Invalidation.{is_invalid}
use Rattle.desk.specs.Jobs.{jobs_of}
use Rattle.desk.specs.Desks.{Desk, Step, opening_desk, after_job, refusal_of, unless_refused, desk_objections, desk_effect, desk_step}
use Rattle.desk.specs.Drawing.{Work, Draw, Copy, Make, Discard, may_ink}
use Rattle.desk.specs.Stains.{Stain, no_stain, without_patch, stain_after_jobs, left_stained, with_points, stain_after_call, stained_by, desk_after, stain_after_calls}
use Rattle.desk.specs.Promises.{IsRightOutside, IsPainterOutside, NoneInvalid}
use Rattle.desk.proofs.PictureLemmas.{picture_of-same}
use Rattle.desk.proofs.DamageLemmas.{Holds, opening_holds, any_effect_holds}

-- ---- what isn't stained stays clean until a task draws there

job_cleans : (setup : Setup) (ws : List Win) (stain : Stain) (p : Point) → stain p ≡ false → without_patch setup ws stain p ≡ false
job_cleans setup ws stain p clean = rw clean refl

jobs_clean : (setup : Setup) (n : ℕ) (s : Desk) (stain : Stain) (p : Point) → stain p ≡ false → stain_after_jobs setup n s stain p ≡ false
jobs_clean setup zero s stain p clean = clean
jobs_clean setup (suc n) s stain p clean = jobs_clean setup n (after_job setup s) (without_patch setup s.windows stain) p (job_cleans setup s.windows stain p clean)

pub left_clean : (setup : Setup) (s : Desk) (call : Call) (stain : Stain) (p : Point) → stain p ≡ false → left_stained setup s call stain p ≡ false
left_clean setup s Exec stain p clean = jobs_clean setup (jobs_of s.windows) s stain p clean
left_clean setup s Exec1 stain p clean = jobs_clean setup (cond (list_any is_invalid s.windows) 1 0) s stain p clean
left_clean setup s call stain p clean = clean

pub unless_clean : (refused : Bool) (stain after : Stain) (p : Point) → stain p ≡ false → after p ≡ false → (cond refused stain after) p ≡ false
unless_clean true stain after p clean is_after = clean
unless_clean false stain after p clean is_after = is_after

pub points_clean : (setup : Setup) (s : Desk) (task : ℕ) (o : Option Work) (stain : Stain) (p : Point) → option_map_or may_ink o false ≡ false → stain p ≡ false → with_points setup s task o stain p ≡ false
points_clean setup s task None stain p none clean = clean
points_clean setup s task (Some (Draw shape)) stain p none clean = absurd cc
points_clean setup s task (Some (Copy device x y)) stain p none clean = absurd cc
points_clean setup s task (Some (Make w h)) stain p none clean = rw clean refl
points_clean setup s task (Some (Discard device)) stain p none clean = rw clean refl

-- ---- where no window is invalid

not_invalid_at : (o : Option Rect) (p : Point) → is_some o ≡ false → some_has o p ≡ false
not_invalid_at None p none = refl
not_invalid_at (Some r) p none = absurd cc

valid_is_no_damage : (looks : Looks) (ws : List Win) (p : Point) → NoneInvalid ws → is_damaged looks ws p ≡ false
valid_is_no_damage looks [] p none = refl
valid_is_no_damage looks (w ∷ ws) p none =
    let parts = or_parts (is_invalid w) (list_any is_invalid ws) none in
    or_from _ _ (and_right (is_seen looks w ws p) (is_invalid_at p w) (not_invalid_at w.invalid p parts.0)) (valid_is_no_damage looks ws p parts.1)

pub right_outside : (setup : Setup) (s : Desk) (stain : Stain) → Holds setup s stain → NoneInvalid s.windows → IsPainterOutside setup s.windows s.picture stain
right_outside setup s stain h none x y x_in y_in clean =
    h.covers x y x_in y_in (valid_is_no_damage (looks_of setup s.windows) s.windows (point_at (pos x) (pos y)) none) clean
    ∙ sym (colour_at-picture_of setup.config.w setup.config.h (λ u v. painted (looks_of setup s.windows) s.windows (point_at (pos u) (pos v))) x y x_in y_in)

pub shown_is_painter : (setup : Setup) (s : Desk) (stain : Stain) → Holds setup s stain → ((p : Point) → stain p ≡ false) → NoneInvalid s.windows → s.picture ≡ painter setup s.windows
shown_is_painter setup s stain h clean none =
    let colours = h.pictured.colours in
    h.pictured.is
    ∙ picture_of-same setup.config.w setup.config.h colours (λ x y. painted (looks_of setup s.windows) s.windows (point_at (pos x) (pos y))) (λ x y x_in y_in.
    sym (colour_at-picture_of setup.config.w setup.config.h colours x y x_in y_in)
    ∙ ap (λ (shown : Picture). colour_at shown x y) (sym h.pictured.is)
    ∙ h.covers x y x_in y_in (valid_is_no_damage (looks_of setup s.windows) s.windows (point_at (pos x) (pos y)) none) (clean (point_at (pos x) (pos y))))

-- ---- calls, one after the other

unless_stained : (setup : Setup) (s : Desk) (stain after : Stain) (done : Step Desk) (o : Option Refusal) → Holds setup s stain → (o ≡ None → Holds setup done.state after) → Holds setup (unless_refused o s done).state (cond (is_some o) stain after)
unless_stained setup s stain after done None is is_done = is_done refl
unless_stained setup s stain after done (Some refusal) is is_done = is

step_holds : (setup : Setup) (s : Desk) (stain : Stain) (actor : ℕ) (call : Call) → Holds setup s stain → Holds setup (desk_step setup s actor call).state (stained_by setup s actor call stain)
step_holds setup s stain actor call is =
    unless_stained setup s stain (stain_after_call setup s actor call stain) (desk_effect setup s actor call) (refusal_of (desk_objections setup s actor call)) is (λ fine. any_effect_holds setup s stain actor call fine is)

calls_hold : (setup : Setup) (s : Desk) (stain : Stain) (calls : List (ℕ × Call)) → Holds setup s stain → Holds setup (desk_after setup s calls) (stain_after_calls setup s calls stain)
calls_hold setup s stain [] is = is
calls_hold setup s stain (made ∷ calls) is = calls_hold setup (desk_step setup s made.0 made.1).state (stained_by setup s made.0 made.1 stain) calls (step_holds setup s stain made.0 made.1 is)

pub all_covered : (setup : Setup) (calls : List (ℕ × Call)) → IsRightOutside setup (desk_after setup (opening_desk setup) calls) (stain_after_calls setup (opening_desk setup) calls no_stain)
all_covered setup calls = (calls_hold setup (opening_desk setup) no_stain calls (opening_holds setup)).covers

pub all_painted : (setup : Setup) (calls : List (ℕ × Call)) → NoneInvalid (desk_after setup (opening_desk setup) calls).windows → IsPainterOutside setup (desk_after setup (opening_desk setup) calls).windows (desk_after setup (opening_desk setup) calls).picture (stain_after_calls setup (opening_desk setup) calls no_stain)
all_painted setup calls = right_outside setup (desk_after setup (opening_desk setup) calls) (stain_after_calls setup (opening_desk setup) calls no_stain) (calls_hold setup (opening_desk setup) no_stain calls (opening_holds setup))
