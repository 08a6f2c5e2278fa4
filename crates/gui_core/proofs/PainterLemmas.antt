-- After any calls and marks the picture that is drawn on is the painter's outside the damage and the stain.
use Rattle.std.proofs.Common.{◌≤◌, leb, option_map, ◌≡◌, ℕ, zero, suc, Bool, true, false, cond, eqb, List, [], ◌∷◌, Option, Some, None, refl, sym, subst, ◌∙◌, inl, inr, arith}
use Rattle.std.specs.Prelude.{is_some, position}
use Rattle.std.specs.List.{list_any, AllByRecursion}
use Rattle.std.proofs.lemmas.Bool.{le-leb, cases_Bool, or_parts}
use Rattle.gfx_base.specs.declared.point.Point.{Point}
use Rattle.scene.specs.declared.win.Win.{Win}
use Rattle.calls.specs.declared.call.Call.{Call}
use Rattle.calls.specs.declared.call.Call.TheVariants.{Exec, Begin, End}
use Rattle.calls.specs.declared.entry.Entry.{Entry}
use Rattle.calls.specs.declared.entry.Entry.TheVariants as entry
use Rattle.calls.specs.declared.reply.Refusal.{Refusal}
use Rattle.frame.specs.Pictures.{Picture}
use Rattle.desk.specs.Setups.{Setup, painter}
use Rattle.invalidate.specs.Invalidation.{is_invalid}
use Rattle.desk.specs.Jobs.{jobs_of}
use Rattle.desk.specs.Desks.{Desk, Step, desk_objections, refusal_of, unless_refused, after_job, after_jobs, desk_effect, is_drawing, is_refused}
use Rattle.desk.specs.Drawing.{work_of}
use Rattle.desk.specs.Stains.{Stain, no_stain, left_stained, stain_after_call}
use Rattle.gui_core.specs.Stains.{stained, stain_after, draws}
use Rattle.desk.specs.Promises.{IsRightOutside, IsPainterOutside, NoneInvalid}
use Rattle.desk.proofs.CallerLemmas.{none_invalid, no_jobs, Holds, left_clean, points_clean, right_outside, shown_is_painter, unless_clean, opening_holds, any_effect_holds}
use Rattle.multibuf.specs.Screens.{Screen, latest, number_of_switch}
use Rattle.surfaces.specs.Turns.{after_turn, IsScreen}
use Rattle.engine.specs.States.{State, desk_of, opening, buffer_objections, objections_to, screen_after, effect_of, step, state_after}
use Rattle.gui_core.specs.Promises.{IsQuiet}
use Rattle.engine.proofs.CallerLemmas.{jobs-step, is_turn_call, goes, stays_begun, stays_ended, stays_marked, none_held, screen-step, screen-opening}

-- ---- each step keeps what holds

unless_stained : (setup : Setup) (s : State) (stain after : Stain) (done : Step State) (o : Option Refusal) → Holds setup (desk_of s) stain → (o ≡ None → Holds setup (desk_of done.state) after) → Holds setup (desk_of (unless_refused o s done).state) (cond (is_some o) stain after)
unless_stained setup s stain after done None is is_done = is_done refl
unless_stained setup s stain after done (Some refusal) is is_done = is

-- a call on the desk
on_desk_holds : (setup : Setup) (s : State) (stain : Stain) (actor : ℕ) (call : Call) → IsScreen setup.config.buffers s.screen → is_turn_call call ≡ false → refusal_of (objections_to setup s actor call) ≡ None → Holds setup (desk_of s) stain
    → Holds setup (desk_of (effect_of setup s actor call).state) (stain_after_call setup (desk_of s) actor call stain)
on_desk_holds setup s stain actor call pictures other fine is =
    subst (λ (d : Desk). Holds setup d (stain_after_call setup (desk_of s) actor call stain)) (sym (goes setup s actor call pictures other))
    (any_effect_holds setup (desk_of s) stain actor call (none_held (desk_objections setup (desk_of s) actor call) (buffer_objections setup.config.buffers s actor call) fine) is)

same_desk : (setup : Setup) (stain : Stain) (d e : Desk) → e ≡ d → Holds setup d stain → Holds setup e stain
same_desk setup stain d e same is = subst (λ (k : Desk). Holds setup k stain) (sym same) is

effect_keeps : (setup : Setup) (s : State) (stain : Stain) (actor : ℕ) (call : Call) → IsScreen setup.config.buffers s.screen → refusal_of (objections_to setup s actor call) ≡ None → Holds setup (desk_of s) stain → Holds setup (desk_of (effect_of setup s actor call).state) (stain_after_call setup (desk_of s) actor call stain)
effect_keeps setup s stain actor Begin pictures fine is = same_desk setup stain (desk_of s) _ (stays_begun setup s) is
effect_keeps setup s stain actor End pictures fine is = same_desk setup stain (desk_of s) _ (stays_ended s) is
effect_keeps setup s stain actor call pictures fine is = on_desk_holds setup s stain actor call pictures refl fine is

step_holds : (setup : Setup) (s : State) (stain : Stain) (e : Entry) → IsScreen setup.config.buffers s.screen → Holds setup (desk_of s) stain → Holds setup (desk_of (step setup s e).state) (stained setup s e stain)
unfolding step
step_holds setup s stain (entry.Call actor call) pictures is =
    unless_stained setup s stain (stain_after_call setup (desk_of s) actor call stain) (effect_of setup s actor call) (refusal_of (objections_to setup s actor call)) is (λ fine. effect_keeps setup s stain actor call pictures fine is)
step_holds setup s stain (entry.Shown k) pictures is = same_desk setup stain (desk_of s) _ (stays_marked s k) is

-- what holds of the state
record Stands (setup : Setup) (s : State) (stain : Stain) : Type 0 where
  pictures : IsScreen setup.config.buffers s.screen
  holds : Holds setup (desk_of s) stain

entries_hold : (setup : Setup) (s : State) (stain : Stain) (es : List Entry) → Stands setup s stain → Stands setup (state_after setup s es) (stain_after setup s es stain)
entries_hold setup s stain [] is = is
entries_hold setup s stain (e ∷ es) is = entries_hold setup (step setup s e).state (stained setup s e stain) es (record { pictures = screen-step setup s e is.pictures; holds = step_holds setup s stain e is.pictures is.holds })

all_hold : (setup : Setup) (es : List Entry) → Stands setup (state_after setup (opening setup) es) (stain_after setup (opening setup) es no_stain)
all_hold setup es = entries_hold setup (opening setup) no_stain es (record { pictures = screen-opening setup; holds = opening_holds setup })

pub damage_covers : (setup : Setup) (es : List Entry) → IsRightOutside setup (desk_of (state_after setup (opening setup) es)) (stain_after setup (opening setup) es no_stain)
damage_covers setup es = let is = all_hold setup es in is.holds.covers

-- ---- what isn't stained stays clean until a task draws there

pub stays_clean : (setup : Setup) (s : State) (e : Entry) (stain : Stain) (p : Point) → draws e ≡ false → stain p ≡ false → stained setup s e stain p ≡ false
stays_clean setup s (entry.Call actor call) stain p none clean =
    unless_clean (is_some (refusal_of (objections_to setup s actor call))) stain (stain_after_call setup (desk_of s) actor call stain) p clean
    (points_clean setup (desk_of s) actor (work_of call) (left_stained setup (desk_of s) call stain) p none (left_clean setup (desk_of s) call stain p clean))
stays_clean setup s (entry.Shown k) stain p none clean = clean

all_clean : (setup : Setup) (s : State) (es : List Entry) (stain : Stain) (p : Point) → list_any draws es ≡ false → stain p ≡ false → stain_after setup s es stain p ≡ false
all_clean setup s [] stain p none clean = clean
all_clean setup s (e ∷ es) stain p none clean =
    let parts = or_parts (draws e) (list_any draws es) none in
    all_clean setup (step setup s e).state es (stained setup s e stain) p parts.1 (stays_clean setup s e stain p parts.0 clean)

-- ---- where no window is invalid

-- ---- exec

any_none : (ws : List Win) → AllByRecursion (λ v. is_invalid v ≡ false) ws → list_any is_invalid ws ≡ false
any_none [] all = refl
any_none (w ∷ ws) all = rw (all.0, any_none ws all.1) refl

no_more_jobs : (setup : Setup) (s : Desk) (o : Option ℕ) → position is_invalid s.windows ≡ o → jobs_of s.windows ≡ 0 → NoneInvalid s.windows
no_more_jobs setup s None is e = any_none s.windows (none_invalid s.windows is)
no_more_jobs setup s (Some which) is e = let more = jobs-step setup s which is in absurd (omega arith)

one_job_less : (setup : Setup) (n : ℕ) (s : Desk) (o : Option ℕ) → position is_invalid s.windows ≡ o → jobs_of s.windows ≡ suc n → jobs_of (after_job setup s).windows ≡ n
one_job_less setup n s None is e = let none = no_jobs s.windows is in absurd (omega arith)
one_job_less setup n s (Some which) is e = let more = jobs-step setup s which is in omega arith

-- after as many jobs as there are invalid windows none is invalid
pub jobs_end : (setup : Setup) (n : ℕ) (s : Desk) → jobs_of s.windows ≡ n → NoneInvalid (after_jobs setup n s).windows
jobs_end setup zero s e = no_more_jobs setup s (position is_invalid s.windows) refl e
jobs_end setup (suc n) s e = jobs_end setup n (after_job setup s) (one_job_less setup n s (position is_invalid s.windows) refl e)

by_exec : (setup : Setup) (s : State) (actor : ℕ) (o : Option Refusal) → is_refused (unless_refused o s (effect_of setup s actor Exec)).reply ≡ false → NoneInvalid (unless_refused o s (effect_of setup s actor Exec)).state.windows
by_exec setup s actor None done = jobs_end setup (jobs_of s.windows) (desk_of s) refl
by_exec setup s actor (Some refusal) done = absurd cc

-- an exec that isn't refused leaves no window invalid
pub exec_ends : (setup : Setup) (s : State) (actor : ℕ) → is_refused (step setup s (entry.Call actor Exec)).reply ≡ false → NoneInvalid (step setup s (entry.Call actor Exec)).state.windows
unfolding step
exec_ends setup s actor done = by_exec setup s actor (refusal_of (objections_to setup s actor Exec)) done

-- ---- where all is quiet

-- the picture that is drawn on is the one that is shown
shown_is : (s : Screen) → (b : Option Picture) (w : Option (ℕ × Picture)) → s.back ≡ b → s.waiting ≡ w → b ≡ None → option_map number_of_switch w ≡ None → s.shown ≡ latest s
shown_is s None None back waiting ended switched = rw (back, waiting) refl
shown_is s None (Some w) back waiting ended switched = absurd cc
shown_is s (Some b) w back waiting ended switched = absurd cc

shows_latest : (setup : Setup) (s : State) (stain : Stain) → Stands setup s stain → IsQuiet s → s.screen.shown ≡ latest s.screen
shows_latest setup s stain is quiet = shown_is s.screen s.screen.back s.screen.waiting refl refl (is.pictures.ended quiet.ended) quiet.switched

pub valid_is_painter : (setup : Setup) (es : List Entry) → NoneInvalid (state_after setup (opening setup) es).windows → IsPainterOutside setup (state_after setup (opening setup) es).windows (latest (state_after setup (opening setup) es).screen) (stain_after setup (opening setup) es no_stain)
valid_is_painter setup es none = let is = all_hold setup es in right_outside setup (desk_of (state_after setup (opening setup) es)) (stain_after setup (opening setup) es no_stain) is.holds none

pub undrawn_is_painter : (setup : Setup) (es : List Entry) → list_any draws es ≡ false → NoneInvalid (state_after setup (opening setup) es).windows → latest (state_after setup (opening setup) es).screen ≡ painter setup (state_after setup (opening setup) es).windows
undrawn_is_painter setup es undrawn none =
    let is = all_hold setup es in
    shown_is_painter setup (desk_of (state_after setup (opening setup) es)) (stain_after setup (opening setup) es no_stain) is.holds (λ p. all_clean setup (opening setup) es no_stain p undrawn refl) none

pub quiet_shows : (setup : Setup) (es : List Entry) → IsQuiet (state_after setup (opening setup) es) → (state_after setup (opening setup) es).screen.shown ≡ latest (state_after setup (opening setup) es).screen
quiet_shows setup es quiet = let is = all_hold setup es in shows_latest setup (state_after setup (opening setup) es) _ is quiet

pub quiet_is_painter : (setup : Setup) (es : List Entry) → IsQuiet (state_after setup (opening setup) es) → IsPainterOutside setup (state_after setup (opening setup) es).windows (state_after setup (opening setup) es).screen.shown (stain_after setup (opening setup) es no_stain)
quiet_is_painter setup es quiet =
    let s = state_after setup (opening setup) es in
    subst (λ (p : Picture). IsPainterOutside setup s.windows p (stain_after setup (opening setup) es no_stain)) (sym (quiet_shows setup es quiet)) (valid_is_painter setup es quiet.valid)

pub quiet_undrawn : (setup : Setup) (es : List Entry) → list_any draws es ≡ false → IsQuiet (state_after setup (opening setup) es) → (state_after setup (opening setup) es).screen.shown ≡ painter setup (state_after setup (opening setup) es).windows
quiet_undrawn setup es undrawn quiet = quiet_shows setup es quiet ∙ undrawn_is_painter setup es undrawn quiet.valid

-- ---- what is shown

turn_shows : (n : ℕ) (p : Picture) (s : Screen) → leb 2 n ≡ true → (after_turn n p s).shown ≡ s.shown
turn_shows n p s several =
    elim (cases_Bool (eqb s.count 0)) [
      | inl first ↦ rw (first, several) refl
      | inr later ↦ rw (later, several) refl
    ]

after_shows : (n : ℕ) (drawing : Bool) (d : Desk) (s : Screen) → leb 2 n ≡ true → (screen_after n drawing d s).shown ≡ s.shown
after_shows n true d s several = turn_shows n d.picture s several
after_shows n false d s several = refl

effect_shows : (setup : Setup) (s : State) (actor : ℕ) (call : Call) → leb 2 setup.config.buffers ≡ true → (effect_of setup s actor call).state.screen.shown ≡ s.screen.shown
effect_shows setup s actor Begin several = refl
effect_shows setup s actor End several = refl
effect_shows setup s actor call several = after_shows setup.config.buffers (is_drawing (desk_of s) actor call) (desk_effect setup (desk_of s) actor call).state s.screen several

unless_shows : (o : Option Refusal) (s : State) (done : Step State) → done.state.screen.shown ≡ s.screen.shown → (unless_refused o s done).state.screen.shown ≡ s.screen.shown
unless_shows None s done same = same
unless_shows (Some refusal) s done same = refl

-- with several buffers no call changes the picture that is shown
pub calls_leave_shown : (setup : Setup) (s : State) (actor : ℕ) (call : Call) → 2 ≤ setup.config.buffers → (step setup s (entry.Call actor call)).state.screen.shown ≡ s.screen.shown
unfolding step
calls_leave_shown setup s actor call several = unless_shows (refusal_of (objections_to setup s actor call)) s (effect_of setup s actor call) (effect_shows setup s actor call (le-leb 2 setup.config.buffers several))
