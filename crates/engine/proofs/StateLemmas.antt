-- What calls and marks do to the state: they leave its desk, or do with it what the call does.
use Rattle.std.proofs.Common.{◌≡◌, ℕ, zero, suc, Bool, true, false, cond, List, [], ◌∷◌, ◌++◌, Option, Some, None, refl, sym, ap, ◌∙◌, inl, inr, append-nil}
use Rattle.std.specs.Option.{option_map_or}
use Rattle.std.proofs.lemmas.Bool.{cases_Bool}
use Rattle.frame.specs.Pictures.{Picture}
use Rattle.context.specs.Contexts.{owned_by}
use Rattle.multibuf.specs.Screens.{Screen, latest, after_begin, after_end}
use Rattle.calls.specs.declared.call.Call.{Call}
use Rattle.calls.specs.declared.call.Call.TheVariants.{Begin, End, Exec, Exec1}
use Rattle.calls.specs.declared.entry.Entry.{Entry}
use Rattle.calls.specs.declared.entry.Entry.TheVariants as entry
use Rattle.calls.specs.declared.reply.Reply.{Reply}
use Rattle.calls.specs.declared.reply.Refusal.{Refusal}
use Rattle.desk.specs.Setups.{Setup}
use Rattle.desk.specs.Jobs.{jobs_of}
use Rattle.desk.specs.Drawing.{Work, Draw, Copy, Make, Discard, work_of, is_on_screen}
use Rattle.desk.specs.Desks.{Desk, Step, Objection, is_context_call, desk_objections, refusal_of, unless_refused, after_jobs, effect, other_effect, desk_effect, desk_step, is_drawing}
use Rattle.surfaces.specs.Turns.{marked, none_free, IsScreen}
use Rattle.engine.specs.States.{State, desk_of, with_screen, opening, buffer_objections, objections_to, screen_after, on_desk, effect_of, step_of_call, step}
use Rattle.desk.proofs.CallerLemmas.{none_any}
use Rattle.surfaces.proofs.CallerLemmas.{latest-begin, latest-end, latest-marked, latest-turn, screen-showing, screen-begin, screen-end, screen-marked, screen-turn, Owes, owes_nothing, owes-end, owes-turn}

-- ---- a call that draws nothing leaves the picture

unpainted : (setup : Setup) (d : Desk) (n : ℕ) → n ≡ 0 → (after_jobs setup n d).picture ≡ d.picture
unpainted setup d zero none = refl
unpainted setup d (suc n) none = absurd cc

unworked : (setup : Setup) (d : Desk) (actor : ℕ) (call : Call) (o : Option Work) → (effect setup d call).state.picture ≡ d.picture → option_map_or (is_on_screen (owned_by d.contexts actor).context) o false ≡ false → (other_effect setup d actor o call).state.picture ≡ d.picture
unworked setup d actor call None plain not = plain
unworked setup d actor call (Some (Draw shape)) plain not = rw not refl
unworked setup d actor call (Some (Copy device x y)) plain not = absurd cc
unworked setup d actor call (Some (Make w h)) plain not = refl
unworked setup d actor call (Some (Discard device)) plain not = refl

by_kind : (setup : Setup) (d : Desk) (actor : ℕ) (call : Call) → (effect setup d call).state.picture ≡ d.picture → option_map_or (is_on_screen (owned_by d.contexts actor).context) (work_of call) false ≡ false → (desk_effect setup d actor call).state.picture ≡ d.picture
by_kind setup d actor call plain not =
    elim (cases_Bool (is_context_call call)) [
      | inl on ↦ rw on refl
      | inr other ↦ rw other (unworked setup d actor call (work_of call) plain not)
    ]

pub undrawn_stays : (setup : Setup) (d : Desk) (actor : ℕ) (call : Call) → is_drawing d actor call ≡ false → (desk_effect setup d actor call).state.picture ≡ d.picture
undrawn_stays setup d actor Exec not = unpainted setup d (jobs_of d.windows) (none_any d.windows not)
undrawn_stays setup d actor Exec1 not = rw not refl
undrawn_stays setup d actor call not = by_kind setup d actor call refl not

-- ---- the desk after a call on it

pub latest-after : (n : ℕ) (drawing : Bool) (d : Desk) (s : Screen) → IsScreen n s → (drawing ≡ false → d.picture ≡ latest s) → latest (screen_after n drawing d s) ≡ d.picture
latest-after n true d s is stays = latest-turn n d.picture s is
latest-after n false d s is stays = sym (stays refl)

pub desk-after : (n : ℕ) (drawing : Bool) (s : Screen) (done : Step Desk) → IsScreen n s → (drawing ≡ false → done.state.picture ≡ latest s) → desk_of (on_desk n drawing s done).state ≡ done.state
desk-after n drawing s done is stays =
    ap (λ (p : Picture). record done.state { picture = p }) (latest-after n drawing done.state s is stays)

-- whether a call is a begin or an end
abbrev pub is_turn_call : Call → Bool
is_turn_call Begin = true
is_turn_call End = true
is_turn_call call = false

pub desk_effect_is : (setup : Setup) (s : State) (actor : ℕ) (call : Call) → is_turn_call call ≡ false → effect_of setup s actor call ≡ on_desk setup.config.buffers (is_drawing (desk_of s) actor call) s.screen (desk_effect setup (desk_of s) actor call)
desk_effect_is setup s actor Begin other = absurd cc
desk_effect_is setup s actor End other = absurd cc
desk_effect_is setup s actor call other = refl

-- a call on the desk does what it does to it
pub goes : (setup : Setup) (s : State) (actor : ℕ) (call : Call) → IsScreen setup.config.buffers s.screen → is_turn_call call ≡ false → desk_of (effect_of setup s actor call).state ≡ (desk_effect setup (desk_of s) actor call).state
goes setup s actor call is other =
    ap (λ (t : Step State). desk_of t.state) (desk_effect_is setup s actor call other)
    ∙ desk-after setup.config.buffers (is_drawing (desk_of s) actor call) s.screen (desk_effect setup (desk_of s) actor call) is (undrawn_stays setup (desk_of s) actor call)

with_latest : (s : State) (screen : Screen) → latest screen ≡ latest s.screen → desk_of (record s { screen = screen }) ≡ desk_of s
with_latest s screen same = ap (λ (p : Picture). record (desk_of s) { picture = p }) same

-- a begin and an end leave the desk
pub stays_begun : (setup : Setup) (s : State) → desk_of (record s { screen = after_begin setup.config.buffers s.screen }) ≡ desk_of s
stays_begun setup s = with_latest s (after_begin setup.config.buffers s.screen) (latest-begin setup.config.buffers s.screen)

pub stays_ended : (s : State) → desk_of (record s { screen = after_end s.screen }) ≡ desk_of s
stays_ended s = with_latest s (after_end s.screen) (latest-end s.screen)

pub stays_marked : (s : State) (k : ℕ) → desk_of (record s { screen = marked k s.screen }) ≡ desk_of s
stays_marked s k = with_latest s (marked k s.screen) (latest-marked k s.screen)

-- ---- refusals

pub none_held : (first rest : List Objection) → refusal_of (first ++ rest) ≡ None → refusal_of first ≡ None
none_held [] rest fine = refl
none_held ((true, why) ∷ first) rest fine = absurd cc
none_held ((false, why) ∷ first) rest fine = none_held first rest fine

-- ---- a call that draws nothing is a step of the desk alone

-- a step of the desk, which leaves the screen
abbrev pub lifted : State → Step Desk → Step State
lifted s done = record { state = with_screen done.state s.screen; reply = done.reply }

no_buffers_needed : (n : ℕ) (s : State) (actor : ℕ) (call : Call) → is_turn_call call ≡ false → is_drawing (desk_of s) actor call ≡ false → buffer_objections n s actor call ≡ []
no_buffers_needed n s actor Begin other not = absurd cc
no_buffers_needed n s actor End other not = absurd cc
no_buffers_needed n s actor call other not = none_if (none_free n s.screen) not
  where
    none_if : {b : Bool} (os : List Objection) → b ≡ false → cond b os [] ≡ []
    none_if os is = ap (λ (c : Bool). cond c os []) is

effect_is_lifted : (setup : Setup) (s : State) (actor : ℕ) (call : Call) → is_turn_call call ≡ false → is_drawing (desk_of s) actor call ≡ false → effect_of setup s actor call ≡ lifted s (desk_effect setup (desk_of s) actor call)
effect_is_lifted setup s actor call other not =
    desk_effect_is setup s actor call other
    ∙ ap (λ (b : Bool). on_desk setup.config.buffers b s.screen (desk_effect setup (desk_of s) actor call)) not

unless_lifted : (o : Option Refusal) (s : State) (done : Step Desk) → unless_refused o s (lifted s done) ≡ lifted s (unless_refused o (desk_of s) done)
unless_lifted None s done = refl
unless_lifted (Some why) s done = refl

pub plain_step : (setup : Setup) (s : State) (actor : ℕ) (call : Call) → is_turn_call call ≡ false → is_drawing (desk_of s) actor call ≡ false → step_of_call setup s actor call ≡ lifted s (desk_step setup (desk_of s) actor call)
plain_step setup s actor call other not =
    let os = desk_objections setup (desk_of s) actor call in
    ap (λ (rest : List Objection). unless_refused (refusal_of (os ++ rest)) s (effect_of setup s actor call)) (no_buffers_needed setup.config.buffers s actor call other not)
    ∙ ap (λ (all : List Objection). unless_refused (refusal_of all) s (effect_of setup s actor call)) (append-nil os)
    ∙ ap (unless_refused (refusal_of os) s) (effect_is_lifted setup s actor call other not)
    ∙ unless_lifted (refusal_of os) s (desk_effect setup (desk_of s) actor call)

pub plain_step_of : (setup : Setup) (s t : State) (actor : ℕ) (call : Call) (reply : Reply) → is_turn_call call ≡ false → is_drawing (desk_of s) actor call ≡ false → t.screen ≡ s.screen
    → ◌≡◌ {A = Step Desk} (record { state = desk_of t; reply = reply }) (desk_step setup (desk_of s) actor call) → ◌≡◌ {A = Step State} (record { state = t; reply = reply }) (step_of_call setup s actor call)
plain_step_of setup s t actor call reply other not same is =
    ap (λ (screen : Screen). record { state = with_screen (desk_of t) screen; reply = reply }) same
    ∙ ap (lifted s) is
    ∙ sym (plain_step setup s actor call other not)

-- ---- what is true of the pictures goes on to be true

screen-after : (n : ℕ) (drawing : Bool) (d : Desk) (s : Screen) → IsScreen n s → IsScreen n (screen_after n drawing d s)
screen-after n true d s is = screen-turn n d.picture s is
screen-after n false d s is = is

screen_effect : (setup : Setup) (s : State) (actor : ℕ) (call : Call) → IsScreen setup.config.buffers s.screen → IsScreen setup.config.buffers (effect_of setup s actor call).state.screen
screen_effect setup s actor Begin is = screen-begin setup.config.buffers s.screen is
screen_effect setup s actor End is = screen-end setup.config.buffers s.screen is
screen_effect setup s actor call is = screen-after setup.config.buffers (is_drawing (desk_of s) actor call) (desk_effect setup (desk_of s) actor call).state s.screen is

screen_unless : (n : ℕ) (o : Option Refusal) (s : State) (done : Step State) → IsScreen n s.screen → IsScreen n done.state.screen → IsScreen n (unless_refused o s done).state.screen
screen_unless n None s done before after = after
screen_unless n (Some why) s done before after = before

pub screen-step : (setup : Setup) (s : State) (e : Entry) → IsScreen setup.config.buffers s.screen → IsScreen setup.config.buffers (step setup s e).state.screen
unfolding step
screen-step setup s (entry.Call actor call) is = screen_unless setup.config.buffers (refusal_of (objections_to setup s actor call)) s (effect_of setup s actor call) is (screen_effect setup s actor call is)
screen-step setup s (entry.Shown k) is = screen-marked setup.config.buffers k s.screen is

pub screen-opening : (setup : Setup) → IsScreen setup.config.buffers (opening setup).screen
screen-opening setup = screen-showing setup.config.buffers _

-- ---- each call asks for one switch at most

owes-after : (n : ℕ) (drawing : Bool) (d : Desk) (s : Screen) → Owes s (screen_after n drawing d s)
owes-after n true d s = owes-turn n d.picture s
owes-after n false d s = owes_nothing s s refl refl

owes_effect : (setup : Setup) (s : State) (actor : ℕ) (call : Call) → Owes s.screen (effect_of setup s actor call).state.screen
owes_effect setup s actor Begin = owes_nothing s.screen (after_begin setup.config.buffers s.screen) refl refl
owes_effect setup s actor End = owes-end s.screen
owes_effect setup s actor call = owes-after setup.config.buffers (is_drawing (desk_of s) actor call) (desk_effect setup (desk_of s) actor call).state s.screen

owes_unless : (o : Option Refusal) (s : State) (done : Step State) → Owes s.screen done.state.screen → Owes s.screen (unless_refused o s done).state.screen
owes_unless None s done owes = owes
owes_unless (Some why) s done owes = owes_nothing s.screen s.screen refl refl

pub owes-call : (setup : Setup) (s : State) (actor : ℕ) (call : Call) → Owes s.screen (step setup s (entry.Call actor call)).state.screen
unfolding step
owes-call setup s actor call = owes_unless (refusal_of (objections_to setup s actor call)) s (effect_of setup s actor call) (owes_effect setup s actor call)
