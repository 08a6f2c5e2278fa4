-- What calls come to: one step each, counted.
use Rattle.std.proofs.Common.{◌≡◌, ℕ, ℤ, ◌+◌, ◌<◌, ◌≤◌, Bool, true, false, cond, eqb, List, [], ◌∷◌, ◌++◌, length, Option, Some, None, Result, Ok, Err, subst, refl, sym, ap, ◌∙◌, arith}
use Rattle.std.specs.Prelude.{position, is_some}
use Rattle.std.specs.List.{AllByRecursion}
use Rattle.std.proofs.lemmas.Bool.{ne_eqb}
use Rattle.std.proofs.lemmas.Bool.Decides.{nat_tests}
use Rattle.std.proofs.lemmas.Int.{ints}
use Rattle.gfx_base.specs.Rects.{is_empty}
use Rattle.frame.specs.Pictures.{Picture}
use Rattle.paint_ops.specs.declared.op.Op.{Op}
use Rattle.paint_ops.specs.declared.op.Op.TheVariants as op
use Rattle.paint_ops.specs.Kinds.{Class, Assets}
use Rattle.paint_ops.specs.Soundness.{IsOperation, IsClass, IsSound}
use Rattle.context.specs.declared.context.Context.{Context}
use Rattle.context.specs.Contexts.{Owned, first_contexts, owned_by}
use Rattle.scene.specs.declared.win.Win.{Win}
use Rattle.calls.specs.declared.config.Config.{Config}
use Rattle.calls.specs.declared.call.Call.{Call}
use Rattle.calls.specs.declared.reply.Reply.{Reply}
use Rattle.calls.specs.declared.reply.Reply.TheVariants.{Done, Handle, Jobs, Device, Refused}
use Rattle.calls.specs.declared.reply.Refusal.{Refusal}
use Rattle.desk.specs.Setups.{Setup, classes_with_desktop, assets_with_desktop, setup_for, screen_of, looks_of}
use Rattle.scene.specs.Looks.{screen_with, looks_of as looks_on}
use Rattle.scene.specs.Painting.{Looks}
use Rattle.scene.specs.Stacks.{has_ancestors, IsShallow}
use Rattle.win_tree.specs.Trees.{Scene}
use Rattle.desk.specs.Scenes.{IsScene}
use Rattle.desk.specs.Windows.{after_change}
use Rattle.window_list.specs.Refusals.{Performs, Creates}
use Rattle.surfaces.specs.Refusals.{Alters, Draws}
use Rattle.desk.specs.Drawing.{Work, Draw, Copy, Surfaces, is_on_screen, devices_after, surfaces_after, reply_to}
use Rattle.desk.proofs.CallerLemmas.{scene_after, scene_created, IsOnWindows, IsWork, may_be_made, is_new, no_jobs, jobs-more, none_invalid_any, some_invalid, refused_next}
use Rattle.desk.specs.Jobs.{jobs_of}
use Rattle.invalidate.specs.Invalidation.{is_invalid}
use Rattle.calls.specs.declared.call.Call.TheVariants.{Begin, End, Exec, Exec1, Create, DevCopy}
use Rattle.strokes.specs.declared.shape.Shape.{Shape}
use Rattle.strokes.specs.declared.shape.Shape.TheVariants as shape
use Rattle.desk.specs.Changes.{stroke_call}
use Rattle.scene.specs.Families.{new_window, desktop_with, on_top_of}
use Rattle.desk.specs.Desks.{work_objections, Desk, Step, Objection, opening_desk, is_context_call, objections, desk_objections, refusal_of, unless_refused, with_windows, after_job, after_jobs, effect, desk_effect, context_objections, context_after, is_drawing, is_refused}
use Rattle.engine.specs.States.{State, desk_of, with_screen, buffer_objections, objections_to, on_desk, effect_of, step_of_call, step}
use Rattle.flip.specs.declared.views.Drawing.{Drawing}
use Rattle.multibuf.specs.Screens.{Screen, latest, after_end, after_mark, after_draw}
use Rattle.surfaces.specs.Turns.{after_turn, none_free, end_objections, IsScreen}
use Rattle.surfaces.specs.Panes.{Panes, panes_for, surfaces_of, panes_after, pane_objections, begun, ended, Begins, switched, Finds}
use Rattle.surfaces.proofs.CallerLemmas.{screen-showing, screen-turn, screen-end, screen-ended, owes-turn, owes-end, latest-begun, latest-mark, waiting-begun, finds_same, finds_as_before, finds_buffers, mark_turn, unswitched}
use Rattle.engine.specs.Machines.{Machine, IsConfig, IsKept, Takes, Makes, Turns, Paints, Counts, machine_for, panes_of, with_panes, with_mark, answered}
use Rattle.engine.proofs.StateLemmas.{is_turn_call, desk_effect_is, plain_step_of, none_held}
use Rattle.engine.proofs.KeptLemmas.{kept-with, kept-windows, kept-screen, kept-mark}

-- ---- one call

pub refused_takes : (m : Machine) (actor : ℕ) (call : Call) (refusal : Refusal) → refusal_of (desk_objections m.setup (desk_of m.state) actor call) ≡ Some refusal → Takes m actor call m (Refused refusal)
refused_takes m actor call refusal e = record { rest = refl; screen = refl; step = sym (ap (λ o. unless_refused o (desk_of m.state) (desk_effect m.setup (desk_of m.state) actor call)) e) }

pub done_takes : (m new : Machine) (actor : ℕ) (call : Call) (reply : Reply) (t : State) → refusal_of (desk_objections m.setup (desk_of m.state) actor call) ≡ None → new ≡ record m { state = t } → t.screen ≡ m.state.screen
    → ◌≡◌ {A = Step Desk} (record { state = desk_of t; reply = reply }) (desk_effect m.setup (desk_of m.state) actor call) → Takes m actor call new reply
done_takes m new actor call reply t fine is same done = record {
  rest = is ∙ ap (λ (s : State). record m { state = s }) (sym (ap (λ (k : Machine). k.state) is));
  screen = ap (λ (k : Machine). k.state.screen) is ∙ same;
  step =
      ap (λ (k : Machine). record { state = desk_of k.state; reply = reply }) is
      ∙ done
      ∙ sym (ap (λ o. unless_refused o (desk_of m.state) (desk_effect m.setup (desk_of m.state) actor call)) fine);
}

-- a call that draws nothing, begins nothing and ends nothing
pub plainly : (old new : Machine) (actor : ℕ) (call : Call) (reply : Reply) → is_turn_call call ≡ false → is_drawing (desk_of old.state) actor call ≡ false → Takes old actor call new reply → Makes old actor call new reply
plainly old new actor call reply other not takes = record { rest = takes.rest; step = plain_step_of old.setup old.state new.state actor call reply other not takes.screen takes.step }

-- where nothing is found, and the display isn't stepped
unmarked : (old new : Machine) → new.drawer ≡ old.drawer → new.marked ≡ old.marked → old.marked ≡ None → with_mark new old ≡ old
unmarked old new drawer marked fresh = ap (with_panes old) (unswitched (panes_of old) (panes_of new) drawer marked fresh)

pub turns_plainly : (old new : Machine) (actor : ℕ) (call : Call) (reply : Reply) → old.marked ≡ None → Makes old actor call new reply → Turns old actor call new reply
turns_plainly old new actor call reply fresh makes =
    let drawer : new.drawer ≡ old.drawer = ap (λ (k : Machine). k.drawer) makes.rest in
    let marked : new.marked ≡ old.marked = ap (λ (k : Machine). k.marked) makes.rest in
    record {
      finds = finds_as_before (panes_of old) (panes_of new) drawer marked fresh;
      makes = subst (λ (k : Machine). Makes k actor call new reply) (sym (unmarked old new drawer marked fresh)) makes;
    }

pub takes_plainly : (old new : Machine) (actor : ℕ) (call : Call) (reply : Reply) → old.marked ≡ None → is_turn_call call ≡ false → is_drawing (desk_of old.state) actor call ≡ false → Takes old actor call new reply → Turns old actor call new reply
takes_plainly old new actor call reply fresh other not takes = turns_plainly old new actor call reply fresh (plainly old new actor call reply other not takes)

pub taken_by : (old new : Machine) (actor : ℕ) (call asked : Call) (reply : Reply) → old.marked ≡ None → call ≡ asked → is_turn_call asked ≡ false → is_drawing (desk_of old.state) actor asked ≡ false → Takes old actor asked new reply → Turns old actor call new reply
taken_by old new actor call asked reply fresh same other not takes = subst (λ (x : Call). Turns old actor x new reply) (sym same) (takes_plainly old new actor asked reply fresh other not takes)

pub made_by : (old new : Machine) (actor : ℕ) (call asked : Call) (reply : Reply) → old.marked ≡ None → call ≡ asked → Makes old actor asked new reply → Turns old actor call new reply
made_by old new actor call asked reply fresh same makes = subst (λ (x : Call). Turns old actor x new reply) (sym same) (turns_plainly old new actor asked reply fresh makes)

pub turned_by : (old new : Machine) (actor : ℕ) (call asked : Call) (reply : Reply) → call ≡ asked → Turns old actor asked new reply → Turns old actor call new reply
turned_by old new actor call asked reply same turns = subst (λ (x : Call). Turns old actor x new reply) (sym same) turns

-- a call that was counted, made, and counted once more where it was refused
pub answered_by : (old counted taken new : Machine) (actor : ℕ) (call : Call) (reply : Reply) (n : ℕ) → counted ≡ record old { made = old.made + 1 } → Makes (with_mark taken counted) actor call taken reply → new ≡ record taken { refused = taken.refused + n } → n ≡ cond (is_refused reply) 1 0 → Counts (with_mark new old) actor call new reply
unfolding step
answered_by old counted taken new actor call reply n once makes more count =
    let rest = makes.rest in
    let drawer : new.drawer ≡ taken.drawer = ap (λ (k : Machine). k.drawer) more in
    let marked : new.marked ≡ taken.marked = ap (λ (k : Machine). k.marked) more in
    record {
      setup = ap (λ (k : Machine). k.setup) more ∙ ap (λ (k : Machine). k.setup) rest ∙ ap (λ (k : Machine). k.setup) once;
      step =
          ap (λ (k : Machine). record { state = k.state; reply = reply }) more
          ∙ makes.step
          ∙ ap (λ (k : Machine). step_of_call k.setup (with_mark taken k).state actor call) once
          ∙ ap (λ (k : Option ℕ). step_of_call old.setup (record old.state { screen = after_mark k old.state.screen }) actor call) (sym marked);
      made = ap (λ (k : Machine). k.made) more ∙ ap (λ (k : Machine). k.made) rest ∙ ap (λ (k : Machine). k.made) once;
      refused = ap (λ (k : Machine). k.refused) more ∙ ap (λ (k : Machine). k.refused + n) rest ∙ ap (λ (k : Machine). k.refused + n) once ∙ ap (λ (k : ℕ). old.refused + k) count;
    }

pub no_refusal : (reply : Reply) → ((refusal : Refusal) → reply ≡ Refused refusal → ⊥) → ◌≡◌ {A = ℕ} 0 (cond (is_refused reply) 1 0)
no_refusal Done other = refl
no_refusal (Handle handle) other = refl
no_refusal (Jobs count) other = refl
no_refusal (Device device) other = refl
no_refusal (Refused refusal) other = absurd (other refusal refl)

-- ---- what callers of the windows learn

-- the core with other windows
abbrev pub with_scene : Machine → Scene → Machine
with_scene m scene = record m { state = record m.state { windows = scene.windows; handles = scene.handles } }

-- the core's windows
abbrev pub scene_of : Machine → Scene
scene_of m = record { windows = m.state.windows; handles = m.state.handles }

-- the first reason against a call on windows
abbrev pub reason_of : Machine → Call → Option Refusal
reason_of m call = refusal_of (objections (length m.setup.assets.classes) m.state.windows call)

-- the core with other contexts
abbrev pub with_contexts : Machine → List Owned → Machine
with_contexts m contexts = record m { state = record m.state { contexts = contexts } }

-- the first reason against a task's call on its context
abbrev pub context_reason : Machine → ℕ → Call → Option Refusal
context_reason m task call = refusal_of (context_objections (length m.setup.assets.fonts) m.state.windows m.state.devices.live (owned_by m.state.contexts task) call)

-- the first reason against work with a context
abbrev pub work_reason : Machine → Context → Work → Option Refusal
work_reason m c work = refusal_of (pane_objections m.setup.assets m.state.windows c work (panes_of m))

-- the surfaces after it
abbrev pub surfaces_with : Machine → Context → Work → Surfaces
surfaces_with m c work = surfaces_after m.setup.assets (looks_of m.setup m.state.windows) m.state.windows c work (surfaces_of (panes_of m))

-- the panes after it
abbrev pub panes_with : Machine → Context → Work → Panes
panes_with m c work =
    let now = surfaces_with m c work in
    record (panes_of m) { screen = cond (is_on_screen c work) (after_turn m.drawer.buffers now.picture m.state.screen) m.state.screen; devices = now.devices }

-- what a task draws with
abbrev pub context_of : Machine → ℕ → Context
context_of m task = (owned_by m.state.contexts task).context

-- the windows with a new one
abbrev pub made_windows : Machine → ℕ → ℤ → ℤ → ℕ → ℕ → ℕ → List Win
made_windows m parent x y w h class =
    let win : Win = new_window (m.state.handles + 1) parent x y w h class in
    after_change (screen_of m.setup) (m.state.handles + 1) m.state.windows (on_top_of parent (win ∷ []) m.state.windows)

pub performed : (m : Machine) (call : Call) (r : Result (Unit {0}) Refusal) (now : List Win) (new : Scene) → IsKept m → Performs r (reason_of m call) now (scene_of m) new → (reason_of m call ≡ None → IsScene m.setup now m.state.handles) → IsKept (with_scene m new)
performed m call (Ok done) now new kept p scene =
    subst (λ (s : Scene). IsKept (with_scene m s)) (sym p.1) (kept-windows m now kept (scene p.0))
performed m call (Err refusal) now new kept p scene = subst (λ (s : Scene). IsKept (with_scene m s)) (sym p.1) kept

-- a call on windows is made by any actor alike
of_windows : (m : Machine) (actor : ℕ) (call : Call) → IsOnWindows call → refusal_of (desk_objections m.setup (desk_of m.state) actor call) ≡ reason_of m call
of_windows m actor call on = rw (on.0, on.1) refl

does_to_windows : (m : Machine) (actor : ℕ) (call : Call) → IsOnWindows call → desk_effect m.setup (desk_of m.state) actor call ≡ effect m.setup (desk_of m.state) call
does_to_windows m actor call on = rw (on.0, on.1) refl

pub done : (m : Machine) (actor : ℕ) (call : Call) (now : List Win) (new : Scene) → IsOnWindows call → reason_of m call ≡ None → new ≡ record (scene_of m) { windows = now } → ◌≡◌ {A = Step Desk} (with_windows (desk_of m.state) now) (effect m.setup (desk_of m.state) call) → Takes m actor call (with_scene m new) Done
done m actor call now new on fine is does = done_takes m (with_scene m new) actor call Done (record m.state { windows = now }) (of_windows m actor call on ∙ fine) (ap (with_scene m) is) refl (does ∙ sym (does_to_windows m actor call on))

pub refused : (m : Machine) (actor : ℕ) (call : Call) (refusal : Refusal) (new : Scene) → IsOnWindows call → reason_of m call ≡ Some refusal → new ≡ scene_of m → Takes m actor call (with_scene m new) (Refused refusal)
refused m actor call refusal new on why is =
    subst (λ (s : Scene). Takes m actor call (with_scene m s) (Refused refusal)) (sym is) (refused_takes m actor call refusal (of_windows m actor call on ∙ why))

pub answers : (m : Machine) (actor : ℕ) (call : Call) (r : Result (Unit {0}) Refusal) (now : List Win) (new : Scene) → IsOnWindows call → Performs r (reason_of m call) now (scene_of m) new → ◌≡◌ {A = Step Desk} (with_windows (desk_of m.state) now) (effect m.setup (desk_of m.state) call) → Takes m actor call (with_scene m new) (answered r)
answers m actor call (Ok d) now new on p does = done m actor call now new on p.0 p.1 does
answers m actor call (Err refusal) now new on p does = refused m actor call refusal new on p.0 p.1

-- the same, told of the machine that the call found, and of the reply
pub replied : (old m : Machine) (actor : ℕ) (call : Call) (r : Result (Unit {0}) Refusal) (now : List Win) (new : Scene) (reply : Reply) → IsOnWindows call → m ≡ old → reply ≡ answered r → Performs r (reason_of m call) now (scene_of m) new → ◌≡◌ {A = Step Desk} (with_windows (desk_of m.state) now) (effect m.setup (desk_of m.state) call) → Takes old actor call (with_scene m new) reply
replied old m actor call r now new reply on is said p does =
    subst (λ (a : Reply). Takes old actor call (with_scene m new) a) (sym said)
    (subst (λ (k : Machine). Takes k actor call (with_scene m new) (answered r)) is (answers m actor call r now new on p does))

-- the same for a call on a context
altered : (m : Machine) (task : ℕ) (call : Call) (r : Result (Unit {0}) Refusal) (new : List Owned) → is_context_call call ≡ true → Alters r (context_reason m task call) (context_after (owned_by m.state.contexts task) call) task m.state.contexts new → Takes m task call (with_contexts m new) (answered r)
altered m task call (Ok d) new is p = done_takes m (with_contexts m new) task call Done (record m.state { contexts = new }) (rw is p.0) refl refl (rw (is, p.1) refl)
altered m task call (Err refusal) new is p =
    subst (λ (cs : List Owned). Takes m task call (with_contexts m cs) (Refused refusal)) (sym p.1) (refused_takes m task call refusal (rw is p.0))

pub context_replied : (old m : Machine) (task : ℕ) (call : Call) (r : Result (Unit {0}) Refusal) (new : List Owned) (reply : Reply) → is_context_call call ≡ true → m ≡ old → reply ≡ answered r → Alters r (context_reason m task call) (context_after (owned_by m.state.contexts task) call) task m.state.contexts new → Takes old task call (with_contexts m new) reply
context_replied old m task call r new reply is same said p =
    subst (λ (a : Reply). Takes old task call (with_contexts m new) a) (sym said)
    (subst (λ (k : Machine). Takes k task call (with_contexts m new) (answered r)) same (altered m task call r new is p))

-- the machine with the mark of the switch that work found confirmed
abbrev pub found_by : Machine → Panes → Machine
found_by m new = with_panes m (switched new (panes_of m))

-- work on the windows that are lent, on buffers of the screen's sides
pub drawn : (m : Machine) (c : Context) (work : Work) (lent : List Win) (r : Result (Unit {0}) Refusal) (new : Panes) → IsKept m → lent ≡ m.state.windows
    → Draws r (refusal_of (pane_objections m.setup.assets lent c work (panes_of m))) (panes_after m.setup.assets lent c work (switched new (panes_of m))) (panes_of m) new → Draws r (work_reason m c work) (panes_with (found_by m new) c work) (panes_of m) new
drawn m c work lent r new kept same p =
    let setup = m.setup in
    let ws = m.state.windows in
    let old = switched new (panes_of m) in
    let after : Looks → Panes = λ seen. let now = surfaces_after setup.assets seen ws c work (surfaces_of old) in record old { screen = cond (is_on_screen c work) (after_turn old.drawer.buffers now.picture old.screen) old.screen; devices = now.devices } in
    let looks = ap (λ (n : ℕ). looks_on setup.assets (screen_with n old.height) ws) kept.width ∙ ap (λ (n : ℕ). looks_on setup.assets (screen_with setup.config.w n) ws) kept.height in
    subst (λ (seen : Looks). Draws r (work_reason m c work) (after seen) (panes_of m) new) looks (rw same at p)

buffers_if : (n : ℕ) (s : State) (actor : ℕ) (call : Call) → is_turn_call call ≡ false → buffer_objections n s actor call ≡ cond (is_drawing (desk_of s) actor call) (none_free n s.screen) []
buffers_if n s actor Begin other = absurd cc
buffers_if n s actor End other = absurd cc
buffers_if n s actor call other = refl

-- a call that asks for work, and whether it draws on the screen
pub record AsksFor (call : Call) (work : Work) : Type 0 where
  pub is : IsWork call work
  pub other : is_turn_call call ≡ false
  pub draws : (d : Desk) (actor : ℕ) → is_drawing d actor call ≡ is_on_screen (owned_by d.contexts actor).context work

pub draws_shape : (shape : Shape) → AsksFor (stroke_call shape) (Draw shape)
draws_shape (shape.Fill x0 y0 x1 y1) = record { is = (refl, refl); other = refl; draws = λ d actor. refl }
draws_shape (shape.Frame x0 y0 x1 y1) = record { is = (refl, refl); other = refl; draws = λ d actor. refl }
draws_shape (shape.Line x0 y0 x1 y1) = record { is = (refl, refl); other = refl; draws = λ d actor. refl }
draws_shape (shape.Bitmap bitmap x y) = record { is = (refl, refl); other = refl; draws = λ d actor. refl }
draws_shape (shape.Text x y string) = record { is = (refl, refl); other = refl; draws = λ d actor. refl }

pub copies_device : (device : ℕ) (x y : ℤ) → AsksFor (DevCopy device x y) (Copy device x y)
copies_device device x y = record { is = (refl, refl); other = refl; draws = λ d actor. refl }

work_held : (m : Machine) (task : ℕ) (call : Call) (work : Work) → m.drawer.buffers ≡ m.setup.config.buffers → AsksFor call work → objections_to m.setup m.state task call ≡ pane_objections m.setup.assets m.state.windows (context_of m task) work (panes_of m)
work_held m task call work buffers asks =
    let s = m.state in
    ap (λ (rest : List Objection). desk_objections m.setup (desk_of s) task call ++ rest) (buffers_if m.setup.config.buffers s task call asks.other)
    ∙ ap (λ (b : Bool). desk_objections m.setup (desk_of s) task call ++ cond b (none_free m.setup.config.buffers s.screen) []) (asks.draws (desk_of s) task)
    ∙ ap (λ (n : ℕ). desk_objections m.setup (desk_of s) task call ++ cond (is_on_screen (context_of m task) work) (none_free n s.screen) []) (sym buffers)
    ∙ rw (asks.is.0, asks.is.1) refl

work_effect : (m : Machine) (task : ℕ) (call : Call) (work : Work) → m.drawer.buffers ≡ m.setup.config.buffers → AsksFor call work → effect_of m.setup m.state task call ≡ record { state = (with_panes m (panes_with m (context_of m task) work)).state; reply = reply_to m.state.devices work }
work_effect m task call work buffers asks =
    let s = m.state in
    desk_effect_is m.setup s task call asks.other
    ∙ ap (λ (b : Bool). on_desk m.setup.config.buffers b s.screen (desk_effect m.setup (desk_of s) task call)) (asks.draws (desk_of s) task)
    ∙ ap (λ (n : ℕ). on_desk n (is_on_screen (context_of m task) work) s.screen (desk_effect m.setup (desk_of s) task call)) (sym buffers)
    ∙ rw (asks.is.0, asks.is.1) refl

-- what isn't held against work isn't held after the mark of a switch either
free_after_mark : (os : List Objection) (b : Bool) (n new : ℕ) (mark : Option ℕ) (s : Screen) → new ≡ n → refusal_of (os ++ cond b (none_free n s) []) ≡ None → refusal_of (os ++ cond b (none_free new (after_mark mark s)) []) ≡ None
free_after_mark os b n new None s same fine = subst (λ (k : ℕ). refusal_of (os ++ cond b (none_free k s) []) ≡ None) (sym same) fine
free_after_mark os true n new (Some k) s same fine = refused_next os [] (none_held os (none_free n s) fine)
free_after_mark os false n new (Some k) s same fine = fine

worked : (m : Machine) (task : ℕ) (call : Call) (work : Work) (r : Result (Unit {0}) Refusal) (new : Panes) → IsKept m → m.marked ≡ None → AsksFor call work → reply_to m.state.devices work ≡ Done → Finds m.drawer m.state.screen new.drawer new.marked
    → Draws r (work_reason m (context_of m task) work) (panes_with (found_by m new) (context_of m task) work) (panes_of m) new → Turns m task call (with_panes m new) (answered r)
worked m task call work (Ok d) new kept fresh asks reply finds p =
    let k = found_by m new in
    let c = context_of m task in
    let now = panes_with k c work in
    let same = finds_buffers m.drawer new.drawer m.state.screen new.marked finds in
    let buffers : k.drawer.buffers ≡ k.setup.config.buffers = same ∙ kept.buffers in
    let held = work_held k task call work buffers asks in
    let free = free_after_mark (work_objections m.setup.assets m.state.windows m.state.devices.live c work) (is_on_screen c work) m.drawer.buffers new.drawer.buffers new.marked m.state.screen same p.0 in
    record {
      finds = finds;
      makes = record {
        rest = ap (with_panes m) p.1 ∙ sym (ap (λ (q : Panes). record k { state = (with_panes m q).state }) p.1);
        step =
            ap (λ (q : Panes). record { state = (with_panes m q).state; reply = Done }) p.1
            ∙ ap (λ (a : Reply). record { state = (with_panes m now).state; reply = a }) (sym reply)
            ∙ sym (work_effect k task call work buffers asks)
            ∙ sym (ap (λ o. unless_refused o k.state (effect_of k.setup k.state task call)) (ap refusal_of held ∙ free));
      };
    }
worked m task call work (Err refusal) new kept fresh asks reply finds p =
    let held = work_held m task call work kept.buffers asks in
    subst (λ (q : Panes). Turns m task call (with_panes m q) (Refused refusal)) (sym p.1) (turns_plainly m m task call (Refused refusal) fresh (record {
      rest = refl;
      step = sym (ap (λ o. unless_refused o m.state (effect_of m.setup m.state task call)) (ap refusal_of held ∙ p.0));
    }))

pub work_replied : (old m : Machine) (task : ℕ) (c : Context) (call : Call) (work : Work) (r : Result (Unit {0}) Refusal) (new : Panes) (reply : Reply) → IsKept m → m.marked ≡ None → AsksFor call work → reply_to m.state.devices work ≡ Done → c ≡ context_of m task → m ≡ old → reply ≡ answered r
    → Finds m.drawer m.state.screen new.drawer new.marked → Draws r (work_reason m c work) (panes_with (found_by m new) c work) (panes_of m) new → Turns old task call (with_panes m new) reply
work_replied old m task c call work r new reply kept fresh asks done own same said finds p =
    let drawn_with = subst (λ (k : Context). Draws r (work_reason m k work) (panes_with (found_by m new) k work) (panes_of m) new) own p in
    subst (λ (a : Reply). Turns old task call (with_panes m new) a) (sym said)
    (subst (λ (k : Machine). Turns k task call (with_panes m new) (answered r)) same (worked m task call work r new kept fresh asks done finds drawn_with))

pub work_kept : (m : Machine) (c : Context) (work : Work) (r : Result (Unit {0}) Refusal) (new : Panes) → IsKept m → m.state.screen.switches < m.made → (devices_after m.setup.assets c work m.state.devices).handles ≤ m.made → Finds m.drawer m.state.screen new.drawer new.marked
    → Draws r (work_reason m c work) (panes_with (found_by m new) c work) (panes_of m) new → IsKept (with_panes m new)
work_kept m c work (Ok d) new kept room few finds p =
    let k = found_by m new in
    let kept_k = kept-mark m new kept finds in
    let p_now = (surfaces_with k c work).picture in
    subst (λ (q : Panes). IsKept (with_panes m q)) (sym p.1)
    (kept-with k m.state.windows m.state.handles _ m.state.contexts _ kept_k kept.scene kept.handles few (turned_if (is_on_screen c work) k.drawer.buffers p_now k.state.screen kept_k.screen) (asked_if (is_on_screen c work) k.drawer.buffers p_now k.state.screen m.made room))
  where
    turned_if : (b : Bool) (n : ℕ) (q : Picture) (s : Screen) → IsScreen n s → IsScreen n (cond b (after_turn n q s) s)
    turned_if true n q s is = screen-turn n q s is
    turned_if false n q s is = is

    asked_if : (b : Bool) (n : ℕ) (q : Picture) (s : Screen) (made : ℕ) → s.switches < made → (cond b (after_turn n q s) s).switches ≤ made
    asked_if true n q s made room = let owes = owes-turn n q s in let more = owes.switches in omega (arith, more, room)
    asked_if false n q s made room = omega (arith, room)
work_kept m c work (Err refusal) new kept room few finds p = subst (λ (k : Panes). IsKept (with_panes m k)) (sym p.1) kept

-- ---- begin and end

-- what an end comes to
pub ends : (old m : Machine) (actor : ℕ) (r : Result (Unit {0}) Refusal) (new : Panes) (reply : Reply) → m.marked ≡ None → m ≡ old → reply ≡ answered r → Finds m.drawer m.state.screen new.drawer new.marked
    → Draws r (refusal_of (end_objections m.state.screen)) (record (switched new (panes_of m)) { screen = after_end (switched new (panes_of m)).screen }) (panes_of m) new → Turns old actor End (with_panes m new) reply
ends old m actor r new reply fresh same said finds p =
    subst (λ (a : Reply). Turns old actor End (with_panes m new) a) (sym said)
    (subst (λ (k : Machine). Turns k actor End (with_panes m new) (answered r)) same (ended_so r p))
  where
    ended_so : (r : Result (Unit {0}) Refusal) → Draws r (refusal_of (end_objections m.state.screen)) (record (switched new (panes_of m)) { screen = after_end (switched new (panes_of m)).screen }) (panes_of m) new → Turns m actor End (with_panes m new) (answered r)
    ended_so (Ok d) p =
        let k = found_by m new in
        record {
          finds = finds;
          makes = record {
            rest = ap (with_panes m) p.1 ∙ sym (ap (λ (q : Panes). record k { state = (with_panes m q).state }) p.1);
            step =
                ap (λ (q : Panes). record { state = (with_panes m q).state; reply = Done }) p.1
                ∙ sym (ap (λ o. unless_refused o k.state (effect_of k.setup k.state actor End)) p.0);
          };
        }
    ended_so (Err refusal) p =
        subst (λ (q : Panes). Turns m actor End (with_panes m q) (Refused refusal)) (sym p.1) (turns_plainly m m actor End (Refused refusal) fresh (record {
          rest = refl;
          step = sym (ap (λ o. unless_refused o m.state (effect_of m.setup m.state actor End)) p.0);
        }))

pub end_kept : (m : Machine) (r : Result (Unit {0}) Refusal) (o : Option Refusal) (new : Panes) → IsKept m → m.state.screen.switches < m.made → Finds m.drawer m.state.screen new.drawer new.marked
    → Draws r o (record (switched new (panes_of m)) { screen = after_end (switched new (panes_of m)).screen }) (panes_of m) new → IsKept (with_panes m new)
end_kept m (Ok d) o new kept room finds p =
    let k = found_by m new in
    let kept_k = kept-mark m new kept finds in
    let owes = owes-end k.state.screen in
    let more = owes.switches in
    subst (λ (q : Panes). IsKept (with_panes m q)) (sym p.1) (kept-screen k (after_end k.state.screen) kept_k (screen-end k.drawer.buffers k.state.screen kept_k.screen) (omega (arith, more, room)))
end_kept m (Err refusal) o new kept room finds p = subst (λ (q : Panes). IsKept (with_panes m q)) (sym p.1) kept

-- an end of a call's own
pub end_own_kept : (m : Machine) (own : Bool) (new : Panes) → IsKept m → m.state.screen.switches < m.made → Finds m.drawer m.state.screen new.drawer new.marked
    → new ≡ record (switched new (panes_of m)) { screen = ended own (switched new (panes_of m)).screen } → IsKept (with_panes m new)
end_own_kept m own new kept room finds is =
    let k = found_by m new in
    let kept_k = kept-mark m new kept finds in
    subst (λ (q : Panes). IsKept (with_panes m q)) (sym is) (kept-screen k (ended own k.state.screen) kept_k (screen-ended k.drawer.buffers own k.state.screen kept_k.screen) (few_ended own k.state.screen m.made room))
  where
    few_ended : (own : Bool) (s : Screen) (made : ℕ) → s.switches < made → (ended own s).switches ≤ made
    few_ended true s made room = let owes = owes-end s in let more = owes.switches in omega (arith, more, room)
    few_ended false s made room = omega (arith, room)

-- the same for a new window
pub created_kept : (m : Machine) (parent : ℕ) (x y : ℤ) (w h class : ℕ) (r : Result ℕ Refusal) (new : Scene) → IsKept m → m.state.handles ≤ m.made → Creates r (reason_of m (Create parent x y w h class)) (made_windows m parent x y w h class) (scene_of m) new → IsKept (with_scene m new)
created_kept m parent x y w h class (Ok handle) new kept few p =
    let made = may_be_made (length m.setup.assets.classes) m.state.windows parent x y w h class p.0 in
    let is = is_new m.setup m.state.windows m.state.handles parent x y w h class kept.scene made in
    subst (λ (s : Scene). IsKept (with_scene m s)) (sym p.2)
    (kept-with m (made_windows m parent x y w h class) (m.state.handles + 1) m.state.screen m.state.contexts m.state.devices kept
    (scene_after m.setup (m.state.handles + 1) (m.state.handles + 1) m.state.windows _ (scene_created m.setup m.state.windows m.state.handles (new_window (m.state.handles + 1) parent x y w h class) made.over' kept.scene is refl made.known))
    (omega arith) kept.devices kept.screen kept.switches)
created_kept m parent x y w h class (Err refusal) new kept few p = subst (λ (s : Scene). IsKept (with_scene m s)) (sym p.1) kept

-- ---- opening_desk

same_operation : (assets : Assets) (classes : List Class) (o : Op) → IsOperation assets o → IsOperation (record assets { classes = classes }) o
same_operation assets classes (op.Fill x0 y0 x1 y1 colour) is = is
same_operation assets classes (op.Frame x0 y0 x1 y1 colour) is = is
same_operation assets classes (op.HLine x0 x1 y colour) is = is
same_operation assets classes (op.VLine x y0 y1 colour) is = is
same_operation assets classes (op.Line x0 y0 x1 y1 colour) is = is
same_operation assets classes (op.Bitmap bitmap x y) is = is
same_operation assets classes (op.Text font x y colour string) is = is
same_operation assets classes (op.Number font x y colour num) is = is

same_operations : (assets : Assets) (classes : List Class) (ops : List Op) → AllByRecursion (IsOperation assets) ops → AllByRecursion (IsOperation (record assets { classes = classes })) ops
same_operations assets classes [] all = tt
same_operations assets classes (o ∷ ops) all = (same_operation assets classes o all.0, same_operations assets classes ops all.1)

same_classes : (assets : Assets) (others classes : List Class) → AllByRecursion (IsClass assets) classes → AllByRecursion (IsClass (record assets { classes = others })) classes
same_classes assets others [] all = tt
same_classes assets others (class ∷ classes) all = (
  record { few_ops = all.0.few_ops; few_reactions = all.0.few_reactions; ops = same_operations assets others class.ops all.0.ops; reactions = all.0.reactions },
  same_classes assets others classes all.1,
)

sound_classes : (assets : Assets) (colour : ℕ) (others classes : List Class) → AllByRecursion (IsClass assets) classes → AllByRecursion (IsClass (record assets { classes = others })) (classes_with_desktop colour classes)
sound_classes assets colour others [] all = tt
sound_classes assets colour others (class ∷ classes) all = (record { few_ops = omega arith; few_reactions = omega arith; ops = tt; reactions = tt }, same_classes assets others classes all.1)

length-with_desktop : (colour : ℕ) (classes : List Class) → length (classes_with_desktop colour classes) ≡ length classes
length-with_desktop colour [] = refl
length-with_desktop colour (class ∷ classes) = refl

sound-with_desktop : (assets : Assets) (colour : ℕ) → IsSound assets → IsSound (assets_with_desktop colour assets)
sound-with_desktop assets colour sound =
    let count = length-with_desktop colour assets.classes in
    record {
      few_classes = let few = sound.few_classes in omega arith;
      few_fonts = sound.few_fonts;
      few_bitmaps = sound.few_bitmaps;
      few_strings = sound.few_strings;
      classes = sound_classes assets colour (classes_with_desktop colour assets.classes) assets.classes sound.classes;
    }

some_screen : (width height : ℕ) → 1 ≤ width → 1 ≤ height → is_empty (screen_with width height) ≡ false
unfolding is_empty
some_screen width height wide high = grind (arith, ints, nat_tests)

one_handle : (b : Bool) → cond b 1 0 + 0 ≤ 1
one_handle true = omega arith
one_handle false = omega arith

-- the desktop has no ancestor
shallow_desktop : (d : Win) → d.parent ≡ 0 → d.handle ≡ 1 → IsShallow (d ∷ []) d
unfolding has_ancestors
shallow_desktop d root handle = rw (root, handle) refl

pub scene_opening : (setup : Setup) → IsConfig setup.config → 1 ≤ length setup.assets.classes → IsScene setup (opening_desk setup).windows 1
scene_opening setup is desktop =
    let config = setup.config in
    let d : Win = desktop_with config.w config.h (screen_of setup) in
    let wide = is.width in
    let high = is.height in
    record {
      stack = record {
        order = (refl, refl, record { x = refl; y = refl; width = omega arith; height = omega arith; shown = refl; class = refl; trans = refl }, tt);
        single = λ handle. one_handle _;
        few = omega arith;
        levels = (shallow_desktop d refl refl, tt);
        windows = (record { handle = omega arith; some_width = wide.0; width = omega arith; some_height = high.0; height = omega arith; invalid = some_screen config.w config.h wide.0 high.0 }, tt);
      };
      given = (omega arith, tt);
      screen = refl;
      classes = (omega arith, tt);
    }

pub kept-starting : (alone : Bool) (assets : Assets) (config : Config) → IsConfig config → IsSound assets → 1 ≤ length assets.classes → IsKept (machine_for alone assets config)
kept-starting alone assets config is sound desktop =
    let count = length-with_desktop config.desktop assets.classes in
    record {
      config = is;
      assets = sound-with_desktop assets config.desktop sound;
      has_desktop = omega (arith, count, desktop);
      buffers = refl;
      screen = screen-showing config.buffers _;
      width = refl;
      height = refl;
      scene = scene_opening (setup_for assets config) is (omega (arith, count, desktop));
      handles = omega arith;
      devices = omega arith;
      switches = omega arith;
      made = omega arith;
      refused = omega arith;
    }

pub started : (alone : Bool) (given kept : Assets) (config : Config) (panes : Panes) (windows : Scene) (contexts : List Owned) → kept ≡ assets_with_desktop config.desktop given
    → panes ≡ panes_for alone config.w config.h config.buffers
    → windows ≡ record { windows = desktop_with config.w config.h (screen_with config.w config.h) ∷ []; handles = 1 } → contexts ≡ first_contexts
    → ◌≡◌ {A = Machine} (record { setup = record { config = config; assets = kept }; drawer = panes.drawer; width = panes.width; height = panes.height; state = record { windows = windows.windows; handles = windows.handles; screen = panes.screen; contexts = contexts; devices = panes.devices }; marked = panes.marked; made = 0; refused = 0 }) (machine_for alone given config)
started alone given kept config panes windows contexts assets drawn_on is first = rw (assets, drawn_on, is, first) refl

-- ---- a call that paints, on what it begins or what was begun

-- what is held against it is what is held against its begin
held_when_drawing : (m : Machine) (actor : ℕ) (call : Call) → m.drawer.buffers ≡ m.setup.config.buffers → is_turn_call call ≡ false → is_drawing (desk_of m.state) actor call ≡ true → refusal_of (desk_objections m.setup (desk_of m.state) actor call) ≡ None → refusal_of (objections_to m.setup m.state actor call) ≡ refusal_of (none_free m.drawer.buffers m.state.screen)
held_when_drawing m actor call same other drawing fine =
    refused_next (desk_objections m.setup (desk_of m.state) actor call) (buffer_objections m.setup.config.buffers m.state actor call) fine
    ∙ ap refusal_of (buffers_if m.setup.config.buffers m.state actor call other)
    ∙ ap (λ (b : Bool). refusal_of (cond b (none_free m.setup.config.buffers m.state.screen) [])) drawing
    ∙ ap (λ (n : ℕ). refusal_of (none_free n m.state.screen)) (sym same)

-- the desk is the same after the mark of a switch
marked_desk : (old new : Machine) → desk_of (with_mark new old).state ≡ desk_of old.state
marked_desk old new = ap (λ (p : Picture). record (desk_of old.state) { picture = p }) (latest-mark new.marked old.state.screen)

-- what it began, painted and ended is a turn of its own, or nothing of its own
pub turn_makes : (old mid last new : Machine) (actor : ℕ) (call : Call) (own : Bool) (jobs : ℕ) (d : Desk) (reply : Reply) → old.drawer.buffers ≡ old.setup.config.buffers → IsScreen old.drawer.buffers old.state.screen → is_turn_call call ≡ false → is_drawing (desk_of (with_mark new old).state) actor call ≡ true
    → refusal_of (desk_objections old.setup (desk_of (with_mark new old).state) actor call) ≡ None → ◌≡◌ {A = Step Desk} (record { state = d; reply = reply }) (desk_effect old.setup (desk_of (with_mark new old).state) actor call) → eqb jobs 0 ≡ false
    → Begins (Ok own) old.drawer.buffers old.state.screen mid.state.screen → mid ≡ record old { state = record old.state { screen = mid.state.screen } } → Paints mid jobs d last
    → Finds last.drawer last.state.screen new.drawer new.marked → new ≡ record (with_mark new last) { state = record (with_mark new last).state { screen = ended own (with_mark new last).state.screen } } → Turns old actor call new reply
turn_makes old mid last new actor call own jobs d reply buffers pictures other drawing fine done some begins is_mid paints finds is_new =
    let setup = old.setup in
    let n = old.drawer.buffers in
    let sc = old.state.screen in
    let k = new.marked in
    let from = with_mark new old in
    let same : mid.drawer.buffers ≡ n = ap (λ (m : Machine). m.drawer.buffers) is_mid in
    let screen : last.state.screen ≡ after_draw n d.picture (begun n sc) =
    paints.screen
    ∙ ap (λ (b : Bool). cond b mid.state.screen (after_draw mid.drawer.buffers d.picture mid.state.screen)) some
    ∙ ap (λ (b : ℕ). after_draw b d.picture mid.state.screen) same
    ∙ ap (after_draw n d.picture) begins.2 in
    let waiting : last.state.screen.waiting ≡ sc.waiting = ap (λ (s : Screen). s.waiting) screen ∙ waiting-begun n sc in
    let drawer : last.drawer ≡ old.drawer = ap (λ (m : Machine). m.drawer) paints.rest ∙ ap (λ (m : Machine). m.drawer) is_mid in
    let found : Finds old.drawer sc new.drawer k = finds_same old.drawer new.drawer sc last.state.screen k waiting (subst (λ (e : Drawing). Finds e last.state.screen new.drawer k) drawer finds) in
    let count = finds_buffers old.drawer new.drawer sc k found in
    let turned : ended own (after_mark k last.state.screen) ≡ after_turn n d.picture (after_mark k sc) =
    ap (λ (b : Bool). ended b (after_mark k last.state.screen)) begins.1
    ∙ ap (λ (s : Screen). ended (eqb sc.count 0) (after_mark k s)) screen
    ∙ mark_turn n k d.picture sc pictures found.waits in
    let state : new.state ≡ with_screen d (after_turn n d.picture (after_mark k sc)) =
    ap (λ (m : Machine). m.state) is_new
    ∙ ap (λ (s : Screen). record last.state { screen = s }) turned
    ∙ ap (λ (e : Desk). with_screen e (after_turn n d.picture (after_mark k sc))) paints.desk in
    let held : refusal_of (objections_to setup from.state actor call) ≡ None =
    held_when_drawing from actor call (count ∙ buffers) other drawing fine
    ∙ free_after_mark [] true n new.drawer.buffers k sc count begins.0 in
    record {
      finds = found;
      makes = record {
        rest = rest_of_turn;
        step =
            ap (λ (s : State). record { state = s; reply = reply }) state
            ∙ ap (λ (b : ℕ). record { state = with_screen d (after_turn b d.picture (after_mark k sc)); reply = reply }) buffers
            ∙ ap (on_desk setup.config.buffers true (after_mark k sc)) done
            ∙ sym (ap (λ (b : Bool). on_desk setup.config.buffers b (after_mark k sc) (desk_effect setup (desk_of from.state) actor call)) drawing)
            ∙ sym (desk_effect_is setup from.state actor call other)
            ∙ sym (ap (λ o. unless_refused o from.state (effect_of setup from.state actor call)) held);
      };
    }
  where
    rest_of_turn : new ≡ record (with_mark new old) { state = new.state }
    rest_of_turn =
        is_new
        ∙ ap (λ (m : Machine). record m { drawer = new.drawer; marked = new.marked; state = record (with_mark new last).state { screen = ended own (with_mark new last).state.screen } }) paints.rest
        ∙ ap (λ (m : Machine). record m { drawer = new.drawer; marked = new.marked; state = record (with_mark new last).state { screen = ended own (with_mark new last).state.screen } }) is_mid
        ∙ ap (λ (s : State). record old { drawer = new.drawer; marked = new.marked; state = s }) (sym (ap (λ (m : Machine). m.state) is_new))

-- it is refused while none is free
pub turn_refused : (old mid : Machine) (actor : ℕ) (call : Call) (refusal : Refusal) → old.drawer.buffers ≡ old.setup.config.buffers → old.marked ≡ None → is_turn_call call ≡ false → is_drawing (desk_of old.state) actor call ≡ true → refusal_of (desk_objections old.setup (desk_of old.state) actor call) ≡ None
    → Begins (Err refusal) old.drawer.buffers old.state.screen mid.state.screen → mid ≡ record old { state = record old.state { screen = mid.state.screen } } → Turns old actor call mid (Refused refusal)
turn_refused old mid actor call refusal buffers fresh other drawing fine begins is_mid =
    let unchanged : mid ≡ old = is_mid ∙ ap (λ (s : Screen). record old { state = record old.state { screen = s } }) begins.1 in
    subst (λ (k : Machine). Turns old actor call k (Refused refusal)) (sym unchanged) (turns_plainly old old actor call (Refused refusal) fresh (record {
      rest = refl;
      step = sym (ap (λ o. unless_refused o old.state (effect_of old.setup old.state actor call)) (held_when_drawing old actor call buffers other drawing fine ∙ begins.0));
    }))

-- ---- exec

-- a begin leaves the desk
same_begun : (old mid : Machine) (own : Bool) → Begins (Ok own) old.drawer.buffers old.state.screen mid.state.screen → mid ≡ record old { state = record old.state { screen = mid.state.screen } } → desk_of mid.state ≡ desk_of old.state
same_begun old mid own begins is_mid =
    ap (λ (k : Machine). desk_of k.state) is_mid
    ∙ ap (λ (p : Picture). record (desk_of old.state) { picture = p }) (ap latest begins.2 ∙ latest-begun old.drawer.buffers old.state.screen)

-- where no window is invalid
pub exec_idle : (m : Machine) (actor : ℕ) → m.marked ≡ None → position is_invalid m.state.windows ≡ None → Turns m actor Exec m (Jobs 0)
exec_idle m actor fresh none =
    takes_plainly m m actor Exec (Jobs 0) fresh refl (none_invalid_any m.state.windows none)
    (record { rest = refl; screen = refl; step = ap (λ (n : ℕ). record { state = after_jobs m.setup n (desk_of m.state); reply = Jobs n }) (sym (no_jobs m.state.windows none)) })

pub exec1_idle : (m : Machine) (actor : ℕ) → m.marked ≡ None → position is_invalid m.state.windows ≡ None → Turns m actor Exec1 m (Jobs 0)
exec1_idle m actor fresh none =
    let not = none_invalid_any m.state.windows none in
    takes_plainly m m actor Exec1 (Jobs 0) fresh refl not
    (record { rest = refl; screen = refl; step = ap (λ (b : Bool). record { state = after_jobs m.setup (cond b 1 0) (desk_of m.state); reply = Jobs (cond b 1 0) }) (sym not) })

-- what holds where a job is done in a turn
pub record MayPaint (m : Machine) (which : ℕ) : Type 0 where
  pub buffers : m.drawer.buffers ≡ m.setup.config.buffers
  pub pictures : IsScreen m.drawer.buffers m.state.screen
  pub first : position is_invalid m.state.windows ≡ Some which

-- all jobs, in a turn
pub exec_makes : (old mid last new : Machine) (actor which : ℕ) (own : Bool) (jobs : ℕ) → MayPaint old which → Begins (Ok own) old.drawer.buffers old.state.screen mid.state.screen → mid ≡ record old { state = record old.state { screen = mid.state.screen } }
    → jobs ≡ jobs_of mid.state.windows → Paints mid jobs (after_jobs mid.setup (jobs_of mid.state.windows) (desk_of mid.state)) last → Finds last.drawer last.state.screen new.drawer new.marked
    → new ≡ record (with_mark new last) { state = record (with_mark new last).state { screen = ended own (with_mark new last).state.screen } } → Turns old actor Exec new (Jobs jobs)
exec_makes old mid last new actor which own jobs may begins is_mid count paints finds is_new =
    let total : Desk = after_jobs old.setup (jobs_of old.state.windows) (desk_of (with_mark new old).state) in
    let same : after_jobs mid.setup (jobs_of mid.state.windows) (desk_of mid.state) ≡ total =
    ap (λ (d : Desk). after_jobs mid.setup (jobs_of d.windows) d) (same_begun old mid own begins is_mid)
    ∙ ap (λ (k : Machine). after_jobs k.setup (jobs_of old.state.windows) (desk_of old.state)) is_mid
    ∙ ap (after_jobs old.setup (jobs_of old.state.windows)) (sym (marked_desk old new)) in
    let all : jobs ≡ jobs_of old.state.windows = count ∙ ap (λ (k : Machine). jobs_of k.state.windows) is_mid in
    let more = jobs-more old.state.windows which may.first in
    turn_makes old mid last new actor Exec own jobs total (Jobs jobs) may.buffers may.pictures refl (some_invalid old.state.windows which may.first) refl
    (ap (λ (n : ℕ). record { state = total; reply = Jobs n }) all)
    (ne_eqb jobs 0 (λ none. absurd (omega (arith, none, all, more))))
    begins is_mid (subst (λ (d : Desk). Paints mid jobs d last) same paints) finds is_new

-- the first one, in a turn
pub exec1_makes : (old mid last new : Machine) (actor which : ℕ) (own : Bool) → MayPaint old which → Begins (Ok own) old.drawer.buffers old.state.screen mid.state.screen → mid ≡ record old { state = record old.state { screen = mid.state.screen } }
    → Paints mid 1 (after_job mid.setup (desk_of mid.state)) last → Finds last.drawer last.state.screen new.drawer new.marked
    → new ≡ record (with_mark new last) { state = record (with_mark new last).state { screen = ended own (with_mark new last).state.screen } } → Turns old actor Exec1 new (Jobs 1)
exec1_makes old mid last new actor which own may begins is_mid paints finds is_new =
    let d : Desk = after_job old.setup (desk_of (with_mark new old).state) in
    let same : after_job mid.setup (desk_of mid.state) ≡ d =
    ap (after_job mid.setup) (same_begun old mid own begins is_mid)
    ∙ ap (λ (k : Machine). after_job k.setup (desk_of old.state)) is_mid
    ∙ ap (after_job old.setup) (sym (marked_desk old new)) in
    let invalid = some_invalid old.state.windows which may.first in
    turn_makes old mid last new actor Exec1 own 1 d (Jobs 1) may.buffers may.pictures refl invalid refl
    (ap (λ (b : Bool). record { state = after_jobs old.setup (cond b 1 0) (desk_of (with_mark new old).state); reply = Jobs (cond b 1 0) }) (sym invalid)) refl
    begins is_mid (subst (λ (k : Desk). Paints mid 1 k last) same paints) finds is_new

-- a turn that may not begin
pub exec_waits : (old mid : Machine) (actor which : ℕ) (refusal : Refusal) → old.marked ≡ None → MayPaint old which → Begins (Err refusal) old.drawer.buffers old.state.screen mid.state.screen → mid ≡ record old { state = record old.state { screen = mid.state.screen } } → Turns old actor Exec mid (Refused refusal)
exec_waits old mid actor which refusal fresh may begins is_mid = turn_refused old mid actor Exec refusal may.buffers fresh refl (some_invalid old.state.windows which may.first) refl begins is_mid

pub exec1_waits : (old mid : Machine) (actor which : ℕ) (refusal : Refusal) → old.marked ≡ None → MayPaint old which → Begins (Err refusal) old.drawer.buffers old.state.screen mid.state.screen → mid ≡ record old { state = record old.state { screen = mid.state.screen } } → Turns old actor Exec1 mid (Refused refusal)
exec1_waits old mid actor which refusal fresh may begins is_mid = turn_refused old mid actor Exec1 refusal may.buffers fresh refl (some_invalid old.state.windows which may.first) refl begins is_mid

-- where there is a first one
pub some_first : (o : Option ℕ) → is_some o ≡ true → (which : ℕ) × (o ≡ Some which)
some_first None is = absurd cc
some_first (Some which) is = (which, refl)

pub none_first : (o : Option ℕ) → is_some o ≡ false → o ≡ None
none_first None is = refl
none_first (Some which) is = absurd cc
