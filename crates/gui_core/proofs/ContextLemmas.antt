-- What calls leave of the tasks' contexts.
use Rattle.std.proofs.Common.{◌≡◌, ℕ, zero, suc, ◌≤◌, false, cond, List, [], ◌∷◌, Option, Some, None, refl, ap, ◌∙◌, inl, inr}
use Rattle.std.specs.List.{list_any, AllByRecursion}
use Rattle.std.proofs.lemmas.Bool.{cases_Bool}
use Rattle.context.specs.Contexts.{Owned, owned_by}
use Rattle.context.proofs.CallerLemmas.{owned_by-with_owned_other}
use Rattle.calls.specs.declared.call.Call.{Call}
use Rattle.calls.specs.declared.call.Call.TheVariants.{Begin, End, Exec, Exec1}
use Rattle.calls.specs.declared.entry.Entry.{Entry}
use Rattle.calls.specs.declared.entry.Entry.TheVariants as entry
use Rattle.calls.specs.declared.reply.Refusal.{Refusal}
use Rattle.invalidate.specs.Invalidation.{is_invalid}
use Rattle.desk.specs.Setups.{Setup}
use Rattle.desk.specs.Jobs.{jobs_of}
use Rattle.desk.specs.Desks.{Desk, Step, is_context_call, refusal_of, unless_refused, after_job, after_jobs, effect, other_effect, desk_effect, context_after}
use Rattle.engine.specs.States.{State, desk_of, objections_to, effect_of, step, state_after}
use Rattle.desk.specs.Drawing.{Work, work_of}
use Rattle.gui_core.specs.Promises.{changes_contexts, IsByAnother}

jobs_leave : (setup : Setup) (n : ℕ) (s : Desk) → (after_jobs setup n s).contexts ≡ s.contexts
jobs_leave setup zero s = refl
jobs_leave setup (suc n) s = jobs_leave setup n (after_job setup s)

effect_leaves : (setup : Setup) (s : Desk) (call : Call) → (effect setup s call).state.contexts ≡ s.contexts
effect_leaves setup s Exec = jobs_leave setup (jobs_of s.windows) s
effect_leaves setup s Exec1 = jobs_leave setup (cond (list_any is_invalid s.windows) 1 0) s
effect_leaves setup s call = refl

other_leaves : (setup : Setup) (s : Desk) (actor : ℕ) (o : Option Work) (call : Call) → (other_effect setup s actor o call).state.contexts ≡ s.contexts
other_leaves setup s actor None call = effect_leaves setup s call
other_leaves setup s actor (Some work) call = refl

unless_leaves : (o : Option Refusal) (s : State) (done : Step State) → done.state.contexts ≡ s.contexts → (unless_refused o s done).state.contexts ≡ s.contexts
unless_leaves None s done same = same
unless_leaves (Some refusal) s done same = refl

desk_leaves : (setup : Setup) (s : Desk) (actor : ℕ) (call : Call) → is_context_call call ≡ false → (desk_effect setup s actor call).state.contexts ≡ s.contexts
desk_leaves setup s actor call other = rw other (other_leaves setup s actor (work_of call) call)

all_leave : (setup : Setup) (s : State) (actor : ℕ) (call : Call) → is_context_call call ≡ false → (effect_of setup s actor call).state.contexts ≡ s.contexts
all_leave setup s actor Begin other = refl
all_leave setup s actor End other = refl
all_leave setup s actor call other = desk_leaves setup (desk_of s) actor call other

pub other_calls : (setup : Setup) (s : State) (e : Entry) → changes_contexts e ≡ false → (step setup s e).state.contexts ≡ s.contexts
unfolding step
other_calls setup s (entry.Call actor call) other =
    unless_leaves (refusal_of (objections_to setup s actor call)) s (effect_of setup s actor call) (all_leave setup s actor call other)
other_calls setup s (entry.Shown k) other = refl

unless_leaves_of : (o : Option Refusal) (s : State) (done : Step State) (task : ℕ) → owned_by done.state.contexts task ≡ owned_by s.contexts task → owned_by (unless_refused o s done).state.contexts task ≡ owned_by s.contexts task
unless_leaves_of None s done task same = same
unless_leaves_of (Some refusal) s done task same = refl

effect_leaves_of : (setup : Setup) (s : Desk) (actor task : ℕ) (call : Call) → 1 ≤ task → IsByAnother task (entry.Call actor call) → owned_by (desk_effect setup s actor call).state.contexts task ≡ owned_by s.contexts task
effect_leaves_of setup s actor task call some another =
    elim (cases_Bool (is_context_call call)) [
      | inl on ↦ rw on (owned_by-with_owned_other s.contexts actor task (context_after (owned_by s.contexts actor) call) another.0 some another.1)
      | inr other ↦ rw other (ap (λ (all : List Owned). owned_by all task) (other_leaves setup s actor (work_of call) call))
    ]

all_leave_of : (setup : Setup) (s : State) (actor task : ℕ) (call : Call) → 1 ≤ task → IsByAnother task (entry.Call actor call) → owned_by (effect_of setup s actor call).state.contexts task ≡ owned_by s.contexts task
all_leave_of setup s actor task Begin some another = refl
all_leave_of setup s actor task End some another = refl
all_leave_of setup s actor task call some another = effect_leaves_of setup (desk_of s) actor task call some another

pub others_stay : (setup : Setup) (s : State) (e : Entry) (task : ℕ) → 1 ≤ task → IsByAnother task e → owned_by (step setup s e).state.contexts task ≡ owned_by s.contexts task
unfolding step
others_stay setup s (entry.Call actor call) task some another =
    unless_leaves_of (refusal_of (objections_to setup s actor call)) s (effect_of setup s actor call) task (all_leave_of setup s actor task call some another)
others_stay setup s (entry.Shown k) task some another = refl

pub others_stay_after : (setup : Setup) (s : State) (es : List Entry) (task : ℕ) → 1 ≤ task → AllByRecursion (IsByAnother task) es → owned_by (state_after setup s es).contexts task ≡ owned_by s.contexts task
others_stay_after setup s [] task some all = refl
others_stay_after setup s (e ∷ es) task some all = others_stay_after setup (step setup s e).state es task some all.1 ∙ others_stay setup s e task some all.0
