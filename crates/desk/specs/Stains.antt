-- The points that tasks drew on directly and that no job has painted since.
use Rattle.std.specs.Prelude.{ℕ, zero, suc, Bool, false, ◌&&◌, ◌||◌, not, if◌then◌else◌, List, [], ◌∷◌, Option, Some, None, is_some, position}
use Rattle.std.specs.List.{list_any}
use Rattle.std.specs.Option.{option_map_or}
use Rattle.gfx_base.specs.declared.point.Point.{Point}
use Rattle.context.specs.Contexts.{owned_by}
use Rattle.scene.specs.declared.win.Win.{Win}
use Rattle.scene.specs.Damage.{in_patch_at}
use Rattle.calls.specs.declared.call.Call.{Call}
use Rattle.calls.specs.declared.call.Call.TheVariants.{Exec, Exec1}
use Rattle.invalidate.specs.Invalidation.{is_invalid}
use Rattle.desk.specs.Setups.{Setup, looks_of}
use Rattle.desk.specs.Jobs.{jobs_of}
use Rattle.desk.specs.Drawing.{Work, work_of, ink_of, ink_puts}
use Rattle.desk.specs.Desks.{Desk, after_job, refusal_of, desk_objections, desk_step}

-- which points are in it
abbrev pub Stain : Type 0
Stain = Point → Bool

abbrev pub no_stain : Stain
no_stain = λ p. false

-- whether the next job paints the point, if there is one
abbrev pub job_paints : Setup → List Win → Stain
job_paints setup ws =
    λ p. option_map_or (λ which. in_patch_at (looks_of setup ws) ws which p)
    (position is_invalid ws) false

-- a job takes its patch out of the stain
abbrev pub without_patch : Setup → List Win → Stain → Stain
without_patch setup ws stain = λ p. stain p && not (job_paints setup ws p)

-- so do several jobs
abbrev pub stain_after_jobs : Setup → ℕ → Desk → Stain → Stain
stain_after_jobs setup zero s stain = stain
stain_after_jobs setup (suc n) s stain =
    stain_after_jobs setup n (after_job setup s) (without_patch setup s.windows stain)

-- what a call's jobs leave of the stain
abbrev pub left_stained : Setup → Desk → Call → Stain → Stain
left_stained setup s Exec stain = stain_after_jobs setup (jobs_of s.windows) s stain
left_stained setup s Exec1 stain =
    stain_after_jobs setup (if list_any is_invalid s.windows then 1 else 0) s stain
left_stained setup s call stain = stain

-- what a task draws adds its points
abbrev pub with_points : Setup → Desk → ℕ → Option Work → Stain → Stain
with_points setup s task None stain = stain
with_points setup s task (Some work) stain =
    let c = (owned_by s.contexts task).context in
    let looks = looks_of setup s.windows in
    λ p. stain p || ink_puts looks s.windows c (ink_of setup.assets s.devices c work) p

-- the stain after a call that isn't refused
abbrev pub stain_after_call : Setup → Desk → ℕ → Call → Stain → Stain
stain_after_call setup s task call stain =
    with_points setup s task (work_of call) (left_stained setup s call stain)

-- the stain after a call; a refused one leaves it
abbrev pub stained_by : Setup → Desk → ℕ → Call → Stain → Stain
stained_by setup s actor call stain =
    if is_some (refusal_of (desk_objections setup s actor call)) then stain
    else stain_after_call setup s actor call stain

-- ---- calls, one after the other, each with its actor

abbrev pub desk_after : Setup → Desk → List (ℕ × Call) → Desk
desk_after setup s [] = s
desk_after setup s (made ∷ calls) =
    desk_after setup (desk_step setup s made.0 made.1).state calls

abbrev pub stain_after_calls : Setup → Desk → List (ℕ × Call) → Stain → Stain
stain_after_calls setup s [] stain = stain
stain_after_calls setup s (made ∷ calls) stain =
    stain_after_calls setup (desk_step setup s made.0 made.1).state calls
    (stained_by setup s made.0 made.1 stain)
