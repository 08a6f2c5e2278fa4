-- Handles of devices that are gone stay without a device.
use Rattle.std.proofs.Common.{◌≡◌, ℕ, zero, suc, ◌+◌, ◌≤◌, false, cond, eqb, List, [], ◌∷◌, ◌++◌, Option, Some, None, subst, refl, sym, inl, inr, arith}
use Rattle.std.specs.List.{list_any}
use Rattle.std.specs.Option.{option_map_or}
use Rattle.std.proofs.lemmas.Bool.{cases_Bool, ne_eqb}
use Rattle.frame.specs.Pictures.{Picture, picture_of}
use Rattle.paint_ops.specs.Kinds.{Assets}
use Rattle.context.specs.declared.context.Context.{Context}
use Rattle.context.specs.Contexts.{owned_by}
use Rattle.strokes.specs.Strokes.{colour_of_stroke, inked_whole}
use Rattle.calls.specs.declared.call.Call.{Call}
use Rattle.calls.specs.declared.call.Call.TheVariants.{Begin, End, Exec, Exec1}
use Rattle.calls.specs.declared.entry.Entry.{Entry}
use Rattle.calls.specs.declared.entry.Entry.TheVariants as entry
use Rattle.calls.specs.declared.reply.Refusal.{Refusal}
use Rattle.invalidate.specs.Invalidation.{is_invalid}
use Rattle.desk.specs.Setups.{Setup}
use Rattle.desk.specs.Jobs.{jobs_of}
use Rattle.desk.specs.Devices.{DevicePicture, DevicePictures, picture_on, with_new_device, without_picture, with_picture, with_drawing}
use Rattle.desk.specs.Drawing.{Work, Draw, Copy, Make, Discard, work_of, devices_after}
use Rattle.desk.specs.Desks.{Desk, Step, is_context_call, refusal_of, unless_refused, after_job, after_jobs, effect, other_effect, desk_effect}
use Rattle.engine.specs.States.{State, desk_of, objections_to, effect_of, step, state_after}

-- the handle was given out, and finds no device
record IsGone (ds : DevicePictures) (handle : ℕ) : Type 0 where
  given : handle ≤ ds.handles
  gone : picture_on ds.live handle ≡ None

-- where the first device isn't that of the handle, the others have none either
later_gone : (d : DevicePicture) (ds : List DevicePicture) (handle : ℕ) → picture_on (d ∷ ds) handle ≡ None → (eqb d.handle handle ≡ false) × (picture_on ds handle ≡ None)
later_gone d ds handle none =
    elim (cases_Bool (eqb d.handle handle)) [
      | inl at ↦ let found : Some d.picture ≡ None = rw at at none in absurd cc
      | inr off ↦ (off, rw off at none)
    ]

gone-last : (ds : List DevicePicture) (d : DevicePicture) (handle : ℕ) → eqb d.handle handle ≡ false → picture_on ds handle ≡ None → picture_on (ds ++ d ∷ []) handle ≡ None
gone-last [] d handle other none = rw other refl
gone-last (x ∷ xs) d handle other none = let later = later_gone x xs handle none in rw later.0 (gone-last xs d handle other later.1)

gone-without : (g : ℕ) (ds : List DevicePicture) (handle : ℕ) → picture_on ds handle ≡ None → picture_on (without_picture g ds) handle ≡ None
gone-without g [] handle none = refl
gone-without g (d ∷ ds) handle none =
    let later = later_gone d ds handle none in
    elim (cases_Bool (eqb d.handle g)) [
      | inl at ↦ rw at (gone-without g ds handle later.1)
      | inr off ↦ rw (off, later.0) (gone-without g ds handle later.1)
    ]

gone-with : (g : ℕ) (p : Picture) (ds : List DevicePicture) (handle : ℕ) → picture_on ds handle ≡ None → picture_on (with_picture g p ds) handle ≡ None
gone-with g p [] handle none = refl
gone-with g p (d ∷ ds) handle none =
    let later = later_gone d ds handle none in
    elim (cases_Bool (eqb d.handle g)) [
      | inl at ↦ rw (at, later.0) (gone-with g p ds handle later.1)
      | inr off ↦ rw (off, later.0) (gone-with g p ds handle later.1)
    ]

-- ---- each kind of work

gone_made : (w h colour : ℕ) (ds : DevicePictures) (handle : ℕ) → IsGone ds handle → IsGone (with_new_device w h colour ds) handle
gone_made w h colour ds handle is =
    let given = is.given in
    let other : eqb (ds.handles + 1) handle ≡ false = ne_eqb (ds.handles + 1) handle (λ e. absurd (omega (arith, e, given))) in
    record {
      given = omega arith;
      gone = gone-last ds.live (record { handle = ds.handles + 1; picture = picture_of w h (λ x y. colour) }) handle other is.gone;
    }

gone_drawn : (g : ℕ) (draw : Picture → Picture) (ds : DevicePictures) (handle : ℕ) → IsGone ds handle → IsGone (with_drawing g draw ds) handle
gone_drawn g draw ds handle is = by_picture (picture_on ds.live g)
  where
    by_picture : (o : Option Picture) → IsGone (option_map_or (λ p. record ds { live = with_picture g (draw p) ds.live }) o ds) handle
    by_picture None = is
    by_picture (Some p) = record { given = is.given; gone = gone-with g (draw p) ds.live handle is.gone }

gone_after_work : (assets : Assets) (c : Context) (work : Work) (ds : DevicePictures) (handle : ℕ) → IsGone ds handle → IsGone (devices_after assets c work ds) handle
gone_after_work assets c (Draw shape) ds handle is =
    elim (cases_Bool (eqb c.device 0)) [
      | inl screen ↦ rw screen is
      | inr device ↦ rw device (gone_drawn c.device (inked_whole (colour_of_stroke assets c shape)) ds handle is)
    ]
gone_after_work assets c (Copy device x y) ds handle is = is
gone_after_work assets c (Make w h) ds handle is = gone_made w h c.bk ds handle is
gone_after_work assets c (Discard device) ds handle is = record { given = is.given; gone = gone-without device ds.live handle is.gone }

-- ---- all calls

jobs_leave : (setup : Setup) (n : ℕ) (s : Desk) → (after_jobs setup n s).devices ≡ s.devices
jobs_leave setup zero s = refl
jobs_leave setup (suc n) s = jobs_leave setup n (after_job setup s)

effect_leaves : (setup : Setup) (s : Desk) (call : Call) → (effect setup s call).state.devices ≡ s.devices
effect_leaves setup s Exec = jobs_leave setup (jobs_of s.windows) s
effect_leaves setup s Exec1 = jobs_leave setup (cond (list_any is_invalid s.windows) 1 0) s
effect_leaves setup s call = refl

gone_after_other : (setup : Setup) (s : Desk) (actor : ℕ) (o : Option Work) (call : Call) (handle : ℕ) → IsGone s.devices handle → IsGone (other_effect setup s actor o call).state.devices handle
gone_after_other setup s actor None call handle is = subst (λ (ds : DevicePictures). IsGone ds handle) (sym (effect_leaves setup s call)) is
gone_after_other setup s actor (Some work) call handle is = gone_after_work setup.assets (owned_by s.contexts actor).context work s.devices handle is

gone_after_effect : (setup : Setup) (s : Desk) (actor : ℕ) (call : Call) (handle : ℕ) → IsGone s.devices handle → IsGone (desk_effect setup s actor call).state.devices handle
gone_after_effect setup s actor call handle is =
    elim (cases_Bool (is_context_call call)) [
      | inl on ↦ rw on is
      | inr other ↦ rw other (gone_after_other setup s actor (work_of call) call handle is)
    ]

all_gone : (setup : Setup) (s : State) (actor : ℕ) (call : Call) (handle : ℕ) → IsGone s.devices handle → IsGone (effect_of setup s actor call).state.devices handle
all_gone setup s actor Begin handle is = is
all_gone setup s actor End handle is = is
all_gone setup s actor call handle is = gone_after_effect setup (desk_of s) actor call handle is

gone_unless : (o : Option Refusal) (s : State) (done : Step State) (handle : ℕ) → IsGone s.devices handle → IsGone done.state.devices handle → IsGone (unless_refused o s done).state.devices handle
gone_unless None s done handle before after = after
gone_unless (Some refusal) s done handle before after = before

gone_after : (setup : Setup) (s : State) (e : Entry) (handle : ℕ) → IsGone s.devices handle → IsGone (step setup s e).state.devices handle
unfolding step
gone_after setup s (entry.Call actor call) handle is =
    gone_unless (refusal_of (objections_to setup s actor call)) s (effect_of setup s actor call) handle is (all_gone setup s actor call handle is)
gone_after setup s (entry.Shown k) handle is = is

stays_gone : (setup : Setup) (s : State) (es : List Entry) (handle : ℕ) → IsGone s.devices handle → IsGone (state_after setup s es).devices handle
stays_gone setup s [] handle is = is
stays_gone setup s (e ∷ es) handle is = stays_gone setup (step setup s e).state es handle (gone_after setup s e handle is)

pub never_used_again : (setup : Setup) (s : State) (es : List Entry) (handle : ℕ) → handle ≤ s.devices.handles → picture_on s.devices.live handle ≡ None → picture_on (state_after setup s es).devices.live handle ≡ None
never_used_again setup s es handle given gone = let after = stays_gone setup s es handle (record { given = given; gone = gone }) in after.gone
