-- Each step's call is entered: no step tells that there is no room or no memory. What is held against calls is another reason, and effects refuse nothing.
use Rattle.std.proofs.Common.{◌≡◌, ℕ, ◌+◌, ◌-◌, Bool, true, false, not, ◌&&◌, cond, eqb, List, [], ◌∷◌, ◌++◌, length, Option, Some, None, refl, sym, ap, ◌∙◌, inl, inr, arith}
use Rattle.std.specs.List.{AllByRecursion}
use Rattle.std.specs.Option.{option_map_or}
use Rattle.std.proofs.lemmas.Bool.{cases_Bool}
use Rattle.context.specs.declared.context.Context.{Context}
use Rattle.context.specs.Contexts.{Owned, owned_by}
use Rattle.paint_ops.specs.Kinds.{Assets}
use Rattle.scene.specs.declared.win.Win.{Win}
use Rattle.strokes.specs.declared.shape.Shape.TheVariants as shape
use Rattle.calls.specs.declared.call.Call.{Call}
use Rattle.calls.specs.declared.call.Call.TheVariants.{Begin, End, Create, Delete, MoveTo, MoveBy, Resize, Show, Hide, ToTop, ToBottom, SetClass, Invalidate, InvalidateRect, SetTrans, SetMemdev, SetValue, Send, Select, DevSelect, Font, Save, Restore}
use Rattle.calls.specs.declared.reply.Reply.{Reply}
use Rattle.calls.specs.declared.reply.Reply.TheVariants.{Done, Handle, Jobs, Device, Refused}
use Rattle.calls.specs.declared.reply.Refusal.{Refusal}
use Rattle.calls.specs.declared.reply.Refusal.TheVariants.{Waiting}
use Rattle.multibuf.specs.Screens.{Screen, number_waiting}
use Rattle.desk.specs.Setups.{Setup}
use Rattle.desk.specs.Devices.{DevicePicture}
use Rattle.desk.specs.Drawing.{Work, Draw, Copy, Make, Discard, work_of}
use Rattle.desk.specs.Desks.{Desk, Step, Objection, is_context_call, objections, context_objections, no_ground, work_objections, other_objections, desk_objections, refusal_of, unless_refused, is_drawing, is_want_of_memory}
use Rattle.surfaces.specs.Turns.{none_free}
use Rattle.engine.specs.States.{State, desk_of, buffer_objections, objections_to, effect_of, step_of_call, step}
use Rattle.gui_core.specs.Histories.{Core, state_of, with_mark_of, RecordsCall, says_full, is_entered}
use Rattle.gui_core.proofs.SceneryLemmas.{nothing_refuses}

-- an objection to a call that is entered
abbrev IsOther : Objection → Type 0
IsOther o = is_entered (Refused o.1) ≡ true

refusal_is_other : (os : List Objection) (r : Refusal) → AllByRecursion IsOther os → refusal_of os ≡ Some r → is_entered (Refused r) ≡ true
refusal_is_other [] r all is = absurd cc
refusal_is_other ((true, why) ∷ os) r all is = ap (λ (o : Option Refusal). is_entered (told o)) (sym is) ∙ all.0
  where
    told : Option Refusal → Reply
    told None = Done
    told (Some w) = Refused w
refusal_is_other ((false, why) ∷ os) r all is = refusal_is_other os r all.1 is

objections_are_other : (classes : ℕ) (ws : List Win) (call : Call) → AllByRecursion IsOther (objections classes ws call)
objections_are_other classes ws (Create parent x y w h class) = (refl, (refl, (refl, (refl, (refl, tt)))))
objections_are_other classes ws (Delete h) = (refl, (refl, tt))
objections_are_other classes ws (MoveTo h x y) = (refl, (refl, tt))
objections_are_other classes ws (MoveBy h dx dy) = (refl, (refl, tt))
objections_are_other classes ws (Resize h width height) = (refl, (refl, (refl, tt)))
objections_are_other classes ws (Show h) = (refl, (refl, tt))
objections_are_other classes ws (Hide h) = (refl, (refl, tt))
objections_are_other classes ws (ToTop h) = (refl, (refl, tt))
objections_are_other classes ws (ToBottom h) = (refl, (refl, tt))
objections_are_other classes ws (SetClass h class) = (refl, (refl, (refl, tt)))
objections_are_other classes ws (SetTrans h trans) = (refl, (refl, tt))
objections_are_other classes ws (SetMemdev h memdev) = (refl, tt)
objections_are_other classes ws (SetValue h index value) = (refl, (refl, tt))
objections_are_other classes ws (Send h message argument) = (refl, tt)
objections_are_other classes ws (Invalidate h) = (refl, tt)
objections_are_other classes ws (InvalidateRect h x0 y0 x1 y1) = (refl, tt)
objections_are_other classes ws call = tt

context_objections_are_other : (fonts : ℕ) (ws : List Win) (ds : List DevicePicture) (own : Owned) (call : Call) → AllByRecursion IsOther (context_objections fonts ws ds own call)
context_objections_are_other fonts ws ds own (Select h) = (refl, tt)
context_objections_are_other fonts ws ds own (DevSelect device) = (refl, tt)
context_objections_are_other fonts ws ds own (Font font) = (refl, tt)
context_objections_are_other fonts ws ds own Save = (refl, tt)
context_objections_are_other fonts ws ds own Restore = (refl, tt)
context_objections_are_other fonts ws ds own call = tt

ground_is_other : (ws : List Win) (ds : List DevicePicture) (c : Context) → IsOther (no_ground ws ds c)
ground_is_other ws ds c =
    elim (cases_Bool (eqb c.device 0)) [
      | inl screen ↦ rw screen refl
      | inr device ↦ rw device refl
    ]

work_objections_are_other : (assets : Assets) (ws : List Win) (ds : List DevicePicture) (c : Context) (work : Work) → AllByRecursion IsOther (work_objections assets ws ds c work)
work_objections_are_other assets ws ds c (Draw (shape.Fill x0 y0 x1 y1)) = (ground_is_other ws ds c, tt)
work_objections_are_other assets ws ds c (Draw (shape.Frame x0 y0 x1 y1)) = (ground_is_other ws ds c, tt)
work_objections_are_other assets ws ds c (Draw (shape.Line x0 y0 x1 y1)) = (ground_is_other ws ds c, tt)
work_objections_are_other assets ws ds c (Draw (shape.Bitmap bitmap x y)) = (refl, (ground_is_other ws ds c, tt))
work_objections_are_other assets ws ds c (Draw (shape.Text x y string)) = (refl, (refl, (ground_is_other ws ds c, tt)))
work_objections_are_other assets ws ds c (Copy device x y) = (refl, (refl, tt))
work_objections_are_other assets ws ds c (Make w h) = (refl, (refl, tt))
work_objections_are_other assets ws ds c (Discard device) = (refl, tt)

other_objections_are_other : (setup : Setup) (s : Desk) (actor : ℕ) (o : Option Work) (call : Call) → AllByRecursion IsOther (other_objections setup s actor o call)
other_objections_are_other setup s actor None call = objections_are_other (length setup.assets.classes) s.windows call
other_objections_are_other setup s actor (Some work) call = work_objections_are_other setup.assets s.windows s.devices.live (owned_by s.contexts actor).context work

desk_objections_are_other : (setup : Setup) (s : Desk) (actor : ℕ) (call : Call) → AllByRecursion IsOther (desk_objections setup s actor call)
desk_objections_are_other setup s actor call =
    elim (cases_Bool (is_context_call call)) [
      | inl on ↦ rw on (context_objections_are_other (length setup.assets.fonts) s.windows s.devices.live (owned_by s.contexts actor) call)
      | inr other ↦ rw other (other_objections_are_other setup s actor (work_of call) call)
    ]

free_is_other : (n : ℕ) (s : Screen) (o : Option ℕ) → AllByRecursion IsOther (option_map_or (λ k. (eqb n 2 && eqb s.count 0, Waiting k) ∷ []) o [])
free_is_other n s None = tt
free_is_other n s (Some k) = (refl, tt)

free_if : (b : Bool) (n : ℕ) (s : Screen) → AllByRecursion IsOther (cond b (none_free n s) [])
free_if true n s = free_is_other n s (number_waiting s)
free_if false n s = tt

buffers_are_other : (n : ℕ) (s : State) (actor : ℕ) (call : Call) → AllByRecursion IsOther (buffer_objections n s actor call)
buffers_are_other n s actor Begin = (refl, free_is_other n s.screen (number_waiting s.screen))
buffers_are_other n s actor End = (refl, tt)
buffers_are_other n s actor call = free_if (is_drawing (desk_of s) actor call) n s.screen

all_of_both : (os ps : List Objection) → AllByRecursion IsOther os → AllByRecursion IsOther ps → AllByRecursion IsOther (os ++ ps)
all_of_both [] ps first rest = rest
all_of_both (o ∷ os) ps first rest = (first.0, all_of_both os ps first.1 rest)

all_are_other : (setup : Setup) (s : State) (actor : ℕ) (call : Call) → AllByRecursion IsOther (objections_to setup s actor call)
all_are_other setup s actor call = all_of_both (desk_objections setup (desk_of s) actor call) (buffer_objections setup.config.buffers s actor call) (desk_objections_are_other setup (desk_of s) actor call) (buffers_are_other setup.config.buffers s actor call)

unrefused_is_entered : (reply : Reply) → ((r : Refusal) → reply ≡ Refused r → ⊥) → is_entered reply ≡ true
unrefused_is_entered Done fine = refl
unrefused_is_entered (Handle handle) fine = refl
unrefused_is_entered (Jobs count) fine = refl
unrefused_is_entered (Device device) fine = refl
unrefused_is_entered (Refused r) fine = absurd (fine r refl)

pub step_is_entered : (setup : Setup) (s : State) (actor : ℕ) (call : Call) → is_entered (step_of_call setup s actor call).reply ≡ true
step_is_entered setup s actor call = by_refusal (refusal_of (objections_to setup s actor call)) refl
  where
    by_refusal : (o : Option Refusal) → refusal_of (objections_to setup s actor call) ≡ o → is_entered (unless_refused o s (effect_of setup s actor call)).reply ≡ true
    by_refusal None is = unrefused_is_entered (effect_of setup s actor call).reply (nothing_refuses setup s actor call)
    by_refusal (Some r) is = refusal_is_other (objections_to setup s actor call) r (all_are_other setup s actor call) is

pub records_are_entered : (old : Core) (actor : ℕ) (call : Call) (new : Core) (reply : Reply) → RecordsCall old actor call new reply → is_entered reply ≡ true
unfolding step
records_are_entered old actor call new reply is = ap is_entered is.enters.reply_is ∙ step_is_entered old.chronicle.setup (state_of (with_mark_of is.mark old.chronicle)) actor call

-- an entered call had room and memory
pub entered_parts : (reply : Reply) → is_entered reply ≡ true → (says_full reply ≡ false) × (is_want_of_memory reply ≡ false)
entered_parts reply is = both (says_full reply) (is_want_of_memory reply) is
  where
    both : (a b : Bool) → (not a && not b) ≡ true → (a ≡ false) × (b ≡ false)
    both false false is = (refl, refl)
    both false true is = absurd cc
    both true b is = absurd cc
