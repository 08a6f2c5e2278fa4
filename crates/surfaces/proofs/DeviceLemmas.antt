-- Devices as they are seen, which is what the state has of them.
use Rattle.std.proofs.Common.{◌≡◌, ℕ, ◌+◌, ◌*◌, ◌≤◌, eqb, List, [], ◌∷◌, ◌++◌, map, replicate, Option, Some, None, Result, Ok, Err, Bor, refl, sym, ap, subst, ◌∙◌, inl, inr}
use Rattle.std.specs.Prelude.{◌↔◌, option_map, is_some}
use Rattle.std.specs.List.{range_with_len}
use Rattle.std.specs.Option.{option_map_or, option_copied}
use Rattle.std.proofs.lemmas.Bool.{cases_Bool}
use Rattle.std.proofs.lemmas.List.{map-append, length-replicate, get_or-replicate}
use Rattle.std.proofs.lemmas.List.FromFn.{fill_by_all}
use Rattle.frame.specs.Pictures.{Picture, picture_of}
use Rattle.frame.specs.Canvases.{Canvas}
use Rattle.memdev.specs.declared.device.Device.{Device}
use Rattle.memdev.specs.Devices.{Table, frame_of, with_device, without, without_device as table_without, with_frame, with_drawn}
use Rattle.memdev.specs.Frames.{filled}
use Rattle.paint_ops.specs.Kinds.{Assets}
use Rattle.context.specs.declared.context.Context.{Context}
use Rattle.strokes.specs.Strokes.{colour_of_stroke, inked_whole}
use Rattle.calls.specs.declared.reply.Reply.TheVariants.{Done}
use Rattle.memdev.specs.declared.refused.DevRefused.{DevRefused}
use Rattle.memdev.specs.declared.refused.DevRefused.TheVariants as device
use Rattle.calls.specs.declared.reply.Refusal.{Refusal}
use Rattle.calls.specs.declared.reply.Refusal.TheVariants.{NoDevice}
use Rattle.surfaces.specs.Panes.{Panes}
use Rattle.desk.specs.Drawing.{Work, Draw, Copy, Make, Discard, devices_after, reply_to}
use Rattle.surfaces.specs.Refusals.{Draws, device_refusal}
use Rattle.desk.specs.Desks.{refusal_of, no_device}
use Rattle.desk.specs.Devices.{DevicePicture, DevicePictures, picture_on, with_new_device, without_picture, without_device, with_picture, with_drawing}
use Rattle.surfaces.specs.Seen.{seen_device, seen_devices}

-- a list of one number, as a picture's points
one_number : (n count : ℕ) → replicate count n ≡ map (λ (i : ℕ). n) (range_with_len 0 count)
one_number n count = fill_by_all {X = ℕ} (λ (i : ℕ). n) (replicate count n) count 0 (length-replicate count n) (λ k lt. get_or-replicate count k n 0 lt)

-- a picture of one colour
pub one_colour : (w h colour : ℕ) (p : Picture) → p.width ≡ w → p.height ≡ h → p.points ≡ replicate (h * w) colour → p ≡ picture_of w h (λ x y. colour)
one_colour w h colour p wide high points = rw (wide, high, points ∙ one_number colour (h * w)) refl

pub picture_on-seen : (ds : List Device) (handle : ℕ) → picture_on (map seen_device ds) handle ≡ option_map (λ (f : Canvas). f.picture) (frame_of ds handle)
picture_on-seen [] handle = refl
picture_on-seen (d ∷ ds) handle =
    elim (cases_Bool (eqb d.handle handle)) [
      | inl at ↦ rw at refl
      | inr off ↦ rw off (picture_on-seen ds handle)
    ]

without-seen : (handle : ℕ) (ds : List Device) → map seen_device (without handle ds) ≡ without_picture handle (map seen_device ds)
without-seen handle [] = refl
without-seen handle (d ∷ ds) =
    elim (cases_Bool (eqb d.handle handle)) [
      | inl at ↦ rw at (without-seen handle ds)
      | inr off ↦ rw off (ap (λ (ps : List DevicePicture). seen_device d ∷ ps) (without-seen handle ds))
    ]

with_frame-seen : (handle : ℕ) (f : Canvas) (ds : List Device) → map seen_device (with_frame handle f ds) ≡ with_picture handle f.picture (map seen_device ds)
with_frame-seen handle f [] = refl
with_frame-seen handle f (d ∷ ds) =
    elim (cases_Bool (eqb d.handle handle)) [
      | inl at ↦ rw at (ap (λ (ps : List DevicePicture). record { handle = d.handle; picture = f.picture } ∷ ps) (with_frame-seen handle f ds))
      | inr off ↦ rw off (ap (λ (ps : List DevicePicture). seen_device d ∷ ps) (with_frame-seen handle f ds))
    ]

-- ---- what becomes of them

pub seen-made : (t : Table) (w h colour : ℕ) → seen_devices (with_device t (filled w h colour)) ≡ with_new_device w h colour (seen_devices t)
seen-made t w h colour =
    let made : Device = record { handle = t.handles + 1; frame = filled w h colour } in
    ap (λ (ps : List DevicePicture). record { handles = t.handles + 1; live = ps })
    (map-append seen_device t.live (made ∷ [])
    ∙ ap (λ (p : Picture). map seen_device t.live ++ record { handle = t.handles + 1; picture = p } ∷ []) (one_colour w h colour (filled w h colour).picture refl refl refl))

pub seen-deleted : (t : Table) (handle : ℕ) → seen_devices (table_without t handle) ≡ without_device handle (seen_devices t)
seen-deleted t handle = ap (λ (ps : List DevicePicture). record { handles = t.handles; live = ps }) (without-seen handle t.live)

pub seen-drawn : (t : Table) (handle : ℕ) (old new : Canvas) (draw : Picture → Picture) → frame_of t.live handle ≡ Some old → new.picture ≡ draw old.picture → seen_devices (with_drawn t handle new) ≡ with_drawing handle draw (seen_devices t)
seen-drawn t handle old new draw live is =
    let found : picture_on (map seen_device t.live) handle ≡ Some old.picture = picture_on-seen t.live handle ∙ ap (option_map (λ (f : Canvas). f.picture)) live in
    ap (λ (ps : List DevicePicture). record { handles = t.handles; live = ps }) (with_frame-seen handle new t.live ∙ ap (λ (p : Picture). with_picture handle p (map seen_device t.live)) is)
    ∙ sym (ap (λ (o : Option Picture). option_map_or (λ p. record (seen_devices t) { live = with_picture handle (draw p) (map seen_device t.live) }) o (seen_devices t)) found)

-- a device that isn't live isn't seen
pub unseen : (t : Table) (handle : ℕ) → frame_of t.live handle ≡ None → picture_on (seen_devices t).live handle ≡ None
unseen t handle none = picture_on-seen t.live handle ∙ ap (option_map (λ (f : Canvas). f.picture)) none

pub seen : (t : Table) (handle : ℕ) (f : Canvas) → frame_of t.live handle ≡ Some f → picture_on (seen_devices t).live handle ≡ Some f.picture
seen t handle f live = picture_on-seen t.live handle ∙ ap (option_map (λ (f : Canvas). f.picture)) live

pub is_some-seen : (t : Table) (handle : ℕ) → is_some (picture_on (seen_devices t).live handle) ≡ is_some (frame_of t.live handle)
is_some-seen t handle = ap is_some (picture_on-seen t.live handle) ∙ mapped (frame_of t.live handle)
  where
    mapped : (o : Option Canvas) → is_some (option_map (λ (f : Canvas). f.picture) o) ≡ is_some o
    mapped None = refl
    mapped (Some f) = refl

pub lent_is_some : (o : Option (Bor Canvas)) → is_some o ≡ is_some (option_copied o)
lent_is_some None = refl
lent_is_some (Some f) = refl

-- ---- what callers see then

pub made_seen : (p : Panes) (t n : Table) (now : Panes) (w h colour : ℕ) → ◌≡◌ {A = Panes} (record p { devices = seen_devices t }) now → n ≡ with_device t (filled w h colour)
    → ◌≡◌ {A = Panes} (record p { devices = seen_devices n }) (record now { devices = with_new_device w h colour now.devices })
made_seen p t n now w h colour view made =
    ap (λ (k : Table). record p { devices = seen_devices k }) made
    ∙ ap (λ (ds : DevicePictures). record p { devices = ds }) (seen-made t w h colour)
    ∙ ap (λ (s : Panes). record s { devices = with_new_device w h colour s.devices }) view

pub discarded : (p : Panes) (t n : Table) (now : Panes) (handle : ℕ) (r : Result (Unit {0}) DevRefused) → ◌≡◌ {A = Panes} (record p { devices = seen_devices t }) now → r ≡ Ok tt → (r ≡ Err (device.NoDevice handle)) ↔ (frame_of t.live handle ≡ None) → n ≡ table_without t handle
    → Draws (Ok tt) (refusal_of (no_device now.devices.live handle ∷ [])) (record now { devices = without_device handle now.devices }) now (record p { devices = seen_devices n })
discarded p t n now handle r view ok refused deleted = (
  fine (frame_of t.live handle) refl,
  ap (λ (k : Table). record p { devices = seen_devices k }) deleted
      ∙ ap (λ (ds : DevicePictures). record p { devices = ds }) (seen-deleted t handle)
      ∙ ap (λ (s : Panes). record s { devices = without_device handle s.devices }) view,
)
  where
    fine : (o : Option Canvas) → frame_of t.live handle ≡ o → refusal_of (no_device now.devices.live handle ∷ []) ≡ None
    fine None none = let wrong : ◌≡◌ {A = Result (Unit {0}) DevRefused} (Ok tt) (Err (device.NoDevice handle)) = sym ok ∙ refused.1 none in absurd cc
    fine (Some f) live = let there = ap (λ (s : Panes). picture_on s.devices.live handle) (sym view) ∙ seen t handle f live in rw there refl

pub not_discarded : (p : Panes) (t n : Table) (now : Panes) (handle : ℕ) (r : Result (Unit {0}) DevRefused) (why : DevRefused) (told : Refusal) → ◌≡◌ {A = Panes} (record p { devices = seen_devices t }) now → r ≡ Err why → (r ≡ Err (device.NoDevice handle)) ↔ (frame_of t.live handle ≡ None) → why ≡ device.NoDevice handle → n ≡ t → told ≡ device_refusal why
    → Draws (Err told) (refusal_of (no_device now.devices.live handle ∷ [])) (record now { devices = without_device handle now.devices }) now (record p { devices = seen_devices n })
not_discarded p t n now handle r why told view err refused only unchanged is =
    let none = refused.0 (err ∙ ap (λ (w : DevRefused). Err w) only) in
    let gone = ap (λ (s : Panes). picture_on s.devices.live handle) (sym view) ∙ unseen t handle none in
    let same : told ≡ NoDevice handle = is ∙ ap device_refusal only in
    (rw gone (ap (λ (w : Refusal). Some w) (sym same)), ap (λ (k : Table). record p { devices = seen_devices k }) unchanged ∙ view)

-- drawing gives out no handle
pub handles-drawn : (handle : ℕ) (draw : Picture → Picture) (ds : DevicePictures) → (with_drawing handle draw ds).handles ≡ ds.handles
handles-drawn handle draw ds = by_picture (picture_on ds.live handle)
  where
    by_picture : (o : Option Picture) → (option_map_or (λ p. record ds { live = with_picture handle (draw p) ds.live }) o ds).handles ≡ ds.handles
    by_picture None = refl
    by_picture (Some p) = refl

-- work that gives out no handle leaves as few
pub few_handles : (assets : Assets) (c : Context) (work : Work) (ds : DevicePictures) (made : ℕ) → reply_to ds work ≡ Done → ds.handles ≤ made → (devices_after assets c work ds).handles ≤ made
few_handles assets c (Draw shape) ds made done few =
    elim (cases_Bool (eqb c.device 0)) [
      | inl screen ↦ rw screen few
      | inr device ↦ rw device (subst (λ (n : ℕ). n ≤ made) (sym (handles-drawn c.device (inked_whole (colour_of_stroke assets c shape)) ds)) few)
    ]
few_handles assets c (Copy device x y) ds made done few = few
few_handles assets c (Make w h) ds made done few = absurd cc
few_handles assets c (Discard device) ds made done few = few
