-- What calls work on: windows, the picture that is drawn on, the tasks' contexts and the devices.
-- What may be held against each call, and what it does.
use Rattle.std.specs.Prelude.{ℕ, ℤ, zero, suc, ◌+◌, Bool, true, false, not, ◌&&◌, ◌==◌, nat_le, if◌then◌else◌, List, [], ◌∷◌, ◌++◌, length, Option, Some, None, is_some}
use Rattle.std.specs.List.{list_any}
use Rattle.std.specs.Option.{option_map_or}
use Rattle.gfx_base.specs.declared.rect.Rect.{Rect}
use Rattle.frame.specs.Pictures.{Picture, picture_of}
use Rattle.context.specs.Contexts.{Owned, first_contexts, owned_by, with_owned, with_context, after_save, after_restore}
use Rattle.context.specs.declared.context.Context.{Context}
use Rattle.paint_ops.specs.Kinds.{Assets}
use Rattle.memdev.specs.Refusals.{is_bad_device_size}
use Rattle.strokes.specs.declared.shape.Shape.{Shape}
use Rattle.strokes.specs.declared.shape.Shape.TheVariants as shape
use Rattle.scene.specs.declared.win.Win.{Win}
use Rattle.scene.specs.Places.{window_of}
use Rattle.scene.specs.Stacks.{is_bad_size, has_ancestors}
use Rattle.scene.specs.Families.{new_window, desktop_with, on_top_of, without_family, raised, lowered, window_changed, moved_to, resized_to, with_shown}
use Rattle.calls.specs.declared.call.Call.{Call}
use Rattle.calls.specs.declared.call.Call.TheVariants.{Create, Delete, MoveTo, MoveBy, Resize, Show, Hide, ToTop, ToBottom, SetClass, Invalidate, InvalidateRect, InvalidateArea, Exec, Exec1, Scan, SetTrans, SetMemdev, SetValue, Send, DevSelect, Select, Colour, BkColour, TextMode, Font, Save, Restore}
use Rattle.calls.specs.declared.reply.Reply.{Reply}
use Rattle.calls.specs.declared.reply.Reply.TheVariants.{Done, Handle, Jobs, Device, Refused}
use Rattle.calls.specs.declared.reply.Refusal.{Refusal}
use Rattle.calls.specs.declared.reply.Refusal.TheVariants.{NoWindow, Desktop, BadSize, TooManyWindows, TooDeep, NoClass, NoValue, NoFont, NoBitmap, NoText, NoDevice, TooManyDevices, Memory, ContextDepth, NoContext}
use Rattle.desk.specs.Setups.{Setup, screen_of, looks_of}
use Rattle.desk.specs.Windows.{moved_by, with_class, after_change, with_invalid_window, with_invalid_rect, with_invalid_area, with_trans, with_memdev, with_value, with_message}
use Rattle.invalidate.specs.Invalidation.{is_invalid}
use Rattle.desk.specs.Jobs.{windows_after_job, picture_after_job, jobs_of}
use Rattle.desk.specs.Devices.{DevicePicture, DevicePictures, no_device_pictures, picture_on}
use Rattle.desk.specs.Drawing.{Work, Draw, Copy, Make, Discard, work_of, is_on_screen, surfaces_after, reply_to}

-- the windows from back to front, how many handles were given out, the picture that is drawn on,
-- what each task draws with and saved, and the devices
pub record Desk : Type 0 where
  pub windows : List Win
  pub handles : ℕ
  pub picture : Picture
  pub contexts : List Owned
  pub devices : DevicePictures

-- before the first call: the desktop alone, on a black picture, each task's first context, and no
-- device
abbrev pub opening_desk : Setup → Desk
opening_desk setup = record {
  windows = desktop_with setup.config.w setup.config.h (screen_of setup) ∷ [];
  handles = 1;
  picture = picture_of setup.config.w setup.config.h (λ x y. 0);
  contexts = first_contexts;
  devices = no_device_pictures;
}

-- what there is after a call, and its reply
pub record Step (S : Type 0) : Type 0 where
  pub state : S
  pub reply : Reply

-- whether a call is on its task's context
abbrev pub is_context_call : Call → Bool
is_context_call (Select h) = true
is_context_call (Colour c) = true
is_context_call (BkColour c) = true
is_context_call (TextMode trans) = true
is_context_call (Font font) = true
is_context_call Save = true
is_context_call Restore = true
is_context_call (DevSelect device) = true
is_context_call call = false

-- ---- refusals

-- a test, and why a call that passes it is refused
abbrev pub Objection : Type 0
Objection = Bool × Refusal

-- no window has the handle
abbrev pub no_window : List Win → ℕ → Objection
no_window ws h = (not (is_some (window_of ws h)), NoWindow h)

-- the window of the handle has the deepest level, on which it has seven ancestors
abbrev pub too_deep : List Win → ℕ → Objection
too_deep ws h = (option_map_or (has_ancestors 7 ws) (window_of ws h) false, TooDeep)

abbrev pub bad_size : ℕ → ℕ → Objection
bad_size w h = (is_bad_size w h, BadSize)

-- there are only so many classes
abbrev pub no_class : ℕ → ℕ → Objection
no_class classes class = (nat_le classes class, NoClass class)

-- a window has sixteen values
abbrev pub no_value : ℕ → Objection
no_value index = (nat_le 16 index, NoValue index)

-- there are only so many fonts
abbrev pub unknown_font : ℕ → ℕ → Objection
unknown_font fonts font = (nat_le fonts font, NoFont font)

-- there are only so many bitmaps
abbrev pub unknown_bitmap : ℕ → ℕ → Objection
unknown_bitmap bitmaps bitmap = (nat_le bitmaps bitmap, NoBitmap bitmap)

-- there are only so many strings
abbrev pub unknown_text : ℕ → ℕ → Objection
unknown_text strings string = (nat_le strings string, NoText string)

-- no device that lives has the handle
abbrev pub no_device : List DevicePicture → ℕ → Objection
no_device ds device = (not (is_some (picture_on ds device)), NoDevice device)

-- the same, where 0 stands for the screen
abbrev pub no_surface : List DevicePicture → ℕ → Objection
no_surface ds device =
    (not (device == 0) && not (is_some (picture_on ds device)), NoDevice device)

abbrev pub bad_device_size : ℕ → ℕ → Objection
bad_device_size w h = (is_bad_device_size w h, BadSize)

-- there is no such window, or it is the desktop, which stays as it is
abbrev pub unchangeable : List Win → ℕ → List Objection
unchangeable ws h = no_window ws h ∷ (h == 1, Desktop) ∷ []

-- what may be held against a call on windows or on painting, in order, where there are so many
-- classes and these windows
abbrev pub objections : ℕ → List Win → Call → List Objection
objections classes ws (Create parent x y w h class) =
    no_window ws parent ∷ too_deep ws parent ∷ bad_size w h ∷ no_class classes class
    ∷ (nat_le 256 (length ws), TooManyWindows) ∷ []
objections classes ws (Delete h) = unchangeable ws h
objections classes ws (MoveTo h x y) = unchangeable ws h
objections classes ws (MoveBy h dx dy) = unchangeable ws h
objections classes ws (Resize h width height) = unchangeable ws h ++ bad_size width height ∷ []
objections classes ws (Show h) = unchangeable ws h
objections classes ws (Hide h) = unchangeable ws h
objections classes ws (ToTop h) = unchangeable ws h
objections classes ws (ToBottom h) = unchangeable ws h
objections classes ws (SetClass h class) = unchangeable ws h ++ no_class classes class ∷ []
objections classes ws (SetTrans h trans) = unchangeable ws h
objections classes ws (SetMemdev h memdev) = no_window ws h ∷ []
objections classes ws (SetValue h index value) = no_window ws h ∷ no_value index ∷ []
objections classes ws (Send h message argument) = no_window ws h ∷ []
objections classes ws (Invalidate h) = no_window ws h ∷ []
objections classes ws (InvalidateRect h x0 y0 x1 y1) = no_window ws h ∷ []
objections classes ws (InvalidateArea x0 y0 x1 y1) = []
objections classes ws Exec = []
objections classes ws Exec1 = []
objections classes ws Scan = []
objections classes ws call = []

-- what may be held against a call on a context, where there are so many fonts, these windows and
-- these devices, and its task has this
abbrev pub context_objections : ℕ → List Win → List DevicePicture → Owned → Call → List Objection
context_objections fonts ws ds own (Select h) = no_window ws h ∷ []
context_objections fonts ws ds own (DevSelect device) = no_surface ds device ∷ []
context_objections fonts ws ds own (Font font) = unknown_font fonts font ∷ []
context_objections fonts ws ds own Save = (length own.saved == 8, ContextDepth) ∷ []
context_objections fonts ws ds own Restore = (length own.saved == 0, NoContext) ∷ []
context_objections fonts ws ds own call = []

-- what a shape names that isn't there
abbrev pub shape_objections : Assets → Context → Shape → List Objection
shape_objections assets c (shape.Bitmap bitmap x y) =
    unknown_bitmap (length assets.bitmaps) bitmap ∷ []
shape_objections assets c (shape.Text x y string) =
    unknown_text (length assets.strings) string ∷ unknown_font (length assets.fonts) c.font ∷ []
shape_objections assets c shape = []

-- where a context draws isn't there: the device that it selects, or the window, while it selects
-- no device
abbrev pub no_ground : List Win → List DevicePicture → Context → Objection
no_ground ws ds c = if c.device == 0 then no_window ws c.window else no_device ds c.device

-- what may be held against a new device
abbrev pub making_objections : List DevicePicture → ℕ → ℕ → List Objection
making_objections ds w h = bad_device_size w h ∷ (nat_le 16 (length ds), TooManyDevices) ∷ []

-- what may be held against work with a context: what it names, and then where it draws
abbrev pub work_objections : Assets → List Win → List DevicePicture → Context → Work
    → List Objection
work_objections assets ws ds c (Draw shape) =
    shape_objections assets c shape ++ no_ground ws ds c ∷ []
work_objections assets ws ds c (Copy device x y) =
    no_device ds device ∷ no_window ws c.window ∷ []
work_objections assets ws ds c (Make w h) = making_objections ds w h
work_objections assets ws ds c (Discard device) = no_device ds device ∷ []

-- what may be held against a call that isn't on a context: of work, if it asks for any
abbrev pub other_objections : Setup → Desk → ℕ → Option Work → Call → List Objection
other_objections setup s actor None call =
    objections (length setup.assets.classes) s.windows call
other_objections setup s actor (Some work) call =
    work_objections setup.assets s.windows s.devices.live (owned_by s.contexts actor).context work

-- what may be held against a call of an actor, in order
abbrev pub desk_objections : Setup → Desk → ℕ → Call → List Objection
desk_objections setup s actor call =
    if is_context_call call
    then context_objections (length setup.assets.fonts) s.windows s.devices.live
    (owned_by s.contexts actor) call
    else other_objections setup s actor (work_of call) call

-- the first that holds
abbrev pub refusal_of : List Objection → Option Refusal
refusal_of [] = None
refusal_of (objection ∷ rest) = if objection.0 then Some objection.1 else refusal_of rest

-- a refused call changes nothing
abbrev pub unless_refused : {S : Type 0} → Option Refusal → S → Step S → Step S
unless_refused None s done = done
unless_refused (Some refusal) s done = record { state = s; reply = Refused refusal }

-- ---- effects

abbrev pub with_windows : Desk → List Win → Step Desk
with_windows s ws = record { state = record s { windows = ws }; reply = Done }

-- the list became another one by a call on the window that has the handle
abbrev pub changed : Setup → Desk → ℕ → List Win → Step Desk
changed setup s h now = with_windows s (after_change (screen_of setup) h s.windows now)

-- a window more, on top of its parent's children
abbrev pub after_create : Setup → Desk → Win → Desk
after_create setup s w =
    record s {
      windows =
          after_change (screen_of setup) w.handle s.windows
          (on_top_of w.parent (w ∷ []) s.windows);
      handles = w.handle;
    }

abbrev pub created : Setup → Desk → Win → Step Desk
created setup s w = record { state = after_create setup s w; reply = Handle w.handle }

-- the first invalid window is painted
abbrev pub after_job : Setup → Desk → Desk
after_job setup s =
    record s {
      windows = windows_after_job s.windows;
      picture = picture_after_job setup s.windows s.picture;
    }

abbrev pub after_jobs : Setup → ℕ → Desk → Desk
after_jobs setup zero s = s
after_jobs setup (suc n) s = after_jobs setup n (after_job setup s)

-- so many jobs are done
abbrev pub painted : Setup → Desk → ℕ → Step Desk
painted setup s jobs = record { state = after_jobs setup jobs s; reply = Jobs jobs }

abbrev pub rect_with : ℤ → ℤ → ℤ → ℤ → Rect
rect_with x0 y0 x1 y1 = record { x0 = x0; y0 = y0; x1 = x1; y1 = y1 }

-- what a call on windows or on painting does that isn't refused
abbrev pub effect : Setup → Desk → Call → Step Desk
effect setup s (Create parent x y w h class) =
    created setup s (new_window (s.handles + 1) parent x y w h class)
effect setup s (Delete h) = changed setup s h (without_family h s.windows)
effect setup s (MoveTo h x y) = changed setup s h (window_changed h (moved_to x y) s.windows)
effect setup s (MoveBy h dx dy) = changed setup s h (window_changed h (moved_by dx dy) s.windows)
effect setup s (Resize h width height) =
    changed setup s h (window_changed h (resized_to width height) s.windows)
effect setup s (Show h) = changed setup s h (window_changed h (with_shown true) s.windows)
effect setup s (Hide h) = changed setup s h (window_changed h (with_shown false) s.windows)
effect setup s (ToTop h) = changed setup s h (raised h s.windows)
effect setup s (ToBottom h) = changed setup s h (lowered h s.windows)
effect setup s (SetClass h class) =
    changed setup s h (window_changed h (with_class class) s.windows)
effect setup s (SetTrans h trans) =
    changed setup s h (window_changed h (with_trans trans) s.windows)
effect setup s (SetMemdev h memdev) =
    with_windows s (window_changed h (with_memdev memdev) s.windows)
effect setup s (SetValue h index value) =
    with_windows s (with_value (screen_of setup) h index value s.windows)
effect setup s (Send h message argument) =
    with_windows s (with_message setup.assets (screen_of setup) h message argument s.windows)
effect setup s (Invalidate h) =
    with_windows s (with_invalid_window (screen_of setup) h s.windows)
effect setup s (InvalidateRect h x0 y0 x1 y1) =
    with_windows s (with_invalid_rect (screen_of setup) h (rect_with x0 y0 x1 y1) s.windows)
effect setup s (InvalidateArea x0 y0 x1 y1) =
    with_windows s (with_invalid_area (screen_of setup) (rect_with x0 y0 x1 y1) s.windows)
effect setup s Exec = painted setup s (jobs_of s.windows)
effect setup s Exec1 = painted setup s (if list_any is_invalid s.windows then 1 else 0)
effect setup s Scan = record { state = s; reply = Done }
effect setup s call = record { state = s; reply = Done }

-- what a task has after a call on its context that isn't refused
abbrev pub context_after : Owned → Call → Owned
context_after own (Select h) = with_context own (record own.context { window = h })
context_after own (DevSelect device) =
    with_context own (record own.context { device = device })
context_after own (Colour c) = with_context own (record own.context { colour = c })
context_after own (BkColour c) = with_context own (record own.context { bk = c })
context_after own (TextMode trans) = with_context own (record own.context { trans_text = trans })
context_after own (Font font) = with_context own (record own.context { font = font })
context_after own Save = after_save own
context_after own Restore = after_restore own
context_after own call = own

-- a task has something else
abbrev pub with_own : Desk → ℕ → Owned → Step Desk
with_own s task own =
    record { state = record s { contexts = with_owned s.contexts task own }; reply = Done }

-- work is done with a context
abbrev pub work_done : Setup → Desk → Context → Work → Step Desk
work_done setup s c work =
    let now = surfaces_after setup.assets (looks_of setup s.windows) s.windows c work
    (record { picture = s.picture; devices = s.devices }) in
    record {
      state = record s { picture = now.picture; devices = now.devices };
      reply = reply_to s.devices work;
    }

-- what a call does that isn't on a context and isn't refused: work, if it asks for any
abbrev pub other_effect : Setup → Desk → ℕ → Option Work → Call → Step Desk
other_effect setup s actor None call = effect setup s call
other_effect setup s actor (Some work) call =
    work_done setup s (owned_by s.contexts actor).context work

-- what a call of an actor does that isn't refused
abbrev pub desk_effect : Setup → Desk → ℕ → Call → Step Desk
desk_effect setup s actor call =
    if is_context_call call
    then with_own s actor (context_after (owned_by s.contexts actor) call)
    else other_effect setup s actor (work_of call) call

-- ---- steps

-- what a call of an actor does to the desk, if it isn't refused
abbrev pub desk_step : Setup → Desk → ℕ → Call → Step Desk
desk_step setup s actor call =
    unless_refused (refusal_of (desk_objections setup s actor call)) s
    (desk_effect setup s actor call)

-- whether a call of an actor draws on the screen: it paints while a window is invalid, draws a
-- shape while its task has no device selected, or copies a device
abbrev pub is_drawing : Desk → ℕ → Call → Bool
is_drawing s actor Exec = list_any is_invalid s.windows
is_drawing s actor Exec1 = list_any is_invalid s.windows
is_drawing s actor call =
    option_map_or (is_on_screen (owned_by s.contexts actor).context) (work_of call) false

-- whether the reply refuses the call
abbrev pub is_refused : Reply → Bool
is_refused Done = false
is_refused (Handle handle) = false
is_refused (Jobs count) = false
is_refused (Device device) = false
is_refused (Refused refusal) = true

-- whether it tells that there is no memory
abbrev pub is_want_of_memory : Reply → Bool
is_want_of_memory (Refused Memory) = true
is_want_of_memory reply = false
