-- What tasks do with their contexts: they draw, and make, copy and delete devices.
use Rattle.std.specs.Prelude.{ℕ, ℤ, ◌+◌, ◌==◌, Bool, true, false, if◌then◌else◌, List, Option, Some, None, option_map, position}
use Rattle.std.specs.Option.{option_map_or}
use Rattle.gfx_base.specs.declared.point.Point.{Point}
use Rattle.frame.specs.Pictures.{Picture}
use Rattle.context.specs.declared.context.Context.{Context}
use Rattle.paint_ops.specs.Kinds.{Assets}
use Rattle.scene.specs.declared.win.Win.{Win}
use Rattle.scene.specs.Painting.{Looks}
use Rattle.strokes.specs.declared.shape.Shape.{Shape}
use Rattle.strokes.specs.declared.shape.Shape.TheVariants as shape
use Rattle.strokes.specs.Strokes.{Ink, colour_of_stroke, colour_of_copy, puts_down, stroked, inked_whole}
use Rattle.calls.specs.declared.call.Call.{Call}
use Rattle.calls.specs.declared.call.Call.TheVariants.{Fill, Frame, Line, Bitmap, Text, DevCreate, DevDelete, DevCopy}
use Rattle.calls.specs.declared.reply.Reply.{Reply}
use Rattle.calls.specs.declared.reply.Reply.TheVariants.{Done, Device}
use Rattle.desk.specs.Devices.{DevicePictures, picture_on, with_new_device, without_device, with_drawing}

-- what a task does with its context: it draws a shape, copies a device to the screen, makes one or
-- deletes one
pub data Work : Type 0 where
  Draw : Shape → Work
  Copy : ℕ → ℤ → ℤ → Work
  Make : ℕ → ℕ → Work
  Discard : ℕ → Work

-- the work that a call asks for, if it asks for any
abbrev pub work_of : Call → Option Work
work_of (Fill x0 y0 x1 y1) = Some (Draw (shape.Fill x0 y0 x1 y1))
work_of (Frame x0 y0 x1 y1) = Some (Draw (shape.Frame x0 y0 x1 y1))
work_of (Line x0 y0 x1 y1) = Some (Draw (shape.Line x0 y0 x1 y1))
work_of (Bitmap bitmap x y) = Some (Draw (shape.Bitmap bitmap x y))
work_of (Text x y string) = Some (Draw (shape.Text x y string))
work_of (DevCreate w h) = Some (Make w h)
work_of (DevDelete device) = Some (Discard device)
work_of (DevCopy device x y) = Some (Copy device x y)
work_of call = None

-- ---- on the screen

-- the colours that work puts on the screen, told from the selected window's corner, if it draws
-- there: a shape's, while no device is selected, and those of a device that is copied
abbrev pub ink_of : Assets → DevicePictures → Context → Work → Option Ink
ink_of assets ds c (Draw shape) =
    if c.device == 0 then Some (colour_of_stroke assets c shape) else None
ink_of assets ds c (Copy device x y) =
    option_map (λ p. colour_of_copy p x y) (picture_on ds.live device)
ink_of assets ds c (Make w h) = None
ink_of assets ds c (Discard device) = None

-- the place of the window that a context selects, if it lives
abbrev pub selected : List Win → Context → Option ℕ
selected ws c = position (λ w. w.handle == c.window) ws

-- the picture with ink in the selected window
abbrev pub with_ink : Looks → List Win → Context → Ink → Picture → Picture
with_ink looks ws c ink p = option_map_or (λ which. stroked looks ws which ink p) (selected ws c) p

-- the picture after work that puts down this ink, if it puts down any
abbrev pub after_ink : Looks → List Win → Context → Option Ink → Picture → Picture
after_ink looks ws c None p = p
after_ink looks ws c (Some ink) p = with_ink looks ws c ink p

-- whether it puts down a point of the screen
abbrev pub ink_puts : Looks → List Win → Context → Option Ink → Point → Bool
ink_puts looks ws c None p = false
ink_puts looks ws c (Some ink) p =
    option_map_or (λ which. puts_down looks ws which ink p) (selected ws c) false

-- ---- on devices

-- the devices after work: drawing on the selected one, or one more or less
abbrev pub devices_after : Assets → Context → Work → DevicePictures → DevicePictures
devices_after assets c (Draw shape) ds =
    if c.device == 0 then ds
    else with_drawing c.device (inked_whole (colour_of_stroke assets c shape)) ds
devices_after assets c (Copy device x y) ds = ds
devices_after assets c (Make w h) ds = with_new_device w h c.bk ds
devices_after assets c (Discard device) ds = without_device device ds

-- ---- both

-- what is drawn on: the picture of the screen, and the devices
pub record Surfaces : Type 0 where
  pub picture : Picture
  pub devices : DevicePictures

-- the surfaces after work
abbrev pub surfaces_after : Assets → Looks → List Win → Context → Work → Surfaces → Surfaces
surfaces_after assets looks ws c work s = record {
  picture = after_ink looks ws c (ink_of assets s.devices c work) s.picture;
  devices = devices_after assets c work s.devices;
}

-- the reply to work that isn't refused
abbrev pub reply_to : DevicePictures → Work → Reply
reply_to ds (Make w h) = Device (ds.handles + 1)
reply_to ds work = Done

-- whether work is drawn on the screen: a shape, while no device is selected, or a copied device
abbrev pub is_on_screen : Context → Work → Bool
is_on_screen c (Draw shape) = c.device == 0
is_on_screen c (Copy device x y) = true
is_on_screen c (Make w h) = false
is_on_screen c (Discard device) = false

-- whether work may put down points of the screen
abbrev pub may_ink : Work → Bool
may_ink (Draw shape) = true
may_ink (Copy device x y) = true
may_ink (Make w h) = false
may_ink (Discard device) = false
