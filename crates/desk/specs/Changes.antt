-- What a change of one window does to the list, and the calls that ask for a change of a window, for
-- one of a context, and for a shape.
use Rattle.std.specs.Prelude.{ℕ, true, false, List}
use Rattle.scene.specs.declared.win.Win.{Win}
use Rattle.scene.specs.Families.{without_family, raised, lowered, window_changed, moved_to, resized_to, with_shown}
use Rattle.strokes.specs.declared.shape.Shape.{Shape}
use Rattle.strokes.specs.declared.shape.Shape.TheVariants as shape
use Rattle.calls.specs.declared.call.Call.{Call}
use Rattle.calls.specs.declared.call.Call.TheVariants as call
use Rattle.desk.specs.declared.changes.Change.{Change}
use Rattle.desk.specs.declared.changes.Change.TheVariants.{Delete, MoveTo, MoveBy, Resize, Show, Hide, ToTop, ToBottom, SetClass, SetTrans}
use Rattle.desk.specs.declared.changes.ContextChange.{ContextChange}
use Rattle.desk.specs.declared.changes.ContextChange.TheVariants as context_change
use Rattle.desk.specs.Windows.{moved_by, with_class, with_trans}

-- the call that asks for the change
abbrev pub call_for : ℕ → Change → Call
call_for h Delete = call.Delete h
call_for h (MoveTo x y) = call.MoveTo h x y
call_for h (MoveBy dx dy) = call.MoveBy h dx dy
call_for h (Resize width height) = call.Resize h width height
call_for h Show = call.Show h
call_for h Hide = call.Hide h
call_for h ToTop = call.ToTop h
call_for h ToBottom = call.ToBottom h
call_for h (SetClass class) = call.SetClass h class
call_for h (SetTrans trans) = call.SetTrans h trans

-- the call on a context that asks for the change
abbrev pub context_call : ContextChange → Call
context_call (context_change.Select h) = call.Select h
context_call (context_change.Device device) = call.DevSelect device
context_call (context_change.Colour c) = call.Colour c
context_call (context_change.BkColour c) = call.BkColour c
context_call (context_change.TextMode trans) = call.TextMode trans
context_call (context_change.Font font) = call.Font font
context_call context_change.Save = call.Save
context_call context_change.Restore = call.Restore

-- the call that draws the shape
abbrev pub stroke_call : Shape → Call
stroke_call (shape.Fill x0 y0 x1 y1) = call.Fill x0 y0 x1 y1
stroke_call (shape.Frame x0 y0 x1 y1) = call.Frame x0 y0 x1 y1
stroke_call (shape.Line x0 y0 x1 y1) = call.Line x0 y0 x1 y1
stroke_call (shape.Bitmap bitmap x y) = call.Bitmap bitmap x y
stroke_call (shape.Text x y string) = call.Text x y string

-- the list after a change of one window
abbrev pub list_after : ℕ → Change → List Win → List Win
list_after h Delete ws = without_family h ws
list_after h (MoveTo x y) ws = window_changed h (moved_to x y) ws
list_after h (MoveBy dx dy) ws = window_changed h (moved_by dx dy) ws
list_after h (Resize width height) ws = window_changed h (resized_to width height) ws
list_after h Show ws = window_changed h (with_shown true) ws
list_after h Hide ws = window_changed h (with_shown false) ws
list_after h ToTop ws = raised h ws
list_after h ToBottom ws = lowered h ws
list_after h (SetClass class) ws = window_changed h (with_class class) ws
list_after h (SetTrans trans) ws = window_changed h (with_trans trans) ws
