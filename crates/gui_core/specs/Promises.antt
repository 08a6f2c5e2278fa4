-- What holds of the state after any calls and marks.
use Rattle.std.specs.Prelude.{◌≡◌, ◌≢◌, ℕ, ◌≤◌, Bool, true, false, List, None, filter}
use Rattle.calls.specs.declared.call.Call.{Call}
use Rattle.calls.specs.declared.call.Call.TheVariants.{Begin, End, Exec, Exec1, Scan, Select, Colour, BkColour, TextMode, Font, Save, Restore, Fill, Frame, Line, Bitmap, Text, DevCreate, DevDelete, DevSelect, DevCopy}
use Rattle.calls.specs.declared.entry.Entry.{Entry}
use Rattle.calls.specs.declared.entry.Entry.TheVariants as entry
use Rattle.multibuf.specs.Screens.{number_waiting}
use Rattle.desk.specs.Desks.{is_context_call}
use Rattle.engine.specs.States.{State}
use Rattle.desk.specs.Promises.{NoneInvalid}

-- no window is invalid, no begin is open, and no switch waits
pub record IsQuiet (s : State) : Type 0 where
  pub valid : NoneInvalid s.windows
  pub ended : s.screen.count ≡ 0
  pub switched : number_waiting s.screen ≡ None

-- whether a call may change where windows are, or what they are
abbrev pub is_window_call : Call → Bool
is_window_call Begin = false
is_window_call End = false
is_window_call Exec = false
is_window_call Exec1 = false
is_window_call Scan = false
is_window_call (Select h) = false
is_window_call (Colour c) = false
is_window_call (BkColour c) = false
is_window_call (TextMode trans) = false
is_window_call (Font font) = false
is_window_call Save = false
is_window_call Restore = false
is_window_call (Fill x0 y0 x1 y1) = false
is_window_call (Frame x0 y0 x1 y1) = false
is_window_call (Line x0 y0 x1 y1) = false
is_window_call (Bitmap bitmap x y) = false
is_window_call (Text x y string) = false
is_window_call (DevCreate w h) = false
is_window_call (DevDelete device) = false
is_window_call (DevSelect device) = false
is_window_call (DevCopy device x y) = false
is_window_call call = true

-- whether an entry may
abbrev pub changes_windows : Entry → Bool
changes_windows (entry.Call actor call) = is_window_call call
changes_windows (entry.Shown switch) = false

-- whether an entry may change a context
abbrev pub changes_contexts : Entry → Bool
changes_contexts (entry.Call actor call) = is_context_call call
changes_contexts (entry.Shown switch) = false

-- another task made it; no task made a mark
abbrev pub IsByAnother : ℕ → Entry → Type 0
IsByAnother task (entry.Call actor call) = (1 ≤ actor) × (task ≢ actor)
IsByAnother task (entry.Shown switch) = Unit {0}

-- the entries that may change windows
abbrev pub window_calls : List Entry → List Entry
window_calls es = filter changes_windows es
