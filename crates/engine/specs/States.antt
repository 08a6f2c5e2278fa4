-- The state of the core, and what each call and each mark does to it.
use Rattle.std.specs.Prelude.{ℕ, Bool, if◌then◌else◌, List, [], ◌∷◌, ◌++◌}
use Rattle.context.specs.Contexts.{Owned}
use Rattle.scene.specs.declared.win.Win.{Win}
use Rattle.multibuf.specs.Screens.{Screen, latest, after_begin, after_end}
use Rattle.calls.specs.declared.call.Call.{Call}
use Rattle.calls.specs.declared.call.Call.TheVariants.{Begin, End}
use Rattle.calls.specs.declared.entry.Entry.{Entry}
use Rattle.calls.specs.declared.entry.Entry.TheVariants as entry
use Rattle.calls.specs.declared.reply.Reply.TheVariants.{Done}
use Rattle.desk.specs.Setups.{Setup}
use Rattle.desk.specs.Devices.{DevicePictures}
use Rattle.desk.specs.Desks.{Desk, opening_desk, Step, Objection, desk_objections, refusal_of, unless_refused, desk_effect, is_drawing}
use Rattle.surfaces.specs.Turns.{showing, after_turn, marked, none_free, begin_objections, end_objections}

-- the windows from back to front, how many handles were given out, the pictures of the buffers,
-- what each task draws with and saved, and the devices
pub record State : Type 0 where
  pub windows : List Win
  pub handles : ℕ
  pub screen : Screen
  pub contexts : List Owned
  pub devices : DevicePictures

-- what calls work on: the picture is the one that is drawn on, else the one that waits, else the
-- one that is shown
abbrev pub desk_of : State → Desk
desk_of s = record {
  windows = s.windows;
  handles = s.handles;
  picture = latest s.screen;
  contexts = s.contexts;
  devices = s.devices;
}

-- the state of a desk whose picture is on that screen
abbrev pub with_screen : Desk → Screen → State
with_screen d screen = record {
  windows = d.windows;
  handles = d.handles;
  screen = screen;
  contexts = d.contexts;
  devices = d.devices;
}

-- before the first call
abbrev pub opening : Setup → State
opening setup = let d = opening_desk setup in with_screen d (showing d.picture)

-- what may be held against a call for the buffers' sake
abbrev pub buffer_objections : ℕ → State → ℕ → Call → List Objection
buffer_objections n s actor Begin = begin_objections n s.screen
buffer_objections n s actor End = end_objections s.screen
buffer_objections n s actor call =
    if is_drawing (desk_of s) actor call then none_free n s.screen else []

-- what may be held against a call of an actor, in order
abbrev pub objections_to : Setup → State → ℕ → Call → List Objection
objections_to setup s actor call =
    desk_objections setup (desk_of s) actor call
    ++ buffer_objections setup.config.buffers s actor call

-- the screen after a call, which draws that picture or none
abbrev pub screen_after : ℕ → Bool → Desk → Screen → Screen
screen_after n drawing d screen = if drawing then after_turn n d.picture screen else screen

-- a call's effect on the desk, of n buffers
abbrev pub on_desk : ℕ → Bool → Screen → Step Desk → Step State
on_desk n drawing screen done = record {
  state = with_screen done.state (screen_after n drawing done.state screen);
  reply = done.reply;
}

-- an effect on the buffers alone
abbrev pub with_buffers : State → Screen → Step State
with_buffers s screen = record { state = record s { screen = screen }; reply = Done }

-- what a call of an actor does that isn't refused
abbrev pub effect_of : Setup → State → ℕ → Call → Step State
effect_of setup s actor Begin = with_buffers s (after_begin setup.config.buffers s.screen)
effect_of setup s actor End = with_buffers s (after_end s.screen)
effect_of setup s actor call =
    on_desk setup.config.buffers (is_drawing (desk_of s) actor call) s.screen
    (desk_effect setup (desk_of s) actor call)

abbrev pub step_of_call : Setup → State → ℕ → Call → Step State
step_of_call setup s actor call =
    unless_refused (refusal_of (objections_to setup s actor call)) s
    (effect_of setup s actor call)

-- what an entry does: a mark shows what waits
unfoldable pub step : Setup → State → Entry → Step State
step setup s (entry.Call actor call) = step_of_call setup s actor call
step setup s (entry.Shown switch) = with_buffers s (marked switch s.screen)

-- the state after the entries of a history
abbrev pub state_after : Setup → State → List Entry → State
state_after setup s [] = s
state_after setup s (e ∷ es) = state_after setup (step setup s e).state es
