-- The core as what its calls work on, with what it was opened with and how calls are counted. Contracts
-- of other crates name `IsConfig` alone.
use Rattle.std.specs.Prelude.{◌≡◌, ℕ, ◌+◌, ◌≤◌, Bool, true, false, Option, None, if◌then◌else◌, ◌==◌, length, Result, Ok, Err}
use Rattle.paint_ops.specs.Kinds.{Assets}
use Rattle.paint_ops.specs.Soundness.{IsSound}
use Rattle.desk.specs.Scenes.{IsScene}
use Rattle.multibuf.specs.Screens.{after_draw}
use Rattle.calls.specs.declared.config.Config.{Config}
use Rattle.calls.specs.declared.call.Call.{Call}
use Rattle.calls.specs.declared.call.Call.TheVariants.{DevCreate}
use Rattle.calls.specs.declared.entry.Entry.TheVariants as entry
use Rattle.calls.specs.declared.reply.Reply.{Reply}
use Rattle.desk.specs.Setups.{Setup, setup_for}
use Rattle.desk.specs.Desks.{Desk, Step, refusal_of, desk_step, is_refused}
use Rattle.engine.specs.States.{State, desk_of, opening, objections_to, step_of_call, step}
use Rattle.calls.specs.declared.reply.Reply.TheVariants.{Done, Refused}
use Rattle.calls.specs.declared.reply.Refusal.{Refusal}
use Rattle.flip.specs.declared.views.Drawing.{Drawing}
use Rattle.flip.specs.Drawers.{new_drawing}
use Rattle.surfaces.specs.Turns.{IsScreen}
use Rattle.surfaces.specs.Panes.{Panes, switched, Finds}

-- what it was opened with, what its drawer knows of the display, the sides of the buffers, its
-- state, which switch the last end found confirmed, how many calls were made, and how many of them
-- were refused
pub record Machine : Type 0 where
  pub setup : Setup
  pub drawer : Drawing
  pub width : ℕ
  pub height : ℕ
  pub state : State
  pub marked : Option ℕ
  pub made : ℕ
  pub refused : ℕ

-- before the first call
abbrev pub machine_for : Bool → Assets → Config → Machine
machine_for alone assets config =
    let setup = setup_for assets config in
    record {
      setup = setup;
      drawer = new_drawing alone config.buffers;
      width = config.w;
      height = config.h;
      state = opening setup;
      marked = None;
      made = 0;
      refused = 0;
    }

-- the configuration is one that can be opened
pub record IsConfig (config : Config) : Type 0 where
  pub width : (1 ≤ config.w) × (config.w ≤ 1024)
  pub height : (1 ≤ config.h) × (config.h ≤ 768)
  pub buffers : (1 ≤ config.buffers) × (config.buffers ≤ 3)
  pub calls : config.calls ≤ 400000

-- a call that draws nothing did its step on the desk, and isn't counted yet
pub record Takes (old : Machine) (actor : ℕ) (call : Call) (new : Machine)
    (reply : Reply) : Type 0 where
  pub rest : new ≡ record old { state = new.state }
  pub screen : new.state.screen ≡ old.state.screen
  pub step : ◌≡◌ {A = Step Desk} (record { state = desk_of new.state; reply = reply })
      (desk_step old.setup (desk_of old.state) actor call)

-- such a call does the same whoever makes it
pub record TakesAlike (old : Machine) (call : Call) (new : Machine) (reply : Reply) : Type 0 where
  pub by : (actor : ℕ) → Takes old actor call new reply

-- a call took one step, and isn't counted yet
pub record Makes (old : Machine) (actor : ℕ) (call : Call) (new : Machine)
    (reply : Reply) : Type 0 where
  pub rest : new ≡ record old { state = new.state }
  pub step : ◌≡◌ {A = Step State} (record { state = new.state; reply = reply })
      (step_of_call old.setup old.state actor call)

-- a call takes the same step whoever makes it
pub record MakesAlike (old : Machine) (call : Call) (new : Machine) (reply : Reply) : Type 0 where
  pub by : (actor : ℕ) → Makes old actor call new reply

-- what it draws on
abbrev pub panes_of : Machine → Panes
panes_of m = record {
  drawer = m.drawer;
  width = m.width;
  height = m.height;
  screen = m.state.screen;
  devices = m.state.devices;
  marked = m.marked;
}

-- it with other buffers and devices
abbrev pub with_panes : Machine → Panes → Machine
with_panes m p = record m {
  drawer = p.drawer;
  width = p.width;
  height = p.height;
  state = record m.state { screen = p.screen; devices = p.devices };
  marked = p.marked;
}

-- the machine that a call found, with the mark of the switch that it found confirmed
abbrev pub with_mark : Machine → Machine → Machine
with_mark new old = with_panes old (switched (panes_of new) (panes_of old))

-- a call that may draw took one step, after the mark of the switch that it found confirmed, and
-- isn't counted yet
pub record Turns (old : Machine) (actor : ℕ) (call : Call) (new : Machine)
    (reply : Reply) : Type 0 where
  pub finds : Finds old.drawer old.state.screen new.drawer new.marked
  pub makes : Makes (with_mark new old) actor call new reply

-- such a call takes the same step whoever makes it
pub record TurnsAlike (old : Machine) (call : Call) (new : Machine) (reply : Reply) : Type 0 where
  pub by : (actor : ℕ) → Turns old actor call new reply

-- jobs left this desk, and drew its picture if there were any
pub record Paints (old : Machine) (jobs : ℕ) (d : Desk) (new : Machine) : Type 0 where
  pub rest : new ≡ record old { state = new.state }
  pub desk : desk_of new.state ≡ d
  pub screen : new.state.screen ≡
      (if jobs == 0 then old.state.screen else after_draw old.drawer.buffers d.picture
      old.state.screen)

-- a call took one step, and was counted
pub record Counts (old : Machine) (actor : ℕ) (call : Call) (new : Machine)
    (reply : Reply) : Type 0 where
  pub setup : new.setup ≡ old.setup
  pub step : ◌≡◌ {A = Step State} (record { state = new.state; reply = reply })
      (step old.setup old.state (entry.Call actor call))
  pub made : new.made ≡ old.made + 1
  pub refused : new.refused ≡ old.refused + (if is_refused reply then 1 else 0)

-- whether a call makes a device
abbrev pub makes_device : Call → Bool
makes_device (DevCreate w h) = true
makes_device call = false

-- a call wasn't made, and isn't counted: it makes a device, against which nothing is held
pub record IsUnmade (old : Machine) (actor : ℕ) (call : Call) (new : Machine) : Type 0 where
  pub unchanged : new ≡ old
  pub makes : makes_device call ≡ true
  pub free : refusal_of (objections_to old.setup old.state actor call) ≡ None

-- What is true of every core.
pub record IsKept (m : Machine) : Type 0 where
  pub config : IsConfig m.setup.config
  pub assets : IsSound m.setup.assets
  pub has_desktop : 1 ≤ length m.setup.assets.classes
  pub buffers : m.drawer.buffers ≡ m.setup.config.buffers
  pub screen : IsScreen m.drawer.buffers m.state.screen
  pub width : m.width ≡ m.setup.config.w
  pub height : m.height ≡ m.setup.config.h
  pub scene : IsScene m.setup m.state.windows m.state.handles
  pub handles : m.state.handles ≤ m.made + 1
  pub devices : m.state.devices.handles ≤ m.made
  pub switches : m.state.screen.switches ≤ m.made
  pub made : m.made ≤ m.setup.config.calls
  pub refused : m.refused ≤ m.made

-- the reply to a call that gives nothing
abbrev pub answered : Result (Unit {0}) Refusal → Reply
answered (Ok done) = Done
answered (Err refusal) = Refused refusal
