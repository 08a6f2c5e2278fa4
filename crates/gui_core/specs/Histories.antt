-- The core as its callers see it: what it was opened with, the history of its calls, and what these
-- come to.
use Rattle.std.specs.Prelude.{◌≡◌, ◌⊎◌, ℕ, ◌+◌, ◌*◌, ◌≤◌, Bool, true, false, not, ◌&&◌, nat_le, Option, None, Some, is_some, IsTrue, if◌then◌else◌, List, [], ◌∷◌, ◌++◌, length, filter}
use Rattle.std.specs.List.{AllByRecursion}
use Rattle.std.specs.Option.{option_map_or}
use Rattle.paint_ops.specs.Kinds.{Assets}
use Rattle.flip.specs.declared.views.Drawing.{Drawing}
use Rattle.flip.specs.Indexes.{confirmed_by}
use Rattle.flip.specs.Drawers.{new_drawing, after_look}
use Rattle.flip.specs.Display.{IsDisplay}
use Rattle.multibuf.specs.Screens.{Screen, number_waiting, number_confirmed}
use Rattle.surfaces.specs.Panes.{Finds}
use Rattle.calls.specs.Actors.{fits}
use Rattle.calls.specs.declared.config.Config.{Config}
use Rattle.calls.specs.declared.call.Call.{Call}
use Rattle.calls.specs.declared.entry.Entry.{Entry}
use Rattle.calls.specs.declared.entry.Entry.TheVariants as entry
use Rattle.calls.specs.declared.reply.Reply.{Reply}
use Rattle.calls.specs.declared.reply.Reply.TheVariants.{Refused}
use Rattle.calls.specs.declared.reply.Refusal.TheVariants.{Full}
use Rattle.desk.specs.Setups.{Setup, setup_for}
use Rattle.desk.specs.Desks.{refusal_of, is_refused, is_want_of_memory}
use Rattle.engine.specs.States.{State, opening, step, state_after, objections_to}
use Rattle.engine.specs.Machines.{Machine, makes_device}
use Rattle.surfaces.specs.Turns.{waiting_count, none_free}
use Rattle.calls.specs.declared.ask.Ask.{Ask}
use Rattle.calls.specs.declared.ask.Ask.TheVariants.{Free, Still}

-- what the core was opened with, and all entries so far, in order
pub record Chronicle : Type 0 where
  pub setup : Setup
  pub history : List Entry

-- before the first call
abbrev pub unwritten : Assets → Config → Chronicle
unwritten assets config = record { setup = setup_for assets config; history = [] }

-- the core as its callers see it: its chronicle, and what its drawer knows of the display
pub record Core : Type 0 where
  pub chronicle : Chronicle
  pub drawer : Drawing

-- before the first call, alone or with a controller of its own
abbrev pub starting : Bool → Assets → Config → Core
starting alone assets config = record {
  chronicle = unwritten assets config;
  drawer = new_drawing alone config.buffers;
}

-- what the entries come to, one after the other
abbrev pub state_of : Chronicle → State
state_of c = state_after c.setup (opening c.setup) c.history

-- the number of a step that is refused: 1 or 0
abbrev pub refused_in : Setup → State → Entry → ℕ
refused_in setup s e = if is_refused (step setup s e).reply then 1 else 0

-- how many of the entries after a state are refused
abbrev pub refusals : Setup → State → List Entry → ℕ
refusals setup s [] = 0
refusals setup s (e ∷ es) = refused_in setup s e + refusals setup (step setup s e).state es

-- how many entries were refused
abbrev pub refused_of : Chronicle → ℕ
refused_of c = refusals c.setup (opening c.setup) c.history

-- whether the entry is a call, and no mark
abbrev pub is_call_entry : Entry → Bool
is_call_entry (entry.Call actor call) = true
is_call_entry (entry.Shown switch) = false

-- how many of the entries are calls
abbrev pub calls_in : List Entry → ℕ
calls_in es = length (filter is_call_entry es)

-- how many of them are marks
abbrev pub marks_in : List Entry → ℕ
marks_in es = length (filter (λ e. not (is_call_entry e)) es)

-- as many calls were made as the core was opened for
abbrev pub is_full : Chronicle → Bool
is_full c = nat_le c.setup.config.calls (calls_in c.history)

-- ---- what histories are legal

-- the entry's actor may make its call
abbrev pub FitsItsActor : Entry → Type 0
FitsItsActor (entry.Call actor call) = fits call actor ≡ true
FitsItsActor (entry.Shown switch) = Unit {0}

-- a mark stands where its switch waits
abbrev pub StandsAt : State → Entry → Type 0
StandsAt s (entry.Call actor call) = Unit {0}
StandsAt s (entry.Shown switch) = number_waiting s.screen ≡ Some switch

-- so do all marks of the entries after a state
abbrev pub MarksStand : Setup → State → List Entry → Type 0
MarksStand setup s [] = Unit {0}
MarksStand setup s (e ∷ es) = StandsAt s e × MarksStand setup (step setup s e).state es

-- each actor may make its calls, each mark stands where its switch waits, and there are no more
-- calls than the core was opened for
pub record IsLegal (c : Chronicle) : Type 0 where
  pub fit : AllByRecursion FitsItsActor c.history
  pub marks : MarksStand c.setup (opening c.setup) c.history
  pub few : calls_in c.history ≤ c.setup.config.calls

-- ---- what comes into a history

-- whether a reply tells that there is no room for one call more
abbrev pub says_full : Reply → Bool
says_full (Refused Full) = true
says_full reply = false

-- whether a call that is answered so is in the history: there was room for it, and memory
abbrev pub is_entered : Reply → Bool
is_entered reply = not (says_full reply) && not (is_want_of_memory reply)

-- the call makes a device, and nothing is held against it
pub record MayMakeDevice (c : Chronicle) (actor : ℕ) (call : Call) : Type 0 where
  pub makes : makes_device call ≡ true
  pub free : refusal_of (objections_to c.setup (state_of c) actor call) ≡ None

-- the mark that a confirmation enters: that of the switch which waits, if there is one
abbrev pub mark_of : Option ℕ → List Entry
mark_of waiting = option_map_or (λ k. entry.Shown k ∷ []) waiting []

-- with the mark of a switch, if there is one
abbrev pub with_mark_of : Option ℕ → Chronicle → Chronicle
with_mark_of mark c = record c { history = c.history ++ mark_of mark }

-- with the mark of what waits
abbrev pub ticked : Chronicle → Chronicle
ticked c = with_mark_of (number_waiting (state_of c).screen) c

-- A call came into the history, and its reply is that of the step at its place.
pub record Enters (old : Chronicle) (actor : ℕ) (call : Call) (new : Chronicle)
    (reply : Reply) : Type 0 where
  pub setup : new.setup ≡ old.setup
  pub history : new.history ≡ old.history ++ entry.Call actor call ∷ []
  pub reply_is : reply ≡ (step old.setup (state_of old) (entry.Call actor call)).reply

-- the switch that a look found confirmed, if it found one
abbrev pub number_seen : Core → Drawing → Option ℕ
number_seen old new =
    number_confirmed (confirmed_by old.drawer.waiting new.found) (state_of old.chronicle).screen

-- A look at the display entered the mark of the switch that it found confirmed, if it found one.
-- A core that is its own display finds none.
pub record Looked (old new : Core) : Type 0 where
  pub drawer : new.drawer ≡ after_look old.drawer new.drawer.found
  pub display : (shown : ℕ) × IsDisplay old.drawer shown new.drawer.found
  pub chronicle : new.chronicle ≡ with_mark_of (number_seen old new.drawer) old.chronicle
  pub alone : IsTrue old.drawer.alone → number_seen old new.drawer ≡ None

-- A call came into the history. Where it ended drawing, it may have found a switch confirmed by
-- then, whose mark stands before it.
pub record RecordsCall (old : Core) (actor : ℕ) (call : Call) (new : Core)
    (reply : Reply) : Type 0 where
  pub mark : Option ℕ
  pub finds : Finds old.drawer (state_of old.chronicle).screen new.drawer mark
  pub enters : Enters (with_mark_of mark old.chronicle) actor call new.chronicle reply

-- A call that was answered so looked at the display first, and then came into the history. At most
-- one switch was found confirmed, by the look or by the call's end.
pub record Answers (old : Core) (actor : ℕ) (call : Call) (new : Core)
    (reply : Reply) : Type 0 where
  pub looked : Core
  pub look : Looked old looked
  pub records : RecordsCall looked actor call new reply
  pub one : (number_seen old looked.drawer ≡ None) ⊎ (records.mark ≡ None)

-- what a question asks for holds of a screen of so many buffers: a call that begins would find one
-- to draw on, or no switch waits
abbrev pub answer_to : Ask → ℕ → Screen → Bool
answer_to Free n s = not (is_some (refusal_of (none_free n s)))
answer_to Still n s = not (is_some (number_waiting s))

-- ---- the machine

-- The machine is what the entries come to, they are legal, and there is room for all that may come:
-- each call asks for at most one switch, of which there is at most one mark.
pub record IsRecorded (m : Machine) (history : List Entry) (capacity : ℕ) : Type 0 where
  pub state : m.state ≡ state_after m.setup (opening m.setup) history
  pub made : m.made ≡ calls_in history
  pub refused : m.refused ≡ refusals m.setup (opening m.setup) history
  pub legal : IsLegal (record { setup = m.setup; history = history })
  pub marks : length history + waiting_count (number_waiting m.state.screen)
      ≤ m.made + m.state.screen.switches
  pub switches : m.state.screen.switches ≤ m.made
  pub room : 2 * m.setup.config.calls ≤ capacity

-- It is so between calls, and no mark is left to be entered.
pub record IsCore (m : Machine) (history : List Entry) (capacity : ℕ) : Type 0 where
  pub recorded : IsRecorded m history capacity
  pub fresh : m.marked ≡ None
