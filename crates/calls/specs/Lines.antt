-- The calls of lines.
use Rattle.std.specs.Prelude.{◌≡◌, ℕ, Bool, true, false, List, [], ◌∷◌, length, filter, flat_map}
use Rattle.calls.specs.Actors.{is_task}
use Rattle.calls.specs.declared.entry.Entry.{Entry}
use Rattle.calls.specs.declared.entry.Entry.TheVariants as entry
use Rattle.calls.specs.declared.line.Act.{Act}
use Rattle.calls.specs.declared.line.Act.TheVariants as act
use Rattle.calls.specs.declared.line.Line.{Line}
use Rattle.calls.specs.declared.line.Line.TheVariants.{Task, Tick}

-- whether the line asks for a call
abbrev pub is_call : Line → Bool
is_call (Task task (act.Call call)) = true
is_call _ = false

-- whether the line is a tick of the display
abbrev pub is_tick : Line → Bool
is_tick Tick = true
is_tick _ = false

-- how many of the lines ask for calls
abbrev pub call_count : List Line → ℕ
call_count lines = length (filter is_call lines)

-- how many of them are ticks
abbrev pub tick_count : List Line → ℕ
tick_count lines = length (filter is_tick lines)

-- the entry of the call that a line asks for, if it asks for one; what a tick enters depends on
-- what waits
abbrev pub entries_of_act : ℕ → Act → List Entry
entries_of_act task (act.Call call) = entry.Call task call ∷ []
entries_of_act task _ = []

abbrev pub entries_of_line : Line → List Entry
entries_of_line (Task task a) = entries_of_act task a
entries_of_line Tick = []

-- the entries of the calls that lines ask for, in order
abbrev pub entries_of : List Line → List Entry
entries_of lines = flat_map entries_of_line lines

-- a line's actor is a task, which may make all calls; a tick has none
abbrev pub FitsItsTask : Line → Type 0
FitsItsTask (Task task a) = is_task task ≡ true
FitsItsTask Tick = Unit {0}
