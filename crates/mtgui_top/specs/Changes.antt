-- Lines that may change where windows are, or what they are, and lines that make devices.
use Rattle.std.specs.Prelude.{Bool, false}
use Rattle.calls.specs.declared.entry.Entry.TheVariants as entry
use Rattle.calls.specs.declared.line.Act.TheVariants as act
use Rattle.calls.specs.declared.line.Line.{Line}
use Rattle.calls.specs.declared.line.Line.TheVariants.{Task, Tick}
use Rattle.gui_core.specs.Promises.{changes_windows}
use Rattle.engine.specs.Machines.{makes_device}

abbrev pub may_change : Line → Bool
may_change (Task task (act.Call call)) = changes_windows (entry.Call task call)
may_change (Task task act.Lock) = false
may_change (Task task act.Unlock) = false
may_change Tick = false

-- the line's call makes a device
abbrev pub asks_for_device : Line → Bool
asks_for_device (Task task (act.Call call)) = makes_device call
asks_for_device (Task task act.Lock) = false
asks_for_device (Task task act.Unlock) = false
asks_for_device Tick = false
