-- The points that tasks drew on directly and that no job has painted since, after the entries of a
-- history.
use Rattle.std.specs.Prelude.{Bool, false, if◌then◌else◌, List, [], ◌∷◌, is_some}
use Rattle.std.specs.Option.{option_map_or}
use Rattle.calls.specs.declared.entry.Entry.{Entry}
use Rattle.calls.specs.declared.entry.Entry.TheVariants as entry
use Rattle.desk.specs.Setups.{Setup}
use Rattle.desk.specs.Drawing.{work_of, may_ink}
use Rattle.desk.specs.Desks.{refusal_of}
use Rattle.engine.specs.States.{State, desk_of, objections_to, step}
use Rattle.desk.specs.Stains.{Stain, stain_after_call}

-- the stain after an entry; a refused call and a mark leave it
abbrev pub stained : Setup → State → Entry → Stain → Stain
stained setup s (entry.Call actor call) stain =
    if is_some (refusal_of (objections_to setup s actor call)) then stain
    else stain_after_call setup (desk_of s) actor call stain
stained setup s (entry.Shown switch) stain = stain

-- the stain after the entries of a history
abbrev pub stain_after : Setup → State → List Entry → Stain → Stain
stain_after setup s [] stain = stain
stain_after setup s (e ∷ es) stain =
    stain_after setup (step setup s e).state es (stained setup s e stain)

-- whether the entry's call may put down points of the screen: it draws a shape or copies a device
abbrev pub draws : Entry → Bool
draws (entry.Call actor call) = option_map_or may_ink (work_of call) false
draws (entry.Shown switch) = false
