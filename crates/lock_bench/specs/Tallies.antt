-- A tally as a history.
use Rattle.std.specs.Prelude.{ℕ, Bool, List, length, nat_lt}
use Rattle.gui_lock.specs.declared.entry.Entry.{Entry}
use Rattle.gui_lock.specs.Entries.{Outcome}

-- a call is added while there is room
abbrev pub adds : ℕ → List (Entry ℕ) → Outcome Bool ℕ
adds room before =
    let added = nat_lt (length before) 40000000 in
    record { added = added; reply = added; room = room }
