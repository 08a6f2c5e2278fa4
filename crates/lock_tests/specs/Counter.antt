-- Counting as a history.
use Rattle.std.specs.Prelude.{ℕ, Bool, List, length, nat_lt}
use Rattle.gui_lock.specs.declared.entry.Entry.{Entry}
use Rattle.gui_lock.specs.Entries.{Outcome}

-- a hundred calls are counted
abbrev pub counts : ℕ → List (Entry ℕ) → Outcome Bool ℕ
counts room before =
    let added = nat_lt (length before) 100 in record { added = added; reply = added; room = room }
