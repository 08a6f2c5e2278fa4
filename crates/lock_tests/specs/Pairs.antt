-- Pairs of an actor and a number as a history.
use Rattle.std.specs.Prelude.{◌≡◌, [], ℕ, Bool, true, false, List, length, nat_lt, nat_le, cond}
use Rattle.std.specs.List.{range_with_len}
use Rattle.gui_lock.specs.declared.entry.Entry.{Entry}
use Rattle.gui_lock.specs.Entries.{Outcome, calls_by, AreByPasses}
use Rattle.lock_tests.specs.declared.pairs.Answer.{Answer}
use Rattle.lock_tests.specs.declared.pairs.Answer.TheVariants.{Added, Full, Memory}

abbrev pub is_added_lem : Answer → Bool
is_added_lem Added = true
is_added_lem Full = false
is_added_lem Memory = false

abbrev pub is_wanting : Answer → Bool
is_wanting Added = false
is_wanting Full = false
is_wanting Memory = true

-- memory may be wanting from a million on
abbrev pub may_want : ℕ → Bool
may_want call = nat_le 1000000 call

-- a pair is added while there are fewer than 4,096
abbrev pub adds : ℕ → List (Entry ℕ) → Outcome Answer ℕ
adds room before =
    let added = nat_lt (length before) 4096 in
    record { added = added; reply = cond added Added Full; room = room }

-- the calls of the actors 1 and 2 are 0, 1 .., so many of each, and there are no others
abbrev pub AreRanges : ℕ → ℕ → List (Entry ℕ) → Type 0
AreRanges first second log =
    (calls_by 1 log ≡ range_with_len 0 first) × (calls_by 2 log ≡ range_with_len 0 second)
    × AreByPasses 2 log
