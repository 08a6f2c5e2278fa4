-- Short printable texts.
use Rattle.std.specs.Prelude.{◌≡◌, ℕ, ◌≤◌, true, List, length}
use Rattle.spelling.specs.Parts.{is_printable}

-- at most 64 bytes, each from 32 to 126
abbrev pub IsText : List ℕ → Type 0
IsText bytes = (length bytes ≤ 64) × (is_printable bytes ≡ true)
