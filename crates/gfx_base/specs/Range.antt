-- Ranges of numbers.
use Rattle.std.specs.Prelude.{ℤ, pos, neg_ℤ, ◌≤ℤ◌, Bool, ◌&&◌, int_le}

-- whether the number lies between two others, or is one of them
unfoldable pub is_within : ℤ → ℤ → ℤ → Bool
is_within low high z = int_le low z && int_le z high

-- the number lies from −1,048,576 to 1,048,576, so that two such numbers add up within 32 bits
abbrev pub IsNear : ℤ → Type 0
IsNear z = (neg_ℤ (pos 1048576) ≤ℤ z) × (z ≤ℤ pos 1048576)
