-- Hexadecimal digits, as bytes.
use Rattle.std.specs.Prelude.{ℕ, ◌+◌, ◌/◌, ◌%◌, List, [], ◌∷◌, ◌++◌, if◌then◌else◌, nat_lt}

-- the digit of a number below 16: `0` to `9`, then `A` to `F`
abbrev pub hex_digit : ℕ → ℕ
hex_digit d = if nat_lt d 10 then 48 + d else 55 + d

-- the two digits of a byte
abbrev pub hex_byte : ℕ → List ℕ
hex_byte b = hex_digit (b / 16) ∷ hex_digit (b % 16) ∷ []

-- the six digits of a colour: those of red, green and blue
unfoldable pub hex_colour : ℕ → List ℕ
hex_colour c = hex_byte (c / 65536) ++ hex_byte (c / 256 % 256) ++ hex_byte (c % 256)
