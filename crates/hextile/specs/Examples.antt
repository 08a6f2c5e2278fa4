-- Small rectangles of values, and their bytes in the first format.
use Rattle.std.specs.Prelude.{ℕ, List, [], ◌∷◌, ◌++◌, replicate}

-- FF0000 and 0000FF
abbrev pub two_points : List ℕ
two_points = 0xFF0000 ∷ 0x0000FF ∷ []

abbrev pub two_points_bytes : List ℕ
two_points_bytes =
    0x01 ∷ 0x00 ∷ 0x00 ∷ 0xFF ∷ 0x00 ∷ 0xFF ∷ 0x00 ∷ 0x00 ∷ 0x00 ∷ []

-- three points 0000FF and then one FF0000
abbrev pub four_points : List ℕ
four_points = 0x0000FF ∷ 0x0000FF ∷ 0x0000FF ∷ 0xFF0000 ∷ []

abbrev pub four_points_bytes : List ℕ
four_points_bytes =
    0x0E ∷ 0xFF ∷ 0x00 ∷ 0x00 ∷ 0x00 ∷ 0x00 ∷ 0x00 ∷ 0xFF ∷ 0x00 ∷ 0x01 ∷ 0x30 ∷ 0x00 ∷ []

-- fifteen points 0000FF, then one FF0000, and then one 0000FF in a second tile
abbrev pub two_tiles : List ℕ
two_tiles = replicate 15 0x0000FF ++ (0xFF0000 ∷ 0x0000FF ∷ [])

abbrev pub two_tiles_bytes : List ℕ
two_tiles_bytes =
    0x0E ∷ 0xFF ∷ 0x00 ∷ 0x00 ∷ 0x00 ∷ 0x00 ∷ 0x00 ∷ 0xFF ∷ 0x00 ∷ 0x01 ∷ 0xF0 ∷ 0x00 ∷ 0x00
    ∷ []

-- seventeen points 0000FF, of which the last is a second tile
abbrev pub one_colour : List ℕ
one_colour = replicate 17 0x0000FF

abbrev pub one_colour_bytes : List ℕ
one_colour_bytes = 0x02 ∷ 0xFF ∷ 0x00 ∷ 0x00 ∷ 0x00 ∷ 0x00 ∷ []
