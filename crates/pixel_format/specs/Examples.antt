-- Two formats, and the bytes that tell them.
use Rattle.std.specs.Prelude.{ℕ, true, List, [], ◌∷◌}
use Rattle.pixel_format.specs.Formats.{Layout, layout}

abbrev pub first_bytes : List ℕ
first_bytes =
    0x20 ∷ 0x18 ∷ 0x00 ∷ 0x01 ∷ 0x00 ∷ 0xFF ∷ 0x00 ∷ 0xFF ∷ 0x00 ∷ 0xFF
    ∷ 0x10 ∷ 0x08 ∷ 0x00 ∷ 0x00 ∷ 0x00 ∷ 0x00 ∷ []

-- 16 bits, the most significant byte first, with 5 bits of red, 6 of green and 5 of blue
abbrev pub small_format : Layout
small_format =
    layout 16 true
    (record { max = 31; shift = 11 })
    (record { max = 63; shift = 5 })
    (record { max = 31; shift = 0 })

abbrev pub small_bytes : List ℕ
small_bytes =
    0x10 ∷ 0x10 ∷ 0x01 ∷ 0x01 ∷ 0x00 ∷ 0x1F ∷ 0x00 ∷ 0x3F ∷ 0x00 ∷ 0x1F
    ∷ 0x0B ∷ 0x05 ∷ 0x00 ∷ 0x00 ∷ 0x00 ∷ 0x00 ∷ []
