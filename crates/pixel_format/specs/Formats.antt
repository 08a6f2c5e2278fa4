-- Pixel formats as data: the bytes that tell them, the values of colours, the bytes of values.
use Rattle.std.specs.Prelude.{◌≡◌, ℕ, ◌+◌, ◌-◌, ◌*◌, ◌/◌, ◌%◌, ◌^◌, ◌<◌, ◌≤◌, ◌⊎◌, Bool, false, not, ◌&&◌, ◌||◌, ◌==◌, nat_lt, nat_le, if◌then◌else◌, List, [], ◌∷◌, take, drop, reverse, slice_index, Result, Ok, Err}
use Rattle.std.specs.Int.{w32, to_be_bytes, to_le_bytes}
use Rattle.std.specs.Int.Bits.{bit_and}
use Rattle.std.specs.List.{list_any}
use Rattle.byteorder.specs.Endian.{big_number}
use Rattle.pixel_format.specs.declared.channel.Channel.{Channel}
use Rattle.pixel_format.specs.declared.fault.FormatFault.{FormatFault}
use Rattle.pixel_format.specs.declared.fault.FormatFault.TheVariants.{BadBits, NotTrueColour, BadMax, BadShift, Overlap}

-- The bits of a pixel's value, whether its most significant byte comes first, and its channels.
pub record Layout : Type 0 where
  pub bits : ℕ
  pub big_endian : Bool
  pub red : Channel
  pub green : Channel
  pub blue : Channel

abbrev pub layout : ℕ → Bool → Channel → Channel → Channel → Layout
layout bits big_endian red green blue =
    record { bits = bits; big_endian = big_endian; red = red; green = green; blue = blue }

-- the format that each viewer has at first
abbrev pub first_format : Layout
first_format =
    layout 32 false
    (record { max = 255; shift = 16 })
    (record { max = 255; shift = 8 })
    (record { max = 255; shift = 0 })

-- ---- values and their bytes

-- what a part of a colour from 0 to 255 is in a channel: rounded to the nearest of its numbers,
-- at its place
unfoldable pub part_of : Channel → ℕ → ℕ
part_of c level = (level * c.max + 127) / 255 * 2 ^ c.shift

-- the value of a colour's pixel
unfoldable pub value_of : Layout → ℕ → ℕ
value_of f colour =
    part_of f.red (colour / 65536) + part_of f.green (colour / 256 % 256)
    + part_of f.blue (colour % 256)

-- how many bytes a pixel has
abbrev pub byte_count : Layout → ℕ
byte_count f = f.bits / 8

-- the bytes of a pixel of this value: the lowest ones of four
unfoldable pub pixel_bytes : Layout → ℕ → List ℕ
pixel_bytes f v =
    if f.big_endian then drop (4 - byte_count f) (to_be_bytes w32 v)
    else take (byte_count f) (to_le_bytes w32 v)

-- the number whose digits to the base 256 these are, the lowest first
abbrev pub number_from_bytes : List ℕ → ℕ
number_from_bytes [] = 0
number_from_bytes (b ∷ bs) = b + 256 * number_from_bytes bs

-- the value of a pixel with these bytes
unfoldable pub pixel_value : Layout → List ℕ → ℕ
pixel_value f bytes = number_from_bytes (if f.big_endian then reverse bytes else bytes)

-- ---- which formats are served

abbrev pub is_size : ℕ → Bool
is_size bits = bits == 8 || bits == 16 || bits == 32

-- the numbers 2 ^ k - 1 for k from 1 to 16
abbrev pub rows_of_bits : List ℕ
rows_of_bits =
    1 ∷ 3 ∷ 7 ∷ 15 ∷ 31 ∷ 63 ∷ 127 ∷ 255 ∷ 511 ∷ 1023 ∷ 2047 ∷ 4095 ∷ 8191 ∷ 16383 ∷ 32767
    ∷ 65535 ∷ []

-- whether it may be a channel's greatest number
unfoldable pub is_max : ℕ → Bool
is_max max = list_any (λ row. row == max) rows_of_bits

-- the bits that a channel takes, as the number in which they alone are set
unfoldable pub bits_of : Channel → ℕ
bits_of c = c.max * 2 ^ c.shift

-- whether a channel lies within a pixel of so many bits
unfoldable pub fits : ℕ → Channel → Bool
fits bits c = nat_le c.shift 31 && nat_lt (bits_of c) (2 ^ bits)

unfoldable pub shares_a_bit : Channel → Channel → Bool
shares_a_bit a b = not (bit_and (bits_of a) (bits_of b) == 0)

abbrev pub each : (Channel → Bool) → Layout → Bool
each test f = test f.red && test f.green && test f.blue

abbrev pub has_overlap : Layout → Bool
has_overlap f =
    shares_a_bit f.red f.green || shares_a_bit f.red f.blue || shares_a_bit f.green f.blue

unfoldable pub is_sound : Layout → Bool
is_sound f =
    is_size f.bits && each (λ c. is_max c.max) f && each (fits f.bits) f && not (has_overlap f)

-- what each served format keeps to
pub record IsFormat (f : Layout) : Type 0 where
  pub sizes : (f.bits ≡ 8) ⊎ ((f.bits ≡ 16) ⊎ (f.bits ≡ 32))
  pub shifts : (f.red.shift ≤ 31) × (f.green.shift ≤ 31) × (f.blue.shift ≤ 31)
  pub within : bits_of f.red + bits_of f.green + bits_of f.blue < 2 ^ f.bits

-- ---- the bytes that tell a format

-- the channel whose greatest number stands in two bytes from the one place on, the most
-- significant first, and whose shift stands at the other place
abbrev pub channel_at : List ℕ → ℕ → ℕ → Channel
channel_at bytes max shift =
    record { max = big_number 2 (drop max bytes); shift = slice_index bytes shift }

-- The depth, which is the byte at 1, isn't looked at, nor are the last three bytes.
abbrev pub layout_of : List ℕ → Layout
layout_of bytes =
    layout (slice_index bytes 0) (not (slice_index bytes 2 == 0))
    (channel_at bytes 4 10)
    (channel_at bytes 6 11)
    (channel_at bytes 8 12)

-- the format that 16 bytes tell, or the first fault
unfoldable pub format_of : List ℕ → Result Layout FormatFault
format_of bytes =
    let f : Layout = layout_of bytes in
    if not (is_size f.bits) then Err BadBits else
    if slice_index bytes 3 == 0 then Err NotTrueColour else
    if not (each (λ c. is_max c.max) f) then Err BadMax else
    if not (each (fits f.bits) f) then Err BadShift else
    if has_overlap f then Err Overlap else Ok f
