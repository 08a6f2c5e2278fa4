-- Coordinates and numbers to print as one word: a number, or a base with what is added to it.
use Rattle.std.specs.Prelude.{ℕ, ℤ, pos, negsuc, Bool, ◌&&◌, ◌||◌, List, [], ◌++◌, length, Option, Some, None, nat_lt, ◌==◌, if◌then◌else◌, bytes_eq, codes, slice_index, take, drop, position, unwrap_or, FitsSigned}
use Rattle.std.specs.Fmt.{decimal, signed_decimal}
use Rattle.std.specs.Int.{w16}
use Rattle.gfx_base.specs.declared.num.Base.{Base}
use Rattle.gfx_base.specs.declared.num.Base.TheVariants.{Zero, Width, Height, Value}
use Rattle.gfx_base.specs.declared.num.Num.{Num}
use Rattle.gfx_base.specs.Nums.{IsNum}
use Rattle.spelling.specs.Words.{◌>>=◌, first_word, number_of, natural_in}

-- ---- the text

-- what is added to a base: `+` and a number above 0, a negative number, or nothing
abbrev pub text_of_offset : ℤ → List ℕ
text_of_offset (pos n) = if n == 0 then [] else codes "+" ++ decimal n
text_of_offset (negsuc n) = signed_decimal (negsuc n)

-- a base and what is added to it, of which a plain number has only the second
abbrev pub text_from : Base → ℤ → List ℕ
text_from Zero z = signed_decimal z
text_from Width z = codes "w" ++ text_of_offset z
text_from Height z = codes "h" ++ text_of_offset z
text_from (Value i) z = codes "v" ++ decimal i ++ text_of_offset z

abbrev pub text_of_num : Num → List ℕ
text_of_num num = text_from num.base num.plus

-- the offset has 16 bits, and the value is one of sixteen
abbrev pub NumFits : Num → Type 0
NumFits num = FitsSigned w16 num.plus × IsNum num

-- ---- reading

-- whether the first byte is `v`
abbrev pub begins_with_v : List ℕ → Bool
begins_with_v word = nat_lt 0 (length word) && slice_index word 0 == 118

-- what the rest of a word adds to a base
unfoldable pub offset_of : List ℕ → Option ℤ
offset_of word =
    if length word == 0 then Some (pos 0)
    else if slice_index word 0 == 43 then natural_in 1 32767 (drop 1 word) >>= (λ n. Some (pos n))
    else if slice_index word 0 == 45 then number_of word else None

-- the base whose text the word is
unfoldable pub base_of : List ℕ → Option Base
base_of word =
    if bytes_eq word (codes "w") then Some Width
    else if bytes_eq word (codes "h") then Some Height
    else if begins_with_v word then natural_in 0 15 (drop 1 word) >>= (λ i. Some (Value i))
    else None

-- how many bytes stand before the first `+` or `-`
unfoldable pub base_length : List ℕ → ℕ
base_length word = unwrap_or (position (λ b. b == 43 || b == 45) word) (length word)

-- a base, and what the rest adds to it
unfoldable pub based_num_of : List ℕ → Option Num
based_num_of word = do
  base ← base_of (take (base_length word) word)
  plus ← offset_of (drop (base_length word) word)
  Some (record { base = base; plus = plus })

-- a number as it stands
abbrev pub num_or : Option ℤ → Option Num → Option Num
num_or None based = based
num_or (Some z) based = Some (record { base = Zero; plus = z })

-- the coordinate whose text the word is
unfoldable pub num_of : List ℕ → Option Num
num_of word = num_or (number_of word) (based_num_of word)

unfoldable pub num_at : List (List ℕ) → Option (Num × List (List ℕ))
num_at words = do
  w ← first_word words
  num ← num_of w.0
  Some (num, w.1)
