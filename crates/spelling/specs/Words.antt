-- A line's words from left to right, and the numbers and colours that they spell.
use Rattle.std.specs.Prelude.{◌≡◌, ℕ, ◌+◌, ◌-◌, ◌*◌, ◌^◌, ℤ, pos, negsuc, Bool, false, ◌&&◌, List, [], ◌∷◌, length, Option, Some, None, nat_lt, nat_le, ◌==◌, if◌then◌else◌, bytes_eq, slice_index}
use Rattle.std.specs.List.{join_with_byte}
use Rattle.std.specs.Fmt.{decimal, signed_decimal}
use Rattle.std.specs.Str.Parse.{digits_value, signed_digits_value}
use denote.Ref.{Bor}
use Rattle.spelling.specs.Parts.{parts, parts_left}

-- a line: its words, parted by single spaces
abbrev pub text_of_words : List (List ℕ) → List ℕ
text_of_words words = join_with_byte 32 words

-- the next step, where there is a value
infixl 10 ◌>>=◌
abbrev pub ◌>>=◌ : {A B : Type 0} → Option A → (A → Option B) → Option B
None >>= f = None
(Some x) >>= f = f x

-- what a function returned, seen by view, is what reading gives
abbrev pub Gives : {X Y : Type 0} → (X → Y) → Option X → Option Y → Type 0
Gives view None read = read ≡ None
Gives view (Some x) read = read ≡ Some (view x)

-- the words of a line, which single spaces part
abbrev pub words_of : List ℕ → List (List ℕ)
words_of line = parts 32 line

-- the words that are left of a line
abbrev pub left : Option (Bor (List ℕ)) → List (List ℕ)
left rest = parts_left 32 rest

-- A field is a value and the words after it.
abbrev pub first_word : List (List ℕ) → Option (List ℕ × List (List ℕ))
first_word [] = None
first_word (word ∷ words) = Some (word, words)

-- the words after this one, where it is the first
abbrev pub after_word : List ℕ → List (List ℕ) → Option (List (List ℕ))
after_word name [] = None
after_word name (word ∷ words) = if bytes_eq word name then Some words else None

-- this word is the first
abbrev pub begins_with : List ℕ → List (List ℕ) → Bool
begins_with name [] = false
begins_with name (word ∷ words) = bytes_eq word name

-- the number has 16 bits
abbrev pub is_i16 : ℤ → Bool
is_i16 (pos n) = nat_lt n 32768
is_i16 (negsuc n) = nat_lt n 32768

-- the number whose spelling the word is
unfoldable pub number_of : List ℕ → Option ℤ
number_of word =
    let z = signed_digits_value 10 word in
    if bytes_eq (signed_decimal z) word && is_i16 z then Some z else None

-- the number that the first word spells, and the words after it
unfoldable pub number_at : List (List ℕ) → Option (ℤ × List (List ℕ))
number_at words = do
  w ← first_word words
  z ← number_of w.0
  Some (z, w.1)

-- the same without negative ones
unfoldable pub natural_of : List ℕ → Option ℕ
natural_of word =
    let n = digits_value 10 word in
    if bytes_eq (decimal n) word && nat_lt n (2 ^ 32) then Some n else None

-- the same in a range
unfoldable pub natural_in : ℕ → ℕ → List ℕ → Option ℕ
natural_in low high word = do
  n ← natural_of word
  if nat_le low n && nat_le n high then Some n else None

-- the same of the first word, and the words after it
unfoldable pub natural_at : ℕ → ℕ → List (List ℕ) → Option (ℕ × List (List ℕ))
natural_at low high words = do
  w ← first_word words
  n ← natural_in low high w.0
  Some (n, w.1)

-- the number of a digit `0` to `9` or `A` to `F`
unfoldable pub hex_digit_of : ℕ → Option ℕ
hex_digit_of b =
    if nat_le 48 b && nat_le b 57 then Some (b - 48)
    else if nat_le 65 b && nat_le b 70 then Some (b - 55) else None

-- the byte of two digits
unfoldable pub hex_byte_of : ℕ → ℕ → Option ℕ
hex_byte_of high low = do
  h ← hex_digit_of high
  l ← hex_digit_of low
  Some (h * 16 + l)

-- the colour of six digits
unfoldable pub colour_of : List ℕ → Option ℕ
colour_of word =
    if length word == 6 then
    (do
      red ← hex_byte_of (slice_index word 0) (slice_index word 1)
      green ← hex_byte_of (slice_index word 2) (slice_index word 3)
      blue ← hex_byte_of (slice_index word 4) (slice_index word 5)
      Some (red * 65536 + green * 256 + blue))
    else None
