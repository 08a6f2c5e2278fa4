-- What a script's lines say, read from left to right.
use Rattle.std.specs.Prelude.{ℕ, ◌≤◌, ◌&&◌, List, [], ◌∷◌, length, Option, Some, None, nat_le, ◌==◌, if◌then◌else◌, bytes_eq, codes}
use Rattle.spelling.specs.Parts.{is_printable}
use Rattle.spelling.specs.Words.{◌>>=◌, natural_at, colour_of, text_of_words}
use Rattle.spelling.specs.Fields.{Values, values_of, line_values}
use Rattle.calls.specs.declared.line.Line.{Line}
use Rattle.calls.specs.declared.line.Line.TheVariants.{Task, Tick}
use Rattle.script_lines.specs.Texts.{screen_fields, buffers_fields, desktop_fields, font_fields, bitmap_fields}

-- the sides in the words of `screen W H`
unfoldable pub screen_in : List (List ℕ) → Option (Values screen_fields)
screen_in words = line_values (codes "screen") screen_fields words

-- the number in the words of `buffers N`
unfoldable pub buffers_in : List (List ℕ) → Option (Values buffers_fields)
buffers_in words = line_values (codes "buffers") buffers_fields words

-- the colour in the words of `desktop COLOUR`
unfoldable pub desktop_in : List (List ℕ) → Option (Values desktop_fields)
desktop_in words = line_values (codes "desktop") desktop_fields words

-- the back colour that a word says, or that there is none
abbrev pub back_of : List ℕ → Option (Option ℕ)
back_of word =
    if bytes_eq word (codes "-") then Some None
    else (colour_of word >>= λ colour. Some (Some colour))

-- the same of all the words
abbrev pub back_in : List (List ℕ) → Option (Option ℕ)
back_in [] = None
back_in (word ∷ words) = if length words == 0 then back_of word else None

-- the number and the back colour in the words after `class`
unfoldable pub class_in : List (List ℕ) → Option (ℕ × Option ℕ)
class_in words = do
  number ← natural_at 1 63 words
  back ← back_in number.1
  Some (number.0, back)

-- the number and the height in the words after `font`
unfoldable pub font_in : List (List ℕ) → Option (Values font_fields)
font_in words = values_of font_fields words

-- the number and the sides in the words after `bitmap`
unfoldable pub bitmap_in : List (List ℕ) → Option (Values bitmap_fields)
bitmap_in words = values_of bitmap_fields words

-- the text that begins with a space, at most 64 bytes after it
abbrev pub text_in : List (List ℕ) → Option (List ℕ)
text_in [] = None
text_in (word ∷ words) =
    if nat_le (length (text_of_words (word ∷ words))) 64
    && is_printable (text_of_words (word ∷ words))
    then Some (text_of_words (word ∷ words)) else None

-- the number and the text in the words after `string`
unfoldable pub string_in : List (List ℕ) → Option (ℕ × List ℕ)
string_in words = do
  number ← natural_at 0 255 words
  text ← text_in number.1
  Some (number.0, text)

-- the line's task is one from 1 to 16, if it has one
abbrev pub IsTasks : Line → Type 0
IsTasks (Task task a) = (1 ≤ task) × (task ≤ 16)
IsTasks Tick = Unit {0}
