-- How the lines of a script are spelled that open classes, fonts and bitmaps, and its strings; and
-- the fields of its header.
use Rattle.std.specs.Prelude.{ℕ, ◌^◌, ◌<◌, IfSome, Option, None, ◌≤◌, List, [], ◌∷◌, Some, codes, decimal}
use Rattle.spelling.specs.Digits.{hex_colour}
use Rattle.spelling.specs.Words.{text_of_words}
use Rattle.spelling.specs.Fields.{Field, Natural, Colour, text_with}

abbrev pub screen_fields : List Field
screen_fields = Natural 1 1024 ∷ Natural 1 768 ∷ []

abbrev pub buffers_fields : List Field
buffers_fields = Natural 1 3 ∷ []

abbrev pub desktop_fields : List Field
desktop_fields = Colour ∷ []

-- a font's number and its height in points
abbrev pub font_fields : List Field
font_fields = Natural 0 7 ∷ Natural 1 32 ∷ []

-- a bitmap's number and its sides in points
abbrev pub bitmap_fields : List Field
bitmap_fields = Natural 0 31 ∷ Natural 1 256 ∷ Natural 1 256 ∷ []

-- a class's back colour, or `-` where it has none
abbrev pub text_of_back : Option ℕ → List ℕ
text_of_back None = codes "-"
text_of_back (Some colour) = hex_colour colour

abbrev pub BackFits : Option ℕ → Type 0
BackFits back = IfSome back (λ colour. colour < 2 ^ 24)

-- the line that opens a class
abbrev pub class_text : ℕ → Option ℕ → List ℕ
class_text number back =
    text_of_words (codes "class" ∷ decimal number ∷ text_of_back back ∷ [])

-- the ranges of what it says
abbrev pub HeadFits : ℕ → Option ℕ → Type 0
HeadFits number back = (1 ≤ number) × (number ≤ 63) × BackFits back

-- the line that opens a font
abbrev pub font_text : ℕ → ℕ → List ℕ
font_text number height = text_with (codes "font") font_fields (number, (height, tt))

-- the line that opens a bitmap
abbrev pub bitmap_text : ℕ → ℕ → ℕ → List ℕ
bitmap_text number width height =
    text_with (codes "bitmap") bitmap_fields (number, (width, (height, tt)))

-- the line of the string of this number, whose text may have spaces
abbrev pub string_text : ℕ → List ℕ → List ℕ
string_text number text = text_of_words (codes "string" ∷ decimal number ∷ text ∷ [])
