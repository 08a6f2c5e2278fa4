-- The one text of each font.
use Rattle.std.specs.Prelude.{◌≡◌, ℕ, Bool, List, [], ◌∷◌, ◌++◌, map, flat_map, if◌then◌else◌, codes, decimal}
use Rattle.spelling.specs.Parts.{lines_of}
use Rattle.spelling.specs.Words.{text_of_words}
use Rattle.glyph_font.specs.Fonts.{Glyph, Font, IsFont}

-- a row's line: `#` for each point that is set, and `.` for each other
abbrev pub row_text : List Bool → List ℕ
row_text row = map (λ set. if set then 35 else 46) row

-- a glyph's first line
abbrev pub head_text : ℕ → ℕ → List ℕ
head_text code width = text_of_words (codes "glyph" ∷ decimal code ∷ decimal width ∷ [])

abbrev pub glyph_lines : Glyph → List (List ℕ)
glyph_lines g = head_text g.code g.width ∷ map row_text g.rows

abbrev pub lines_of_glyphs : List Glyph → List (List ℕ)
lines_of_glyphs glyphs = flat_map glyph_lines glyphs

abbrev pub font_lines : Font → List (List ℕ)
font_lines font = lines_of_glyphs font.glyphs ++ codes "end" ∷ []

-- the body is the text of this font, which has that height
pub record IsBody (height : ℕ) (body : List ℕ) (font : Font) : Type 0 where
  pub is : IsFont font
  pub high : font.height ≡ height
  pub spelled : lines_of body ≡ font_lines font
