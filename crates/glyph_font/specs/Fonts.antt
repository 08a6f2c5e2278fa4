-- Fonts as plain data, and the questions about them.
use Rattle.std.specs.Prelude.{◌≡◌, ℕ, ◌+◌, ◌≤◌, Bool, false, List, [], ◌∷◌, length, map, sum, find, Option, Some, None, ◌==◌, slice_index_or}
use Rattle.std.specs.List.{AllByRecursion}

-- The glyph of a byte: its width in points, and its rows from the top. A row has its points from
-- the left, and a point is true where it is set.
pub record Glyph : Type 0 where
  pub code : ℕ
  pub width : ℕ
  pub rows : List (List Bool)

pub record Font : Type 0 where
  pub height : ℕ
  pub glyphs : List Glyph

-- ---- which data are fonts

-- a glyph from 1 to 32 points wide with so many rows, all of its width
pub record IsGlyph (rows : ℕ) (g : Glyph) : Type 0 where
  pub wide : 1 ≤ g.width
  pub not_too_wide : g.width ≤ 32
  pub high : length g.rows ≡ rows
  pub even : AllByRecursion (λ row. length row ≡ g.width) g.rows

-- the codes rise strictly, from the least to at most 126
abbrev pub IsRising : ℕ → List Glyph → Type 0
IsRising least [] = Unit {0}
IsRising least (g ∷ gs) = (least ≤ g.code) × (g.code ≤ 126) × IsRising (g.code + 1) gs

pub record IsFont (font : Font) : Type 0 where
  pub high : 1 ≤ font.height
  pub not_too_high : font.height ≤ 32
  pub glyphs : AllByRecursion (IsGlyph font.height) font.glyphs
  pub rising : IsRising 32 font.glyphs

-- ---- questions

-- the glyph of this code
abbrev pub glyph_in : List Glyph → ℕ → Option Glyph
glyph_in glyphs code = find (λ g. g.code == code) glyphs

abbrev pub glyph_of : Font → ℕ → Option Glyph
glyph_of font code = glyph_in font.glyphs code

abbrev pub width_of_glyph : Option Glyph → ℕ
width_of_glyph None = 0
width_of_glyph (Some g) = g.width

-- 0 where there is no glyph
abbrev pub width_of_code : Font → ℕ → ℕ
width_of_code font code = width_of_glyph (glyph_of font code)

abbrev pub has_point : Option Glyph → ℕ → ℕ → Bool
has_point None col row = false
has_point (Some g) col row = slice_index_or (slice_index_or g.rows row []) col false

-- whether the point in this column and row is set; false where there is no glyph, and outside it
abbrev pub is_set : Font → ℕ → ℕ → ℕ → Bool
is_set font code col row = has_point (glyph_of font code) col row

-- the sum of the widths
abbrev pub width_of_text : Font → List ℕ → ℕ
width_of_text font text = sum (map (width_of_code font) text)
