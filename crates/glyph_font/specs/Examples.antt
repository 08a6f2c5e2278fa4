-- A small font and its text.
use Rattle.std.specs.Prelude.{ℕ, true, false, List, [], ◌∷◌, codes}
use Rattle.glyph_font.specs.Fonts.{Font}

-- one glyph of two points, of which the left one is set
abbrev pub single : Font
single =
    record {
      height = 1;
      glyphs = record { code = 65; width = 2; rows = (true ∷ false ∷ []) ∷ [] } ∷ [];
    }

abbrev pub single_lines : List (List ℕ)
single_lines = codes "glyph 65 2" ∷ codes "#." ∷ codes "end" ∷ []
