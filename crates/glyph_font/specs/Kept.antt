-- What the program keeps, as plain data.
use Rattle.std.specs.Prelude.{◌≡◌, ℕ, zero, suc, ◌-◌, ◌≤◌, List, map, take, length, Option, None, slice_get, slice_index}
use Rattle.glyph_font.specs.declared.glyph.Glyph.{Glyph as Kept}
use Rattle.glyph_font.specs.Bits.{bits_of}
use Rattle.glyph_font.specs.Fonts.{Glyph, glyph_in}

-- a kept glyph, of which so many rows count
abbrev pub glyph_from : ℕ → Kept → Glyph
glyph_from rows kept =
    record {
      code = kept.code;
      width = kept.width;
      rows = map (bits_of kept.width) (take rows kept.rows);
    }

abbrev pub glyphs_from : ℕ → List Kept → List Glyph
glyphs_from height kept = map (glyph_from height) kept

-- the glyph of a slot: 0 is none, and the others count the glyphs from 1
abbrev pub at_slot : List Glyph → ℕ → Option Glyph
at_slot glyphs zero = None
at_slot glyphs (suc n) = slice_get glyphs n

-- the slot of each code from 32 on holds its glyph
pub record IsTable (slots : List ℕ) (glyphs : List Glyph) : Type 0 where
  pub within : (i : ℕ) → slice_index slots i ≤ length glyphs
  pub holds : (code : ℕ) → 32 ≤ code → code ≤ 126
      → at_slot glyphs (slice_index slots (code - 32)) ≡ glyph_in glyphs code
