-- Classes and all that windows paint with, as plain data.
use Rattle.std.specs.Prelude.{ℕ, List, [], Option, slice_index_or}
use Rattle.paint_ops.specs.declared.op.Op.{Op}
use Rattle.paint_ops.specs.declared.class.Reaction.{Reaction}
use Rattle.bitmap.specs.Bitmaps.{Bitmap}
use Rattle.glyph_font.specs.Fonts.{Font}

-- a class: the colour behind its operations, if any, its operations from first to last, and its
-- reactions
pub record Class : Type 0 where
  pub back : Option ℕ
  pub ops : List Op
  pub reactions : List Reaction

-- what windows paint with
pub record Assets : Type 0 where
  pub classes : List Class
  pub fonts : List Font
  pub bitmaps : List Bitmap
  pub strings : List (List ℕ)

abbrev pub no_font : Font
no_font = record { height = 0; glyphs = [] }

abbrev pub font_at : Assets → ℕ → Font
font_at assets i = slice_index_or assets.fonts i no_font

abbrev pub no_bitmap : Bitmap
no_bitmap = record { width = 0; height = 0; points = [] }

abbrev pub bitmap_at : Assets → ℕ → Bitmap
bitmap_at assets i = slice_index_or assets.bitmaps i no_bitmap

abbrev pub string_at : Assets → ℕ → List ℕ
string_at assets i = slice_index_or assets.strings i []
