-- A small bitmap and some bodies.
use Rattle.std.specs.Prelude.{ℕ, List, [], ◌∷◌, Some, None, codes}
use Rattle.bitmap.specs.declared.fault.BitmapFault.{BitmapFault}
use Rattle.bitmap.specs.declared.fault.BitmapWhy.TheVariants as why
use Rattle.bitmap.specs.Bitmaps.{Bitmap}

-- a red point, and two transparent ones
abbrev pub dotted : Bitmap
dotted = record { width = 3; height = 1; points = Some 0xFF0000 ∷ None ∷ None ∷ [] }

-- two of its texts
abbrev pub dotted_text : List ℕ
dotted_text = codes "FF0000 -*2\nend\n"

abbrev pub other_text : List ℕ
other_text = codes "FF0000 - -\nend"

-- the row lacks a point
abbrev pub narrow_text : List ℕ
narrow_text = codes "FF0000*2\nend\n"

abbrev pub narrow_fault : BitmapFault
narrow_fault = record { line = 1; why = why.Row }

-- the line `end` is missing
abbrev pub open_text : List ℕ
open_text = codes "FF0000*3"

abbrev pub open_fault : BitmapFault
open_fault = record { line = 2; why = why.End }
