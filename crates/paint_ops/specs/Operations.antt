-- What an operation puts on one point of its window.
use Rattle.std.specs.Prelude.{ℕ, ◌-◌, ℤ, pos, negsuc, ◌+ℤ◌, ◌-ℤ◌, Bool, false, ◌&&◌, ◌||◌, if◌then◌else◌, nat_lt, List, [], ◌∷◌, Option, Some, None, slice_index_or}
use Rattle.std.specs.Ordering.{int_eq}
use Rattle.std.specs.Fmt.{signed_decimal}
use Rattle.gfx_base.specs.declared.point.Point.{Point}
use Rattle.gfx_base.specs.declared.rect.Rect.{Rect}
use Rattle.gfx_base.specs.Rects.{has, point_at}
use Rattle.line_ink.specs.Lines.{is_on_line}
use Rattle.bitmap.specs.Bitmaps.{Bitmap, colour_at}
use Rattle.glyph_font.specs.Fonts.{Font, width_of_code, is_set}
use Rattle.gfx_base.specs.declared.num.Base.{Base}
use Rattle.gfx_base.specs.declared.num.Base.TheVariants.{Zero, Width, Height, Value}
use Rattle.gfx_base.specs.declared.num.Num.{Num}
use Rattle.paint_ops.specs.declared.op.Op.{Op}
use Rattle.paint_ops.specs.declared.op.Op.TheVariants as op
use Rattle.paint_ops.specs.Kinds.{Assets, bitmap_at, font_at, string_at}

-- ---- coordinates

-- what an operation depends on beside the assets: the window's values and its size
pub record Inputs : Type 0 where
  pub values : List ℤ
  pub width : ℕ
  pub height : ℕ

abbrev pub base_of : Inputs → Base → ℤ
base_of inputs Zero = pos 0
base_of inputs Width = pos inputs.width
base_of inputs Height = pos inputs.height
base_of inputs (Value i) = slice_index_or inputs.values i (pos 0)

-- the exact sum
abbrev pub number_of : Inputs → Num → ℤ
number_of inputs num = base_of inputs num.base +ℤ num.plus

-- ---- shapes

abbrev pub rect_of : Inputs → Num → Num → Num → Num → Rect
rect_of inputs x0 y0 x1 y1 =
    record {
      x0 = number_of inputs x0;
      y0 = number_of inputs y0;
      x1 = number_of inputs x1;
      y1 = number_of inputs y1;
    }

-- whether the point lies on the rectangle's edge
abbrev pub is_on_edge : Rect → Point → Bool
is_on_edge r p =
    has r p && ((int_eq p.x r.x0 || int_eq p.x r.x1) || (int_eq p.y r.y0 || int_eq p.y r.y1))

abbrev pub point_of_numbers : Inputs → Num → Num → Point
point_of_numbers inputs x y = point_at (number_of inputs x) (number_of inputs y)

-- the point as it is seen from another
abbrev pub seen_from : Point → Point → Point
seen_from corner p = point_at (p.x -ℤ corner.x) (p.y -ℤ corner.y)

-- whether the text's cells, side by side from the left, have a set point there
abbrev pub is_in_cells : Font → List ℕ → ℕ → ℕ → Bool
is_in_cells font [] x y = false
is_in_cells font (code ∷ codes) x y =
    if nat_lt x (width_of_code font code) then is_set font code x y
    else is_in_cells font codes (x - width_of_code font code) y

-- the same for a point as it is seen from the upper left corner of the first cell
abbrev pub is_in_text : Font → List ℕ → ℤ → ℤ → Bool
is_in_text font text (pos x) (pos y) = is_in_cells font text x y
is_in_text font text (pos x) (negsuc y) = false
is_in_text font text (negsuc x) y = false

-- ---- colours

-- the colour, where the test holds
abbrev pub on_points : Bool → ℕ → Option ℕ
on_points here colour = if here then Some colour else None

-- the colour of a bitmap's point as it is seen from the bitmap's upper left corner; none outside,
-- and at a transparent point
abbrev pub bitmap_colour : Bitmap → ℤ → ℤ → Option ℕ
bitmap_colour b (pos x) (pos y) =
    if nat_lt x b.width && nat_lt y b.height then colour_at b x y else None
bitmap_colour b (pos x) (negsuc y) = None
bitmap_colour b (negsuc x) y = None

abbrev pub text_colour : Font → List ℕ → Point → ℕ → Option ℕ
text_colour font text p colour = on_points (is_in_text font text p.x p.y) colour

-- the colour that an operation puts on a point of its window, which is counted from the window's
-- upper left corner; or none
unfoldable pub colour_of_operation : Assets → Inputs → Op → Point → Option ℕ
colour_of_operation assets inputs (op.Fill x0 y0 x1 y1 colour) p =
    on_points (has (rect_of inputs x0 y0 x1 y1) p) colour
colour_of_operation assets inputs (op.Frame x0 y0 x1 y1 colour) p =
    on_points (is_on_edge (rect_of inputs x0 y0 x1 y1) p) colour
colour_of_operation assets inputs (op.HLine x0 x1 y colour) p =
    on_points (has (rect_of inputs x0 y x1 y) p) colour
colour_of_operation assets inputs (op.VLine x y0 y1 colour) p =
    on_points (has (rect_of inputs x y0 x y1) p) colour
colour_of_operation assets inputs (op.Line x0 y0 x1 y1 colour) p =
    on_points (is_on_line (point_of_numbers inputs x0 y0) (point_of_numbers inputs x1 y1) p) colour
colour_of_operation assets inputs (op.Bitmap bitmap x y) p =
    let q = seen_from (point_of_numbers inputs x y) p in
    bitmap_colour (bitmap_at assets bitmap) q.x q.y
colour_of_operation assets inputs (op.Text font x y colour string) p =
    let q = seen_from (point_of_numbers inputs x y) p in
    text_colour (font_at assets font) (string_at assets string) q colour
colour_of_operation assets inputs (op.Number font x y colour num) p =
    let q = seen_from (point_of_numbers inputs x y) p in
    text_colour (font_at assets font) (signed_decimal (number_of inputs num)) q colour

-- the second colour, where there is one, and else the first
abbrev pub or_behind : Option ℕ → Option ℕ → Option ℕ
or_behind behind (Some colour) = Some colour
or_behind behind None = behind

-- the colour of the last of the operations that puts one there
abbrev pub colour_of_operations : Assets → Inputs → List Op → Point → Option ℕ
colour_of_operations assets inputs [] p = None
colour_of_operations assets inputs (first ∷ rest) p =
    let behind = colour_of_operation assets inputs first p in
    or_behind behind (colour_of_operations assets inputs rest p)
