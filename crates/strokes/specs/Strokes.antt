-- What a task's stroke or copy puts down. A stroke is one shape, drawn with the task's context.
use Rattle.std.specs.Prelude.{ℕ, ◌+◌, ℤ, pos, ◌+ℤ◌, ◌-ℤ◌, unsigned_abs, Bool, ◌&&◌, if◌then◌else◌, List, [], drop, Option, None, is_some, unwrap_or, slice_index_or}
use Rattle.gfx_base.specs.declared.num.Base.TheVariants.{Zero}
use Rattle.gfx_base.specs.declared.num.Num.{Num}
use Rattle.gfx_base.specs.declared.point.Point.{Point}
use Rattle.gfx_base.specs.declared.rect.Rect.{Rect}
use Rattle.gfx_base.specs.Rects.{has, point_at}
use Rattle.frame.specs.Pictures.{Picture, colour_at, changed}
use Rattle.glyph_font.specs.Fonts.{Font, width_of_text}
use Rattle.paint_ops.specs.declared.op.Op.{Op}
use Rattle.paint_ops.specs.declared.op.Op.TheVariants as op
use Rattle.paint_ops.specs.Kinds.{Assets, font_at, string_at}
use Rattle.paint_ops.specs.Operations.{Inputs, seen_from, on_points, or_behind, colour_of_operation}
use Rattle.scene.specs.declared.win.Win.{Win}
use Rattle.scene.specs.Places.{no_window}
use Rattle.scene.specs.Clips.{corner_in}
use Rattle.scene.specs.Painting.{Looks}
use Rattle.scene.specs.Damage.{is_seen}
use Rattle.scene.specs.Looks.{screen_with}
use Rattle.context.specs.declared.context.Context.{Context}
use Rattle.strokes.specs.declared.shape.Shape.{Shape}
use Rattle.strokes.specs.declared.shape.Shape.TheVariants.{Fill, Frame, Line, Bitmap, Text}

-- the colours that are put down: for each point, counted from the upper left corner of a window or
-- a device, its colour, or none
abbrev pub Ink : Type 0
Ink = Point → Option ℕ

-- ---- strokes

-- the coordinate that is this number, whatever the window
abbrev pub plain : ℤ → Num
plain z = record { base = Zero; plus = z }

-- the operation that covers the same points, in the context's colour and font
abbrev pub operation_of : Context → Shape → Op
operation_of c (Fill x0 y0 x1 y1) = op.Fill (plain x0) (plain y0) (plain x1) (plain y1) c.colour
operation_of c (Frame x0 y0 x1 y1) = op.Frame (plain x0) (plain y0) (plain x1) (plain y1) c.colour
operation_of c (Line x0 y0 x1 y1) = op.Line (plain x0) (plain y0) (plain x1) (plain y1) c.colour
operation_of c (Bitmap bitmap x y) = op.Bitmap bitmap (plain x) (plain y)
operation_of c (Text x y string) = op.Text c.font (plain x) (plain y) c.colour string

-- plain coordinates depend on neither values nor sides
abbrev pub no_inputs : Inputs
no_inputs = record { values = []; width = 0; height = 0 }

-- the cells of a text's glyphs, side by side, the first one's upper left point at x and y: they
-- have the glyphs' widths and the font's height
abbrev pub cells_of : Font → List ℕ → ℤ → ℤ → Rect
cells_of font text x y =
    record {
      x0 = x;
      y0 = y;
      x1 = (x +ℤ pos (width_of_text font text)) -ℤ pos 1;
      y1 = (y +ℤ pos font.height) -ℤ pos 1;
    }

-- the colour behind a shape: behind text the context's, on all points of the cells, unless it
-- leaves them as they are; behind other shapes none
abbrev pub colour_behind : Assets → Context → Shape → Point → Option ℕ
colour_behind assets c (Text x y string) p =
    let cells = cells_of (font_at assets c.font) (string_at assets string) x y in
    if c.trans_text then None else on_points (has cells p) c.bk
colour_behind assets c shape p = None

-- the colour that a stroke puts on a point, which is counted from the upper left corner of its
-- window or device; or none
unfoldable pub colour_of_stroke : Assets → Context → Shape → Point → Option ℕ
colour_of_stroke assets c shape p =
    or_behind (colour_behind assets c shape p)
    (colour_of_operation assets no_inputs (operation_of c shape) p)

-- ---- copies

-- the colour that a copy of a picture, whose upper left point comes to x and y, puts on a point:
-- that of the picture's point there; or none
unfoldable pub colour_of_copy : Picture → ℤ → ℤ → Point → Option ℕ
colour_of_copy picture x y p =
    let q = seen_from (point_at x y) p in
    on_points (has (screen_with picture.width picture.height) q)
    (colour_at picture (unsigned_abs q.x) (unsigned_abs q.y))

-- ---- a device

-- the picture with an ink on the whole of it
abbrev pub inked_whole : Ink → Picture → Picture
inked_whole ink picture =
    changed picture (λ x y. is_some (ink (point_at (pos x) (pos y))))
    (λ x y. unwrap_or (ink (point_at (pos x) (pos y))) 0)

-- ---- the screen

-- the colour that an ink in the window at a place puts on a point of the screen, if the window sees
-- it; or none
abbrev pub colour_from : List Win → ℕ → Ink → Point → Option ℕ
colour_from ws which ink p =
    ink (seen_from (corner_in ws (slice_index_or ws which no_window)) p)

-- whether an ink in the window at a place puts down a point of the screen: the window sees it, and
-- the ink gives it a colour
abbrev pub puts_down : Looks → List Win → ℕ → Ink → Point → Bool
puts_down looks ws which ink p =
    is_seen looks (slice_index_or ws which no_window) (drop (which + 1) ws) p
    && is_some (colour_from ws which ink p)

-- the picture with an ink in the window at a place
abbrev pub stroked : Looks → List Win → ℕ → Ink → Picture → Picture
stroked looks ws which ink picture =
    changed picture (λ x y. puts_down looks ws which ink (point_at (pos x) (pos y)))
    (λ x y. unwrap_or (colour_from ws which ink (point_at (pos x) (pos y))) 0)
