-- Parts of the screen that strokes are drawn on. No contract of a public function names these.
use Rattle.std.specs.Prelude.{◌≡◌, ◌⊎◌, ℕ, ◌+◌, ◌<◌, ◌≤◌, ◌/◌, ◌==◌, ℤ, pos, neg_ℤ, ◌+ℤ◌, ◌-ℤ◌, ◌≤ℤ◌, ◌<ℤ◌, unsigned_abs, Bool, true, false, ◌&&◌, not, if◌then◌else◌, List, length, drop, Option, is_some, unwrap_or, slice_index_or}
use Rattle.std.specs.Int.{int_max, int_min}
use Rattle.gfx_base.specs.declared.point.Point.{Point}
use Rattle.gfx_base.specs.declared.rect.Rect.{Rect}
use Rattle.gfx_base.specs.Rects.{has, point_at}
use Rattle.gfx_base.specs.TileSets.{has_tile, HoldsPoint}
use Rattle.line_ink.specs.Lines.{flipped}
use Rattle.frame.specs.Pictures.{Picture, colour_at, changed}
use Rattle.exec_paint.specs.declared.plan.Hole.{Hole}
use Rattle.exec_paint.specs.Areas.{IsOn}
use Rattle.exec_paint.specs.Plans.{is_hidden}
use Rattle.bitmap.specs.Bitmaps.{Bitmap as Image}
use Rattle.paint_ops.specs.Kinds.{Assets, font_at, bitmap_at, string_at}
use Rattle.paint_ops.specs.Operations.{seen_from, colour_of_operation}
use Rattle.paint_ops.specs.Rows.{IsOrigin}
use Rattle.scene.specs.declared.win.Win.{Win}
use Rattle.scene.specs.Places.{no_window}
use Rattle.scene.specs.Clips.{corner_in}
use Rattle.scene.specs.Painting.{Looks}
use Rattle.scene.specs.Damage.{is_seen}
use Rattle.context.specs.declared.context.Context.{Context}
use Rattle.strokes.specs.declared.shape.Shape.{Shape}
use Rattle.strokes.specs.declared.shape.Shape.TheVariants.{Fill, Frame, Line, Bitmap, Text}
use Rattle.strokes.specs.declared.visible.Part.{Part}
use Rattle.strokes.specs.Strokes.{no_inputs, operation_of, cells_of, colour_of_stroke}

-- whether the area has the point, and no hole has it
abbrev pub is_free : Rect → List Hole → Point → Bool
is_free area holes p = has area p && not (is_hidden holes p)

-- the rectangle with these corners
abbrev pub rect_with : ℤ → ℤ → ℤ → ℤ → Rect
rect_with x0 y0 x1 y1 = record { x0 = x0; y0 = y0; x1 = x1; y1 = y1 }

-- the points of so many columns and rows, the upper left one at x and y
abbrev pub block_of : ℤ → ℤ → ℕ → ℕ → Rect
block_of x y width height =
    rect_with x y ((x +ℤ pos width) -ℤ pos 1) ((y +ℤ pos height) -ℤ pos 1)

-- the points of a bitmap whose upper left one is at x and y
abbrev pub points_of_image : Image → ℤ → ℤ → Rect
points_of_image image x y = block_of x y image.width image.height

-- a rectangle that has all points of the shape
abbrev pub bounds_of : Assets → Context → Shape → Rect
bounds_of assets c (Fill x0 y0 x1 y1) = rect_with x0 y0 x1 y1
bounds_of assets c (Frame x0 y0 x1 y1) = rect_with x0 y0 x1 y1
bounds_of assets c (Line x0 y0 x1 y1) =
    rect_with (int_min x0 x1) (int_min y0 y1) (int_max x0 x1) (int_max y0 y1)
bounds_of assets c (Bitmap bitmap x y) = points_of_image (bitmap_at assets bitmap) x y
bounds_of assets c (Text x y string) =
    cells_of (font_at assets c.font) (string_at assets string) x y

-- all points of the area lie in a rectangle, as they are seen from the corner
abbrev pub LiesWithin : Rect → Point → Rect → Type 0
LiesWithin area corner r =
    (p : Point) → has area p ≡ true → has r (seen_from corner p) ≡ true

-- whether the window at a place sees the point, and a rectangle, which is counted from the window's
-- upper left corner, has it
abbrev pub sees_in : Looks → List Win → ℕ → Rect → Point → Bool
sees_in looks ws which r p =
    is_seen looks (slice_index_or ws which no_window) (drop (which + 1) ws) p
    && has r (seen_from (corner_in ws (slice_index_or ws which no_window)) p)

-- the free points of a part are those that the window at a place sees of a rectangle, which is
-- counted from the window's upper left corner, on a screen of these sides
pub record IsVisible (width height : ℕ) (looks : Looks) (ws : List Win) (which : ℕ) (r : Rect)
    (part : Part) (holes : List Hole) : Type 0 where
  pub corner : part.corner ≡ corner_in ws (slice_index_or ws which no_window)
  pub near : IsOrigin part.corner.x × IsOrigin part.corner.y
  pub area : IsOn width height part.area
  pub inside : LiesWithin part.area part.corner r
  pub few : length holes ≤ 255
  pub points : (p : Point) → is_free part.area holes p ≡ sees_in looks ws which r p

-- the colour that a stroke from the corner puts on a point of the screen
abbrev pub colour_seen : Assets → Context → Shape → Point → ℕ → ℕ → Option ℕ
colour_seen assets c shape corner x y =
    colour_of_stroke assets c shape (seen_from corner (point_at (pos x) (pos y)))

-- whether that point is free, and the stroke puts a colour on it
abbrev pub is_inked : Assets → Context → Shape → Point → Rect → List Hole → ℕ → ℕ → Bool
is_inked assets c shape corner area holes x y =
    is_free area holes (point_at (pos x) (pos y))
    && is_some (colour_seen assets c shape corner x y)

-- the picture with a stroke from the corner on the free points of the area
abbrev pub inked : Assets → Context → Shape → Point → Rect → List Hole → Picture → Picture
inked assets c shape corner area holes picture =
    changed picture (is_inked assets c shape corner area holes)
    (λ x y. unwrap_or (colour_seen assets c shape corner x y) 0)

-- whether a shape's points are asked for one by one
abbrev pub is_asked : Shape → Bool
is_asked (Bitmap bitmap x y) = true
is_asked (Text x y string) = true
is_asked shape = false

-- whether that point is free, and the operation of the shape puts a colour on it
abbrev pub is_drawn : Assets → Context → Shape → Point → Rect → List Hole → ℕ → ℕ → Bool
is_drawn assets c shape corner area holes x y =
    let p = point_at (pos x) (pos y) in
    is_free area holes p && is_some
    (colour_of_operation assets no_inputs (operation_of c shape) (seen_from corner p))

-- ---- copies

-- the colour of the point of a picture, whose upper left point lies at the corner, that lies on a
-- point of the screen
abbrev pub colour_copied : Picture → Point → ℕ → ℕ → ℕ
colour_copied picture corner x y =
    colour_at picture (unsigned_abs (pos x -ℤ corner.x)) (unsigned_abs (pos y -ℤ corner.y))

-- the number is one of so many from the first one on
abbrev pub IsFrom : ℤ → ℕ → ℤ → Type 0
IsFrom first count z = (first ≤ℤ z) × (z <ℤ (first +ℤ pos count))

-- ---- tiles

-- whether the tile in this column and row of the grid holds the point, which lies on a screen
abbrev pub is_tile_of : Point → ℕ → ℕ → Bool
is_tile_of p col row = col == unsigned_abs p.x / 16 && row == unsigned_abs p.y / 16

-- the new set has also the tiles that hold a point of the test, on a picture of these sides
pub record AddsTilesOf (width height : ℕ) (here : ℕ → ℕ → Bool) (old new : List ℕ) : Type 0 where
  pub kept : (col row : ℕ) → has_tile old col row ≡ true → has_tile new col row ≡ true
  pub all : (x y : ℕ) → x < width → y < height → here x y ≡ true
      → has_tile new (x / 16) (y / 16) ≡ true
  pub only : (col row : ℕ) → has_tile new col row ≡ true
      → (has_tile old col row ≡ true) ⊎ HoldsPoint width height here col row

-- ---- lines

-- the number has 16 bits
abbrev pub IsShort : ℤ → Type 0
IsShort z = (neg_ℤ (pos 32768) ≤ℤ z) × (z ≤ℤ pos 32767)

abbrev pub IsShortPoint : Point → Type 0
IsShortPoint p = IsShort p.x × IsShort p.y

-- the point with x and y exchanged, where a line is higher than wide
abbrev pub turned : Bool → Point → Point
turned is_steep p = if is_steep then flipped p else p
