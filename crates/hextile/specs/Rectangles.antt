-- Rectangles on a picture.
use Rattle.std.specs.Prelude.{ℕ, ℤ, pos, negsuc, ◌+◌, ◌*◌, ◌-ℤ◌, ◌≤ℤ◌, ◌<ℤ◌, List}
use Rattle.gfx_base.specs.declared.rect.Rect.{Rect}
use Rattle.frame.specs.Pictures.{Picture}
use Rattle.pixel_format.specs.Formats.{Layout, byte_count}
use Rattle.hextile.specs.Tiles.{tiles_along}
use Rattle.hextile.specs.Frames.{values_in}

-- a number from 0 on as it is
abbrev pub natural : ℤ → ℕ
natural (pos n) = n
natural (negsuc n) = 0

-- the sides of a rectangle that isn't empty
abbrev pub width_of : Rect → ℕ
width_of r = natural (r.x1 -ℤ r.x0) + 1

abbrev pub height_of : Rect → ℕ
height_of r = natural (r.y1 -ℤ r.y0) + 1

-- the rectangle isn't empty and lies on the picture
pub record IsInside (r : Rect) (p : Picture) : Type 0 where
  pub left : pos 0 ≤ℤ r.x0
  pub some_width : r.x0 ≤ℤ r.x1
  pub right : r.x1 <ℤ pos p.width
  pub top : pos 0 ≤ℤ r.y0
  pub some_height : r.y0 ≤ℤ r.y1
  pub bottom : r.y1 <ℤ pos p.height

-- the values of its points, row by row
abbrev pub rect_values : Layout → Picture → Rect → List ℕ
rect_values f p r = values_in f p (natural r.x0) (natural r.y0) (width_of r) (height_of r)

-- room for its raw pixels and a byte for each of its tiles
abbrev pub room_for : Layout → Rect → ℕ
room_for f r =
    tiles_along (height_of r) * tiles_along (width_of r) + height_of r * width_of r * byte_count f
