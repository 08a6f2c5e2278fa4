-- Bitmaps as plain data, and their points.
use Rattle.std.specs.Prelude.{◌≡◌, ℕ, ◌+◌, ◌*◌, ◌≤◌, List, length, Option, None, slice_index_or}

-- The sides, and the points row by row from the top, each row from the left. A point is its colour;
-- none at a transparent one.
pub record Bitmap : Type 0 where
  pub width : ℕ
  pub height : ℕ
  pub points : List (Option ℕ)

-- which data are bitmaps
pub record IsBitmap (b : Bitmap) : Type 0 where
  pub some_width : 1 ≤ b.width
  pub most_width : b.width ≤ 256
  pub some_height : 1 ≤ b.height
  pub most_height : b.height ≤ 256
  pub count_is : length b.points ≡ b.height * b.width

-- the colour of the point in that column and row, which lies inside
abbrev pub colour_at : Bitmap → ℕ → ℕ → Option ℕ
colour_at b x y = slice_index_or b.points (y * b.width + x) None
