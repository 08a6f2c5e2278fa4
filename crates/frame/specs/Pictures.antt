-- A picture as data: its sides, and the colours of its points, row by row.
use Rattle.std.specs.Prelude.{◌≡◌, ℕ, ◌+◌, ◌-◌, ◌*◌, ◌/◌, ◌%◌, ◌≤◌, Bool, List, Option, Some, None, ◌==◌, if◌then◌else◌, length, map, take, drop, slice_index}
use Rattle.std.specs.List.{range_with_len}

pub record Picture : Type 0 where
  pub width : ℕ
  pub height : ℕ
  pub points : List ℕ

-- a picture has such sides, and so many points
pub record IsShape (width height count : ℕ) : Type 0 where
  pub some_width : 1 ≤ width
  pub most_width : width ≤ 1024
  pub some_height : 1 ≤ height
  pub most_height : height ≤ 768
  pub count_is : count ≡ height * width

-- the picture has the shape that its sides say
abbrev pub HasShape : Picture → Type 0
HasShape p = IsShape p.width p.height (length p.points)

-- the colour of a point
abbrev pub colour_at : Picture → ℕ → ℕ → ℕ
colour_at p x y = slice_index p.points (y * p.width + x)

-- the row at y
abbrev pub row_at : Picture → ℕ → List ℕ
row_at p y = take p.width (drop (y * p.width) p.points)

-- the row above the one at y
abbrev pub row_above : Picture → ℕ → Option (List ℕ)
row_above p y = if y == 0 then None else Some (row_at p (y - 1))

-- the rows from the top
abbrev pub rows_of : Picture → List (List ℕ)
rows_of p = map (row_at p) (range_with_len 0 p.height)

-- the picture that gives each point the colour of a function of its place
abbrev pub picture_of : ℕ → ℕ → (ℕ → ℕ → ℕ) → Picture
picture_of width height colour =
    record {
      width = width;
      height = height;
      points = map (λ i. colour (i % width) (i / width)) (range_with_len 0 (height * width));
    }

-- the colours of a picture's points, row by row, with other ones at the points that a test names.
-- They are apart from the picture, so that its sides compute where this isn't opened
unfoldable pub changed_points : Picture → (ℕ → ℕ → Bool) → (ℕ → ℕ → ℕ) → List ℕ
changed_points p here colour =
    (picture_of p.width p.height (λ x y. if here x y then colour x y else colour_at p x y)).points

-- the picture with other colours at the points that a test names
abbrev pub changed : Picture → (ℕ → ℕ → Bool) → (ℕ → ℕ → ℕ) → Picture
changed p here colour = record p { points = changed_points p here colour }
