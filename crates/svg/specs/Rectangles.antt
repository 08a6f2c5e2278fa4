-- The rectangles of a picture. Each run of points of one colour in a row begins one where the row
-- above doesn't have the same run, and is a part of one where it does. A rectangle goes down as far
-- as the rows below have its run.
use Rattle.std.specs.Prelude.{ℕ, ◌+◌, ◌-◌, Bool, ◌&&◌, ◌||◌, not, ◌==◌, nat_le, nat_lt, if◌then◌else◌, List, [], ◌∷◌, drop, slice_index}
use Rattle.std.specs.List.{prefix_len, flat_map, range_with_len}
use Rattle.frame.specs.Pictures.{Picture, row_at, rows_of}
use Rattle.svg.specs.declared.shapes.Rectangle.{Rectangle}

-- a run begins at x: the point before has another colour
abbrev pub begins : List ℕ → ℕ → Bool
begins row x = x == 0 || not (slice_index row (x - 1) == slice_index row x)

-- how many points the run that begins at x has; 0 where none begins
abbrev pub run_width : List ℕ → ℕ → ℕ
run_width row x =
    if begins row x then prefix_len (λ point. point == slice_index row x) (drop x row) else 0

-- two rows have the same run at x, or both have none and the same colour
abbrev pub is_same_run : ℕ → List ℕ → List ℕ → Bool
is_same_run x row other =
    slice_index row x == slice_index other x && run_width row x == run_width other x

-- the row above lacks what row y has at x
abbrev pub is_top : Picture → ℕ → ℕ → Bool
is_top p x y = y == 0 || not (is_same_run x (row_at p (y - 1)) (row_at p y))

-- how many rows from y on have what row y has at x
abbrev pub height_at : Picture → ℕ → ℕ → ℕ
height_at p x y = prefix_len (λ row. is_same_run x row (row_at p y)) (drop y (rows_of p))

abbrev pub rectangle_at : Picture → ℕ → ℕ → Rectangle
rectangle_at p x y = record {
  x = x;
  y = y;
  width = run_width (row_at p y) x;
  height = height_at p x y;
  colour = slice_index (row_at p y) x;
}

-- the rectangle whose upper left point is that of row y and column x, if there is one
abbrev pub rectangles_at : Picture → ℕ → ℕ → List Rectangle
rectangles_at p y x =
    if begins (row_at p y) x && is_top p x y then rectangle_at p x y ∷ [] else []

-- those whose upper row is row y, from the left
abbrev pub rectangles_of_row : Picture → ℕ → List Rectangle
rectangles_of_row p y = flat_map (rectangles_at p y) (range_with_len 0 p.width)

-- all of them, from the top
abbrev pub rectangles : Picture → List Rectangle
rectangles p = flat_map (rectangles_of_row p) (range_with_len 0 p.height)

-- the rectangle has the point of column x and row y
abbrev pub has : ℕ → ℕ → Rectangle → Bool
has x y r =
    (nat_le r.x x && nat_lt x (r.x + r.width)) && (nat_le r.y y && nat_lt y (r.y + r.height))
