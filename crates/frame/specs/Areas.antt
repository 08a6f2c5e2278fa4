-- Sets of points, as tests on columns and rows, and how many points of a picture they have.
use Rattle.std.specs.Prelude.{ℕ, ◌+◌, ◌-◌, ◌*◌, ◌/◌, ◌%◌, min, Bool, ◌&&◌, ◌==◌, nat_le}
use Rattle.std.specs.List.{count_by, range_with_len}
use Rattle.frame.specs.Pictures.{Picture}

-- how many points of the picture a test names
unfoldable pub points_in : Picture → (ℕ → ℕ → Bool) → ℕ
points_in p here =
    count_by (λ i. here (i % p.width) (i / p.width)) (range_with_len 0 (p.height * p.width))

-- the one point at x and y
unfoldable pub is_at : ℕ → ℕ → ℕ → ℕ → Bool
is_at x y u v = u == x && v == y

-- the points of row y from x0 to x1, both ends included
unfoldable pub in_span : ℕ → ℕ → ℕ → ℕ → ℕ → Bool
in_span y x0 x1 u v = v == y && (nat_le x0 u && nat_le u x1)

-- how many points such a span has
abbrev pub span_count : ℕ → ℕ → ℕ
span_count x0 x1 = x1 + 1 - x0

-- the points of the tile in this column and row of the screen's grid of squares of 16 by 16 points
unfoldable pub in_tile : ℕ → ℕ → ℕ → ℕ → Bool
in_tile col row u v = u / 16 == col && v / 16 == row

-- how many points of that tile lie on the picture
abbrev pub tile_count : Picture → ℕ → ℕ → ℕ
tile_count p col row = min 16 (p.width - col * 16) * min 16 (p.height - row * 16)
