-- A rectangle of values, row by row, cut into tiles.
use Rattle.std.specs.Prelude.{ℕ, ◌+◌, ◌-◌, ◌*◌, ◌/◌, ◌%◌, min, List, map, None, slice_index}
use Rattle.std.specs.List.{range_with_len}
use Rattle.hextile.specs.declared.known.Known.{Known}

-- the values of a tile's points, row by row, and how many a row has
pub record TileValues : Type 0 where
  pub width : ℕ
  pub values : List ℕ

-- how many tiles lie side by side on so many points
abbrev pub tiles_along : ℕ → ℕ
tiles_along side = (side + 15) / 16

-- the side of the tile with this number, of those that lie side by side on so many points
abbrev pub tile_side : ℕ → ℕ → ℕ
tile_side side number = min 16 (side - number * 16)

-- the place in a rectangle w values wide of a point of the tile with this number, told by its place
-- in the tile
abbrev pub spot_of : ℕ → ℕ → ℕ → ℕ
spot_of w number i =
    let col = number % tiles_along w in
    let width = tile_side w col in
    (number / tiles_along w * 16 + i / width) * w + (col * 16 + i % width)

-- the tile in a column and a row of tiles, in a rectangle of w by h values
abbrev pub tile_in : ℕ → ℕ → List ℕ → ℕ → ℕ → TileValues
tile_in w h values col row =
    let width = tile_side w col in
    record {
      width = width;
      values = map (λ i. slice_index values
          ((row * 16 + i / width) * w + (col * 16 + i % width)))
          (range_with_len 0 (tile_side h row * width));
    }

-- the tile with this number, from left to right and top to bottom
unfoldable pub tile_at : ℕ → ℕ → List ℕ → ℕ → TileValues
tile_at w h values number = tile_in w h values (number % tiles_along w) (number / tiles_along w)

-- the tiles of a rectangle of w by h values
abbrev pub tiles_of : ℕ → ℕ → List ℕ → List TileValues
tiles_of w h values = map (tile_at w h values) (range_with_len 0 (tiles_along h * tiles_along w))

-- what is known before the first tile
abbrev pub nothing_known : Known
nothing_known = record { background = None; foreground = None }
