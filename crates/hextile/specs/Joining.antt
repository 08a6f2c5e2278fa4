-- Tiles put together to a rectangle again, and bytes that are no hextile data.
use Rattle.std.specs.Prelude.{◌≡◌, ℕ, ◌+◌, ◌*◌, ◌/◌, ◌%◌, ◌<◌, ◌≤◌, List, [], ◌++◌, length, map, take, slice_index, slice_index_or}
use Rattle.std.specs.List.{range_with_len}
use Rattle.pixel_format.specs.Formats.{Layout}
use Rattle.hextile.specs.Tiles.{TileValues, tiles_along, tile_side}
use Rattle.hextile.specs.Meaning.{DecodesTo}

abbrev pub no_tile : TileValues
no_tile = record { width = 0; values = [] }

-- the value of the point in this column and row, by the tile in which it lies
abbrev pub value_by_tiles : ℕ → List TileValues → ℕ → ℕ → ℕ
value_by_tiles w tiles u v =
    slice_index (slice_index_or tiles (v / 16 * tiles_along w + u / 16) no_tile).values
    (v % 16 * tile_side w (u / 16) + u % 16)

-- the values of a rectangle that has these tiles
unfoldable pub joined : ℕ → ℕ → List TileValues → List ℕ
joined w h tiles = map (λ i. value_by_tiles w tiles (i % w) (i / w)) (range_with_len 0 (h * w))

-- the tiles are so many, and have such sides, as those of a rectangle of w by h values
pub record AreTiles (w h : ℕ) (tiles : List TileValues) : Type 0 where
  pub count : length tiles ≡ tiles_along h * tiles_along w
  pub width : (number : ℕ) → number < tiles_along h * tiles_along w
      → (slice_index_or tiles number no_tile).width ≡ tile_side w (number % tiles_along w)
  pub points : (number : ℕ) → number < tiles_along h * tiles_along w
      → length (slice_index_or tiles number no_tile).values
      ≡ tile_side h (number / tiles_along w) * tile_side w (number % tiles_along w)

-- the bytes begin hextile data of some w by h values
abbrev pub BeginsData : Layout → ℕ → ℕ → List ℕ → Type 0
BeginsData f w h prefix = (rest values : List ℕ) × DecodesTo f w h (prefix ++ rest) values

-- the bytes are no hextile data of w by h values, and this is the length of their longest prefix
-- that begins such data
pub record IsBadAt (f : Layout) (w h : ℕ) (bytes : List ℕ) (at : ℕ) : Type 0 where
  pub none : (values : List ℕ) → DecodesTo f w h bytes values → ⊥
  pub within : at ≤ length bytes
  pub begins : BeginsData f w h (take at bytes)
  pub longest : at < length bytes → BeginsData f w h (take (at + 1) bytes) → ⊥
