-- The values of a part of a picture.
use Rattle.std.specs.Prelude.{ℕ, ◌+◌, ◌*◌, ◌/◌, ◌%◌, ◌≤◌, List, [], ◌∷◌, length, map}
use Rattle.std.specs.List.{range_with_len}
use Rattle.frame.specs.Pictures.{Picture, colour_at}
use Rattle.pixel_format.specs.Formats.{Layout, byte_count, value_of}
use Rattle.hextile.specs.Tiles.{TileValues}

-- the values of the w by h points from column x and row y on, row by row
unfoldable pub values_in : Layout → Picture → ℕ → ℕ → ℕ → ℕ → List ℕ
values_in f p x y w h =
    map (λ i. value_of f (colour_at p (x + i % w) (y + i / w))) (range_with_len 0 (h * w))

-- the part lies on the picture and has a point
pub record IsPartOf (p : Picture) (x y w h : ℕ) : Type 0 where
  pub some_width : 1 ≤ w
  pub some_height : 1 ≤ h
  pub across : x + w ≤ p.width
  pub down : y + h ≤ p.height

-- room for the raw pixels of tiles and a byte for each
abbrev pub room_of : Layout → List TileValues → ℕ
room_of f [] = 0
room_of f (tile ∷ tiles) = 1 + length tile.values * byte_count f + room_of f tiles
