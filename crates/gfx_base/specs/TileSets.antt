-- Sets of tiles of the grid of 64 columns and 48 rows: a word for each row, in which the bit of a
-- column tells whether its tile is in the set.
use Rattle.std.specs.Prelude.{◌≡◌, ℕ, ◌/◌, ◌<◌, Bool, true, ◌&&◌, ◌==◌, nat_le, nat_lt, List, slice_index}
use Rattle.std.specs.Int.{bit_at}

-- whether the tile in this column and row of the grid is in the set
unfoldable pub has_tile : List ℕ → ℕ → ℕ → Bool
has_tile words col row = nat_lt col 64 && bit_at (slice_index words row) col == 1

-- whether the tile in column c and row r lies in the row, from the first column to the last
abbrev pub is_in_run : ℕ → ℕ → ℕ → ℕ → ℕ → Bool
is_in_run row first last c r = r == row && (nat_le first c && nat_le c last)

-- a point of a test lies in this tile, on a picture of these sides
pub record HoldsPoint (width height : ℕ) (here : ℕ → ℕ → Bool) (col row : ℕ) : Type 0 where
  pub x : ℕ
  pub y : ℕ
  pub inside : (x < width) × (y < height)
  pub col_is : x / 16 ≡ col
  pub row_is : y / 16 ≡ row
  pub is_here : here x y ≡ true

-- the set has the tiles that hold a point of the test, and no other
pub record AreTilesOf (width height : ℕ) (here : ℕ → ℕ → Bool) (tiles : List ℕ) : Type 0 where
  pub all : (x y : ℕ) → x < width → y < height → here x y ≡ true
      → has_tile tiles (x / 16) (y / 16) ≡ true
  pub only : (col row : ℕ) → has_tile tiles col row ≡ true → HoldsPoint width height here col row
