-- The tiles in which the points of a row lie.
use Rattle.std.specs.Prelude.{◌≡◌, ℕ, ◌/◌, ◌<◌, ◌⊎◌, Bool, true, List}
use Rattle.gfx_base.specs.TileSets.{has_tile}

-- a column of a test lies in this column of tiles
pub record HoldsColumn (width : ℕ) (here : ℕ → Bool) (col : ℕ) : Type 0 where
  pub x : ℕ
  pub inside : x < width
  pub col_is : x / 16 ≡ col
  pub is_here : here x ≡ true

-- the new set has also the tiles of one row of points that hold a point of the test
pub record AddsTiles (width y : ℕ) (here : ℕ → Bool) (old new : List ℕ) : Type 0 where
  pub kept : (col row : ℕ) → has_tile old col row ≡ true → has_tile new col row ≡ true
  pub all : (x : ℕ) → x < width → here x ≡ true → has_tile new (x / 16) (y / 16) ≡ true
  pub only : (col row : ℕ) → has_tile new col row ≡ true → (has_tile old col row ≡ true)
      ⊎ ((row ≡ y / 16) × HoldsColumn width here col)
