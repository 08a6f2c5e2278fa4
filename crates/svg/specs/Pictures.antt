-- Pictures: what their points are, and those some of whose rows were read.
use Rattle.std.specs.Prelude.{◌≡◌, ℕ, ◌*◌, ◌^◌, ◌<◌, ◌≤◌, length}
use Rattle.frame.specs.Pictures.{Picture, colour_at}

-- its points are colours
abbrev pub HasColours : Picture → Type 0
HasColours p = (x y : ℕ) → x < p.width → y < p.height → colour_at p x y < 2 ^ 24

-- the picture with the points of its first rows alone, and how many rows these are
pub record PartOfPicture : Type 0 where
  pub picture : Picture
  pub rows : ℕ

pub record IsPart (part : PartOfPicture) : Type 0 where
  pub some_width : 1 ≤ part.picture.width
  pub most_width : part.picture.width ≤ 1024
  pub some_height : 1 ≤ part.picture.height
  pub most_height : part.picture.height ≤ 768
  pub fewer : part.rows < part.picture.height
  pub count_is : length part.picture.points ≡ part.rows * part.picture.width
