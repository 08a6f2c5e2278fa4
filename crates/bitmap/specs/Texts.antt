-- The texts of each bitmap.
use Rattle.std.specs.Prelude.{◌≡◌, ℕ, ◌^◌, ◌<◌, ◌≤◌, List, [], ◌∷◌, ◌++◌, length, map, flat_map, replicate, Option, Some, None, IfSome, ◌==◌, if◌then◌else◌, codes, decimal}
use Rattle.std.specs.List.{AllByRecursion}
use Rattle.spelling.specs.Digits.{hex_colour}
use Rattle.spelling.specs.Parts.{lines_of}
use Rattle.spelling.specs.Words.{text_of_words}
use Rattle.bitmap.specs.Bitmaps.{Bitmap}

-- ---- rows

-- so many points of one colour, one after the other; of none where they are transparent
pub record Run : Type 0 where
  pub colour : Option ℕ
  pub count : ℕ

pub record IsRun (run : Run) : Type 0 where
  pub colour : IfSome run.colour (λ c. c < 2 ^ 24)
  pub some : 1 ≤ run.count
  pub few : run.count ≤ 256

abbrev pub points_of_run : Run → List (Option ℕ)
points_of_run run = replicate run.count run.colour

abbrev pub text_of_point : Option ℕ → List ℕ
text_of_point None = codes "-"
text_of_point (Some c) = hex_colour c

-- `C` for one point, and `C*n` for more
abbrev pub text_of_run : Run → List ℕ
text_of_run run =
    if run.count == 1 then text_of_point run.colour
    else text_of_point run.colour ++ (codes "*" ++ decimal run.count)

-- the line has the runs of these points. They need not be the longest ones, so that points have
-- several lines
pub record SpellsRow (line : List ℕ) (points : List (Option ℕ)) : Type 0 where
  pub runs : List Run
  pub some : 1 ≤ length runs
  pub each : AllByRecursion IsRun runs
  pub spelled : line ≡ text_of_words (map text_of_run runs)
  pub shown : points ≡ flat_map points_of_run runs

-- the lines spell these rows in order, each of so many points
abbrev pub AreRows : ℕ → List (List ℕ) → List (List (Option ℕ)) → Type 0
AreRows width [] [] = Unit {0}
AreRows width [] (row ∷ rows) = ⊥
AreRows width (line ∷ lines) [] = ⊥
AreRows width (line ∷ lines) (row ∷ rows) =
    SpellsRow line row × (length row ≡ width) × AreRows width lines rows

-- ---- bodies

-- the lines of this bitmap, which has these sides: its rows, and the line `end`
pub record AreLinesOf (width height : ℕ) (lines : List (List ℕ)) (b : Bitmap) : Type 0 where
  pub wide : b.width ≡ width
  pub high : b.height ≡ height
  pub before : List (List ℕ)
  pub rows : List (List (Option ℕ))
  pub count : length rows ≡ height
  pub each : AreRows width before rows
  pub shown : b.points ≡ flat_map (λ row. row) rows
  pub spelled : lines ≡ before ++ codes "end" ∷ []

-- the body is a text of this bitmap, which has these sides
abbrev pub IsBody : ℕ → ℕ → List ℕ → Bitmap → Type 0
IsBody width height body b = AreLinesOf width height (lines_of body) b
