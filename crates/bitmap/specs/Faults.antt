-- The first fault of a body, by what the lines before it are.
use Rattle.std.specs.Prelude.{◌≡◌, ℕ, ◌≤◌, List, [], ◌∷◌, ◌++◌, length, Option, Some, None, if◌then◌else◌, nat_lt, codes}
use Rattle.spelling.specs.Parts.{lines_of}
use Rattle.spelling.specs.FirstFaults.{IsFirstFault}
use Rattle.bitmap.specs.declared.place.Place.{Place}
use Rattle.bitmap.specs.declared.place.Place.TheVariants.{AfterRows, AfterEnd}
use Rattle.bitmap.specs.declared.fault.BitmapWhy.{BitmapWhy}
use Rattle.bitmap.specs.declared.fault.BitmapWhy.TheVariants as why
use Rattle.bitmap.specs.declared.fault.BitmapFault.{BitmapFault}
use Rattle.bitmap.specs.declared.fault.BitmapRefused.{BitmapRefused}
use Rattle.bitmap.specs.declared.fault.BitmapRefused.TheVariants as refused
use Rattle.bitmap.specs.Texts.{AreRows}

-- ---- what the first lines of a bitmap are, by the place after them

-- so many rows, at most all of them
pub record AreFirstRows (width height : ℕ) (lines : List (List ℕ)) (many : ℕ) : Type 0 where
  pub rows : List (List (Option ℕ))
  pub each : AreRows width lines rows
  pub count : length rows ≡ many
  pub few : many ≤ height

-- all rows, and the line `end`
pub record AreAll (width height : ℕ) (lines : List (List ℕ)) : Type 0 where
  pub before : List (List ℕ)
  pub rows : List (List (Option ℕ))
  pub each : AreRows width before rows
  pub count : length rows ≡ height
  pub spelled : lines ≡ before ++ codes "end" ∷ []

-- the lines are the first ones of a bitmap, and after them stands this place: after so many rows,
-- or after the line `end`
abbrev pub IsPrefix : ℕ → ℕ → List (List ℕ) → Place → Type 0
IsPrefix width height lines (AfterRows many) = AreFirstRows width height lines many
IsPrefix width height lines AfterEnd = AreAll width height lines

-- ---- faults

-- what is wrong with a line that doesn't belong at a place: in the place of a row, or of the end
abbrev pub why_at : ℕ → Place → BitmapWhy
why_at height (AfterRows many) = if nat_lt many height then why.Row else why.End
why_at height AfterEnd = why.End

-- what is wrong with the end of the lines at a place
abbrev pub why_cut : Place → Option BitmapWhy
why_cut (AfterRows many) = Some why.End
why_cut AfterEnd = None

-- the reason against a line at a place
abbrev pub WhyAt : ℕ → Place → List ℕ → BitmapWhy → Type 0
WhyAt height place line reason = reason ≡ why_at height place

-- the longest prefix of a bitmap, and then a line that is wrong, or the end
abbrev pub IsFault : ℕ → ℕ → List ℕ → BitmapFault → Type 0
IsFault width height body fault =
    IsFirstFault (IsPrefix width height) (WhyAt height) why_cut (lines_of body) fault.line fault.why

-- a refusal tells the fault; of one for want of memory nothing is said
abbrev pub IsRefused : ℕ → ℕ → List ℕ → BitmapRefused → Type 0
IsRefused width height body refused.Memory = Unit {0}
IsRefused width height body (refused.Fault fault) = IsFault width height body fault
