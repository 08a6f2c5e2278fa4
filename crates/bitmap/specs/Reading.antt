-- Reading a body line by line, and what the program gives.
use Rattle.std.specs.Prelude.{◌≡◌, ℕ, ◌+◌, ◌-◌, ◌*◌, ◌≤◌, Bool, true, false, List, [], ◌∷◌, ◌++◌, length, map, Option, Some, None, Result, Ok, Err, nat_le, nat_lt, ◌==◌, if◌then◌else◌, bytes_eq, codes}
use Rattle.std.specs.List.{join_with_byte}
use Rattle.spelling.specs.Parts.{parts, lines_of}
use Rattle.spelling.specs.Words.{◌>>=◌, words_of, natural_in, colour_of}
use Rattle.spelling.specs.LineReading.{read_from}
use Rattle.bitmap.specs.declared.place.Place.{Place}
use Rattle.bitmap.specs.declared.place.Place.TheVariants.{AfterRows, AfterEnd}
use Rattle.bitmap.specs.declared.row.Run.{Run as KeptRun}
use Rattle.bitmap.specs.declared.fault.BitmapWhy.{BitmapWhy}
use Rattle.bitmap.specs.declared.fault.BitmapLineError.{BitmapLineError}
use Rattle.bitmap.specs.declared.fault.BitmapLineError.TheVariants as line_error
use Rattle.bitmap.specs.declared.fault.BitmapRefused.{BitmapRefused}
use Rattle.bitmap.specs.declared.fault.BitmapRefused.TheVariants as refused
use Rattle.bitmap.specs.Bitmaps.{Bitmap}
use Rattle.bitmap.specs.Texts.{Run, points_of_run}
use Rattle.bitmap.specs.Faults.{why_at, why_cut}

-- ---- what the program keeps

-- a kept point: a colour, and above the last colour a transparent one
abbrev pub point_from : ℕ → Option ℕ
point_from kept = if nat_le kept 16777215 then Some kept else None

abbrev pub points_from : List ℕ → List (Option ℕ)
points_from kept = map point_from kept

abbrev pub run_from : KeptRun → Run
run_from run = record { colour = point_from run.value; count = run.count }

-- ---- rows

-- the point that a word spells
unfoldable pub point_of : List ℕ → Option (Option ℕ)
point_of word =
    if bytes_eq word (codes "-") then Some None else (colour_of word >>= λ c. Some (Some c))

-- how many points, by what stands after the first `*`
abbrev pub count_of : List (List ℕ) → Option ℕ
count_of [] = Some 1
count_of (part ∷ more) = natural_in 2 256 (join_with_byte 42 (part ∷ more))

abbrev pub run_of_parts : List (List ℕ) → Option Run
run_of_parts [] = None
run_of_parts (text ∷ times) = do
  point ← point_of text
  count ← count_of times
  Some (record { colour = point; count = count })

-- the run that a word spells
unfoldable pub run_of : List ℕ → Option Run
run_of word = run_of_parts (parts 42 word)

-- these points and those after them, where there are such
abbrev pub onto : List (Option ℕ) → Option (List (Option ℕ)) → Option (List (Option ℕ))
onto first None = None
onto first (Some more) = Some (first ++ more)

-- the points that words spell, which are so many
abbrev pub points_of : ℕ → List (List ℕ) → Option (List (Option ℕ))
points_of room [] = if room == 0 then Some [] else None
points_of room (word ∷ words) = do
  run ← run_of word
  if nat_le run.count room
      then onto (points_of_run run) (points_of (room - run.count) words)
      else None

-- the row that a line spells
unfoldable pub row_of : ℕ → List ℕ → Option (List (Option ℕ))
row_of width line = points_of width (words_of line)

-- what adding a row returned, and left
abbrev pub Adds : Result (Unit {0}) BitmapLineError → List ℕ → List ℕ
    → Option (List (Option ℕ)) → Type 0
Adds (Ok _) old new read =
    (row : List (Option ℕ)) × (read ≡ Some row) × (points_from new ≡ points_from old ++ row)
Adds (Err line_error.Memory) old new read = Unit {0}
Adds (Err line_error.Wrong) old new read = read ≡ None

-- ---- what the lines so far say

-- The sides, the place of the next line, and the points of the rows so far.
pub record Draft : Type 0 where
  pub width : ℕ
  pub height : ℕ
  pub place : Place
  pub points : List (Option ℕ)

-- before the first line
abbrev pub start : ℕ → ℕ → Draft
start width height =
    record { width = width; height = height; place = AfterRows 0; points = [] }

-- with a row more, after so many
abbrev pub with_row : Draft → ℕ → Option (List (Option ℕ)) → Option Draft
with_row d many None = None
with_row d many (Some row) =
    Some (record d { place = AfterRows (many + 1); points = d.points ++ row })

abbrev pub after_end : Draft → List ℕ → Option Draft
after_end d line =
    if bytes_eq line (codes "end") then Some (record d { place = AfterEnd }) else None

-- after a line at its place
abbrev pub after_at : Place → Draft → List ℕ → Option Draft
after_at (AfterRows many) d line =
    if nat_lt many d.height then with_row d many (row_of d.width line) else after_end d line
after_at AfterEnd d line = None

unfoldable pub after_line : Draft → List ℕ → Option Draft
after_line d line = after_at d.place d line

-- whether all lines were read
abbrev pub is_end : Place → Bool
is_end (AfterRows many) = false
is_end AfterEnd = true

abbrev pub is_whole : Draft → Bool
is_whole d = is_end d.place

abbrev pub bitmap_of : Draft → Bitmap
bitmap_of d = record { width = d.width; height = d.height; points = d.points }

-- ---- what drafts keep

-- how many rows were read
abbrev pub rows_at : ℕ → Place → ℕ
rows_at height (AfterRows many) = many
rows_at height AfterEnd = height

-- at most all rows, each of the width
pub record IsDraft (d : Draft) : Type 0 where
  pub some_width : 1 ≤ d.width
  pub most_width : d.width ≤ 256
  pub some_height : 1 ≤ d.height
  pub most_height : d.height ≤ 256
  pub few : rows_at d.height d.place ≤ d.height
  pub count_is : length d.points ≡ rows_at d.height d.place * d.width

-- ---- bodies

-- the draft after a line, or what is wrong with it
abbrev pub or_why : BitmapWhy → Option Draft → Result Draft BitmapWhy
or_why reason None = Err reason
or_why reason (Some d) = Ok d

abbrev pub line_step : Draft → List ℕ → Result Draft BitmapWhy
line_step d line = or_why (why_at d.height d.place) (after_line d line)

abbrev pub place_of : Draft → Place
place_of d = d.place

-- the lines from line n on: the last draft, or the line that is wrong
abbrev pub from_line : ℕ → Draft → List (List ℕ) → Result Draft (ℕ × BitmapWhy)
from_line n d lines = read_from line_step (λ e. why_cut e.place) n d lines

-- all lines in order
unfoldable pub read_of : ℕ → ℕ → List ℕ → Result Draft (ℕ × BitmapWhy)
read_of width height body = from_line 1 (start width height) (lines_of body)

-- ---- what the program gives

-- what taking a line returned, and left
abbrev pub Takes : Result (Unit {0}) BitmapLineError → Draft → Option Draft → Type 0
Takes (Ok _) new read = read ≡ Some new
Takes (Err line_error.Memory) new read = Unit {0}
Takes (Err line_error.Wrong) new read = read ≡ None

-- A fault is what the body says; without memory nothing is said.
abbrev pub Says : Result Draft (ℕ × BitmapWhy) → BitmapRefused → Type 0
Says read refused.Memory = Unit {0}
Says read (refused.Fault fault) = read ≡ Err (fault.line, fault.why)

-- the body says this bitmap
abbrev pub SaysBitmap : Result Draft (ℕ × BitmapWhy) → Bitmap → Type 0
SaysBitmap read b = (d : Draft) × (read ≡ Ok d) × (d.place ≡ AfterEnd) × (bitmap_of d ≡ b)
