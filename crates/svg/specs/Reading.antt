-- What a text tells: frame texts, with other lines between them.
use Rattle.std.specs.Prelude.{◌≡◌, ℕ, ◌+◌, ◌-◌, ◌*◌, Bool, true, List, [], ◌∷◌, ◌++◌, length, take, drop, replicate, Option, Some, None, Result, Ok, Err, nat_le, ◌==◌, if◌then◌else◌, bytes_eq, codes}
use Rattle.std.specs.List.{join_with_byte}
use Rattle.frame.specs.Pictures.{Picture}
use Rattle.spelling.specs.Parts.{parts, lines_of}
use Rattle.spelling.specs.Words.{◌>>=◌, words_of, after_word, begins_with, natural_in, natural_at, colour_of}
use Rattle.spelling.specs.LineReading.{on}
use Rattle.svg.specs.declared.row.Run.{Run}
use Rattle.svg.specs.declared.draft.Draft.{Draft}
use Rattle.svg.specs.declared.fault.Reason.{Reason}
use Rattle.svg.specs.declared.fault.Reason.TheVariants.{Sides, First, Row, Cut, Missing}
use Rattle.svg.specs.declared.fault.Fault.{Fault}
use Rattle.svg.specs.declared.fault.LineError.{LineError}
use Rattle.svg.specs.declared.fault.LineError.TheVariants as line_error
use Rattle.svg.specs.declared.fault.Refused.{Refused}
use Rattle.svg.specs.declared.fault.Refused.TheVariants as refused
use Rattle.svg.specs.Pictures.{PartOfPicture}

-- ---- rows

-- how many points a run has, by what stands after the first `*`
abbrev pub count_of : List (List ℕ) → Option ℕ
count_of [] = Some 1
count_of (part ∷ more) = natural_in 2 1024 (join_with_byte 42 (part ∷ more))

abbrev pub run_of_parts : List (List ℕ) → Option Run
run_of_parts [] = None
run_of_parts (text ∷ times) = do
  colour ← colour_of text
  count ← count_of times
  Some (record { colour = colour; count = count })

-- the run that a word spells: `RRGGBB`, or `RRGGBB*n` with n from 2
unfoldable pub run_of : List ℕ → Option Run
run_of word = run_of_parts (parts 42 word)

-- these points and those after them, where there are such
abbrev pub onto : List ℕ → Option (List ℕ) → Option (List ℕ)
onto first None = None
onto first (Some more) = Some (first ++ more)

-- the points that words spell, which are so many
abbrev pub points_of : ℕ → List (List ℕ) → Option (List ℕ)
points_of room [] = if room == 0 then Some [] else None
points_of room (word ∷ words) = do
  run ← run_of word
  if nat_le run.count room
      then onto (replicate run.count run.colour) (points_of (room - run.count) words)
      else None

-- the row that a line of runs spells
unfoldable pub runs_row : ℕ → List ℕ → Option (List ℕ)
runs_row width line = points_of width (words_of line)

abbrev pub or_reason : {A : Type 0} → Reason → Option A → Result A Reason
or_reason reason None = Err reason
or_reason reason (Some x) = Ok x

-- the last of so many rows
abbrev pub row_above : ℕ → ℕ → List ℕ → Result (List ℕ) Reason
row_above width rows points =
    if rows == 0 then Err First else Ok (take width (drop ((rows - 1) * width) points))

-- the row that a line tells after so many rows of these points
unfoldable pub row_of : ℕ → ℕ → List ℕ → List ℕ → Result (List ℕ) Reason
row_of width rows points line =
    if bytes_eq line (codes "=") then row_above width rows points
    else or_reason Row (runs_row width line)

-- ---- lines

-- the sides that `frame W H` tells
unfoldable pub sides_of : List (List ℕ) → Option (ℕ × ℕ)
sides_of words = do
  rest ← after_word (codes "frame") words
  width ← natural_at 1 1024 rest
  height ← natural_at 1 768 width.1
  if length height.1 == 0 then Some (width.0, height.0) else None

-- a picture before its first row
abbrev pub opened : ℕ → ℕ → PartOfPicture
opened width height =
    record { picture = record { width = width; height = height; points = [] }; rows = 0 }

-- the next picture is the wanted one, or the last one is wanted
abbrev pub is_wanted : Option ℕ → Bool
is_wanted None = true
is_wanted (Some number) = number == 1

abbrev pub one_less : Option ℕ → Option ℕ
one_less None = None
one_less (Some number) = Some (number - 1)

-- before the first line
abbrev pub start : Option ℕ → Draft
start wanted = record { wanted = wanted; kept = None; part = None }

-- with a picture that was read to its end, which is kept where it's wanted
abbrev pub with_picture : Draft → Picture → Draft
with_picture d p = record {
  wanted = one_less d.wanted;
  kept = if is_wanted d.wanted then Some p else d.kept;
  part = None;
}

abbrev pub with_part : Draft → PartOfPicture → Draft
with_part d part = record { wanted = d.wanted; kept = d.kept; part = Some part }

-- with a row more of a picture
abbrev pub with_row : Draft → PartOfPicture → List ℕ → Draft
with_row d part row =
    let p = record part.picture { points = part.picture.points ++ row } in
    if part.rows + 1 == p.height then with_picture d p
    else with_part d (record { picture = p; rows = part.rows + 1 })

-- after a line that is the next row of a picture
unfoldable pub after_row : Draft → PartOfPicture → List ℕ → Result Draft Reason
after_row d part line =
    on (row_of part.picture.width part.rows part.picture.points line)
    (λ row. Ok (with_row d part row))

-- after another line: a frame text begins, or the line is passed over
unfoldable pub after_other : Draft → List ℕ → Result Draft Reason
after_other d line =
    if begins_with (codes "frame") (words_of line)
    then on (or_reason Sides (sides_of (words_of line)))
    (λ sides. Ok (with_part d (opened sides.0 sides.1)))
    else Ok d

abbrev pub step_at : Option PartOfPicture → Draft → List ℕ → Result Draft Reason
step_at None d line = after_other d line
step_at (Some part) d line = after_row d part line

-- after the next line, or the reason against it
abbrev pub line_step : Draft → List ℕ → Result Draft Reason
line_step d line = step_at d.part d line

-- ---- texts

abbrev pub fault_at : ℕ → Reason → Fault
fault_at line why = record { line = line; why = why }

-- the picture, or the reason against line n
abbrev pub at_line : ℕ → Result Picture Reason → Result Picture Fault
at_line n (Ok p) = Ok p
at_line n (Err why) = Err (fault_at n why)

-- at the end: no picture may be open, and the wanted one has to be there
abbrev pub ended : Option PartOfPicture → Option Picture → Result Picture Reason
ended (Some part) kept = Err Cut
ended None kept = or_reason Missing kept

-- goes on after line n, or stops there
abbrev pub on_line : ℕ → Result Draft Reason → (Draft → Result Picture Fault) → Result Picture Fault
on_line n (Ok d) next = next d
on_line n (Err why) next = Err (fault_at n why)

-- what the lines from line n on tell: the wanted picture, or the first line with its reason
abbrev pub picture_from : ℕ → Draft → List (List ℕ) → Result Picture Fault
picture_from n d [] = at_line n (ended d.part d.kept)
picture_from n d (line ∷ lines) =
    on_line n (line_step d line) (λ next. picture_from (n + 1) next lines)

-- what a text tells, where the picture of that number is wanted, or the last one
unfoldable pub picture_in : Option ℕ → List ℕ → Result Picture Fault
picture_in wanted text = picture_from 1 (start wanted) (lines_of text)

-- ---- what the program gives

-- what adding the points of a row returned, and left
abbrev pub Adds : Result (Unit {0}) LineError → List ℕ → List ℕ → Result (List ℕ) Reason → Type 0
Adds (Ok _) old new read = (row : List ℕ) × (read ≡ Ok row) × (new ≡ old ++ row)
Adds (Err line_error.Memory) old new read = Unit {0}
Adds (Err (line_error.Wrong why)) old new read = read ≡ Err why

-- the same of a row of runs
abbrev pub AddsRuns : Result (Unit {0}) LineError → List ℕ → List ℕ → Option (List ℕ) → Type 0
AddsRuns result old new read = Adds result old new (or_reason Row read)

-- what taking a line returned
abbrev pub Takes : Result Draft LineError → Result Draft Reason → Type 0
Takes (Ok d) read = read ≡ Ok d
Takes (Err line_error.Memory) read = Unit {0}
Takes (Err (line_error.Wrong why)) read = read ≡ Err why

-- A fault is what the text tells; without memory nothing is said.
abbrev pub Says : Result Picture Fault → Refused → Type 0
Says told refused.Memory = Unit {0}
Says told (refused.Fault fault) = told ≡ Err fault
