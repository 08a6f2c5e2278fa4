-- Reading a body line by line: its font, or its first fault.
use Rattle.std.specs.Prelude.{◌≡◌, ℕ, ◌+◌, ◌<◌, ◌≤◌, Bool, true, false, ◌&&◌, ◌||◌, List, [], ◌∷◌, ◌++◌, length, map, Option, Some, None, Result, Ok, Err, ◌==◌, if◌then◌else◌, bytes_eq, codes}
use Rattle.std.specs.List.{list_all, AllByRecursion}
use Rattle.spelling.specs.Parts.{lines_of}
use Rattle.spelling.specs.Words.{◌>>=◌, words_of, after_word, natural_at}
use Rattle.spelling.specs.LineReading.{read_from}
use Rattle.glyph_font.specs.declared.place.Place.{Place}
use Rattle.glyph_font.specs.declared.place.Place.TheVariants.{Between, Within, After}
use Rattle.glyph_font.specs.declared.fault.FontLineError.{FontLineError}
use Rattle.glyph_font.specs.declared.fault.FontLineError.TheVariants as line_error
use Rattle.glyph_font.specs.declared.fault.FontWhy.{FontWhy}
use Rattle.glyph_font.specs.declared.fault.FontRefused.{FontRefused}
use Rattle.glyph_font.specs.declared.fault.FontRefused.TheVariants as refused
use Rattle.glyph_font.specs.Fonts.{Glyph, Font, IsGlyph, IsRising}
use Rattle.glyph_font.specs.Faults.{why_at, why_cut}

-- ---- lines

-- the code, from the least on, and the width that a glyph's first line spells
unfoldable pub head_of : ℕ → List (List ℕ) → Option (ℕ × ℕ)
head_of least words = do
  rest ← after_word (codes "glyph") words
  code ← natural_at least 126 rest
  width ← natural_at 1 32 code.1
  if length width.1 == 0 then Some (code.0, width.0) else None

abbrev pub is_point : ℕ → Bool
is_point b = b == 35 || b == 46

-- the points of a row of this width
unfoldable pub row_of : ℕ → List ℕ → Option (List Bool)
row_of width line =
    if length line == width && list_all is_point line then Some (map (λ b. b == 35) line) else None

-- ---- what the lines so far say

-- The place of the next line, the least code that the next glyph can have, the whole glyphs, and
-- the glyph that was begun last.
pub record Draft : Type 0 where
  pub place : Place
  pub least : ℕ
  pub font : Font
  pub last : Glyph

-- where the next line stands
abbrev pub place_of : Draft → Place
place_of d = d.place

-- whether a place is the one after `end`
abbrev pub is_after : Place → Bool
is_after After = true
is_after _ = false

-- whether the font's last line was read
abbrev pub is_whole : Draft → Bool
is_whole d = is_after d.place

-- before the first line
abbrev pub start : ℕ → Draft
start height =
    record {
      place = Between;
      least = 32;
      font = record { height = height; glyphs = [] };
      last = record { code = 0; width = 0; rows = [] };
    }

-- with a glyph of which no row was read
abbrev pub begun : Draft → ℕ × ℕ → Draft
begun d head =
    record d {
      place = Within;
      least = head.0 + 1;
      last = record { code = head.0; width = head.1; rows = [] };
    }

abbrev pub after_head : Draft → Option (ℕ × ℕ) → Option Draft
after_head d None = None
after_head d (Some head) = Some (begun d head)

abbrev pub after_between : Draft → List ℕ → Option Draft
after_between d line =
    if bytes_eq line (codes "end") then Some (record d { place = After })
    else after_head d (head_of d.least (words_of line))

-- a glyph with a row more
abbrev pub grown : Glyph → List Bool → Glyph
grown g row = record g { rows = g.rows ++ row ∷ [] }

-- the font with a glyph more
abbrev pub with_glyph : Font → Glyph → Font
with_glyph font g = record font { glyphs = font.glyphs ++ g ∷ [] }

-- the last glyph is whole where it has all rows
unfoldable pub settled : Draft → Draft
settled d =
    if length d.last.rows == d.font.height
    then record d { place = Between; font = with_glyph d.font d.last }
    else d

abbrev pub with_row : Draft → List Bool → Draft
with_row d row = settled (record d { last = grown d.last row })

abbrev pub after_row : Draft → Option (List Bool) → Option Draft
after_row d None = None
after_row d (Some row) = Some (with_row d row)

-- after a line at its place
abbrev pub after_at : Place → Draft → List ℕ → Option Draft
after_at Between d line = after_between d line
after_at Within d line = after_row d (row_of d.last.width line)
after_at After d line = None

unfoldable pub after_line : Draft → List ℕ → Option Draft
after_line d line = after_at d.place d line

-- ---- bodies

-- the draft after a line, or what is wrong with it
abbrev pub or_why : Place → Option Draft → Result Draft FontWhy
or_why place None = Err (why_at place)
or_why place (Some d) = Ok d

abbrev pub line_step : Draft → List ℕ → Result Draft FontWhy
line_step d line = or_why d.place (after_line d line)

-- the lines from line n on: the last draft, or the line that is wrong
abbrev pub from_line : ℕ → Draft → List (List ℕ) → Result Draft (ℕ × FontWhy)
from_line n d lines = read_from line_step (λ e. why_cut e.place) n d lines

-- all lines in order
unfoldable pub read_of : ℕ → List ℕ → Result Draft (ℕ × FontWhy)
read_of height body = from_line 1 (start height) (lines_of body)

-- ---- what drafts keep

-- the least code after these glyphs
abbrev pub least_after : ℕ → List Glyph → ℕ
least_after least [] = least
least_after least (g ∷ gs) = least_after (g.code + 1) gs

-- The whole glyphs are ones of the font's height, and the codes rise, that of a begun glyph too.
abbrev pub Keeps : Place → Draft → Type 0
Keeps Within d =
    IsGlyph (length d.last.rows) d.last × (length d.last.rows < d.font.height)
    × IsRising 32 (d.font.glyphs ++ d.last ∷ []) × (d.least ≡ d.last.code + 1)
Keeps _ d = IsRising 32 d.font.glyphs × (d.least ≡ least_after 32 d.font.glyphs)

pub record IsDraft (d : Draft) : Type 0 where
  pub high : 1 ≤ d.font.height
  pub not_too_high : d.font.height ≤ 32
  pub whole : AllByRecursion (IsGlyph d.font.height) d.font.glyphs
  pub keeps : Keeps d.place d

-- ---- what the program gives

-- what taking a line returned, and left
abbrev pub Takes : Result (Unit {0}) FontLineError → Draft → Option Draft → Type 0
Takes (Ok _) new read = read ≡ Some new
Takes (Err line_error.Memory) new read = Unit {0}
Takes (Err line_error.Wrong) new read = read ≡ None

-- A fault is what the body says; without memory nothing is said.
abbrev pub Says : Result Draft (ℕ × FontWhy) → FontRefused → Type 0
Says read refused.Memory = Unit {0}
Says read (refused.Fault fault) = read ≡ Err (fault.line, fault.why)

-- the body says this font
abbrev pub SaysFont : Result Draft (ℕ × FontWhy) → Font → Type 0
SaysFont read font = (d : Draft) × (read ≡ Ok d) × (d.place ≡ After) × (d.font ≡ font)
