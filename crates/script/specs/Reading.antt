-- Reading a file line by line: what its items say, or its first fault.
use Rattle.std.specs.Prelude.{◌≡◌, ℕ, Bool, true, false, ◌&&◌, List, [], ◌∷◌, length, Option, Some, None, Result, Ok, Err, nat_lt, nat_le, ◌==◌, if◌then◌else◌, bytes_eq, codes}
use Rattle.glyph_font.specs.declared.place.Place.TheVariants as font_place
use Rattle.bitmap.specs.declared.place.Place.TheVariants as bitmap_place
use Rattle.glyph_font.specs.Reading as fonts
use Rattle.bitmap.specs.Reading as bitmaps
use Rattle.paint_ops.specs.Kinds.{Class, Assets}
use Rattle.class_lines.specs.declared.line.ClassLine.{ClassLine}
use Rattle.class_lines.specs.Words.{class_line_of}
use Rattle.calls.specs.declared.line.Line.{Line}
use Rattle.calls.specs.Words.{line_of}
use Rattle.spelling.specs.Parts.{lines_of, is_printable}
use Rattle.spelling.specs.Words.{words_of}
use Rattle.spelling.specs.Fields.{Values}
use Rattle.spelling.specs.Items.{is_comment}
use Rattle.spelling.specs.LineReading.{read_from}
use Rattle.script.specs.declared.draft.Block.{Block}
use Rattle.script.specs.declared.draft.Block.TheVariants as block
use Rattle.script.specs.declared.draft.Stage.{Stage}
use Rattle.script.specs.declared.draft.Stage.TheVariants as stage
use Rattle.script.specs.declared.draft.Draft.{Draft as DraftOfProgram}
use Rattle.script.specs.declared.fault.Reason.{Reason}
use Rattle.script.specs.declared.fault.Reason.TheVariants.{TooLarge, Ascii, Later, Header, Late, Asset, Call, Lock, Many}
use Rattle.script.specs.declared.fault.Reason.TheVariants as reason
use Rattle.script.specs.declared.fault.LineError.{LineError}
use Rattle.script.specs.declared.fault.LineError.TheVariants as line_error
use Rattle.script.specs.declared.fault.ScriptRefused.{ScriptRefused}
use Rattle.script.specs.declared.fault.ScriptRefused.TheVariants as read_error
use Rattle.script_lines.specs.Fields.{screen_in, buffers_in, desktop_in, class_in, font_in, bitmap_in, string_in}
use Rattle.script_lines.specs.Counts.{count_alike}
use Rattle.script.specs.Later.{is_one_of, asset_words, later_words}
use Rattle.script.specs.Scripts.{Before, Listing, Script, empty_listing, plain_class, with_class, with_font, with_bitmap, with_string, with_line, with_desktop, class_with, may_have, may_do, locks_with, no_locks, script_for}
use Rattle.script_lines.specs.Texts.{font_fields, bitmap_fields}
use Rattle.script.specs.Faults.{Place, Between, InClass, InDrawing, is_later_form, why_cut}

-- ---- reasons against a line

-- against a line with this first word that is no asset's and no call
abbrev pub call_reason : List ℕ → Reason
call_reason first = if is_one_of later_words first then Later else Call

-- against a line in a font or a bitmap that doesn't go on with it
abbrev pub drawing_reason : List ℕ → Reason
drawing_reason line = if is_later_form line then Later else reason.Block

-- ---- lines

-- what the lines so far say, which line comes next, and which locks are open
pub record Draft : Type 0 where
  pub stage : Stage
  pub said : Listing
  pub locks : List ℕ

-- before the first line
abbrev pub empty_draft : Draft
empty_draft = record { stage = stage.Title; said = empty_listing; locks = no_locks }

-- the draft after what a line spells, or the reason against it
abbrev pub after_value : {A : Type 0} → Option A → Reason → (A → Draft) → Result Draft Reason
after_value None reason next = Err reason
after_value (Some x) reason next = Ok (next x)

-- after `mtgui 1`
unfoldable pub after_title : Draft → List ℕ → Result Draft Reason
after_title d line =
    if bytes_eq line (codes "mtgui 1") then Ok (record d { stage = stage.Screen }) else Err Header

abbrev pub with_screen : Draft → ℕ → ℕ → Draft
with_screen d w h =
    record d { stage = stage.Buffers; said = record d.said { width = w; height = h } }

-- after `screen W H`
unfoldable pub after_screen : Draft → List ℕ → Result Draft Reason
after_screen d line =
    after_value (screen_in (words_of line)) Header (λ sides. with_screen d sides.0 sides.1.0)

abbrev pub with_buffers : Draft → ℕ → Draft
with_buffers d n = record d { stage = stage.Desktop; said = record d.said { buffers = n } }

-- after `buffers N`
unfoldable pub after_buffers : Draft → List ℕ → Result Draft Reason
after_buffers d line =
    after_value (buffers_in (words_of line)) Header (λ number. with_buffers d number.0)

abbrev pub with_colour : Draft → ℕ → Draft
with_colour d colour = record d { stage = stage.Body; said = with_desktop d.said colour }

-- after `desktop COLOUR`, whose colour is class 0's
unfoldable pub after_desktop : Draft → List ℕ → Result Draft Reason
after_desktop d line =
    after_value (desktop_in (words_of line)) Header (λ colour. with_colour d colour.0)

-- ---- blocks

-- a class after a line of it, which is not its last
abbrev pub class_after : Assets → Class → Option ClassLine → Result (Block × Bool) Reason
class_after assets class None = Err reason.Block
class_after assets class (Some line) =
    if may_have assets class line then Ok (block.Class (class_with class line), false)
    else Err reason.Block

-- a font after a line of it, and whether that was its last
abbrev pub font_after : List ℕ → Option fonts.Draft → Result (Block × Bool) Reason
font_after line None = Err (drawing_reason line)
font_after line (Some font) = Ok (block.Font font, fonts.is_whole font)

-- a bitmap after a line of it, and whether that was its last
abbrev pub bitmap_after : List ℕ → Option bitmaps.Draft → Result (Block × Bool) Reason
bitmap_after line None = Err (drawing_reason line)
bitmap_after line (Some bitmap) = Ok (block.Bitmap bitmap, bitmaps.is_whole bitmap)

-- a block after a line of it, and whether that was its last
unfoldable pub block_after : Assets → Block → List ℕ → Result (Block × Bool) Reason
block_after assets (block.Class class) line =
    if bytes_eq line (codes "end") then Ok (block.Class class, true)
    else class_after assets class (class_line_of (words_of line))
block_after assets (block.Font font) line = font_after line (fonts.after_line font line)
block_after assets (block.Bitmap bitmap) line = bitmap_after line (bitmaps.after_line bitmap line)

-- with what a whole block says
abbrev pub with_block : Listing → Block → Listing
with_block l (block.Class class) = with_class l class
with_block l (block.Font font) = with_font l font.font
with_block l (block.Bitmap bitmap) = with_bitmap l (bitmaps.bitmap_of bitmap)

-- the draft with a block that is open, and with one that has ended
abbrev pub opened : Draft → Block → Draft
opened d b = record d { stage = stage.Block b }

abbrev pub closed : Draft → Block → Draft
closed d b = record d { stage = stage.Body; said = with_block d.said b }

abbrev pub gone_on : Draft → Result (Block × Bool) Reason → Result Draft Reason
gone_on d (Err reason) = Err reason
gone_on d (Ok gone) = Ok (if gone.1 then closed d gone.0 else opened d gone.0)

-- after a line in this block
abbrev pub after_block : Block → Draft → List ℕ → Result Draft Reason
after_block b d line = gone_on d (block_after d.said.assets b line)

-- ---- lines after the header

-- after the line that opens the class of this number and back colour
abbrev pub after_class : Draft → Option (ℕ × Option ℕ) → Result Draft Reason
after_class d None = Err Asset
after_class d (Some class) =
    if class.0 == length d.said.assets.classes
    then Ok (opened d (block.Class (plain_class class.1))) else Err Asset

-- after the line that opens the font of this number and height
abbrev pub after_font : Draft → Option (Values font_fields) → Result Draft Reason
after_font d None = Err Asset
after_font d (Some font) =
    if font.0 == length d.said.assets.fonts
    then Ok (opened d (block.Font (fonts.start font.1.0))) else Err Asset

-- after the line that opens the bitmap of this number and sides
abbrev pub after_bitmap : Draft → Option (Values bitmap_fields) → Result Draft Reason
after_bitmap d None = Err Asset
after_bitmap d (Some bitmap) =
    if bitmap.0 == length d.said.assets.bitmaps
    then Ok (opened d (block.Bitmap (bitmaps.start bitmap.1.0 bitmap.1.1.0))) else Err Asset

-- after the string of this number and text
abbrev pub after_string : Draft → Option (ℕ × List ℕ) → Result Draft Reason
after_string d None = Err Asset
after_string d (Some string) =
    if string.0 == length d.said.assets.strings
    then Ok (record d { said = with_string d.said string.1 }) else Err Asset

-- after an asset's line that stands before the call lines
abbrev pub after_early : Draft → List ℕ → List (List ℕ) → Result Draft Reason
after_early d first words =
    if bytes_eq first (codes "class") then after_class d (class_in words)
    else if bytes_eq first (codes "font") then after_font d (font_in words)
    else if bytes_eq first (codes "bitmap") then after_bitmap d (bitmap_in words)
    else after_string d (string_in words)

-- after an asset's line, by its first word and the words after it
unfoldable pub after_asset : Draft → List ℕ → List (List ℕ) → Result Draft Reason
after_asset d first words =
    if length d.said.lines == 0 then after_early d first words else Err Late

-- after a line that is no call, by its words
abbrev pub after_other : Draft → List (List ℕ) → Result Draft Reason
after_other d [] = Err Call
after_other d (first ∷ words) =
    if is_one_of asset_words first then after_asset d first words
    else Err (call_reason first)

-- with a call line more
abbrev pub with_call : Draft → Line → Draft
with_call d line =
    record d { said = with_line d.said line; locks = locks_with d.locks line }

-- after a call line
abbrev pub after_call_line : Draft → Line → Result Draft Reason
after_call_line d line =
    if may_do d.locks line
    then (if nat_lt (count_alike line d.said.lines) 400000 then Ok (with_call d line) else Err Many)
    else Err Lock

-- after a line by the call line that it spells
abbrev pub after_call : Draft → List ℕ → Option Line → Result Draft Reason
after_call d line None = after_other d (words_of line)
after_call d line (Some call) = after_call_line d call

-- after a call line or an asset's first line
unfoldable pub after_body : Draft → List ℕ → Result Draft Reason
after_body d line = after_call d line (line_of (words_of line))

-- after a line that is no comment
abbrev pub after_words : Stage → Draft → List ℕ → Result Draft Reason
after_words stage.Title = after_title
after_words stage.Screen = after_screen
after_words stage.Buffers = after_buffers
after_words stage.Desktop = after_desktop
after_words stage.Body = after_body
after_words (stage.Block b) = after_block b

-- whether comments may stand among the lines
abbrev pub takes_comments : Stage → Bool
takes_comments (stage.Block (block.Font font)) = false
takes_comments (stage.Block (block.Bitmap bitmap)) = false
takes_comments _ = true

-- after a line, or the first reason that holds at it
unfoldable pub after_line : Draft → List ℕ → Result Draft Reason
after_line d line =
    if is_printable line
    then (if is_comment line && takes_comments d.stage then Ok d else after_words d.stage d line)
    else Err Ascii

-- ---- files

-- what stands before the next item, where there were so many lines of the header
abbrev pub before_at : ℕ → Draft → Before
before_at header d = record { header = header; said = d.said; locks = d.locks }

-- where the next line stands
abbrev pub place_at : Stage → Draft → Place
place_at stage.Title d = Between (before_at 0 d)
place_at stage.Screen d = Between (before_at 1 d)
place_at stage.Buffers d = Between (before_at 2 d)
place_at stage.Desktop d = Between (before_at 3 d)
place_at stage.Body d = Between (before_at 4 d)
place_at (stage.Block (block.Class class)) d = InClass
place_at (stage.Block (block.Font font)) d = InDrawing
place_at (stage.Block (block.Bitmap bitmap)) d = InDrawing

abbrev pub place_of : Draft → Place
place_of d = place_at d.stage d

-- the lines from line n on: the last draft, or the line that is wrong
abbrev pub from_line : ℕ → Draft → List (List ℕ) → Result Draft (ℕ × Reason)
from_line n d lines = read_from after_line (λ e. why_cut (place_of e)) n d lines

-- all lines, in order: the fault is the first one
unfoldable pub read_of : List ℕ → Result Draft (ℕ × Reason)
read_of file =
    if nat_le (length file) 100663296 then from_line 1 empty_draft (lines_of file)
    else Err (0, TooLarge)

-- ---- what the program gives

-- what the program's draft says
abbrev pub draft_of : DraftOfProgram → Draft
draft_of d =
    record {
      stage = d.stage;
      said = record {
        width = d.width;
        height = d.height;
        buffers = d.buffers;
        desktop = d.desktop;
        assets = d.assets;
        lines = d.lines;
      };
      locks = d.locks;
    }

-- an open font or bitmap is the beginning of one
abbrev pub IsBlock : Block → Type 0
IsBlock (block.Class class) = Unit {0}
IsBlock (block.Font font) = fonts.IsDraft font
IsBlock (block.Bitmap bitmap) = bitmaps.IsDraft bitmap

abbrev pub IsStage : Stage → Type 0
IsStage (stage.Block b) = IsBlock b
IsStage _ = Unit {0}

abbrev pub IsDraft : Draft → Type 0
IsDraft d = IsStage d.stage

-- a block that may end: all its lines were read
abbrev pub IsClosed : Block → Type 0
IsClosed (block.Class class) = Unit {0}
IsClosed (block.Font font) = font.place ≡ font_place.After
IsClosed (block.Bitmap bitmap) = bitmaps.IsDraft bitmap × (bitmap.place ≡ bitmap_place.AfterEnd)

abbrev pub MayClose : Stage → Type 0
MayClose (stage.Block b) = IsClosed b
MayClose _ = Unit {0}

-- what taking a line of a block returned, and left
abbrev pub TakesBlock : Result Bool LineError → Block → Result (Block × Bool) Reason → Type 0
TakesBlock (Ok whole) new read = read ≡ Ok (new, whole)
TakesBlock (Err line_error.Memory) new read = Unit {0}
TakesBlock (Err (line_error.Wrong reason)) new read = read ≡ Err reason

-- what taking a line returned, and left
abbrev pub Takes : Result (Unit {0}) LineError → DraftOfProgram → Result Draft Reason → Type 0
Takes (Ok _) new read = read ≡ Ok (draft_of new)
Takes (Err line_error.Memory) new read = Unit {0}
Takes (Err (line_error.Wrong reason)) new read = read ≡ Err reason

-- what was read is the script of the draft
abbrev pub Reads : Script → Result Draft (ℕ × Reason) → Type 0
Reads s read = (d : Draft) × (read ≡ Ok d) × (s ≡ script_for d.said)

-- A fault is what the file says; without memory nothing is said.
abbrev pub Says : Result Draft (ℕ × Reason) → ScriptRefused → Type 0
Says read read_error.Memory = Unit {0}
Says read (read_error.Fault fault) = read ≡ Err (fault.line, fault.why)
