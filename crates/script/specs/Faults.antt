-- The first fault of a file, by the items before it. No function that reads stands in it.
use Rattle.std.specs.Prelude.{◌≡◌, ◌⊎◌, ℕ, ◌<◌, ◌≤◌, Bool, true, false, ◌&&◌, List, ◌∷◌, ◌++◌, length, Option, Some, None, ◌==◌, if◌then◌else◌}
use Rattle.std.specs.List.{AllByRecursion}
use Rattle.spelling.specs.Parts.{lines_of, is_printable}
use Rattle.spelling.specs.Words.{words_of}
use Rattle.spelling.specs.Fields.{AreIn}
use Rattle.spelling.specs.FirstFaults.{IsFirst, IsFirstFault}
use Rattle.glyph_font.specs.declared.place.Place.{Place as FontPlace}
use Rattle.glyph_font.specs.declared.place.Place.TheVariants as font_place
use Rattle.glyph_font.specs.Faults as fonts
use Rattle.bitmap.specs.declared.place.Place.{Place as BitmapPlace}
use Rattle.bitmap.specs.declared.place.Place.TheVariants as bitmap_place
use Rattle.bitmap.specs.Faults as bitmaps
use Rattle.class_lines.specs.declared.line.ClassLine.{ClassLine}
use Rattle.calls.specs.declared.line.Line.{Line}
use Rattle.calls.specs.Words.{text_of_line, LineFits}
use Rattle.script.specs.declared.fault.Reason.{Reason}
use Rattle.script.specs.declared.fault.Reason.TheVariants as reason
use Rattle.script.specs.declared.fault.ScriptFault.{ScriptFault}
use Rattle.script.specs.declared.fault.ScriptRefused.{ScriptRefused}
use Rattle.script.specs.declared.fault.ScriptRefused.TheVariants as read_error
use Rattle.script.specs.Later.{begins_with_one_of, asset_words, later_words}
use Rattle.script.specs.Scripts.{Item, Before, IsEarly, AreClassLines, may_do, are_free, after_items, AreItemsOf}
use Rattle.script_lines.specs.Texts.{class_text, font_fields, font_text, bitmap_fields, bitmap_text, HeadFits}

-- ---- where a line stands

-- between items, after what stands before; in a class; or in a font or a bitmap
pub data Place : Type 0 where
  Between : Before → Place
  InClass : Place
  InDrawing : Place

-- whole items, and what stands after them
pub record AreWhole (lines : List (List ℕ)) (b : Before) : Type 0 where
  pub items : List Item
  pub spelled : AreItemsOf items lines
  pub before : after_items items ≡ b

-- the first line of a class that may be opened there, and lines of it
pub record OpensClass (b : Before) (block : List (List ℕ)) : Type 0 where
  pub back : Option ℕ
  pub counted : HeadFits (length b.said.assets.classes) back
  pub lines : List ClassLine
  pub body : List (List ℕ)
  pub are : AreClassLines b.said.assets back lines body
  pub spelled : block ≡ class_text (length b.said.assets.classes) back ∷ body

-- the first line of a font that may be opened there, and its first lines, without `end`
pub record OpensFont (b : Before) (block : List (List ℕ)) : Type 0 where
  pub height : ℕ
  pub counted : AreIn font_fields (length b.said.assets.fonts, (height, tt))
  pub body : List (List ℕ)
  pub place : FontPlace
  pub are : fonts.IsPrefix height body place
  pub open_ : place ≡ font_place.After → ⊥
  pub spelled : block ≡ font_text (length b.said.assets.fonts) height ∷ body

-- the first line of a bitmap that may be opened there, and its first lines, without `end`
pub record OpensBitmap (b : Before) (block : List (List ℕ)) : Type 0 where
  pub width : ℕ
  pub height : ℕ
  pub counted : AreIn bitmap_fields (length b.said.assets.bitmaps, (width, (height, tt)))
  pub body : List (List ℕ)
  pub place : BitmapPlace
  pub are : bitmaps.IsPrefix width height body place
  pub open_ : place ≡ bitmap_place.AfterEnd → ⊥
  pub spelled : block ≡ bitmap_text (length b.said.assets.bitmaps) width height ∷ body

abbrev pub OpensDrawing : Before → List (List ℕ) → Type 0
OpensDrawing b block = OpensFont b block ⊎ OpensBitmap b block

-- whole items, and then the first lines of a block that may be opened there
pub record AreOpen (Opens : Before → List (List ℕ) → Type 0) (lines : List (List ℕ)) : Type 0 where
  pub prefix : List (List ℕ)
  pub before : Before
  pub whole : AreWhole prefix before
  pub early : IsEarly before
  pub block : List (List ℕ)
  pub opens : Opens before block
  pub spelled : lines ≡ prefix ++ block

abbrev pub StandsAt : List (List ℕ) → Place → Type 0
StandsAt lines (Between b) = AreWhole lines b
StandsAt lines InClass = AreOpen OpensClass lines
StandsAt lines InDrawing = AreOpen OpensDrawing lines

-- the lines are the first ones of a script, and after them stands this place
abbrev pub IsPrefix : List (List ℕ) → Place → Type 0
IsPrefix lines place =
    AllByRecursion (λ line. is_printable line ≡ true) lines × StandsAt lines place

-- ---- forms that aren't built

-- the first word is that of such a form
abbrev pub is_later_form : List ℕ → Bool
is_later_form line = begins_with_one_of later_words (words_of line)

-- lines of the header and of classes are never of such forms
abbrev pub is_later : Place → List ℕ → Bool
is_later (Between b) line = b.header == 4 && is_later_form line
is_later InClass line = false
is_later InDrawing line = is_later_form line

-- ---- reasons

-- the line is a call line
abbrev pub IsCallLine : List ℕ → Type 0
IsCallLine text = (line : Line) × LineFits line × (text ≡ text_of_line line)

-- the line is a call line, and the locks don't allow it
abbrev pub IsBarred : List ℕ → List ℕ → Type 0
IsBarred locks text =
    (line : Line) × LineFits line × (text ≡ text_of_line line) × (may_do locks line ≡ false)

-- the first word is one of them
abbrev pub opens_asset : List ℕ → Bool
opens_asset line = begins_with_one_of asset_words (words_of line)

-- The reason may be held against a line that makes no longer prefix. So the line is known not to be
-- the one that belongs at its place.
abbrev pub HoldsBetween : Before → List ℕ → Reason → Type 0
HoldsBetween b line reason.Header = b.header < 4
HoldsBetween b line reason.Late =
    (b.header ≡ 4) × (opens_asset line ≡ true) × (0 < length b.said.lines)
HoldsBetween b line reason.Asset = (b.header ≡ 4) × (opens_asset line ≡ true)
HoldsBetween b line reason.Call = (b.header ≡ 4) × (IsCallLine line → ⊥)
HoldsBetween b line reason.Lock = (b.header ≡ 4) × IsBarred b.locks line
HoldsBetween b line reason.Many = (b.header ≡ 4) × IsCallLine line
HoldsBetween b line _ = ⊥

abbrev pub HoldsInBlock : Reason → Type 0
HoldsInBlock reason.Block = Unit {0}
HoldsInBlock _ = ⊥

abbrev pub HoldsAt : Place → List ℕ → Reason → Type 0
HoldsAt (Between b) line why = HoldsBetween b line why
HoldsAt InClass line why = HoldsInBlock why
HoldsAt InDrawing line why = HoldsInBlock why

abbrev pub Holds : Place → List ℕ → Reason → Type 0
Holds place line reason.Ascii = is_printable line ≡ false
Holds place line reason.Later = is_later place line ≡ true
Holds place line why = HoldsAt place line why

-- the order of the reasons
abbrev pub rank : Reason → ℕ
rank reason.TooLarge = 0
rank reason.Ascii = 1
rank reason.Later = 2
rank reason.Header = 3
rank reason.Block = 4
rank reason.Late = 5
rank reason.Asset = 6
rank reason.Call = 7
rank reason.Lock = 8
rank reason.Many = 9
rank reason.End = 10

-- the first reason that holds
abbrev pub Why : Place → List ℕ → Reason → Type 0
Why place line why = IsFirst rank (Holds place line) why

-- the file may end after the whole header, outside blocks, where no lock is open
abbrev pub why_cut : Place → Option Reason
why_cut (Between b) = if b.header == 4 && are_free b.locks then None else Some reason.End
why_cut InClass = Some reason.End
why_cut InDrawing = Some reason.End

-- ---- faults

-- more bytes than a script may have
abbrev pub IsTooLarge : List ℕ → Type 0
IsTooLarge file = 100663296 < length file

-- the fault of a file
abbrev pub IsFault : List ℕ → ScriptFault → Type 0
IsFault file fault =
    (IsTooLarge file × (fault ≡ record { line = 0; why = reason.TooLarge }))
    ⊎ ((length file ≤ 100663296)
    × IsFirstFault IsPrefix Why why_cut (lines_of file) fault.line fault.why)

-- an error of reading is the file's fault; without memory nothing is said
abbrev pub IsError : List ℕ → ScriptRefused → Type 0
IsError file read_error.Memory = Unit {0}
IsError file (read_error.Fault fault) = IsFault file fault
