-- What a script says, and which files are scripts.
use Rattle.std.specs.Prelude.{◌≡◌, ℕ, Option, ◌+◌, ◌-◌, ◌≤◌, ◌==◌, slice_index, slice_set, replicate, Bool, true, ◌&&◌, List, [], ◌∷◌, ◌++◌, length, Some, nat_lt, codes}
use Rattle.std.specs.List.{AllByRecursion, list_all}
use Rattle.glyph_font.specs.Fonts.{Font, IsFont}
use Rattle.glyph_font.specs.Texts.{font_lines}
use Rattle.bitmap.specs.Bitmaps.{Bitmap}
use Rattle.bitmap.specs.Texts.{AreLinesOf}
use Rattle.paint_ops.specs.declared.op.Op.{Op}
use Rattle.paint_ops.specs.declared.op.Op.TheVariants as op
use Rattle.paint_ops.specs.Kinds.{Class, Assets}
use Rattle.paint_ops.specs.Soundness.{IsSound}
use Rattle.paint_ops.specs.Texts.{IsText}
use Rattle.class_lines.specs.declared.line.ClassLine.{ClassLine}
use Rattle.class_lines.specs.declared.line.ClassLine.TheVariants.{Operation, Reaction}
use Rattle.class_lines.specs.Words.{text_of_class_line, ClassLineFits}
use Rattle.calls.specs.declared.config.Config.{Config}
use Rattle.calls.specs.declared.line.Line.{Line}
use Rattle.calls.specs.declared.line.Act.{Act}
use Rattle.calls.specs.declared.line.Act.TheVariants as act
use Rattle.calls.specs.declared.line.Line.TheVariants.{Task, Tick}
use Rattle.calls.specs.Lines.{FitsItsTask, call_count, tick_count}
use Rattle.calls.specs.Words.{text_of_line, LineFits}
use Rattle.spelling.specs.Parts.{lines_of, is_printable}
use Rattle.spelling.specs.Fields.{AreIn, text_with}
use Rattle.spelling.specs.Items.{AreItems, all_after}
use Rattle.script_lines.specs.Counts.{count_alike}
use Rattle.script_lines.specs.Texts.{HeadFits, bitmap_fields, bitmap_text, buffers_fields, class_text, desktop_fields, font_fields, font_text, screen_fields, string_text}

-- ---- what items say

-- the screen's sides and its number of buffers, the desktop's colour, what windows paint with, and
-- the call lines
pub record Listing : Type 0 where
  pub width : ℕ
  pub height : ℕ
  pub buffers : ℕ
  pub desktop : ℕ
  pub assets : Assets
  pub lines : List Line

abbrev pub no_assets : Assets
no_assets = record { classes = []; fonts = []; bitmaps = []; strings = [] }

abbrev pub empty_listing : Listing
empty_listing =
    record { width = 0; height = 0; buffers = 0; desktop = 0; assets = no_assets; lines = [] }

-- the class that has a back colour alone, or nothing
abbrev pub plain_class : Option ℕ → Class
plain_class back = record { back = back; ops = []; reactions = [] }

-- with a class more
abbrev pub with_class : Listing → Class → Listing
with_class l class =
    record l { assets = record l.assets { classes = l.assets.classes ++ class ∷ [] } }

-- with a font more
abbrev pub with_font : Listing → Font → Listing
with_font l font = record l { assets = record l.assets { fonts = l.assets.fonts ++ font ∷ [] } }

-- with a bitmap more
abbrev pub with_bitmap : Listing → Bitmap → Listing
with_bitmap l bitmap =
    record l { assets = record l.assets { bitmaps = l.assets.bitmaps ++ bitmap ∷ [] } }

-- with a string more
abbrev pub with_string : Listing → List ℕ → Listing
with_string l text =
    record l { assets = record l.assets { strings = l.assets.strings ++ text ∷ [] } }

-- with a call line more
abbrev pub with_line : Listing → Line → Listing
with_line l line = record l { lines = l.lines ++ line ∷ [] }

-- ---- a class's body

-- with an operation or a reaction more
abbrev pub class_with : Class → ClassLine → Class
class_with class (Operation o) = record class { ops = class.ops ++ o ∷ [] }
class_with class (Reaction r) = record class { reactions = class.reactions ++ r ∷ [] }

-- the font, the bitmap and the string that an operation names are there
abbrev pub are_there : Assets → Op → Bool
are_there assets (op.Bitmap bitmap x y) = nat_lt bitmap (length assets.bitmaps)
are_there assets (op.Text font x y colour string) =
    nat_lt font (length assets.fonts) && nat_lt string (length assets.strings)
are_there assets (op.Number font x y colour num) = nat_lt font (length assets.fonts)
are_there assets _ = true

-- a class has at most 64 operations and at most 16 reactions
abbrev pub may_have : Assets → Class → ClassLine → Bool
may_have assets class (Operation o) = nat_lt (length class.ops) 64 && are_there assets o
may_have assets class (Reaction r) = nat_lt (length class.reactions) 16

-- a line of a class that stands where these assets do, after what the class has already
pub record IsClassLine (assets : Assets) (class : Class) (line : ClassLine)
    (block : List (List ℕ)) : Type 0 where
  pub room : may_have assets class line ≡ true
  pub fits : ClassLineFits line
  pub spelled : block ≡ text_of_class_line line ∷ []

-- the lines of a class with this back colour, with comments between them
abbrev pub AreClassLines : Assets → Option ℕ → List ClassLine → List (List ℕ) → Type 0
AreClassLines assets back lines body =
    AreItems (IsClassLine assets) class_with (plain_class back) lines body

-- the class of these lines
abbrev pub class_of : Option ℕ → List ClassLine → Class
class_of back lines = all_after class_with (plain_class back) lines

-- ---- the lock

-- how many locks of a task are open, of all tasks from 0 to 16
abbrev pub open_locks : List ℕ → ℕ → ℕ
open_locks locks task = slice_index locks task

-- a task that holds the lock so many times may do that: it holds it 100 times over at most, and
-- gives back what it holds
abbrev pub may_act_with : ℕ → Act → Bool
may_act_with count (act.Call call) = true
may_act_with count act.Lock = nat_lt count 100
may_act_with count act.Unlock = nat_lt 0 count

-- the open locks after that
abbrev pub locks_after : List ℕ → ℕ → Act → List ℕ
locks_after locks task (act.Call call) = locks
locks_after locks task act.Lock = slice_set locks task (open_locks locks task + 1)
locks_after locks task act.Unlock = slice_set locks task (open_locks locks task - 1)

-- the same of a line; a tick needs no lock
abbrev pub may_do : List ℕ → Line → Bool
may_do locks (Task task a) = may_act_with (open_locks locks task) a
may_do locks Tick = true

abbrev pub locks_with : List ℕ → Line → List ℕ
locks_with locks (Task task a) = locks_after locks task a
locks_with locks Tick = locks

-- no task holds the lock
abbrev pub no_locks : List ℕ
no_locks = replicate 17 0

-- whether none does
unfoldable pub are_free : List ℕ → Bool
are_free locks = list_all (λ n. n == 0) locks

-- ---- items

-- the header's four lines, and what follows them: fonts, bitmaps, strings, classes by their back
-- colours and lines, and call lines
pub data Item : Type 0 where
  Title : Item
  Screen : ℕ → ℕ → Item
  Buffers : ℕ → Item
  Desktop : ℕ → Item
  FontOf : Font → Item
  BitmapOf : Bitmap → Item
  StringOf : List ℕ → Item
  ClassOf : Option ℕ → List ClassLine → Item
  CallOf : Line → Item

-- what stands before an item: how many lines of the header, what the items say, and which locks
-- are open
pub record Before : Type 0 where
  pub header : ℕ
  pub said : Listing
  pub locks : List ℕ

abbrev pub nothing : Before
nothing = record { header = 0; said = empty_listing; locks = no_locks }

-- the desktop's class is the first one
abbrev pub with_desktop : Listing → ℕ → Listing
with_desktop l colour = with_class (record l { desktop = colour }) (plain_class (Some colour))

abbrev pub after : Before → Item → Before
after b Title = record b { header = 1 }
after b (Screen w h) = record b { header = 2; said = record b.said { width = w; height = h } }
after b (Buffers n) = record b { header = 3; said = record b.said { buffers = n } }
after b (Desktop colour) = record b { header = 4; said = with_desktop b.said colour }
after b (FontOf font) = record b { said = with_font b.said font }
after b (BitmapOf bitmap) = record b { said = with_bitmap b.said bitmap }
after b (StringOf text) = record b { said = with_string b.said text }
after b (ClassOf back lines) = record b { said = with_class b.said (class_of back lines) }
after b (CallOf line) =
    record b { said = with_line b.said line; locks = locks_with b.locks line }

-- what stands after items
abbrev pub after_items : List Item → Before
after_items items = all_after after nothing items

-- what items say
abbrev pub listing_of : List Item → Listing
listing_of items = (after_items items).said

-- fonts, bitmaps, strings and classes stand after the header and before the call lines
pub record IsEarly (b : Before) : Type 0 where
  pub header : b.header ≡ 4
  pub none : length b.said.lines ≡ 0

-- one line of the header, at its place
abbrev pub IsHeader : Before → ℕ → List (List ℕ) → List ℕ → Type 0
IsHeader b place block line = (b.header ≡ place) × (block ≡ line ∷ [])

-- a font's first line, and its own lines to `end`; no comment stands among them
pub record IsFontBlock (b : Before) (font : Font) (block : List (List ℕ)) : Type 0 where
  pub early : IsEarly b
  pub counted : AreIn font_fields (length b.said.assets.fonts, (font.height, tt))
  pub is : IsFont font
  pub spelled : block ≡ font_text (length b.said.assets.fonts) font.height ∷ font_lines font

-- a bitmap's first line, and its own lines to `end`; no comment stands among them
pub record IsBitmapBlock (b : Before) (bitmap : Bitmap) (block : List (List ℕ)) : Type 0 where
  pub early : IsEarly b
  pub counted : AreIn bitmap_fields
      (length b.said.assets.bitmaps, (bitmap.width, (bitmap.height, tt)))
  pub body : List (List ℕ)
  pub are : AreLinesOf bitmap.width bitmap.height body bitmap
  pub spelled :
      block ≡ bitmap_text (length b.said.assets.bitmaps) bitmap.width bitmap.height ∷ body

-- a string's line
pub record IsStringBlock (b : Before) (text : List ℕ) (block : List (List ℕ)) : Type 0 where
  pub early : IsEarly b
  pub counted : length b.said.assets.strings ≤ 255
  pub is : IsText text
  pub spelled : block ≡ string_text (length b.said.assets.strings) text ∷ []

-- a class's first line, its lines with comments between them, and `end`
pub record IsClassBlock (b : Before) (back : Option ℕ) (lines : List ClassLine)
    (block : List (List ℕ)) : Type 0 where
  pub early : IsEarly b
  pub counted : HeadFits (length b.said.assets.classes) back
  pub body : List (List ℕ)
  pub are : AreClassLines b.said.assets back lines body
  pub spelled : block ≡ class_text (length b.said.assets.classes) back ∷ body ++ codes "end" ∷ []

-- a call line: after the header, one of at most 400,000 of its kind, and what the locks allow
pub record IsCallBlock (b : Before) (line : Line) (block : List (List ℕ)) : Type 0 where
  pub header : b.header ≡ 4
  pub may : may_do b.locks line ≡ true
  pub few : count_alike line b.said.lines + 1 ≤ 400000
  pub fits : LineFits line
  pub spelled : block ≡ text_of_line line ∷ []

-- the lines are this item
abbrev pub Spells : Before → Item → List (List ℕ) → Type 0
Spells b Title block = IsHeader b 0 block (codes "mtgui 1")
Spells b (Screen w h) block =
    IsHeader b 1 block (text_with (codes "screen") screen_fields (w, (h, tt)))
    × AreIn screen_fields (w, (h, tt))
Spells b (Buffers n) block =
    IsHeader b 2 block (text_with (codes "buffers") buffers_fields (n, tt))
    × AreIn buffers_fields (n, tt)
Spells b (Desktop colour) block =
    IsHeader b 3 block (text_with (codes "desktop") desktop_fields (colour, tt))
    × AreIn desktop_fields (colour, tt)
Spells b (FontOf font) block = IsFontBlock b font block
Spells b (BitmapOf bitmap) block = IsBitmapBlock b bitmap block
Spells b (StringOf text) block = IsStringBlock b text block
Spells b (ClassOf back lines) block = IsClassBlock b back lines block
Spells b (CallOf line) block = IsCallBlock b line block

-- the lines are these items, with comments between them
abbrev pub AreItemsOf : List Item → List (List ℕ) → Type 0
AreItemsOf items lines = AreItems Spells after nothing items lines

-- ---- scripts

-- what the core is opened with, what its windows paint with, and the call lines
pub record Script : Type 0 where
  pub config : Config
  pub assets : Assets
  pub lines : List Line

-- the script of what items say, with room for as many calls as its lines ask for
abbrev pub script_for : Listing → Script
script_for l = record {
  config = record {
    w = l.width;
    h = l.height;
    buffers = l.buffers;
    desktop = l.desktop;
    calls = call_count l.lines;
  };
  assets = l.assets;
  lines = l.lines;
}

-- the file's lines are items, the whole header among them, which leave no lock open, and they make
-- this script
pub record IsScript (file : List ℕ) (s : Script) : Type 0 where
  pub items : List Item
  pub printable : AllByRecursion (λ line. is_printable line ≡ true) (lines_of file)
  pub spelled : AreItemsOf items (lines_of file)
  pub header : (after_items items).header ≡ 4
  pub free : are_free (after_items items).locks ≡ true
  pub short : length file ≤ 100663296
  pub is : s ≡ script_for (listing_of items)

-- the file is no script
abbrev pub IsNoScript : List ℕ → Type 0
IsNoScript file = (s : Script) → IsScript file s → ⊥

-- a script's numbers lie in their ranges, its assets are sound, and its tasks may make their calls
pub record IsReady (s : Script) : Type 0 where
  pub width : (1 ≤ s.config.w) × (s.config.w ≤ 1024)
  pub height : (1 ≤ s.config.h) × (s.config.h ≤ 768)
  pub buffers : (1 ≤ s.config.buffers) × (s.config.buffers ≤ 3)
  pub calls : s.config.calls ≡ call_count s.lines
  pub few_calls : call_count s.lines ≤ 400000
  pub few_ticks : tick_count s.lines ≤ 400000
  pub few_lines : length s.lines ≤ 800000
  pub has_desktop : 1 ≤ length s.assets.classes
  pub assets : IsSound s.assets
  pub lines : AllByRecursion FitsItsTask s.lines
