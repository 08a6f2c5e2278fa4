-- Two small scripts, and the lines of their files.
use Rattle.std.specs.Prelude.{ℕ, pos, List, [], ◌∷◌, ◌++◌, Some, codes}
use Rattle.gfx_base.specs.declared.num.Base.TheVariants.{Zero}
use Rattle.gfx_base.specs.declared.num.Num.{Num}
use Rattle.glyph_font.specs.Examples.{single, single_lines}
use Rattle.bitmap.specs.Examples.{dotted}
use Rattle.paint_ops.specs.declared.op.Op.TheVariants as op
use Rattle.paint_ops.specs.Kinds.{Class, Assets}
use Rattle.class_lines.specs.declared.line.ClassLine.{ClassLine}
use Rattle.class_lines.specs.declared.line.ClassLine.TheVariants.{Operation}
use Rattle.calls.specs.declared.call.Call.{Call}
use Rattle.calls.specs.declared.call.Call.TheVariants.{Create, Begin, End, Exec}
use Rattle.calls.specs.declared.line.Act.TheVariants as act
use Rattle.calls.specs.declared.line.Line.{Line}
use Rattle.calls.specs.declared.line.Line.TheVariants.{Task, Tick}
use Rattle.script.specs.Scripts.{Item, Title, Screen, Buffers, Desktop, FontOf, BitmapOf, StringOf, ClassOf, CallOf, Listing, no_assets, plain_class}

-- a call of task 1
abbrev pub by_task_1 : Call → Line
by_task_1 call = Task 1 (act.Call call)

abbrev pub corner : Num
corner = record { base = Zero; plus = pos 0 }

-- the string in its font, in the window's corner
abbrev pub greeting : ClassLine
greeting = Operation (op.Text 0 corner corner 255 0)

abbrev pub greeter : Class
greeter = record {
  back = Some 255;
  ops = op.Text 0 corner corner 255 0 ∷ [];
  reactions = [];
}

abbrev pub small_assets : Assets
small_assets = record {
  classes = plain_class (Some 0) ∷ greeter ∷ [];
  fonts = single ∷ [];
  bitmaps = dotted ∷ [];
  strings = codes "A A" ∷ [];
}

-- task 2 holds the lock while it paints two windows
abbrev pub small_call_lines : List Line
small_call_lines =
    by_task_1 (Create 1 (pos 0) (pos 0) 0 1 1) ∷ by_task_1 (Create 1 (pos 0) (pos 0) 1 1 7)
    ∷ Task 2 act.Lock ∷ Task 2 (act.Call Exec) ∷ Task 2 act.Unlock ∷ []

abbrev pub small_listing : Listing
small_listing = record {
  width = 2;
  height = 1;
  buffers = 1;
  desktop = 0;
  assets = small_assets;
  lines = small_call_lines;
}

-- the items that say so
abbrev pub small_items : List Item
small_items =
    Title ∷ Screen 2 1 ∷ Buffers 1 ∷ Desktop 0 ∷ FontOf single ∷ BitmapOf dotted
    ∷ StringOf (codes "A A") ∷ ClassOf (Some 255) (greeting ∷ [])
    ∷ CallOf (by_task_1 (Create 1 (pos 0) (pos 0) 0 1 1))
    ∷ CallOf (by_task_1 (Create 1 (pos 0) (pos 0) 1 1 7)) ∷ CallOf (Task 2 act.Lock)
    ∷ CallOf (Task 2 (act.Call Exec)) ∷ CallOf (Task 2 act.Unlock) ∷ []

-- the lines of that script's file, with comments
abbrev pub calls_text : List (List ℕ)
calls_text =
    codes "1 create 1 0 0 0 1 1" ∷ codes "1 create 1 0 0 1 1 7" ∷ codes "2 lock" ∷ codes "2 exec"
    ∷ codes "2 unlock" ∷ []

abbrev pub class_lines_text : List (List ℕ)
class_lines_text =
    codes "class 1 0000FF" ∷ codes "" ∷ codes "text 0 0 0 0000FF 0" ∷ codes "end" ∷ calls_text

abbrev pub assets_text : List (List ℕ)
assets_text =
    codes "font 0 1" ∷ single_lines ++ codes "bitmap 0 3 1" ∷ codes "FF0000 -*2" ∷ codes "end"
    ∷ codes "string 0 A A" ∷ class_lines_text

abbrev pub small_lines : List (List ℕ)
small_lines =
    codes "mtgui 1" ∷ codes "# a small screen" ∷ codes "screen 2 1" ∷ codes "buffers 1"
    ∷ codes "desktop 000000" ∷ assets_text

-- ---- a script of two buffers without assets

-- the display shows what task 1 drew, which holds the lock meanwhile
abbrev pub tick_call_lines : List Line
tick_call_lines =
    Task 1 act.Lock ∷ by_task_1 Begin ∷ by_task_1 End ∷ Tick ∷ Task 1 act.Unlock ∷ []

abbrev pub tick_listing : Listing
tick_listing = record {
  width = 2;
  height = 1;
  buffers = 2;
  desktop = 0;
  assets = record no_assets { classes = plain_class (Some 0) ∷ [] };
  lines = tick_call_lines;
}

abbrev pub tick_items : List Item
tick_items =
    Title ∷ Screen 2 1 ∷ Buffers 2 ∷ Desktop 0 ∷ CallOf (Task 1 act.Lock)
    ∷ CallOf (by_task_1 Begin) ∷ CallOf (by_task_1 End) ∷ CallOf Tick
    ∷ CallOf (Task 1 act.Unlock) ∷ []

abbrev pub tick_lines : List (List ℕ)
tick_lines =
    codes "mtgui 1" ∷ codes "screen 2 1" ∷ codes "buffers 2" ∷ codes "desktop 000000"
    ∷ codes "1 lock" ∷ codes "1 begin" ∷ codes "1 end" ∷ codes "display tick" ∷ codes "1 unlock"
    ∷ []
