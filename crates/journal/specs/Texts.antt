-- The texts that are written: a picture's, the answers to calls, the summary and a fault's line.
use Rattle.std.specs.Prelude.{ℕ, ◌+◌, Bool, List, [], ◌∷◌, ◌++◌, map, Option, Some, None, ◌==◌, if◌then◌else◌, bytes_eq, codes, decimal}
use Rattle.std.specs.List.{join_with_byte}
use Rattle.spelling.specs.Digits.{hex_colour}
use Rattle.calls.specs.declared.call.Call.{Call}
use Rattle.calls.specs.declared.call.Call.TheVariants.{Scan}
use Rattle.calls.specs.declared.reply.Refusal.{Refusal}
use Rattle.calls.specs.declared.reply.Refusal.TheVariants.{NoWindow, Desktop, BadSize, TooManyWindows, TooDeep, NoClass, NoValue, NoFont, ContextDepth, NoContext, NoBitmap, NoText, NoDevice, TooManyDevices, NotOpen, OpenDepth, Waiting, Full, Memory}
use Rattle.calls.specs.declared.reply.Reply.{Reply}
use Rattle.calls.specs.declared.reply.Reply.TheVariants.{Done, Handle, Jobs, Device, Refused}
use Rattle.frame.specs.Pictures.{Picture, rows_of}

-- the runs after a point before them: it belongs to the first run if that has its colour
abbrev pub add_point : ℕ → List (ℕ × ℕ) → List (ℕ × ℕ)
add_point c [] = (c, 1) ∷ []
add_point c (run ∷ rest) = if run.0 == c then (c, run.1 + 1) ∷ rest else (c, 1) ∷ run ∷ rest

-- the longest runs of points of one colour, from the left: the colour and how many points
abbrev pub runs : List ℕ → List (ℕ × ℕ)
runs [] = []
runs (c ∷ cs) = add_point c (runs cs)

-- `RRGGBB` for one point, and `RRGGBB*n` for more
unfoldable pub run_text : ℕ × ℕ → List ℕ
run_text run =
    if run.1 == 1 then hex_colour run.0 else hex_colour run.0 ++ codes "*" ++ decimal run.1

-- a row's line that names its runs, parted by single spaces
unfoldable pub points_line : List ℕ → List ℕ
points_line row = join_with_byte 32 (map run_text (runs row)) ++ codes "\n"

-- the line of a row below that one: `=` where both are the same
abbrev pub row_line : Option (List ℕ) → List ℕ → List ℕ
row_line None row = points_line row
row_line (Some above) row = if bytes_eq above row then codes "=\n" else points_line row

-- the lines of rows, of which the first lies below that one
abbrev pub row_lines : Option (List ℕ) → List (List ℕ) → List ℕ
row_lines above [] = []
row_lines above (row ∷ rows) = row_line above row ++ row_lines (Some row) rows

-- the first line of a picture's text
abbrev pub frame_header : Picture → List ℕ
frame_header p =
    codes "frame " ++ decimal p.width ++ codes " " ++ decimal p.height ++ codes "\n"

-- the text of a picture: its sides, and its rows from the top
unfoldable pub frame_text : Picture → List ℕ
frame_text p = frame_header p ++ row_lines None (rows_of p)

-- the line that refuses a call
abbrev pub refusal_text : Refusal → List ℕ
refusal_text (NoWindow handle) = codes "refused NoWindow " ++ decimal handle ++ codes "\n"
refusal_text Desktop = codes "refused Desktop\n"
refusal_text BadSize = codes "refused BadSize\n"
refusal_text TooManyWindows = codes "refused TooManyWindows\n"
refusal_text TooDeep = codes "refused TooDeep\n"
refusal_text (NoClass class) = codes "refused NoClass " ++ decimal class ++ codes "\n"
refusal_text (NoValue index) = codes "refused NoValue " ++ decimal index ++ codes "\n"
refusal_text (NoFont font) = codes "refused NoFont " ++ decimal font ++ codes "\n"
refusal_text ContextDepth = codes "refused ContextDepth\n"
refusal_text NoContext = codes "refused NoContext\n"
refusal_text (NoBitmap bitmap) = codes "refused NoBitmap " ++ decimal bitmap ++ codes "\n"
refusal_text (NoText string) = codes "refused NoText " ++ decimal string ++ codes "\n"
refusal_text (NoDevice device) = codes "refused NoDevice " ++ decimal device ++ codes "\n"
refusal_text TooManyDevices = codes "refused TooManyDevices\n"
refusal_text NotOpen = codes "refused NotOpen\n"
refusal_text OpenDepth = codes "refused OpenDepth\n"
refusal_text (Waiting switch) = codes "refused Waiting " ++ decimal switch ++ codes "\n"
refusal_text Full = codes "refused Full\n"
refusal_text Memory = codes "refused Memory\n"

-- the answer where a call is done: a scan's is the shown picture
abbrev pub done_text : Call → Picture → List ℕ
done_text Scan shown = frame_text shown
done_text call shown = codes "ok\n"

-- the answer to a call, after which that picture is shown
abbrev pub reply_text : Call → Reply → Picture → List ℕ
reply_text call Done shown = done_text call shown
reply_text call (Handle handle) shown = codes "ok " ++ decimal handle ++ codes "\n"
reply_text call (Jobs count) shown = codes "ok " ++ decimal count ++ codes "\n"
reply_text call (Device device) shown = codes "ok " ++ decimal device ++ codes "\n"
reply_text call (Refused refusal) shown = refusal_text refusal

-- the line of a tick, by whether a buffer was confirmed
abbrev pub tick_text : Bool → List ℕ
tick_text shown = if shown then codes "shown\n" else codes "nothing\n"

-- the line after the last answer: how many calls there were, how many of them were refused, how
-- many pictures were shown, and how many windows live
abbrev pub summary_text : ℕ → ℕ → ℕ → ℕ → List ℕ
summary_text calls refused shown windows =
    codes "done calls " ++ decimal calls ++ codes " refused " ++ decimal refused
    ++ codes " shown " ++ decimal shown ++ codes " windows " ++ decimal windows ++ codes "\n"

-- the line for a script's fault
abbrev pub fault_text : ℕ → List ℕ → List ℕ
fault_text line reason = codes "fault " ++ decimal line ++ codes " " ++ reason ++ codes "\n"
