-- The table of the words that name calls, and the lines that they make.
use Rattle.std.specs.Prelude.{ℕ, ◌≤◌, Bool, false, ◌&&◌, List, [], ◌∷◌, length, Option, Some, None, ◌==◌, if◌then◌else◌, find, bytes_eq, codes}
use Rattle.std.specs.Fmt.{decimal}
use Rattle.spelling.specs.Words.{◌>>=◌, first_word, natural_at, text_of_words}
use Rattle.spelling.specs.Fields.{Field, Natural, Number, Colour, Choice, Makes, Values, taking, texts_of, AreIn, read_fields}
use Rattle.calls.specs.declared.word.Word.{Word}
use Rattle.calls.specs.declared.word.Word.TheVariants as word
use Rattle.calls.specs.declared.call.Call.{Call}
use Rattle.calls.specs.declared.call.Call.TheVariants as call
use Rattle.calls.specs.declared.line.Act.{Act}
use Rattle.calls.specs.declared.line.Act.TheVariants as act
use Rattle.calls.specs.declared.line.Line.{Line}
use Rattle.calls.specs.declared.line.Line.TheVariants.{Task, Tick}

-- ---- kinds of fields

-- a window's or a device's handle
abbrev pub handle : Field
handle = Natural 0 4294967295

abbrev pub side : Field
side = Natural 0 65535

abbrev pub byte : Field
byte = Natural 0 255

-- 0 for no and 1 for yes
abbrev pub flag : Field
flag = Choice (codes "0") (codes "1")

-- whether text hides what is behind it, or leaves it as it is
abbrev pub text_mode : Field
text_mode = Choice (codes "normal") (codes "trans")

-- ---- the table

-- a word, its fields, and the call that their values make
pub data Row : Type 0 where
  row : List ℕ → (fields : List Field) → Makes fields Call → Row

abbrev pub name_of : Row → List ℕ
name_of (row name fields make) = name

abbrev pub fields_of : Row → List Field
fields_of (row name fields make) = fields

abbrev pub make_of : (r : Row) → Makes (fields_of r) Call
make_of (row name fields make) = make

abbrev pub row_of : Word → Row
row_of word.Create =
    row (codes "create") (handle ∷ Number ∷ Number ∷ side ∷ side ∷ byte ∷ []) call.Create
row_of word.Delete = row (codes "delete") (handle ∷ []) call.Delete
row_of word.MoveTo = row (codes "move_to") (handle ∷ Number ∷ Number ∷ []) call.MoveTo
row_of word.MoveBy = row (codes "move_by") (handle ∷ Number ∷ Number ∷ []) call.MoveBy
row_of word.Resize = row (codes "resize") (handle ∷ side ∷ side ∷ []) call.Resize
row_of word.Show = row (codes "show") (handle ∷ []) call.Show
row_of word.Hide = row (codes "hide") (handle ∷ []) call.Hide
row_of word.ToTop = row (codes "to_top") (handle ∷ []) call.ToTop
row_of word.ToBottom = row (codes "to_bottom") (handle ∷ []) call.ToBottom
row_of word.SetClass = row (codes "set_class") (handle ∷ byte ∷ []) call.SetClass
row_of word.SetTrans = row (codes "set_trans") (handle ∷ flag ∷ []) call.SetTrans
row_of word.SetMemdev = row (codes "set_memdev") (handle ∷ flag ∷ []) call.SetMemdev
row_of word.SetValue = row (codes "set_value") (handle ∷ byte ∷ Number ∷ []) call.SetValue
row_of word.Send = row (codes "send") (handle ∷ byte ∷ Number ∷ []) call.Send
row_of word.Select = row (codes "select") (handle ∷ []) call.Select
row_of word.Colour = row (codes "colour") (Colour ∷ []) call.Colour
row_of word.BkColour = row (codes "bk_colour") (Colour ∷ []) call.BkColour
row_of word.TextMode = row (codes "text_mode") (text_mode ∷ []) call.TextMode
row_of word.Font = row (codes "font") (byte ∷ []) call.Font
row_of word.Save = row (codes "save") [] call.Save
row_of word.Restore = row (codes "restore") [] call.Restore
row_of word.Fill = row (codes "fill") (Number ∷ Number ∷ Number ∷ Number ∷ []) call.Fill
row_of word.Frame = row (codes "frame") (Number ∷ Number ∷ Number ∷ Number ∷ []) call.Frame
row_of word.Line = row (codes "line") (Number ∷ Number ∷ Number ∷ Number ∷ []) call.Line
row_of word.Bitmap = row (codes "bitmap") (byte ∷ Number ∷ Number ∷ []) call.Bitmap
row_of word.Text = row (codes "text") (Number ∷ Number ∷ byte ∷ []) call.Text
row_of word.DevCreate = row (codes "dev_create") (side ∷ side ∷ []) call.DevCreate
row_of word.DevDelete = row (codes "dev_delete") (handle ∷ []) call.DevDelete
row_of word.DevSelect = row (codes "dev_select") (handle ∷ []) call.DevSelect
row_of word.DevCopy = row (codes "dev_copy") (handle ∷ Number ∷ Number ∷ []) call.DevCopy
row_of word.Invalidate = row (codes "invalidate") (handle ∷ []) call.Invalidate
row_of word.InvalidateRect =
    row (codes "invalidate_rect") (handle ∷ Number ∷ Number ∷ Number ∷ Number ∷ [])
    call.InvalidateRect
row_of word.InvalidateArea =
    row (codes "invalidate_area") (Number ∷ Number ∷ Number ∷ Number ∷ []) call.InvalidateArea
row_of word.Begin = row (codes "begin") [] call.Begin
row_of word.End = row (codes "end") [] call.End
row_of word.Exec = row (codes "exec") [] call.Exec
row_of word.Exec1 = row (codes "exec1") [] call.Exec1
row_of word.Scan = row (codes "scan") [] call.Scan

-- sealed, so that a proof about a call's fields doesn't look at the letters of its name
unfoldable pub name_of_word : Word → List ℕ
name_of_word w = name_of (row_of w)

abbrev pub all_words : List Word
all_words =
    word.Create ∷ word.Delete ∷ word.MoveTo ∷ word.MoveBy ∷ word.Resize ∷ word.Show ∷ word.Hide
    ∷ word.ToTop ∷ word.ToBottom ∷ word.SetClass ∷ word.SetTrans ∷ word.SetMemdev
    ∷ word.SetValue ∷ word.Send ∷ word.Select ∷ word.Colour ∷ word.BkColour ∷ word.TextMode
    ∷ word.Font ∷ word.Save ∷ word.Restore ∷ word.Fill ∷ word.Frame ∷ word.Line ∷ word.Bitmap
    ∷ word.Text ∷ word.DevCreate ∷ word.DevDelete ∷ word.DevSelect ∷ word.DevCopy
    ∷ word.Invalidate ∷ word.InvalidateRect ∷ word.InvalidateArea ∷ word.Begin ∷ word.End
    ∷ word.Exec ∷ word.Exec1 ∷ word.Scan ∷ []

-- ---- the text of a call line

-- a word with a value for each of its fields
pub data Said : Type 0 where
  said_by : (w : Word) → Values (fields_of (row_of w)) → Said

abbrev pub say : (w : Word) → Makes (fields_of (row_of w)) Said
say w = taking (fields_of (row_of w)) (said_by w)

-- each call is a word with values
abbrev pub said : Call → Said
said (call.Create parent x y w h class) = say word.Create parent x y w h class
said (call.Delete h) = say word.Delete h
said (call.MoveTo h x y) = say word.MoveTo h x y
said (call.MoveBy h dx dy) = say word.MoveBy h dx dy
said (call.Resize h width height) = say word.Resize h width height
said (call.Show h) = say word.Show h
said (call.Hide h) = say word.Hide h
said (call.ToTop h) = say word.ToTop h
said (call.ToBottom h) = say word.ToBottom h
said (call.SetClass h class) = say word.SetClass h class
said (call.SetTrans h trans) = say word.SetTrans h trans
said (call.SetMemdev h memdev) = say word.SetMemdev h memdev
said (call.SetValue h index value) = say word.SetValue h index value
said (call.Send h message argument) = say word.Send h message argument
said (call.Select h) = say word.Select h
said (call.Colour c) = say word.Colour c
said (call.BkColour c) = say word.BkColour c
said (call.TextMode trans) = say word.TextMode trans
said (call.Font font) = say word.Font font
said call.Save = say word.Save
said call.Restore = say word.Restore
said (call.Fill x0 y0 x1 y1) = say word.Fill x0 y0 x1 y1
said (call.Frame x0 y0 x1 y1) = say word.Frame x0 y0 x1 y1
said (call.Line x0 y0 x1 y1) = say word.Line x0 y0 x1 y1
said (call.Bitmap bitmap x y) = say word.Bitmap bitmap x y
said (call.Text x y string) = say word.Text x y string
said (call.DevCreate w h) = say word.DevCreate w h
said (call.DevDelete device) = say word.DevDelete device
said (call.DevSelect device) = say word.DevSelect device
said (call.DevCopy device x y) = say word.DevCopy device x y
said (call.Invalidate h) = say word.Invalidate h
said (call.InvalidateRect h x0 y0 x1 y1) = say word.InvalidateRect h x0 y0 x1 y1
said (call.InvalidateArea x0 y0 x1 y1) = say word.InvalidateArea x0 y0 x1 y1
said call.Begin = say word.Begin
said call.End = say word.End
said call.Exec = say word.Exec
said call.Exec1 = say word.Exec1
said call.Scan = say word.Scan

abbrev pub words_of_said : Said → List (List ℕ)
words_of_said (said_by w vs) = name_of_word w ∷ texts_of (fields_of (row_of w)) vs

abbrev pub SaidFits : Said → Type 0
SaidFits (said_by w vs) = AreIn (fields_of (row_of w)) vs

-- the call's word and its fields
abbrev pub words_of_call : Call → List (List ℕ)
words_of_call c = words_of_said (said c)

-- the ranges of a call's numbers
abbrev pub CallFits : Call → Type 0
CallFits c = SaidFits (said c)

-- a call's words, or the word that takes or gives back the lock
abbrev pub words_of_act : Act → List (List ℕ)
words_of_act (act.Call c) = words_of_call c
words_of_act act.Lock = codes "lock" ∷ []
words_of_act act.Unlock = codes "unlock" ∷ []

abbrev pub ActFits : Act → Type 0
ActFits (act.Call c) = CallFits c
ActFits _ = Unit {0}

-- a call line's words: the task and what it does, or those of a tick
abbrev pub line_words : Line → List (List ℕ)
line_words (Task task a) = decimal task ∷ words_of_act a
line_words Tick = codes "display" ∷ codes "tick" ∷ []

-- a call line
abbrev pub text_of_line : Line → List ℕ
text_of_line line = text_of_words (line_words line)

-- the ranges of a line's numbers
abbrev pub LineFits : Line → Type 0
LineFits (Task task a) = (1 ≤ task) × (task ≤ 16) × ActFits a
LineFits Tick = Unit {0}

-- ---- reading

-- the word of this name
unfoldable pub word_of : List ℕ → Option Word
word_of name = find (λ w. bytes_eq name (name_of_word w)) all_words

-- what the words after it say
abbrev pub call_by : Row → List (List ℕ) → Option (Call × List (List ℕ))
call_by (row name fields make) words = read_fields fields make words

abbrev pub call_with : Word → List (List ℕ) → Option (Call × List (List ℕ))
call_with w words = call_by (row_of w) words

-- what a word of this name and the words after it say
abbrev pub act_named : List ℕ → List (List ℕ) → Option (Act × List (List ℕ))
act_named name words =
    if bytes_eq name (codes "lock") then Some (act.Lock, words)
    else if bytes_eq name (codes "unlock") then Some (act.Unlock, words)
    else (word_of name >>= λ w. call_with w words >>= λ c. Some (act.Call c.0, c.1))

unfoldable pub act_at : List (List ℕ) → Option (Act × List (List ℕ))
act_at words = do
  name ← first_word words
  act_named name.0 name.1

-- the words are those of a tick
abbrev pub are_tick : List (List ℕ) → Bool
are_tick (first ∷ second ∷ []) =
    bytes_eq first (codes "display") && bytes_eq second (codes "tick")
are_tick _ = false

-- what the words say that a task does
unfoldable pub task_line_of : List (List ℕ) → Option Line
task_line_of words = do
  task ← natural_at 1 16 words
  a ← act_at task.1
  if length a.1 == 0 then Some (Task task.0 a.0) else None

-- the call line that the words say, all of them
unfoldable pub line_of : List (List ℕ) → Option Line
line_of words = if are_tick words then Some Tick else task_line_of words
