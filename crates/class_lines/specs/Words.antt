-- The table of the words of a class's lines, and the lines that they make.
use Rattle.std.specs.Prelude.{ℕ, ◌≤◌, ℤ, Bool, false, List, [], ◌∷◌, Option, Some, None, if◌then◌else◌, find, bytes_eq, codes}
use Rattle.std.specs.List.{list_any}
use Rattle.std.specs.Fmt.{decimal}
use Rattle.spelling.specs.Words.{◌>>=◌, first_word, after_word, begins_with, natural_at, words_of, text_of_words}
use Rattle.spelling.specs.Fields.{Field, Natural, NumberOr, Coordinate, Colour, Makes, Values, taking, texts_of, AreIn, read_fields, all_of}
use Rattle.paint_ops.specs.declared.op.Op.TheVariants as op
use Rattle.paint_ops.specs.declared.class.Operand.{Operand}
use Rattle.paint_ops.specs.declared.class.Operand.TheVariants.{Const, Argument}
use Rattle.paint_ops.specs.declared.class.React.TheVariants as react
use Rattle.class_lines.specs.declared.word.Word.{Word}
use Rattle.class_lines.specs.declared.word.Word.TheVariants as word
use Rattle.class_lines.specs.declared.line.ClassLine.{ClassLine}
use Rattle.class_lines.specs.declared.line.ClassLine.TheVariants.{Operation, Reaction}
use Rattle.class_lines.specs.declared.line.Deed.{Deed}
use Rattle.class_lines.specs.declared.line.Deed.TheVariants.{Draw, React}

-- ---- kinds of fields

abbrev pub byte : Field
byte = Natural 0 255

-- the number of one of a window's values
abbrev pub value_number : Field
value_number = Natural 0 15

-- a number, or `a` for the message's argument
abbrev pub operand : Field
operand = NumberOr (codes "a")

abbrev pub operand_of : Option ℤ → Operand
operand_of None = Argument
operand_of (Some z) = Const z

abbrev pub number_of_operand : Operand → Option ℤ
number_of_operand Argument = None
number_of_operand (Const z) = Some z

-- ---- the table

-- a word, its fields, and what their values make
pub data Row : Type 0 where
  row : List ℕ → (fields : List Field) → Makes fields Deed → Row

abbrev pub name_of : Row → List ℕ
name_of (row name fields make) = name

abbrev pub fields_of : Row → List Field
fields_of (row name fields make) = fields

abbrev pub make_of : (r : Row) → Makes (fields_of r) Deed
make_of (row name fields make) = make

abbrev pub row_of : Word → Row
row_of word.Fill =
    row (codes "fill") (Coordinate ∷ Coordinate ∷ Coordinate ∷ Coordinate ∷ Colour ∷ [])
    (λ x0 y0 x1 y1 colour. Draw (op.Fill x0 y0 x1 y1 colour))
row_of word.Frame =
    row (codes "frame") (Coordinate ∷ Coordinate ∷ Coordinate ∷ Coordinate ∷ Colour ∷ [])
    (λ x0 y0 x1 y1 colour. Draw (op.Frame x0 y0 x1 y1 colour))
row_of word.HLine =
    row (codes "hline") (Coordinate ∷ Coordinate ∷ Coordinate ∷ Colour ∷ [])
    (λ x0 x1 y colour. Draw (op.HLine x0 x1 y colour))
row_of word.VLine =
    row (codes "vline") (Coordinate ∷ Coordinate ∷ Coordinate ∷ Colour ∷ [])
    (λ x y0 y1 colour. Draw (op.VLine x y0 y1 colour))
row_of word.Line =
    row (codes "line") (Coordinate ∷ Coordinate ∷ Coordinate ∷ Coordinate ∷ Colour ∷ [])
    (λ x0 y0 x1 y1 colour. Draw (op.Line x0 y0 x1 y1 colour))
row_of word.Bitmap =
    row (codes "bitmap") (byte ∷ Coordinate ∷ Coordinate ∷ []) (λ b x y. Draw (op.Bitmap b x y))
row_of word.Text =
    row (codes "text") (byte ∷ Coordinate ∷ Coordinate ∷ Colour ∷ byte ∷ [])
    (λ f x y colour s. Draw (op.Text f x y colour s))
row_of word.Number =
    row (codes "number") (byte ∷ Coordinate ∷ Coordinate ∷ Colour ∷ Coordinate ∷ [])
    (λ f x y colour num. Draw (op.Number f x y colour num))
row_of word.Set =
    row (codes "set") (value_number ∷ operand ∷ []) (λ i v. React (react.Set i (operand_of v)))
row_of word.Add =
    row (codes "add") (value_number ∷ operand ∷ []) (λ i v. React (react.Add i (operand_of v)))
row_of word.Up = row (codes "up") (byte ∷ []) (λ m. React (react.Up m))

-- sealed, so that a proof about a word's fields doesn't look at the letters of its name
unfoldable pub name_of_word : Word → List ℕ
name_of_word w = name_of (row_of w)

abbrev pub all_words : List Word
all_words =
    word.Fill ∷ word.Frame ∷ word.HLine ∷ word.VLine ∷ word.Line ∷ word.Bitmap ∷ word.Text
    ∷ word.Number ∷ word.Set ∷ word.Add ∷ word.Up ∷ []

-- ---- the text of a line

-- a word with a value for each of its fields
pub data Said : Type 0 where
  said_by : (w : Word) → Values (fields_of (row_of w)) → Said

abbrev pub say : (w : Word) → Makes (fields_of (row_of w)) Said
say w = taking (fields_of (row_of w)) (said_by w)

-- each deed is a word with values
abbrev pub said : Deed → Said
said (Draw (op.Fill x0 y0 x1 y1 colour)) = say word.Fill x0 y0 x1 y1 colour
said (Draw (op.Frame x0 y0 x1 y1 colour)) = say word.Frame x0 y0 x1 y1 colour
said (Draw (op.HLine x0 x1 y colour)) = say word.HLine x0 x1 y colour
said (Draw (op.VLine x y0 y1 colour)) = say word.VLine x y0 y1 colour
said (Draw (op.Line x0 y0 x1 y1 colour)) = say word.Line x0 y0 x1 y1 colour
said (Draw (op.Bitmap b x y)) = say word.Bitmap b x y
said (Draw (op.Text f x y colour s)) = say word.Text f x y colour s
said (Draw (op.Number f x y colour num)) = say word.Number f x y colour num
said (React (react.Set i v)) = say word.Set i (number_of_operand v)
said (React (react.Add i v)) = say word.Add i (number_of_operand v)
said (React (react.Up m)) = say word.Up m

abbrev pub words_of_said : Said → List (List ℕ)
words_of_said (said_by w vs) = name_of_word w ∷ texts_of (fields_of (row_of w)) vs

abbrev pub SaidFits : Said → Type 0
SaidFits (said_by w vs) = AreIn (fields_of (row_of w)) vs

abbrev pub words_of_deed : Deed → List (List ℕ)
words_of_deed deed = words_of_said (said deed)

-- the ranges of its numbers
abbrev pub DeedFits : Deed → Type 0
DeedFits deed = SaidFits (said deed)

-- a reaction's line begins with `on` and the message
abbrev pub words_of_class_line : ClassLine → List (List ℕ)
words_of_class_line (Operation o) = words_of_deed (Draw o)
words_of_class_line (Reaction r) = codes "on" ∷ decimal r.on ∷ words_of_deed (React r.react)

abbrev pub text_of_class_line : ClassLine → List ℕ
text_of_class_line line = text_of_words (words_of_class_line line)

-- the ranges of a line's numbers
abbrev pub ClassLineFits : ClassLine → Type 0
ClassLineFits (Operation o) = DeedFits (Draw o)
ClassLineFits (Reaction r) = (r.on ≤ 255) × DeedFits (React r.react)

-- ---- reading

-- the word of this name
unfoldable pub word_of : List ℕ → Option Word
word_of name = find (λ w. bytes_eq name (name_of_word w)) all_words

-- what the words after it say
abbrev pub deed_by : Row → List (List ℕ) → Option (Deed × List (List ℕ))
deed_by (row name fields make) words = read_fields fields make words

abbrev pub deed_with : Word → List (List ℕ) → Option (Deed × List (List ℕ))
deed_with w words = deed_by (row_of w) words

unfoldable pub deed_at : List (List ℕ) → Option (Deed × List (List ℕ))
deed_at words = do
  name ← first_word words
  w ← word_of name.0
  deed_with w name.1

-- what all the words say
unfoldable pub deed_of : List (List ℕ) → Option Deed
deed_of words = all_of (deed_at words)

abbrev pub drawing : Deed → Option ClassLine
drawing (Draw o) = Some (Operation o)
drawing (React r) = None

abbrev pub reacting : ℕ → Deed → Option ClassLine
reacting on (Draw o) = None
reacting on (React r) = Some (Reaction (record { on = on; react = r }))

unfoldable pub operation_in : List (List ℕ) → Option ClassLine
operation_in words = deed_of words >>= drawing

unfoldable pub reaction_in : List (List ℕ) → Option ClassLine
reaction_in words = do
  rest ← after_word (codes "on") words
  on ← natural_at 0 255 rest
  deed ← deed_of on.1
  reacting on.0 deed

-- the line that the words say, all of them
unfoldable pub class_line_of : List (List ℕ) → Option ClassLine
class_line_of words =
    if begins_with (codes "on") words then reaction_in words else operation_in words

-- ---- first words

-- whether the first word is one that lines begin with
unfoldable pub begins_class_line : List (List ℕ) → Bool
begins_class_line [] = false
begins_class_line (word ∷ words) =
    list_any (λ name. bytes_eq word name)
    (words_of (codes "fill frame hline vline line bitmap text number on"))
