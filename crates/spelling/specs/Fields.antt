-- The fields of a line: what each is, how it is written, and how it is read.
use Rattle.std.specs.Prelude.{◌≡◌, ℕ, ◌^◌, ◌<◌, ◌≤◌, ℤ, Bool, true, false, not, ◌&&◌, List, [], ◌∷◌, length, Option, Some, None, nat_lt, ◌==◌, if◌then◌else◌, bytes_eq, FitsSigned, IfSome, is_some}
use Rattle.std.specs.List.{list_all}
use Rattle.std.specs.Fmt.{decimal, signed_decimal}
use Rattle.std.specs.Int.{w16}
use Rattle.spelling.specs.Digits.{hex_colour}
use Rattle.gfx_base.specs.declared.num.Num.{Num}
use Rattle.spelling.specs.Words.{◌>>=◌, first_word, after_word, number_of, number_at, natural_at, colour_of, text_of_words}
use Rattle.spelling.specs.Coordinates.{text_of_num, NumFits, num_at}

-- ---- kinds of fields

-- A field is a natural number from the first to the second, a number of 16 bits, such a number or
-- one word, a coordinate, a colour, or one of two words.
pub data Field : Type 0 where
  Natural : ℕ → ℕ → Field
  Number : Field
  NumberOr : List ℕ → Field
  Coordinate : Field
  Colour : Field
  Choice : List ℕ → List ℕ → Field

-- what a field says; of two words, whether it is the second
abbrev pub ValueOf : Field → Type 0
ValueOf (Natural low high) = ℕ
ValueOf Number = ℤ
ValueOf (NumberOr word) = Option ℤ
ValueOf Coordinate = Num
ValueOf Colour = ℕ
ValueOf (Choice first second) = Bool

-- a number, or this word
abbrev pub number_or_word : List ℕ → Option ℤ → List ℕ
number_or_word word None = word
number_or_word word (Some z) = signed_decimal z

-- the one word of a value
abbrev pub text_of : (f : Field) → ValueOf f → List ℕ
text_of (Natural low high) n = decimal n
text_of Number z = signed_decimal z
text_of (NumberOr word) v = number_or_word word v
text_of Coordinate num = text_of_num num
text_of Colour c = hex_colour c
text_of (Choice first second) b = if b then second else first

-- the values that a field can have
abbrev pub IsIn : (f : Field) → ValueOf f → Type 0
IsIn (Natural low high) n = (low ≤ n) × (n ≤ high)
IsIn Number z = FitsSigned w16 z
IsIn (NumberOr word) v = IfSome v (λ z. FitsSigned w16 z)
IsIn Coordinate num = NumFits num
IsIn Colour c = c < 2 ^ 24
IsIn (Choice first second) b = Unit {0}

-- a word without a space
abbrev pub is_word : List ℕ → Bool
is_word word = list_all (λ b. not (b == 32)) word

-- a field whose values have one word each: numbers of 32 bits, a word that spells no number, and
-- two words that differ
abbrev pub is_field : Field → Bool
is_field (Natural low high) = nat_lt high 4294967296
is_field Number = true
is_field (NumberOr word) = is_word word && not (is_some (number_of word))
is_field Coordinate = true
is_field Colour = true
is_field (Choice first second) = not (bytes_eq second first) && (is_word first && is_word second)

-- ---- lists of fields

-- a value for each field
abbrev pub Values : List Field → Type 0
Values [] = Unit {0}
Values (f ∷ fs) = ValueOf f × Values fs

-- their words
abbrev pub texts_of : (fs : List Field) → Values fs → List (List ℕ)
texts_of [] vs = []
texts_of (f ∷ fs) vs = text_of f vs.0 ∷ texts_of fs vs.1

abbrev pub AreIn : (fs : List Field) → Values fs → Type 0
AreIn [] vs = Unit {0}
AreIn (f ∷ fs) vs = IsIn f vs.0 × AreIn fs vs.1

abbrev pub are_fields : List Field → Bool
are_fields fs = list_all is_field fs

-- a function of a value for each field
abbrev pub Makes : List Field → Type 0 → Type 0
Makes [] A = A
Makes (f ∷ fs) A = ValueOf f → Makes fs A

-- what it makes of them
abbrev pub made : {A : Type 0} (fs : List Field) → Makes fs A → Values fs → A
made [] make vs = make
made (f ∷ fs) make vs = made fs (make vs.0) vs.1

-- the function that makes what k makes of all values
abbrev pub taking : {A : Type 0} (fs : List Field) → (Values fs → A) → Makes fs A
taking [] k = k tt
taking (f ∷ fs) k = λ v. taking fs (λ vs. k (v, vs))

-- ---- reading, from left to right

unfoldable pub colour_at : List (List ℕ) → Option (ℕ × List (List ℕ))
colour_at words = do
  w ← first_word words
  c ← colour_of w.0
  Some (c, w.1)

-- the number that a word spells, or that it is this one
abbrev pub number_or_of : List ℕ → List ℕ → Option (Option ℤ)
number_or_of name word =
    if bytes_eq word name then Some None else number_of word >>= λ z. Some (Some z)

unfoldable pub number_or_at : List ℕ → List (List ℕ) → Option (Option ℤ × List (List ℕ))
number_or_at name words = do
  w ← first_word words
  v ← number_or_of name w.0
  Some (v, w.1)

-- which of two words a word is
abbrev pub choice_of : List ℕ → List ℕ → List ℕ → Option Bool
choice_of first second word =
    if bytes_eq word first then Some false
    else if bytes_eq word second then Some true else None

unfoldable pub choice_at : List ℕ → List ℕ → List (List ℕ) → Option (Bool × List (List ℕ))
choice_at first second words = do
  w ← first_word words
  b ← choice_of first second w.0
  Some (b, w.1)

-- the value of the first word, and the words after it
abbrev pub value_at : (f : Field) → List (List ℕ) → Option (ValueOf f × List (List ℕ))
value_at (Natural low high) words = natural_at low high words
value_at Number words = number_at words
value_at (NumberOr word) words = number_or_at word words
value_at Coordinate words = num_at words
value_at Colour words = colour_at words
value_at (Choice first second) words = choice_at first second words

-- where no word is left
abbrev pub all_of : {A : Type 0} → Option (A × List (List ℕ)) → Option A
all_of None = None
all_of (Some x) = if length x.1 == 0 then Some x.0 else None

-- what is made of the first words, and the words after them
abbrev pub read_fields : {A : Type 0} (fs : List Field) → Makes fs A → List (List ℕ)
    → Option (A × List (List ℕ))
read_fields [] make words = Some (make, words)
read_fields (f ∷ fs) make words = value_at f words >>= λ v. read_fields fs (make v.0) v.1

-- the values that all the words say
abbrev pub values_of : (fs : List Field) → List (List ℕ) → Option (Values fs)
values_of fs words = all_of (read_fields fs (taking fs (λ vs. vs)) words)

-- ---- lines of a word and fields

-- a word and its fields
abbrev pub text_with : List ℕ → (fs : List Field) → Values fs → List ℕ
text_with name fs vs = text_of_words (name ∷ texts_of fs vs)

-- the values that the words of such a line say
unfoldable pub line_values : List ℕ → (fs : List Field) → List (List ℕ) → Option (Values fs)
line_values name fs words = after_word name words >>= λ rest. values_of fs rest

-- ---- what the program gives

-- what a function returned, seen by view, and the words that it left are what reading gives
abbrev pub Reads : {X Y : Type 0} → (X → Y) → Option X → List (List ℕ)
    → Option (Y × List (List ℕ)) → Type 0
Reads view None rest read = read ≡ None
Reads view (Some x) rest read = read ≡ Some (view x, rest)
