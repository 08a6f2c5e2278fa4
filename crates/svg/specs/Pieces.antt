-- Texts of frame texts with other lines between them, and the picture of them that is wanted.
use Rattle.std.specs.Prelude.{◌≡◌, ℕ, ◌-◌, false, ◌==◌, List, [], ◌∷◌, ◌++◌, Option, None, Some, codes, slice_get}
use Rattle.std.specs.List.{AllByRecursion, last_or}
use Rattle.frame.specs.Pictures.{Picture, HasShape}
use Rattle.spelling.specs.Words.{words_of, begins_with}
use Rattle.journal.specs.Texts.{frame_text}
use Rattle.svg.specs.Pictures.{HasColours}

-- a line, or a frame text
pub data Piece : Type 0 where
  a_line : List ℕ → Piece
  a_picture : Picture → Piece

-- it has no end within, and its first word isn't `frame`
pub record IsOtherLine (line : List ℕ) : Type 0 where
  pub whole : AllByRecursion (λ b. (b == 10) ≡ false) line
  pub other : begins_with (codes "frame") (words_of line) ≡ false

abbrev pub IsPiece : Piece → Type 0
IsPiece (a_line line) = IsOtherLine line
IsPiece (a_picture p) = HasShape p × HasColours p

abbrev pub text_of_piece : Piece → List ℕ
text_of_piece (a_line line) = line ++ codes "\n"
text_of_piece (a_picture p) = frame_text p

abbrev pub pictures_of : List Piece → List Picture
pictures_of [] = []
pictures_of (a_line line ∷ pieces) = pictures_of pieces
pictures_of (a_picture p ∷ pieces) = p ∷ pictures_of pieces

-- the picture of that number, from 1 on, or the last one
abbrev pub picked : Option ℕ → List Picture → Option Picture
picked None ps = last_or None ps
picked (Some number) ps = slice_get ps (number - 1)
