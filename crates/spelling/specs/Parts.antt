-- Bytes as parts that a byte parts: the lines of a file and the words of a line.
use Rattle.std.specs.Prelude.{ℕ, List, [], ◌∷◌, length, Option, Some, None, Bool, ◌&&◌, nat_le, ◌==◌, if◌then◌else◌}
use Rattle.std.specs.List.{slice_split, list_all}
use denote.Ref.{Bor}

-- the parts between the marks
abbrev pub parts : ℕ → List ℕ → List (List ℕ)
parts mark text = slice_split (λ b. b == mark) text

-- the parts that are left
abbrev pub parts_left : ℕ → Option (Bor (List ℕ)) → List (List ℕ)
parts_left mark None = []
parts_left mark (Some rest) = parts mark rest.now

-- without an empty part at the end
abbrev pub closed : List (List ℕ) → List (List ℕ)
closed [] = []
closed (line ∷ []) = if length line == 0 then [] else line ∷ []
closed (line ∷ next ∷ lines) = line ∷ closed (next ∷ lines)

-- the lines of a file: each ends with the byte 10, which the last may lack
abbrev pub lines_of : List ℕ → List (List ℕ)
lines_of file = closed (parts 10 file)

-- each byte is from 32 to 126
abbrev pub is_printable : List ℕ → Bool
is_printable line = list_all (λ b. nat_le 32 b && nat_le b 126) line
