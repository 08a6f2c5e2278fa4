-- The words of the program: none, or the number of a picture, from 1 on.
use Rattle.std.specs.Prelude.{ℕ, List, [], ◌∷◌, map, Option, Some, None, String, string_bytes}
use Rattle.std.specs.declared.alloc.Global.{Global}
use Rattle.spelling.specs.Words.{◌>>=◌, natural_in}

abbrev pub texts_of : List (String Global) → List (List ℕ)
texts_of words = map (λ word. string_bytes word) words

abbrev pub number_of : List ℕ → Option ℕ
number_of word = natural_in 1 4294967295 word

-- the number of the picture that is asked for, or none for the last one
abbrev pub choice_of : List (List ℕ) → Option (Option ℕ)
choice_of [] = Some None
choice_of (word ∷ []) = number_of word >>= λ number. Some (Some number)
choice_of (word ∷ next ∷ words) = None
