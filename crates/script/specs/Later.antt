-- The first words that decide what form a line is of, and which forms aren't built yet.
use Rattle.std.specs.Prelude.{ℕ, Bool, false, List, [], ◌∷◌, bytes_eq, codes}
use Rattle.std.specs.List.{list_any}
use Rattle.spelling.specs.Words.{words_of}

-- the word is one of those in the text
unfoldable pub is_one_of : List ℕ → List ℕ → Bool
is_one_of names word = list_any (λ name. bytes_eq name word) (words_of names)

-- the first word is
abbrev pub begins_with_one_of : List ℕ → List (List ℕ) → Bool
begins_with_one_of names [] = false
begins_with_one_of names (word ∷ words) = is_one_of names word

-- first words of assets' lines
unfoldable pub asset_words : List ℕ
asset_words = codes "string class font bitmap"

-- first words, after the header and outside classes, of forms that aren't built
unfoldable pub later_words : List ℕ
later_words = codes "viewer done"
