-- The words of a command.
use Rattle.std.specs.Prelude.{◌≡◌, ℕ, Bool, true, ◌||◌, not, ◌==◌, List, [], ◌∷◌, length, map, codes, slice_index, String, string_bytes}
use Rattle.std.specs.declared.alloc.Global.{Global}
use Rattle.mtgui_top.specs.declared.command.Verb.{Verb}
use Rattle.mtgui_top.specs.declared.command.Verb.TheVariants.{Play, Paint}

-- A name doesn't begin with `-`, where it isn't that byte alone.
abbrev pub is_file_name : List ℕ → Bool
is_file_name name = length name == 1 || not (slice_index name 0 == 45)

-- the word that asks for it
abbrev pub verb_word : Verb → List ℕ
verb_word Play = codes "play"
verb_word Paint = codes "paint"

-- the words are that word and a file's name
pub record IsCommand (verb : Verb) (words : List (String Global)) (name : List ℕ) : Type 0 where
  pub spelled : map (λ word. string_bytes word) words ≡ verb_word verb ∷ name ∷ []
  pub is_name : is_file_name name ≡ true
