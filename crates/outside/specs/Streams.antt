-- A writer of bytes as a sink.
use Rattle.std.specs.Prelude.{◌≡◌, ℕ, List, ◌++◌, Option}
use Rattle.std.specs.Io.KnownBytes.{Appends}

-- the writer, and how many pieces it didn't take whole
pub record Stream (W : Type 0) : Type 0 where
  pub out : W
  pub faults : ℕ

-- known bytes grow by a prefix of the text
pub record AppendsPrefix (old new : Option (List ℕ)) (text : List ℕ) : Type 0 where
  pub prefix : List ℕ
  pub rest : List ℕ
  pub parts : text ≡ prefix ++ rest
  pub bytes : Appends old new prefix
