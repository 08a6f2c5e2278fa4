-- What a store tells of its files.
use Rattle.std.specs.Prelude.{◌≡◌, ℕ, List, [], ◌∷◌, take, Option, Some, None, bytes_eq, if◌then◌else◌}

-- a name and its bytes
abbrev pub File : Type 0
File = List ℕ × List ℕ

-- the bytes of the first file of that name
abbrev pub file_of : List File → List ℕ → Option (List ℕ)
file_of [] name = None
file_of (file ∷ files) name = if bytes_eq file.0 name then Some file.1 else file_of files name

-- these are the bytes of the file of that name, where files are told
abbrev pub IsFile : Option (List File) → List ℕ → List ℕ → Type 0
IsFile None name file = Unit {0}
IsFile (Some files) name file = file_of files name ≡ Some file

-- the bytes are the first ones of that file, at most so many
abbrev pub Gave : Option (List File) → List ℕ → ℕ → List ℕ → Type 0
Gave told name limit bytes = (file : List ℕ) × IsFile told name file × (bytes ≡ take limit file)
