-- What a sink tells of its writes, and a store of its reads.
use Rattle.std.specs.Prelude.{◌≡◌, ℕ, ◌+◌, ◌-◌, ◌^◌, ◌≤◌, min, List, ◌++◌, Option, Some, None}
use Rattle.std.specs.Prelude.{Result, Ok, Err, MatchResult, Vec}
use Rattle.std.specs.Io.KnownBytes.{Appends}
use Rattle.std.specs.declared.alloc.Global.{Global}
use Rattle.outside.specs.declared.store.ReadRefused.{ReadRefused}
use Rattle.outside.specs.declared.store.ReadRefused.TheVariants as refused
use Rattle.outside.specs.Files.{File, Gave}

-- the count rose, or stands at its last value
abbrev pub Rose : ℕ → ℕ → Type 0
Rose before now = min (before + 1) (2 ^ 64 - 1) ≤ now

-- ---- a sink

-- how many writes failed, and the bytes that were written, where they are told
pub record SinkLog : Type 0 where
  pub faults : ℕ
  pub written : Option (List ℕ)

-- what a sink tells that doesn't tell its bytes
abbrev pub untold : ℕ → SinkLog
untold faults = record { faults = faults; written = None }

-- all of the text was written
pub record Whole (old new : SinkLog) (text : List ℕ) : Type 0 where
  pub later : old.faults ≤ new.faults
  pub bytes : Appends old.written new.written text

-- a prefix of the text was written, and the count rose
pub record Broken (old new : SinkLog) (text : List ℕ) : Type 0 where
  pub later : old.faults ≤ new.faults
  pub rose : Rose old.faults new.faults
  pub prefix : List ℕ
  pub rest : List ℕ
  pub parts : text ≡ prefix ++ rest
  pub bytes : Appends old.written new.written prefix

-- what became of a text that was to be written
abbrev pub Wrote : {T E : Type 0} → Result T E → SinkLog → SinkLog → List ℕ → Type 0
Wrote result old new text = MatchResult result (λ _. Whole old new text) (λ _. Broken old new text)

-- ---- a store

-- how many reads failed, the name of the last of them, and the files, where they are told
pub record StoreLog : Type 0 where
  pub faults : ℕ
  pub failed : Option (List ℕ)
  pub files : Option (List File)

-- a call that is answered otherwise than Failed leaves the last failure's name and the files
pub record Stays (old new : StoreLog) : Type 0 where
  pub later : old.faults ≤ new.faults
  pub failed : new.failed ≡ old.failed
  pub files : new.files ≡ old.files

-- a read of that name failed: the count rose, the name is kept, and the files stay
pub record FailedAt (old new : StoreLog) (name : List ℕ) : Type 0 where
  pub later : old.faults ≤ new.faults
  pub rose : Rose old.faults new.faults
  pub failed : new.failed ≡ Some name
  pub files : new.files ≡ old.files

-- what became of a read of at most so many bytes of the file of that name
abbrev pub Reads : Result (Vec ℕ Global) ReadRefused → StoreLog → StoreLog → List ℕ → ℕ → Type 0
Reads (Ok bytes) old new name limit = Gave old.files name limit bytes.items × Stays old new
Reads (Err refused.Failed) old new name limit = FailedAt old new name
Reads (Err refused.Memory) old new name limit = Stays old new
