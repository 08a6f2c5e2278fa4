-- What a store in memory holds, and what a read does to it.
use Rattle.std.specs.Prelude.{List, ℕ, map, string_bytes, Option, Some, None, if◌then◌else◌}
use Rattle.outside.specs.declared.mem_store.NamedFile.{NamedFile}
use Rattle.outside.specs.Counts.{Plan, plan_of, fails, after_call, Failures, no_failures, one_more_at}
use Rattle.outside.specs.Files.{File, file_of}
use Rattle.outside.specs.Logs.{StoreLog}

-- the files, which reads are to fail, and those that failed
pub record StoreContents : Type 0 where
  pub files : List File
  pub plan : Plan
  pub failures : Failures

-- the names and the bytes of files
abbrev pub files_of : List NamedFile → List File
files_of files = map (λ file. (string_bytes file.name, file.bytes.items)) files

-- a store before its first read
abbrev pub new_store : List NamedFile → List ℕ → StoreContents
new_store files failing =
    record { files = files_of files; plan = plan_of failing; failures = no_failures }

-- the file that the next read finds under a name
abbrev pub found : StoreContents → List ℕ → Option (List ℕ)
found store name = if fails store.plan then None else file_of store.files name

-- the store after a read that didn't fail
abbrev pub after_read : StoreContents → StoreContents
after_read store = record store { plan = after_call store.plan }

-- the store after a read that failed at that name
abbrev pub after_failure : StoreContents → List ℕ → StoreContents
after_failure store name =
    record store { plan = after_call store.plan; failures = one_more_at store.failures name }

-- what it tells
abbrev pub log_of_store : StoreContents → StoreLog
log_of_store store = record {
  faults = store.failures.faults;
  failed = store.failures.failed;
  files = Some store.files;
}

-- what a store tells that doesn't tell its files
abbrev pub log_of_failures : Failures → StoreLog
log_of_failures failures = record {
  faults = failures.faults;
  failed = failures.failed;
  files = None;
}
