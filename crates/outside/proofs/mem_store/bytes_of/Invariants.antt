use Rattle.std.proofs.Common.{◌≡◌, drop}
use Rattle.outside.specs.Files.{file_of}
use Rattle.outside.specs.StoreContents.{files_of}
use Rattle.outside.proofs.mem_store.bytes_of.Given as goal

-- what is searched is in the files that are left
abbrev pub invariant-loop-file : goal.invariant-loop-file
invariant-loop-file l = file_of (files_of (drop l.file-index l.files)) l.name ≡ file_of (files_of l.files) l.name
