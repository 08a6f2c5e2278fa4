use Rattle.std.proofs.Common.{◌≡◌, ◌+◌, length}
use Rattle.spelling.specs.Parts.{lines_of}
use Rattle.bitmap.specs.Reading.{from_line, read_of, IsDraft}
use Rattle.bitmap.proofs.DraftLaws.{lines_at}
use Rattle.bitmap.proofs.reader.read_lines.Given as goal

abbrev pub invariant-loop-rest : goal.invariant-loop-rest
invariant-loop-rest l = record {
  read : from_line (l.number + 1) l.draft (lines_of l.rest) ≡ read_of l.w l.h l.body;
  draft : IsDraft l.draft;
  count : l.number ≡ lines_at l.draft.height l.draft.place;
}

abbrev pub decreases-loop-rest : goal.decreases-loop-rest
decreases-loop-rest l = length l.rest
