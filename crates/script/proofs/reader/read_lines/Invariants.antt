use Rattle.std.proofs.Common.{◌≡◌, ◌+◌, ◌≤◌, length}
use Rattle.spelling.specs.Parts.{lines_of}
use Rattle.script.specs.Reading.{draft_of, from_line, read_of, IsDraft}
use Rattle.script.proofs.reader.read_lines.Given as goal

abbrev pub invariant-loop-rest : goal.invariant-loop-rest
invariant-loop-rest l = record {
  draft : IsDraft (draft_of l.draft);
  counted : l.number + length l.rest ≤ length l.text;
  read : from_line (l.number + 1) (draft_of l.draft) (lines_of l.rest) ≡ read_of l.text;
}

abbrev pub decreases-loop-rest : goal.decreases-loop-rest
decreases-loop-rest l = length l.rest
