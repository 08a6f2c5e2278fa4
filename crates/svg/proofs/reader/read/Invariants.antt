use Rattle.std.proofs.Common.{◌≡◌, ◌+◌, ◌≤◌, length}
use Rattle.spelling.specs.Parts.{lines_of}
use Rattle.svg.specs.Reading.{picture_from, picture_in}
use Rattle.svg.proofs.reader.read.Given as goal

abbrev pub invariant-loop-rest : goal.invariant-loop-rest
invariant-loop-rest l = record {
  counted : l.number + length l.rest ≤ length l.text;
  told : picture_from (l.number + 1) l.draft (lines_of l.rest) ≡ picture_in l.fn.wanted l.text;
}

abbrev pub decreases-loop-rest : goal.decreases-loop-rest
decreases-loop-rest l = length l.rest
