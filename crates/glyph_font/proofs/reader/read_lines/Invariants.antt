use Rattle.std.proofs.Common.{◌≡◌, ℕ, ◌+◌, List, length}
use Rattle.spelling.specs.Parts.{lines_of}
use Rattle.glyph_font.specs.Reading.{from_line, read_of}
use Rattle.glyph_font.proofs.DraftLaws.{Stands}
use Rattle.glyph_font.proofs.reader.read_lines.Given as goal

abbrev pub invariant-loop-rest : goal.invariant-loop-rest
invariant-loop-rest l = record {
  read : from_line (l.number + 1) l.draft (lines_of l.rest) ≡ read_of l.height l.body;
  stands : (prefix : List (List ℕ)) × (length prefix ≡ l.number) × Stands l.draft prefix;
}

abbrev pub decreases-loop-rest : goal.decreases-loop-rest
decreases-loop-rest l = length l.rest
