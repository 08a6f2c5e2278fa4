use Rattle.std.proofs.Common.{◌∙◌, ◌+◌, ℕ, List, sym, ap}
use Rattle.spelling.specs.Parts.{lines_of}
use Rattle.bitmap.specs.Reading.{Draft, from_line}
use Rattle.bitmap.proofs.DraftLaws.{draft_after, line_counted}
use Rattle.bitmap.proofs.FaultLaws.{reads_on}
use Rattle.bitmap.proofs.reader.read_lines.Goals as goal

pub loop-rest-preserved : goal.loop-rest-preserved
loop-rest-preserved c =
    let n : ℕ = c.loop-rest.number + 1 in
    let d : Draft = c.loop-rest.draft in
    let e : Draft = c.take.new.self in
    let line : List ℕ = c.first_line.result.0.now in
    let so = c.loop-rest.invariant in
    record {
      read = sym (reads_on n d e line (lines_of c.first_line.result.1.now) c.in-Ok-take.ensures) ∙ sym (ap (from_line n d) c.first_line.ensures.lines) ∙ so.read;
      draft = draft_after d e line so.draft c.in-Ok-take.ensures;
      count = ap (λ (k : ℕ). k + 1) so.count ∙ sym (line_counted d e line so.draft c.in-Ok-take.ensures);
    }
