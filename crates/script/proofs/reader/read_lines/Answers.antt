use Rattle.std.proofs.Common.{rules}
use Rattle.script.specs.Reading.{draft_of}
use Rattle.script.proofs.DraftLaws.{draft_kept}
use Rattle.script.proofs.reader.read_lines.Goals as goal

pub loop-rest-preserved : goal.loop-rest-preserved
loop-rest-preserved c = record {
  draft = draft_kept (draft_of c.loop-rest.draft) (draft_of c.take_line.new.draft) c.first_line.result.0.now c.loop-rest.invariant.draft c.in-Ok.ensures;
  counted = (search rules);
  read = (search rules);
}
