use Rattle.glyph_font.proofs.FaultLaws.{is_answer}
use Rattle.glyph_font.proofs.font.Font.read.Goals as goal

pub returns : goal.returns
returns c = is_answer c.args.height c.args.body.now c.read_lines.result c.requires.0 c.requires.1 c.read_lines.ensures
