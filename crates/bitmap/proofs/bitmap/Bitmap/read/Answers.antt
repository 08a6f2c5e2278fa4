use Rattle.bitmap.proofs.FaultLaws.{is_answer}
use Rattle.bitmap.proofs.bitmap.Bitmap.read.Goals as goal

pub returns : goal.returns
returns c = is_answer c.args.w c.args.h c.args.body.now c.read_lines.result c.read_lines.ensures
