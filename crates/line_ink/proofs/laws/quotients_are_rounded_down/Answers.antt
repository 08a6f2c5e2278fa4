use Rattle.line_ink.proofs.LineLemmas.{rounded_down}
use Rattle.line_ink.proofs.laws.quotients_are_rounded_down.Goals as goal

pub returns : goal.returns
returns c = rounded_down
