use Rattle.line_ink.proofs.PointLemmas.{member, once}
use Rattle.line_ink.proofs.laws.points_are_on_the_line.Goals as goal

pub returns : goal.returns
returns c = record { member = member; once = once }
