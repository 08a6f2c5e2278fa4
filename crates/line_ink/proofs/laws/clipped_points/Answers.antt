use Rattle.line_ink.proofs.PointLemmas.{clipped-member, clipped-once}
use Rattle.line_ink.proofs.laws.clipped_points.Goals as goal

pub returns : goal.returns
returns c = record { member = clipped-member; once = clipped-once }
