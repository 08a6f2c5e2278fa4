use Rattle.line_ink.proofs.PointLemmas.{points_of_line-turn, is_on_line-turn}
use Rattle.line_ink.proofs.laws.same_in_both_directions.Goals as goal

pub returns : goal.returns
returns c = record { points = points_of_line-turn; on_line = is_on_line-turn }
