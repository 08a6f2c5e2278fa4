use Rattle.svg.proofs.PartLaws.{one_rectangle, none_outside}
use Rattle.svg.proofs.laws.each_point_lies_in_one_rectangle.Goals as goal

pub returns : goal.returns
returns c = record { one = one_rectangle; none_outside = none_outside }
