use Rattle.frame.proofs.PictureLaws.{equal_by_points}
use Rattle.frame.proofs.laws.pictures_equal_by_points.Goals as goal

pub returns : goal.returns
returns c = equal_by_points
