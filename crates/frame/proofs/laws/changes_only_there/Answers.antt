use Rattle.frame.proofs.PictureLaws.{colour_at-changed, has_shape-changed}
use Rattle.frame.proofs.CountLaws.{points_in-point, points_in-span, points_in-tile}
use Rattle.frame.proofs.laws.changes_only_there.Goals as goal

pub returns : goal.returns
returns c = record {
  colour = λ p here colour x y shape x_in y_in. colour_at-changed p here colour x y x_in y_in;
  shape = has_shape-changed;
  point = points_in-point;
  span = points_in-span;
  tile = points_in-tile;
}
