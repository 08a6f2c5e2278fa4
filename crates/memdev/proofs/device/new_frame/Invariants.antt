use Rattle.std.proofs.Common.{◌≡◌, ℕ, ◌*◌, ◌<◌}
use Rattle.frame.specs.Pictures.{HasShape, colour_at}
use Rattle.memdev.proofs.device.new_frame.Given as goal

abbrev pub invariant-loop-y : goal.invariant-loop-y
invariant-loop-y l = record {
  shape : HasShape l.frame.picture;
  width : l.frame.picture.width ≡ l.w;
  height : l.frame.picture.height ≡ l.h;
  rows : (x v : ℕ) → x < l.w → v < l.y → colour_at l.frame.picture x v ≡ l.colour;
  writes : l.frame.writes ≡ l.y * l.w;
}
