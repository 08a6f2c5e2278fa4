use Rattle.std.proofs.Common.{◌≡◌, ℕ, ◌+◌, ◌*◌, ◌%◌, ◌^◌, ◌<◌}
use Rattle.frame.specs.Pictures.{HasShape, colour_at}
use Rattle.multibuf.proofs.copying.copy_all.Given as goal

abbrev pub invariant-loop-y : goal.invariant-loop-y
invariant-loop-y l = record {
  shape : HasShape l.to.picture;
  width : l.to.picture.width ≡ l.initial.to.picture.width;
  height : l.to.picture.height ≡ l.initial.to.picture.height;
  rows : (x v : ℕ) → x < l.initial.to.picture.width → v < l.y → colour_at l.to.picture x v ≡ colour_at l.from.picture x v;
  writes : l.to.writes ≡ (l.initial.to.writes + l.y * l.initial.to.picture.width) % 2 ^ 64;
}
