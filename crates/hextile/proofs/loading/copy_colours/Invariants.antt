use Rattle.std.proofs.Common.{◌≡◌, ◌+◌, ◌*◌, ◌/◌, ◌%◌, take, map}
use Rattle.std.specs.List.{range_with_len}
use Rattle.frame.specs.Pictures.{colour_at}
use Rattle.hextile.proofs.loading.copy_colours.Given as goal

-- the colours of the rows so far
abbrev pub invariant-loop-v : goal.invariant-loop-v
invariant-loop-v l = record {
  place : l.at ≡ l.v * l.w;
  colours : take l.at l.colours ≡ map (λ i. colour_at l.frame.picture (l.x + i % l.w) (l.y + i / l.w)) (range_with_len 0 l.at);
}
