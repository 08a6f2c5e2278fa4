use Rattle.std.proofs.Common.{◌≡◌, take, map}
use Rattle.pixel_format.specs.Formats.{value_of}
use Rattle.hextile.proofs.loading.put_each.Given as goal

-- the values so far, and those of the two colours
abbrev pub invariant-loop-i : goal.invariant-loop-i
invariant-loop-i l = record {
  one : l.one_value ≡ value_of l.format l.one;
  other : l.other_value ≡ value_of l.format l.other;
  values : take l.i l.points ≡ map (value_of l.format) (take l.i l.colours);
}
