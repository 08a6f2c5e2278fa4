use Rattle.std.proofs.Common.{◌≡◌, true, take, map}
use Rattle.pixel_format.specs.Formats.{value_of}
use Rattle.hextile.proofs.loading.put_values.Given as goal

-- the values so far, where there are only the two
abbrev pub invariant-loop-i : goal.invariant-loop-i
invariant-loop-i l = l.are_two ≡ true → take l.i l.points ≡ map (value_of l.format) (take l.i l.colours)
