use Rattle.std.proofs.Common.{refl}
use Rattle.pixel_format.specs.Formats.{is_sound, is_max, fits, shares_a_bit, bits_of}
use Rattle.pixel_format.proofs.format.Format.first.Goals as goal

pub invariant_of-result : goal.invariant_of-result
unfolding is_sound is_max fits shares_a_bit bits_of
invariant_of-result c = refl
