use Rattle.std.proofs.Common.{refl}
use Rattle.pixel_format.specs.Formats.{format_of, is_max, fits, shares_a_bit, bits_of, part_of, value_of, pixel_bytes}
use Rattle.pixel_format.proofs.laws.formats_in_numbers.Goals as goal

pub returns : goal.returns
unfolding format_of is_max fits shares_a_bit bits_of part_of value_of pixel_bytes
returns c =
    record {
      first = refl;
      first_value = refl;
      first_pixel = refl;
      small = refl;
      small_value = refl;
      small_pixel = refl;
    }
