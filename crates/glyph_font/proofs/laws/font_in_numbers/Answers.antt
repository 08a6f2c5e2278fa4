use Rattle.std.proofs.Common.{refl}
use Rattle.std.specs.Fmt.{digits}
use Rattle.glyph_font.proofs.laws.font_in_numbers.Goals as goal

pub returns : goal.returns
unfolding digits
returns c = record { lines = refl; width = refl; no_width = refl; set = refl; clear = refl; text = refl }
