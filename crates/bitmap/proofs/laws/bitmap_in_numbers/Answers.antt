use Rattle.std.proofs.Common.{refl}
use Rattle.bitmap.proofs.ExampleLaws.{dotted_is, other_is, narrow_is, open_is}
use Rattle.bitmap.proofs.laws.bitmap_in_numbers.Goals as goal

pub returns : goal.returns
returns c = record { text = dotted_is; other_text = other_is; colour = refl; transparent = refl; narrow = narrow_is; unended = open_is }
