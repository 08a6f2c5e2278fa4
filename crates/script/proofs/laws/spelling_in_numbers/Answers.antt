use Rattle.std.proofs.Common.{refl}
use Rattle.script.proofs.ExampleLaws.{small_is, ticks_are}
use Rattle.script.proofs.laws.spelling_in_numbers.Goals as goal

pub returns : goal.returns
returns c = record { items = small_is; listing = refl; ticks = ticks_are; ticks_listing = refl }
