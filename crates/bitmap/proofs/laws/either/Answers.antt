use Rattle.bitmap.proofs.FaultLaws.{either, not_both}
use Rattle.bitmap.proofs.laws.either.Goals as goal

pub returns : goal.returns
returns c = record { some = either; not_both = not_both }
