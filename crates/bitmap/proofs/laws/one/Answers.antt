use Rattle.bitmap.proofs.FaultLaws.{one_bitmap, one_fault}
use Rattle.bitmap.proofs.laws.one.Goals as goal

pub returns : goal.returns
returns c = record { bitmap = one_bitmap; fault = one_fault }
