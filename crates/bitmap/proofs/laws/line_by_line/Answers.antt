use Rattle.bitmap.proofs.DraftLaws.{whole_says}
use Rattle.bitmap.proofs.FaultLaws.{whole_read}
use Rattle.bitmap.proofs.laws.line_by_line.Goals as goal

pub returns : goal.returns
returns c = record { taken = whole_read; left = whole_says }
