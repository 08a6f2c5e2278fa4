use Rattle.scene.proofs.ListLemmas.{Adds-midst, Changes-midst, TakesAway-filter, Reorders-top}
use Rattle.scene.proofs.laws.lists_change_so.Goals as goal

pub returns : goal.returns
returns c = record { added = Adds-midst; changed = Changes-midst; taken_away = TakesAway-filter; on_top = Reorders-top }
