use Rattle.gui_core.proofs.SceneryLemmas.{refusal_changes_nothing}
use Rattle.gui_core.proofs.laws.refusal_changes_nothing.Goals as goal

pub returns : goal.returns
returns c = refusal_changes_nothing
