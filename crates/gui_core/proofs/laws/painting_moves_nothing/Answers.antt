use Rattle.gui_core.proofs.SceneryLemmas.{painting_moves_nothing}
use Rattle.gui_core.proofs.laws.painting_moves_nothing.Goals as goal

pub returns : goal.returns
returns c = painting_moves_nothing
