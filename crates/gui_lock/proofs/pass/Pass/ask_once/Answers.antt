use Rattle.gui_lock.proofs.PassesAfterCalls.{waits_held}
use Rattle.gui_lock.proofs.pass.Pass.ask_once.Goals as goal

pub returns-else-self-eq0-clause-waits : goal.returns-else-self-eq0-clause-waits
returns-else-self-eq0-clause-waits g c = waits_held _ _ _ _ _ c.ask.ensures
