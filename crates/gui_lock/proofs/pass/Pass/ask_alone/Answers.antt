use Rattle.gui_lock.proofs.PassesAfterCalls.{waits_free}
use Rattle.gui_lock.proofs.pass.Pass.ask_alone.Goals as goal

pub returns-clause-waits : goal.returns-clause-waits
returns-clause-waits g c = (waits_free _ _ _ _ _ _ _ c.requires.free c.in-Ok.ensures.sees c.in-Ok.ensures.depth c.ask-answer.ensures c.in-Ok-unlock.ensures.depth).0
