use Rattle.gui_core.proofs.HandleLemmas.{never_used_again}
use Rattle.gui_core.proofs.laws.device_handles_are_never_used_again.Goals as goal

pub returns : goal.returns
returns c = never_used_again
