use Rattle.gui_core.proofs.ContextLemmas.{others_stay, others_stay_after, other_calls}
use Rattle.gui_core.proofs.laws.contexts_are_separate.Goals as goal

pub returns : goal.returns
returns c = record { others = others_stay; many = others_stay_after; rest = other_calls }
