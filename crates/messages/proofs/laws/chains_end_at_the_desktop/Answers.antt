use Rattle.messages.proofs.LawLemmas.{whole_lineage, desktop_alone}
use Rattle.messages.proofs.laws.chains_end_at_the_desktop.Goals as goal

pub returns-clause-eight : goal.returns-clause-eight
returns-clause-eight c = λ ws w levels stack found enough. whole_lineage ws w levels stack found enough

pub returns-clause-desktop : goal.returns-clause-desktop
returns-clause-desktop c = λ w ws levels stack. desktop_alone w ws levels stack
