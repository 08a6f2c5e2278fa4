use Rattle.context.proofs.ListLemmas.{restored-written-saved}
use Rattle.context.proofs.laws.save_then_restore.Goals as goal

pub returns-clause-all : goal.returns-clause-all
returns-clause-all c = λ all task context some within. restored-written-saved all task context some within
