use Rattle.win_tree.proofs.DamageLemmas.{created_adds, without_takes, changed_changes, raised_reorders, lowered_reorders}
use Rattle.win_tree.proofs.laws.damage_covers_these_changes.Goals as goal

pub returns-clause-created : goal.returns-clause-created
returns-clause-created c = λ ws n w over' stack given fresh live. created_adds ws n w over' stack given fresh live

pub returns-clause-deleted : goal.returns-clause-deleted
returns-clause-deleted c = λ ws w stack live. without_takes ws w stack live

pub returns-clause-changed : goal.returns-clause-changed
returns-clause-changed c = λ ws w change stack live keeps. changed_changes ws w change stack live keeps

pub returns-clause-raised : goal.returns-clause-raised
returns-clause-raised c = λ ws w stack live other. raised_reorders ws w stack live other

pub returns-clause-lowered : goal.returns-clause-lowered
returns-clause-lowered c = λ ws w stack live other. lowered_reorders ws w stack live other
