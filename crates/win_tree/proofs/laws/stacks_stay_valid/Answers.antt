use Rattle.win_tree.proofs.ValidLemmas.{placed, created_valid, without_valid, raised_valid, lowered_valid}
use Rattle.scene.proofs.CallerLemmas.{changed_valid, mapped_valid}
use Rattle.win_tree.proofs.laws.stacks_stay_valid.Goals as goal

pub returns-clause-created : goal.returns-clause-created
returns-clause-created c = λ ws n w over' stack given fresh live above few window.
    created_valid ws n w over' (placed ws w.parent over' stack live)
    (record { stack = stack; given = given; fresh = fresh; parent = live; above = above; few = few; window = window })

pub returns-clause-deleted : goal.returns-clause-deleted
returns-clause-deleted c = λ ws h w stack live other. without_valid ws h (placed ws h w stack live) stack other

pub returns-clause-raised : goal.returns-clause-raised
returns-clause-raised c = λ ws h w stack live other. raised_valid ws h (placed ws h w stack live) stack other

pub returns-clause-lowered : goal.returns-clause-lowered
returns-clause-lowered c = λ ws h w stack live other. lowered_valid ws h (placed ws h w stack live) stack other

pub returns-clause-changed : goal.returns-clause-changed
returns-clause-changed c = λ ws h change stack kept. changed_valid h change ws stack kept

pub returns-clause-each : goal.returns-clause-each
returns-clause-each c = λ ws change stack kept. mapped_valid change ws stack kept
