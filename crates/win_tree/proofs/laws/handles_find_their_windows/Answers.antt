use Rattle.win_tree.proofs.ValidLemmas.{placed, created_found, without_found, raised_found, lowered_found}
use Rattle.win_tree.proofs.laws.handles_find_their_windows.Goals as goal

pub returns-clause-created : goal.returns-clause-created
returns-clause-created c = λ ws n w over' stack given fresh live x. created_found ws n w (placed ws w.parent over' stack live) stack given fresh x

pub returns-clause-deleted : goal.returns-clause-deleted
returns-clause-deleted c = λ ws h x. without_found ws h x

pub returns-clause-raised : goal.returns-clause-raised
returns-clause-raised c = λ ws h w stack live other x. raised_found ws h (placed ws h w stack live) stack other x

pub returns-clause-lowered : goal.returns-clause-lowered
returns-clause-lowered c = λ ws h w stack live other x. lowered_found ws h (placed ws h w stack live) stack other x
