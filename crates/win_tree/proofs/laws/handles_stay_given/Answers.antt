use Rattle.scene.proofs.CallerLemmas.{mapped_given}
use Rattle.win_tree.proofs.ValidLemmas.{placed, created_given, without_given, raised_given, lowered_given}
use Rattle.win_tree.proofs.laws.handles_stay_given.Goals as goal

pub returns-clause-created : goal.returns-clause-created
returns-clause-created c = λ ws n w over' stack given next live. created_given ws n w (placed ws w.parent over' stack live) given next

pub returns-clause-deleted : goal.returns-clause-deleted
returns-clause-deleted c = λ ws n h w stack given live. without_given ws n h (placed ws h w stack live) given

pub returns-clause-raised : goal.returns-clause-raised
returns-clause-raised c = λ ws n h w stack given live other. raised_given ws n h (placed ws h w stack live) stack other given

pub returns-clause-lowered : goal.returns-clause-lowered
returns-clause-lowered c = λ ws n h w stack given live other. lowered_given ws n h (placed ws h w stack live) stack other given

pub returns-clause-each : goal.returns-clause-each
returns-clause-each c = λ ws n change given kept. mapped_given n change ws kept given
