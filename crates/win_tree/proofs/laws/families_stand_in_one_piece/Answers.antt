use Rattle.win_tree.proofs.ValidLemmas.{placed, family_stands, raised_stands, lowered_stands, created_stands}
use Rattle.win_tree.proofs.laws.families_stand_in_one_piece.Goals as goal

pub returns-clause-family : goal.returns-clause-family
returns-clause-family c = λ ws h w stack live. family_stands ws h (placed ws h w stack live)

pub returns-clause-raised : goal.returns-clause-raised
returns-clause-raised c = λ ws h w stack live other. raised_stands ws h (placed ws h w stack live) stack other

pub returns-clause-lowered : goal.returns-clause-lowered
returns-clause-lowered c = λ ws h w stack live other. lowered_stands ws h (placed ws h w stack live) stack other

pub returns-clause-created : goal.returns-clause-created
returns-clause-created c = λ ws w over' stack live. created_stands ws w (placed ws w.parent over' stack live)
