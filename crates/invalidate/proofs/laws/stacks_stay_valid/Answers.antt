use Rattle.invalidate.proofs.LawLemmas.{area_valid, one_valid}
use Rattle.invalidate.proofs.laws.stacks_stay_valid.Goals as goal

pub returns-clause-area : goal.returns-clause-area
returns-clause-area c = λ clip area ws stack. area_valid clip area ws stack

pub returns-clause-one : goal.returns-clause-one
returns-clause-one c = λ clip area ws i w stack at. one_valid clip area ws i w stack at
