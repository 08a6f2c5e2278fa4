use Rattle.scene.specs.Clips.{deepest_level}
use Rattle.messages.specs.Delivery.{lineage, delivered}
use Rattle.messages.proofs.LawLemmas.{valid_along, put_valid}
use Rattle.messages.proofs.laws.stacks_stay_valid.Goals as goal

pub returns-clause-message : goal.returns-clause-message
unfolding delivered
returns-clause-message c = λ assets screen message argument w ws stack. valid_along assets screen message argument (lineage deepest_level ws w) ws stack

pub returns-clause-values : goal.returns-clause-values
returns-clause-values c = λ screen ws i w values stack at. put_valid screen ws i w values stack at
