use Rattle.scene.specs.Clips.{deepest_level}
use Rattle.messages.specs.Delivery.{lineage, delivered}
use Rattle.messages.proofs.WindowLemmas.{rest_of-with_new_values}
use Rattle.messages.proofs.KeepingLemmas.{rests_along}
use Rattle.messages.proofs.laws.only_values_change.Goals as goal

pub returns-clause-message : goal.returns-clause-message
unfolding delivered
returns-clause-message c = λ assets screen message argument w ws. rests_along assets screen message argument (lineage deepest_level ws w) ws

pub returns-clause-values : goal.returns-clause-values
returns-clause-values c = λ screen ws values w. rest_of-with_new_values screen ws values w
