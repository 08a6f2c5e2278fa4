use Rattle.scene.specs.Clips.{deepest_level}
use Rattle.messages.specs.Delivery.{lineage, delivered}
use Rattle.messages.proofs.KeepingLemmas.{puts_along}
use Rattle.messages.proofs.laws.deliver_is_a_chain.Goals as goal

pub returns : goal.returns
unfolding delivered
returns c = λ assets screen message argument w ws single. puts_along assets screen message argument (lineage deepest_level ws w) ws single
