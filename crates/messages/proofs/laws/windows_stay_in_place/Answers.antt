use Rattle.scene.specs.Clips.{deepest_level}
use Rattle.messages.specs.Delivery.{lineage, delivered}
use Rattle.messages.proofs.WindowLemmas.{place-with_new_values}
use Rattle.messages.proofs.KeepingLemmas.{places_along}
use Rattle.messages.proofs.laws.windows_stay_in_place.Goals as goal

pub returns-clause-message : goal.returns-clause-message
unfolding delivered
returns-clause-message c = λ assets screen message argument w ws. places_along assets screen message argument (lineage deepest_level ws w) ws

pub returns-clause-values : goal.returns-clause-values
returns-clause-values c = λ screen ws values w. place-with_new_values screen ws values w
