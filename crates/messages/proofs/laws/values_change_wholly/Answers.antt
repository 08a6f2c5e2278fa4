use Rattle.scene.specs.Clips.{deepest_level}
use Rattle.messages.specs.Delivery.{lineage, delivered}
use Rattle.messages.proofs.WindowLemmas.{itself_given}
use Rattle.messages.proofs.DamageLemmas.{change_invalid, new_values_invalid}
use Rattle.messages.proofs.laws.values_change_wholly.Goals as goal

pub returns-clause-message : goal.returns-clause-message
unfolding delivered
returns-clause-message c = λ assets screen message argument w ws i v u p there here other inside.
    change_invalid assets screen message argument (lineage deepest_level ws w) ws i v u p there here other inside

pub returns-clause-values : goal.returns-clause-values
returns-clause-values c = λ screen ws values w p other inside. new_values_invalid screen ws values w p other inside

pub returns-clause-same : goal.returns-clause-same
returns-clause-same c = λ screen ws w. itself_given screen ws w
