use Rattle.scene.specs.Clips.{deepest_level}
use Rattle.messages.specs.Delivery.{lineage, delivered}
use Rattle.messages.proofs.LawLemmas.{stays_apart}
use Rattle.messages.proofs.laws.others_stay.Goals as goal

pub returns : goal.returns
unfolding delivered
returns c = λ assets screen message argument w ws i v at apart. stays_apart assets screen message argument (lineage deepest_level ws w) ws i v at apart
