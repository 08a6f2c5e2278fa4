use Rattle.scene.proofs.ChangeLemmas.{AreasCover-reorders}
use Rattle.scene.proofs.laws.damage_covers_a_new_order.Goals as goal

pub returns : goal.returns
returns c = AreasCover-reorders
