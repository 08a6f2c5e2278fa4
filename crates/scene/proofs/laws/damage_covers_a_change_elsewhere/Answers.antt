use Rattle.scene.proofs.ChangeLemmas.{AreasCover-away}
use Rattle.scene.proofs.laws.damage_covers_a_change_elsewhere.Goals as goal

pub returns : goal.returns
returns c = AreasCover-away
