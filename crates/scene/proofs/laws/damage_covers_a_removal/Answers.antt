use Rattle.scene.proofs.ChangeLemmas.{AreasCover-takes}
use Rattle.scene.proofs.laws.damage_covers_a_removal.Goals as goal

pub returns : goal.returns
returns c = AreasCover-takes
