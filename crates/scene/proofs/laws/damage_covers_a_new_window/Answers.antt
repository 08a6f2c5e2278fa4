use Rattle.scene.proofs.ChangeLemmas.{AreasCover-adds}
use Rattle.scene.proofs.laws.damage_covers_a_new_window.Goals as goal

pub returns : goal.returns
returns c = AreasCover-adds
