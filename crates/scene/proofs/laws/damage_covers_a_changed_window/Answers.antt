use Rattle.scene.proofs.ChangeLemmas.{AreasCover-changes}
use Rattle.scene.proofs.laws.damage_covers_a_changed_window.Goals as goal

pub returns : goal.returns
returns c = AreasCover-changes
