use Rattle.scene.proofs.AreaLemmas.{AreasCover-areas}
use Rattle.scene.proofs.ChangeLemmas.{DamageCovers-alone}
use Rattle.scene.proofs.laws.damage_covers_areas.Goals as goal

pub returns : goal.returns
returns c = record { areas = AreasCover-areas; alone = DamageCovers-alone }
