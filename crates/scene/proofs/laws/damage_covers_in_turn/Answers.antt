use Rattle.scene.proofs.FollowLemmas.{DamageCovers-same, DamageCovers-then}
use Rattle.scene.proofs.laws.damage_covers_in_turn.Goals as goal

pub returns : goal.returns
returns c = record { same = DamageCovers-same; chained = λ first second third us vs ws p f g. DamageCovers-then first us second vs third ws p f g }
