use Rattle.desk.proofs.ValidLemmas.{all_covered, all_painted}
use Rattle.desk.proofs.laws.damage_covers_calls.Goals as goal

pub returns : goal.returns
returns c = record { covers = all_covered; valid = all_painted }
