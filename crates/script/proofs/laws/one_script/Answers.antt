use Rattle.script.proofs.ItemLaws.{one_script}
use Rattle.script.proofs.laws.one_script.Goals as goal

pub returns : goal.returns
returns c = one_script
