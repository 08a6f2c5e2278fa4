use Rattle.win_tree.proofs.ClipLemmas.{family_clipped}
use Rattle.win_tree.proofs.laws.descendants_are_clipped.Goals as goal

pub returns : goal.returns
returns c = λ screen ws h w stack live. family_clipped screen ws h w stack live
