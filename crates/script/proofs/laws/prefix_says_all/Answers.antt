use Rattle.script.proofs.CallerLemmas.{script-take, take-script, fault-take, take-fault}
use Rattle.script.proofs.laws.prefix_says_all.Goals as goal

pub returns : goal.returns
returns c = record { script = λ file s. (script-take file s, take-script file s); fault = λ file fault. (fault-take file fault, take-fault file fault) }
