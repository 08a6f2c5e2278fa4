use Rattle.script.proofs.ReadingLaws.{no_script_with_fault, fault_of, one_fault}
use Rattle.script.proofs.laws.faults_are_first.Goals as goal

pub returns : goal.returns
returns c = record { either = λ file. (λ x. no_script_with_fault file x.0 x.1, fault_of file); one = one_fault }
