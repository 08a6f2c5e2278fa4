use Rattle.std.proofs.Common.{arith}
use Rattle.context.specs.Contexts.{first_owned}
use Rattle.context.proofs.ListLemmas.{length-after_saves}
use Rattle.context.proofs.laws.contexts_in_numbers.Goals as goal

pub returns-clause-eight : goal.returns-clause-eight
returns-clause-eight c = λ saves few full. omega (arith, length-after_saves saves first_owned, few, full)
