use Rattle.std.proofs.Common.{arith}
use Rattle.memdev.proofs.TableLemmas.{IsGone-deleted, IsGone-with_device, IsGone-without_device, IsGone-with_drawn}
use Rattle.memdev.proofs.laws.handles_are_never_used_again.Goals as goal

pub returns-clause-gone : goal.returns-clause-gone
returns-clause-gone c = λ t d frame given live. IsGone-deleted t d frame given live

pub returns-clause-created : goal.returns-clause-created
returns-clause-created c = λ t frame d given gone. IsGone-with_device t frame d given gone

pub returns-clause-deleted : goal.returns-clause-deleted
returns-clause-deleted c = λ t gone d is_gone. IsGone-without_device t gone d is_gone

pub returns-clause-written : goal.returns-clause-written
returns-clause-written c = λ t lent d frame gone. IsGone-with_drawn t lent d frame gone

pub returns-clause-next : goal.returns-clause-next
returns-clause-next c = λ t d gone same. omega (arith, gone.given, same)
