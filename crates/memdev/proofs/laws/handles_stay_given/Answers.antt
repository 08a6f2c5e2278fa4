use Rattle.std.proofs.Common.{◌+◌, arith}
use Rattle.memdev.proofs.TableLemmas.{AreGiven-with_device, AreGiven-without_device, AreGiven-with_drawn, frame_of-below, frame_of-above}
use Rattle.memdev.proofs.laws.handles_stay_given.Goals as goal

pub returns-clause-created : goal.returns-clause-created
returns-clause-created c = λ t frame given. AreGiven-with_device t frame given

pub returns-clause-deleted : goal.returns-clause-deleted
returns-clause-deleted c = λ t gone given. AreGiven-without_device t gone given

pub returns-clause-written : goal.returns-clause-written
returns-clause-written c = λ t lent frame given. AreGiven-with_drawn t lent frame given

pub returns-clause-screen : goal.returns-clause-screen
returns-clause-screen c = λ t given. frame_of-below 0 t.handles 0 t.live given (omega arith)

pub returns-clause-next : goal.returns-clause-next
returns-clause-next c = λ t given. frame_of-above 0 t.handles (t.handles + 1) t.live given (omega arith)
