use Rattle.memdev.proofs.TableLemmas.{frame_of-with_device, frame_of-without, frame_of-with_frame}
use Rattle.memdev.proofs.laws.others_stay.Goals as goal

pub returns-clause-created : goal.returns-clause-created
returns-clause-created c = λ t frame d given. frame_of-with_device t frame d given

pub returns-clause-deleted : goal.returns-clause-deleted
returns-clause-deleted c = λ t gone d. frame_of-without gone d t.live

pub returns-clause-written : goal.returns-clause-written
returns-clause-written c = λ t lent d frame. frame_of-with_frame lent d frame t.live
