use Rattle.std.proofs.Common.{sym, ◌∙◌}
use Rattle.engine.proofs.CallLemmas.{exec1_idle, exec1_makes, exec1_waits}
use Rattle.engine.proofs.engine.Engine.exec1.Goals as goal

pub returns-in_default : goal.returns-in_default
returns-in_default c = record { by = λ actor. exec1_idle c.args.self.now actor c.requires.fresh (sym c.next_job.ensures.next ∙ c.in_default.is) }

pub returns-in-Err : goal.returns-in-Err
returns-in-Err c = record { by = λ actor. exec1_waits c.args.self.now c.begin_own.new.self actor c.in-Some.which c.in-Err.refusal c.requires.fresh (record { buffers = c.next_job.ensures.buffers; pictures = c.next_job.ensures.pictures; first = sym c.next_job.ensures.next ∙ c.in-Some.is }) c.in-Err.ensures.screen c.in-Err.ensures.rest }

pub returns : goal.returns
returns c = record { by = λ actor. exec1_makes c.args.self.now c.begin_own.new.self c.do_job.new.self c.end_own.new.self actor c.in-Some.which c.in-Ok.own (record { buffers = c.next_job.ensures.buffers; pictures = c.next_job.ensures.pictures; first = sym c.next_job.ensures.next ∙ c.in-Some.is }) c.in-Ok.ensures.screen c.in-Ok.ensures.rest c.do_job.ensures c.end_own.ensures.finds c.end_own.ensures.ended }
