use Rattle.std.proofs.Common.{sym, ap, ◌∙◌}
use Rattle.std.specs.Prelude.{not}
use Rattle.engine.proofs.CallLemmas.{exec_idle, exec_makes, exec_waits, some_first, none_first}
use Rattle.engine.proofs.engine.Engine.exec.Goals as goal

pub returns-then-is_none : goal.returns-then-is_none
returns-then-is_none c = record { by = λ actor. exec_idle c.args.self.now actor c.requires.fresh (sym c.next_job.ensures.next ∙ none_first c.next_job.result (c.is_none.ensures ∙ ap not c.if-is_none.true)) }

pub returns-in-Err : goal.returns-in-Err
returns-in-Err c =
    let first = some_first c.next_job.result (c.is_none.ensures ∙ ap not c.if-is_none.false) in
    record { by = λ actor. exec_waits c.args.self.now c.begin_own.new.self actor first.0 c.in-Err.refusal c.requires.fresh (record { buffers = c.next_job.ensures.buffers; pictures = c.next_job.ensures.pictures; first = sym c.next_job.ensures.next ∙ first.1 }) c.in-Err.ensures.screen c.in-Err.ensures.rest }

pub returns : goal.returns
returns c =
    let first = some_first c.next_job.result (c.is_none.ensures ∙ ap not c.if-is_none.false) in
    record { by = λ actor. exec_makes c.args.self.now c.begin_own.new.self c.do_jobs-jobs.new.self c.end_own.new.self actor first.0 c.in-Ok.own c.do_jobs-jobs.result (record { buffers = c.next_job.ensures.buffers; pictures = c.next_job.ensures.pictures; first = sym c.next_job.ensures.next ∙ first.1 }) c.in-Ok.ensures.screen c.in-Ok.ensures.rest c.do_jobs-jobs.ensures.jobs c.do_jobs-jobs.ensures.desk c.end_own.ensures.finds c.end_own.ensures.ended }
