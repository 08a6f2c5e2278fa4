use Rattle.std.proofs.Common.{◌≡◌, length, Some, None, sym, ap, ◌∙◌, refl, arith}
use Rattle.std.specs.Prelude.{position}
use Rattle.invalidate.specs.Invalidation.{is_invalid}
use Rattle.desk.specs.Jobs.{windows_after_job, jobs_of}
use Rattle.desk.specs.Desks.{Desk, after_job}
use Rattle.engine.specs.States.{desk_of}
use Rattle.engine.specs.Machines.{Machine}
use Rattle.desk.proofs.CallerLemmas.{no_jobs, length-windows_after_job}
use Rattle.engine.proofs.KeptLemmas.{jobs-step, exec-more, paints-more, begun-more, jobs_done, few_jobs}
use Rattle.engine.proofs.engine.Engine.do_jobs.Goals as goal

pub loop-which-init : goal.loop-which-init
loop-which-init c = record { count = refl; paints = record { rest = refl; desk = refl; screen = refl }; begun = c.requires.begun; jobs = omega arith; desk = refl }

pub overflow_add-jobs : goal.overflow_add-jobs
overflow_add-jobs c =
    let few = few_jobs (desk_of c.args.self.now.state) in
    let count = c.loop-which.invariant.count in
    let jobs = c.loop-which.invariant.jobs in
    let most = c.next_job.ensures.few in
    record { fits = omega arith }

pub do_job-requires : goal.do_job-requires
do_job-requires c = record { first = sym c.next_job.ensures.next ∙ c.in-Some.is; begun = c.loop-which.invariant.begun }

pub loop-which-smaller : goal.loop-which-smaller
loop-which-smaller c =
    let m = c.loop-which.self in
    let first : position is_invalid m.state.windows ≡ Some c.in-Some.which = sym c.next_job.ensures.next ∙ c.in-Some.is in
    let step = jobs-step m.setup (desk_of m.state) c.in-Some.which first in
    let new : jobs_of c.do_job.new.self.state.windows ≡ jobs_of (windows_after_job m.state.windows) = ap (λ (d : Desk). jobs_of d.windows) c.do_job.ensures.desk in
    omega arith

pub loop-which-preserved : goal.loop-which-preserved
loop-which-preserved c =
    let m = c.loop-which.self in
    let first : position is_invalid m.state.windows ≡ Some c.in-Some.which = sym c.next_job.ensures.next ∙ c.in-Some.is in
    let step = jobs-step m.setup (desk_of m.state) c.in-Some.which first in
    let new : jobs_of c.do_job.new.self.state.windows ≡ jobs_of (windows_after_job m.state.windows) = ap (λ (d : Desk). jobs_of d.windows) c.do_job.ensures.desk in
    record {
      count = ap (λ (d : Desk). length d.windows) c.do_job.ensures.desk ∙ length-windows_after_job m.state.windows ∙ c.loop-which.invariant.count;
      paints = paints-more c.args.self.now m c.do_job.new.self c.loop-which.jobs (after_job m.setup (desk_of m.state)) c.loop-which.invariant.paints c.do_job.ensures;
      begun = begun-more m c.do_job.new.self (after_job m.setup (desk_of m.state)) c.do_job.ensures c.loop-which.invariant.begun;
      jobs = let jobs = c.loop-which.invariant.jobs in omega arith;
      desk = exec-more c.args.self.now.setup _ m c.do_job.new.self c.in-Some.which (ap (λ (n : Machine). n.setup) c.loop-which.invariant.paints.rest) first c.do_job.ensures c.loop-which.invariant.desk;
    }

pub returns : goal.returns
returns c =
    let m = c.loop-which.self in
    let none : position is_invalid m.state.windows ≡ None = sym c.next_job.ensures.next ∙ c.in_default.is in
    let left = no_jobs m.state.windows none in
    record {
      jobs = let jobs = c.loop-which.invariant.jobs in omega arith;
      desk = jobs_done c.args.self.now.setup _ c.args.self.now m c.loop-which.jobs c.loop-which.invariant.paints none c.loop-which.invariant.desk;
    }
