use Rattle.std.proofs.Common.{◌≡◌, ◌+◌, length}
use Rattle.desk.specs.Jobs.{jobs_of}
use Rattle.desk.specs.Desks.{after_jobs}
use Rattle.engine.specs.States.{desk_of}
use Rattle.surfaces.specs.Panes.{IsBegun}
use Rattle.engine.specs.Machines.{Paints}
use Rattle.engine.proofs.engine.Engine.do_jobs.Given as goal

abbrev pub invariant-loop-which : goal.invariant-loop-which
invariant-loop-which l = record {
  count : length l.self.state.windows ≡ length l.fn.self.state.windows;
  paints : Paints l.fn.self l.jobs (desk_of l.self.state) l.self;
  begun : IsBegun l.self.drawer.buffers l.self.state.screen;
  jobs : l.jobs + jobs_of l.self.state.windows ≡ jobs_of l.fn.self.state.windows;
  desk : after_jobs l.fn.self.setup (jobs_of l.self.state.windows) (desk_of l.self.state) ≡ after_jobs l.fn.self.setup (jobs_of l.fn.self.state.windows) (desk_of l.fn.self.state);
}

abbrev pub decreases-loop-which : goal.decreases-loop-which
decreases-loop-which l = jobs_of l.self.state.windows
