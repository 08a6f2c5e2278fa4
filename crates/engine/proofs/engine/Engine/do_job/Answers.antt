use Rattle.std.proofs.Common.{◌≡◌, Some, refl, sym, ap, subst, ◌∙◌}
use Rattle.std.specs.Prelude.{position}
use Rattle.frame.specs.Pictures.{Picture}
use Rattle.multibuf.specs.Screens.{latest}
use Rattle.invalidate.specs.Invalidation.{is_invalid}
use Rattle.desk.specs.Jobs.{windows_after_job, picture_after_job}
use Rattle.surfaces.specs.Panes.{IsBegun, with_drawn}
use Rattle.engine.specs.Machines.{Machine}
use Rattle.desk.proofs.CallerLemmas.{job_shows}
use Rattle.engine.proofs.KeptLemmas.{kept-job}
use Rattle.surfaces.proofs.CallerLemmas.{latest-draw}
use Rattle.engine.specs.contracts.engine.Engine.{the_view}
use Rattle.engine.proofs.engine.Engine.do_job.Goals as goal

-- the core as it was, and what the job draws
abbrev before : goal.After-make_valid → Machine
before c = the_view c.self.inside

abbrev painted : goal.After-make_valid → Picture
painted c = picture_after_job (before c).setup c.self.inside.windows.windows (latest c.self.inside.surfaces.screen)

panes_are : (c : goal.After-make_valid) → c.paint.new.self ≡ with_drawn c.self.inside.surfaces (painted c)
panes_are c =
    c.paint.ensures
    ∙ ap (with_drawn c.self.inside.surfaces)
    (job_shows (before c).setup c.self.inside.windows.windows c.stack.result.now c.args.which c.self.inside.surfaces.width c.self.inside.surfaces.height (latest c.self.inside.surfaces.screen) _
    (subst (λ (k : Machine). position is_invalid k.state.windows ≡ Some c.args.which) (sym c.self.view_is) c.requires.first)
    c.stack.ensures c.self.invariant.width c.self.invariant.height refl)

begun : (c : goal.After-make_valid) → IsBegun (before c).drawer.buffers (before c).state.screen
begun c = subst (λ (k : Machine). IsBegun k.drawer.buffers k.state.screen) (sym c.self.view_is) c.requires.begun

pub invariant_of-self : goal.invariant_of-self
invariant_of-self c = rw (c.make_valid.ensures, panes_are c) (kept-job (before c) (painted c) c.self.invariant (begun c))

pub returns : goal.returns
returns c =
    rw (c.make_valid.ensures, panes_are c, ← c.self.view_is) (record {
      rest = refl;
      desk =
          ap (λ (p : Picture). record { windows = windows_after_job (before c).state.windows; handles = (before c).state.handles; picture = p; contexts = (before c).state.contexts; devices = (before c).state.devices })
          (latest-draw (before c).drawer.buffers (painted c) (before c).state.screen c.self.invariant.screen);
      screen = refl;
    })

pub paint-requires-clause-single : goal.paint-requires-clause-single
paint-requires-clause-single c = rw c.stack.ensures c.self.invariant.scene.stack.single
