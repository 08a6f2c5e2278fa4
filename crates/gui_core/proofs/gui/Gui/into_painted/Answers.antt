use Rattle.std.proofs.Common.{ap, ◌∙◌}
use Rattle.desk.specs.Setups.{painter}
use Rattle.engine.specs.States.{State}
use Rattle.gui_core.specs.Histories.{Core, state_of}
use Rattle.gui_core.proofs.gui.Gui.into_painted.Goals as goal

pub returns : goal.returns
returns c =
    c.into_painted.ensures
    ∙ ap (λ (s : State). painter c.self.inside.engine.setup s.windows) c.self.invariant.recorded.state
    ∙ ap (λ (k : Core). painter k.chronicle.setup (state_of k.chronicle).windows) c.self.view_is
