use Rattle.std.proofs.Common.{ap, ◌∙◌}
use Rattle.desk.specs.Setups.{painter}
use Rattle.gui_core.specs.Histories.{Chronicle, state_of}
use Rattle.mtgui_top.proofs.player.Player.into_painted.Goals as goal

pub returns : goal.returns
returns c = c.into_painted.ensures ∙ ap (λ (k : Chronicle). painter k.setup (state_of k).windows) c.self.view_is
