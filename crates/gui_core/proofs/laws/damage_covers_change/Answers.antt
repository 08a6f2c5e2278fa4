use Rattle.scene.proofs.CallerLemmas.{painted-visible}
use Rattle.desk.specs.Setups.{screen_of}
use Rattle.gui_core.proofs.PainterLemmas.{damage_covers, valid_is_painter, undrawn_is_painter, stays_clean, exec_ends}
use Rattle.gui_core.proofs.laws.damage_covers_change.Goals as goal

pub returns : goal.returns
returns c = record { covers = damage_covers; valid = valid_is_painter; undrawn = undrawn_is_painter; clean = stays_clean; exec = exec_ends; visible = λ setup ws p. painted-visible setup.assets (screen_of setup) ws p }
