use Rattle.gui_core.proofs.PainterLemmas.{calls_leave_shown, quiet_shows, quiet_is_painter, quiet_undrawn}
use Rattle.gui_core.proofs.laws.shown_picture_is_whole.Goals as goal

pub returns : goal.returns
returns c = record { calls = calls_leave_shown; latest = quiet_shows; quiet = quiet_is_painter; undrawn = quiet_undrawn }
