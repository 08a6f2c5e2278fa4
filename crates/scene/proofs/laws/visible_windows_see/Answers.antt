use Rattle.scene.proofs.VisibleLemmas.{windows_seeing-visible, is_damaged-visible, painted-visible}
use Rattle.scene.proofs.laws.visible_windows_see.Goals as goal

pub returns : goal.returns
returns c = record { seeing = windows_seeing-visible; damaged = is_damaged-visible; colour = painted-visible }
