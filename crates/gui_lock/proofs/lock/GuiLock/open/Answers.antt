use Rattle.std.proofs.Common.{ap, sym}
use Rattle.gui_lock.proofs.SeatsKeepRule.{opens}
use Rattle.gui_lock.proofs.lock.GuiLock.open.Goals as goal

pub new-requires : goal.new-requires
new-requires g c = rw (c.push_reserved.ensures.items, c.in-Ok-with_capacity.ensures.items) (opens g.V.Kept.entries g.V.Kept.kind _ c.args.value c.requires.empty (ap g.V.Kept.kind (sym c.of.ensures)))
