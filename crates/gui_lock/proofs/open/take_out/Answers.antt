use Rattle.std.proofs.Common.{◌≤◌, subst}
use Rattle.gui_lock.proofs.SeatsKeepRule.{ends}
use Rattle.gui_lock.proofs.open.take_out.Goals as goal

pub returns : goal.returns
returns g c = rw (← c.lock.view_is) (ends g.V.Kept.entries g.V.Kept.kind _ _ _ _ c.args.seat.me.0 _ c.close_with-closed.ensures.values.2 c.take-value.ensures.value c.requires.free (λ k pos le. c.requires.all k pos (subst (λ l. k ≤ l.passes) c.lock.view_is le)))
