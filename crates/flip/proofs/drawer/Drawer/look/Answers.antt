use Rattle.std.proofs.Common.{rules}
use Rattle.flip.proofs.StepsKeepRule.{looks}
use Rattle.flip.proofs.drawer.Drawer.look.Goals as goal

pub load-requires : goal.load-requires
load-requires c = let held = c.self.invariant in let at = c.deref.ensures in (search rules, search rules, looks _ _ _ _ held.view)
