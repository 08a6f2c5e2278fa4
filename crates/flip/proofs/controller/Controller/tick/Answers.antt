use Rattle.std.proofs.Common.{rules}
use Rattle.flip.proofs.StepsKeepRule.{ticks}
use Rattle.flip.proofs.controller.Controller.tick.Goals as goal

pub swap-requires : goal.swap-requires
swap-requires c = let held = c.self.invariant in let at = c.deref.ensures in (search rules, search rules, ticks _ _ _ _ held.view)
