use Rattle.std.proofs.Common.{rules, ap, ◌∙◌}
use Rattle.flip.specs.declared.views.Drawing.{Drawing}
use Rattle.flip.proofs.StepsKeepRule.{own_ticks}
use Rattle.flip.proofs.drawer.Drawer.tick.Goals as goal

pub swap-requires : goal.swap-requires
swap-requires c = let held = c.self.invariant in let at = c.deref.ensures in (search rules, search rules, own_ticks _ _ _ _ held.view (ap (λ (d : Drawing). d.alone) c.self.view_is ∙ search rules))
