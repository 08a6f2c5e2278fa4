use Rattle.std.proofs.Common.{rules, sym, subst, arith}
use Rattle.flip.specs.declared.views.Drawing.{Drawing}
use Rattle.flip.specs.Drawers.{IsFree}
use Rattle.flip.proofs.StepsKeepRule.{posts}
use Rattle.flip.proofs.drawer.Drawer.post.Goals as goal

pub swap-requires : goal.swap-requires
swap-requires c =
    let held = c.self.invariant in
    let at = c.deref.ensures in
    let free = subst (λ (d : Drawing). IsFree d c.args.back) (sym c.self.view_is) c.requires.free in
    (search rules, search rules, posts _ _ _ _ c.args.back _ held.view (omega arith) free)
