use Rattle.std.proofs.Common.{◌≤◌, sym, subst}
use Rattle.engine.specs.Machines.{Machine}
use Rattle.engine.proofs.CallLemmas.{created_kept}
use Rattle.engine.specs.contracts.engine.Engine.{the_view}
use Rattle.engine.proofs.engine.Engine.create.Goals as goal

pub invariant_of-self : goal.invariant_of-self
invariant_of-self c =
    let m = the_view c.self.inside in
    let n = c.args.new.now in
    created_kept m n.parent n.x n.y n.w n.h n.class c.create.result c.create.new.self c.self.invariant (subst (λ (k : Machine). k.state.handles ≤ k.made) (sym c.self.view_is) c.requires)
    (rw (c.class_count.ensures, c.screen-screen.ensures) at c.create.ensures)
