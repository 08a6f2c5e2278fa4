use Rattle.std.proofs.Common.{◌<◌, sym, subst}
use Rattle.engine.specs.Machines.{Machine}
use Rattle.engine.proofs.CallLemmas.{end_own_kept}
use Rattle.engine.specs.contracts.engine.Engine.{the_view}
use Rattle.engine.proofs.engine.Engine.end_own.Goals as goal

pub invariant_of-self : goal.invariant_of-self
invariant_of-self c =
    let m = the_view c.self.inside in
    end_own_kept m c.args.own c.end_own.new.self c.self.invariant (subst (λ (k : Machine). k.state.screen.switches < k.made) (sym c.self.view_is) c.requires.room) c.end_own.ensures.finds c.end_own.ensures.ended
