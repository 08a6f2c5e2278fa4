use Rattle.std.proofs.Common.{◌<◌, None, ◌≡◌, sym, subst}
use Rattle.engine.specs.Machines.{Machine}
use Rattle.engine.proofs.CallLemmas.{ends, end_kept}
use Rattle.engine.specs.contracts.engine.Engine.{the_view}
use Rattle.engine.proofs.engine.Engine.end.Goals as goal

pub invariant_of-self : goal.invariant_of-self
invariant_of-self c =
    let m = the_view c.self.inside in
    end_kept m c.end.result _ c.end.new.self c.self.invariant (subst (λ (k : Machine). k.state.screen.switches < k.made) (sym c.self.view_is) c.requires.room) c.end.ensures.finds c.end.ensures.ended

pub returns : goal.returns
returns c =
    let m = the_view c.self.inside in
    let fresh = subst (λ (k : Machine). k.marked ≡ None) (sym c.self.view_is) c.requires.fresh in
    record { by = λ actor. ends _ m actor c.end.result c.end.new.self _ fresh c.self.view_is c.answered.ensures c.end.ensures.finds c.end.ensures.ended }
