use Rattle.engine.proofs.KeptLemmas.{tick-kept}
use Rattle.engine.specs.contracts.engine.Engine.{the_view}
use Rattle.engine.proofs.engine.Engine.tick.Goals as goal

pub invariant_of-self : goal.invariant_of-self
invariant_of-self c = tick-kept (the_view c.self.inside) c.tick.new.self c.tick.result _ c.self.invariant c.tick.ensures.drawer c.tick.ensures.shown
