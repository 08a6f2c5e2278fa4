use Rattle.engine.proofs.KeptLemmas.{look-kept}
use Rattle.engine.specs.contracts.engine.Engine.{the_view}
use Rattle.engine.proofs.engine.Engine.look.Goals as goal

pub invariant_of-self : goal.invariant_of-self
invariant_of-self c = look-kept (the_view c.self.inside) c.look.new.self c.look.result c.self.invariant c.look.ensures
