use Rattle.std.proofs.Common.{true}
use Rattle.engine.proofs.engine.Engine.open_alone.Goals as goal

pub returns : goal.returns
returns c = c.around.ensures true c.in_ok-surfaces.ensures
