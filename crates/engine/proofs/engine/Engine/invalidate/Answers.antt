use Rattle.std.proofs.Common.{refl}
use Rattle.calls.specs.declared.call.Call.TheVariants.{Invalidate}
use Rattle.desk.specs.Setups.{screen_of}
use Rattle.desk.specs.Windows.{with_invalid_window}
use Rattle.desk.proofs.CallerLemmas.{scene_invalid_window}
use Rattle.engine.proofs.CallLemmas.{performed, replied}
use Rattle.engine.specs.contracts.engine.Engine.{the_view}
use Rattle.engine.proofs.engine.Engine.invalidate.Goals as goal

pub invariant_of-self : goal.invariant_of-self
invariant_of-self c =
    let m = the_view c.self.inside in
    performed m (Invalidate c.args.h) c.invalidate.result (with_invalid_window (screen_of m.setup) c.args.h m.state.windows) c.invalidate.new.self c.self.invariant (rw c.screen-screen.ensures at c.invalidate.ensures)
    (λ fine. scene_invalid_window m.setup m.state.windows m.state.handles c.args.h c.self.invariant.scene)

pub returns : goal.returns
returns c =
    let m = the_view c.self.inside in
    record { by = λ actor. replied _ m actor (Invalidate c.args.h) c.invalidate.result (with_invalid_window (screen_of m.setup) c.args.h m.state.windows) c.invalidate.new.self _ (refl, refl) c.self.view_is c.answered.ensures (rw c.screen-screen.ensures at c.invalidate.ensures) refl }
