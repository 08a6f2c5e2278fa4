use Rattle.std.proofs.Common.{refl}
use Rattle.std.specs.Int.{w16}
use Rattle.std.proofs.lemmas.Int.{to_z-of_z}
use Rattle.calls.specs.declared.call.Call.TheVariants.{SetValue}
use Rattle.desk.specs.Setups.{screen_of}
use Rattle.desk.specs.Windows.{with_value}
use Rattle.desk.proofs.CallerLemmas.{scene_rest, value_valid, rest_value}
use Rattle.engine.proofs.CallLemmas.{performed, replied}
use Rattle.engine.specs.contracts.engine.Engine.{the_view}
use Rattle.engine.proofs.engine.Engine.set_value.Goals as goal

pub invariant_of-self : goal.invariant_of-self
invariant_of-self c =
    let m = the_view c.self.inside in
    performed m (SetValue c.args.h c.args.index c.args.value) c.set_value.result (with_value (screen_of m.setup) c.args.h c.args.index c.args.value m.state.windows) c.set_value.new.self c.self.invariant (rw (c.screen-screen.ensures, to_z-of_z w16 c.args.value c.ranges.value) at c.set_value.ensures)
    (λ fine. scene_rest m.setup m.state.windows (with_value (screen_of m.setup) c.args.h c.args.index c.args.value m.state.windows) m.state.handles (rest_value (screen_of m.setup) c.args.h c.args.index c.args.value m.state.windows) (value_valid (screen_of m.setup) c.args.h c.args.index c.args.value m.state.windows c.self.invariant.scene.stack) c.self.invariant.scene)

pub returns : goal.returns
returns c =
    let m = the_view c.self.inside in
    record { by = λ actor. replied _ m actor (SetValue c.args.h c.args.index c.args.value) c.set_value.result (with_value (screen_of m.setup) c.args.h c.args.index c.args.value m.state.windows) c.set_value.new.self _ (refl, refl) c.self.view_is c.answered.ensures (rw (c.screen-screen.ensures, to_z-of_z w16 c.args.value c.ranges.value) at c.set_value.ensures) refl }
