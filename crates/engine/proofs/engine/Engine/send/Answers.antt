use Rattle.std.proofs.Common.{refl}
use Rattle.std.specs.Int.{w16}
use Rattle.std.proofs.lemmas.Int.{to_z-of_z}
use Rattle.calls.specs.declared.call.Call.TheVariants.{Send}
use Rattle.desk.specs.Setups.{screen_of}
use Rattle.desk.specs.Windows.{with_message}
use Rattle.desk.proofs.CallerLemmas.{scene_rest, message_valid, rest_message}
use Rattle.engine.proofs.CallLemmas.{performed, replied}
use Rattle.engine.specs.contracts.engine.Engine.{the_view}
use Rattle.engine.proofs.engine.Engine.send.Goals as goal

pub invariant_of-self : goal.invariant_of-self
invariant_of-self c =
    let m = the_view c.self.inside in
    performed m (Send c.args.h c.args.message c.args.argument) c.send.result (with_message m.setup.assets (screen_of m.setup) c.args.h c.args.message c.args.argument m.state.windows) c.send.new.self c.self.invariant (rw (c.screen-screen.ensures, to_z-of_z w16 c.args.argument c.ranges.argument) at c.send.ensures)
    (λ fine. scene_rest m.setup m.state.windows (with_message m.setup.assets (screen_of m.setup) c.args.h c.args.message c.args.argument m.state.windows) m.state.handles (rest_message m.setup.assets (screen_of m.setup) c.args.h c.args.message c.args.argument m.state.windows) (message_valid m.setup.assets (screen_of m.setup) c.args.h c.args.message c.args.argument m.state.windows c.self.invariant.scene.stack) c.self.invariant.scene)

pub returns : goal.returns
returns c =
    let m = the_view c.self.inside in
    record { by = λ actor. replied _ m actor (Send c.args.h c.args.message c.args.argument) c.send.result (with_message m.setup.assets (screen_of m.setup) c.args.h c.args.message c.args.argument m.state.windows) c.send.new.self _ (refl, refl) c.self.view_is c.answered.ensures (rw (c.screen-screen.ensures, to_z-of_z w16 c.args.argument c.ranges.argument) at c.send.ensures) refl }
