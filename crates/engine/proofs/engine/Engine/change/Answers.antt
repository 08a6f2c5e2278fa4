use Rattle.desk.specs.Setups.{screen_of}
use Rattle.desk.specs.Windows.{after_change}
use Rattle.desk.specs.Changes.{call_for, list_after}
use Rattle.engine.specs.States.{desk_of}
use Rattle.desk.proofs.CallerLemmas.{scene_after, scene_listed, does, on_windows}
use Rattle.engine.proofs.CallLemmas.{performed, replied}
use Rattle.engine.specs.contracts.engine.Engine.{the_view}
use Rattle.engine.proofs.engine.Engine.change.Goals as goal

pub invariant_of-self : goal.invariant_of-self
invariant_of-self c =
    let m = the_view c.self.inside in
    performed m (call_for c.args.h c.args.change) c.change.result (after_change (screen_of m.setup) c.args.h m.state.windows (list_after c.args.h c.args.change m.state.windows)) c.change.new.self c.self.invariant (rw (c.class_count.ensures, c.screen-screen.ensures) at c.change.ensures)
    (λ fine. scene_after m.setup m.state.handles c.args.h m.state.windows (list_after c.args.h c.args.change m.state.windows) (scene_listed m.setup m.state.windows m.state.handles c.args.h c.args.change c.self.invariant.scene fine))

pub returns : goal.returns
returns c =
    let m = the_view c.self.inside in
    record { by = λ actor. replied _ m actor (call_for c.args.h c.args.change) c.change.result (after_change (screen_of m.setup) c.args.h m.state.windows (list_after c.args.h c.args.change m.state.windows)) c.change.new.self _ (on_windows c.args.h c.args.change) c.self.view_is c.answered.ensures (rw (c.class_count.ensures, c.screen-screen.ensures) at c.change.ensures) (does m.setup (desk_of m.state) c.args.h c.args.change) }
