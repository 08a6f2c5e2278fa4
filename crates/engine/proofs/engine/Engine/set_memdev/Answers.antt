use Rattle.std.proofs.Common.{refl}
use Rattle.scene.specs.Families.{window_changed}
use Rattle.calls.specs.declared.call.Call.TheVariants.{SetMemdev}
use Rattle.desk.specs.Windows.{with_memdev}
use Rattle.desk.proofs.CallerLemmas.{scene_memdev, memdev_may_become}
use Rattle.engine.proofs.CallLemmas.{performed, replied}
use Rattle.engine.specs.contracts.engine.Engine.{the_view}
use Rattle.engine.proofs.engine.Engine.set_memdev.Goals as goal

pub invariant_of-self : goal.invariant_of-self
invariant_of-self c =
    let m = the_view c.self.inside in
    let now = window_changed c.args.h (with_memdev c.args.memdev) m.state.windows in
    performed m (SetMemdev c.args.h c.args.memdev) c.set_memdev.result now c.set_memdev.new.self c.self.invariant c.set_memdev.ensures
    (λ fine. scene_memdev m.setup m.state.windows m.state.handles c.args.h c.args.memdev c.self.invariant.scene (memdev_may_become m.state.windows c.args.h c.args.memdev c.self.invariant.scene.stack))

pub returns : goal.returns
returns c =
    let m = the_view c.self.inside in
    let now = window_changed c.args.h (with_memdev c.args.memdev) m.state.windows in
    record { by = λ actor. replied _ m actor (SetMemdev c.args.h c.args.memdev) c.set_memdev.result now c.set_memdev.new.self _ (refl, refl) c.self.view_is c.answered.ensures c.set_memdev.ensures refl }
