use Rattle.std.proofs.Common.{◌≡◌, ◌<◌, None, refl, sym, subst}
use Rattle.desk.specs.Drawing.{Draw}
use Rattle.engine.specs.Machines.{Machine}
use Rattle.surfaces.proofs.CallerLemmas.{few_handles}
use Rattle.engine.proofs.CallLemmas.{drawn, draws_shape, work_kept, work_replied}
use Rattle.engine.specs.contracts.engine.Engine.{the_view}
use Rattle.desk.specs.Changes.{stroke_call}
use Rattle.engine.proofs.engine.Engine.stroke.Goals as goal

pub invariant_of-self : goal.invariant_of-self
invariant_of-self c =
    let m = the_view c.self.inside in
    let work = Draw c.args.shape.now in
    let p = drawn m c.get.result.now work c.stack.result.now c.draw.result c.draw.new.self c.self.invariant c.stack.ensures c.draw.ensures.drawn in
    work_kept m c.get.result.now work c.draw.result c.draw.new.self c.self.invariant (subst (λ (k : Machine). k.state.screen.switches < k.made) (sym c.self.view_is) c.requires.room) (few_handles m.setup.assets c.get.result.now work m.state.devices m.made refl c.self.invariant.devices) c.draw.ensures.finds p

pub returns : goal.returns
returns c =
    let m = the_view c.self.inside in
    let fresh = subst (λ (k : Machine). k.marked ≡ None) (sym c.self.view_is) c.requires.fresh in
    let work = Draw c.args.shape.now in
    let p = drawn m c.get.result.now work c.stack.result.now c.draw.result c.draw.new.self c.self.invariant c.stack.ensures c.draw.ensures.drawn in
    work_replied _ m c.args.task c.get.result.now (stroke_call c.args.shape.now) work c.draw.result c.draw.new.self _ c.self.invariant fresh (draws_shape c.args.shape.now) refl c.get.ensures.context c.self.view_is c.answered.ensures c.draw.ensures.finds p
