use Rattle.std.proofs.Common.{◌≡◌, ◌<◌, None, refl, sym, subst}
use Rattle.std.specs.Int.{w16}
use Rattle.std.proofs.lemmas.Int.{to_z-of_z}
use Rattle.calls.specs.declared.call.Call.TheVariants.{DevCopy}
use Rattle.desk.specs.Drawing.{Copy}
use Rattle.engine.specs.Machines.{Machine}
use Rattle.engine.proofs.CallLemmas.{drawn, copies_device, work_kept, work_replied}
use Rattle.engine.specs.contracts.engine.Engine.{the_view}
use Rattle.engine.proofs.engine.Engine.copy_device.Goals as goal

pub invariant_of-self : goal.invariant_of-self
invariant_of-self c =
    let m = the_view c.self.inside in
    let work = Copy c.args.device c.args.x c.args.y in
    let p = drawn m c.get.result.now work c.stack.result.now c.copy.result c.copy.new.self c.self.invariant c.stack.ensures (rw (to_z-of_z w16 c.args.x c.ranges.x, to_z-of_z w16 c.args.y c.ranges.y) at c.copy.ensures.copied) in
    work_kept m c.get.result.now work c.copy.result c.copy.new.self c.self.invariant (subst (λ (k : Machine). k.state.screen.switches < k.made) (sym c.self.view_is) c.requires.room) c.self.invariant.devices c.copy.ensures.finds p

pub returns : goal.returns
returns c =
    let m = the_view c.self.inside in
    let fresh = subst (λ (k : Machine). k.marked ≡ None) (sym c.self.view_is) c.requires.fresh in
    let work = Copy c.args.device c.args.x c.args.y in
    let p = drawn m c.get.result.now work c.stack.result.now c.copy.result c.copy.new.self c.self.invariant c.stack.ensures (rw (to_z-of_z w16 c.args.x c.ranges.x, to_z-of_z w16 c.args.y c.ranges.y) at c.copy.ensures.copied) in
    work_replied _ m c.args.actor c.get.result.now (DevCopy c.args.device c.args.x c.args.y) work c.copy.result c.copy.new.self _ c.self.invariant fresh (copies_device c.args.device c.args.x c.args.y) refl c.get.ensures.context c.self.view_is c.answered.ensures c.copy.ensures.finds p
