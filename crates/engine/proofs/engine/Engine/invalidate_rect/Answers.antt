use Rattle.std.proofs.Common.{sym, ◌∙◌, refl}
use Rattle.calls.specs.declared.call.Call.TheVariants.{InvalidateRect}
use Rattle.desk.specs.Setups.{screen_of}
use Rattle.desk.specs.Windows.{with_invalid_rect}
use Rattle.desk.proofs.CallerLemmas.{scene_invalid_rect}
use Rattle.engine.proofs.CallLemmas.{performed, replied}
use Rattle.engine.specs.contracts.engine.Engine.{the_view}
use Rattle.engine.proofs.engine.Engine.invalidate_rect.Goals as goal

pub invariant_of-self : goal.invariant_of-self
invariant_of-self c =
    let m = the_view c.self.inside in
    performed m (InvalidateRect c.args.h c.args.local.now.x0 c.args.local.now.y0 c.args.local.now.x1 c.args.local.now.y1) c.invalidate_rect.result (with_invalid_rect (screen_of m.setup) c.args.h c.args.local.now m.state.windows) c.invalidate_rect.new.self c.self.invariant (rw c.screen-screen.ensures at c.invalidate_rect.ensures)
    (λ fine. scene_invalid_rect m.setup m.state.windows m.state.handles c.args.h c.args.local.now c.self.invariant.scene)

pub returns : goal.returns
returns c =
    let m = the_view c.self.inside in
    record { by = λ actor. replied _ m actor (InvalidateRect c.args.h c.args.local.now.x0 c.args.local.now.y0 c.args.local.now.x1 c.args.local.now.y1) c.invalidate_rect.result (with_invalid_rect (screen_of m.setup) c.args.h c.args.local.now m.state.windows) c.invalidate_rect.new.self _ (refl, refl) c.self.view_is c.answered.ensures (rw c.screen-screen.ensures at c.invalidate_rect.ensures) refl }

pub invalidate_rect-requires-clause-screen : goal.invalidate_rect-requires-clause-screen
invalidate_rect-requires-clause-screen c = c.screen-screen.ensures ∙ sym c.self.invariant.scene.screen
