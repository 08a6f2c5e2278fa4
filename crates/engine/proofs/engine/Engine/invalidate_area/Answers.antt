use Rattle.std.proofs.Common.{sym, subst}
use Rattle.scene.specs.Clips.{clip_in}
use Rattle.win_tree.specs.Trees.{Scene}
use Rattle.desk.specs.Setups.{screen_of}
use Rattle.engine.specs.Machines.{IsKept}
use Rattle.desk.specs.Windows.{with_invalid_area}
use Rattle.desk.proofs.CallerLemmas.{scene_area}
use Rattle.engine.proofs.KeptLemmas.{kept-windows}
use Rattle.engine.proofs.CallLemmas.{with_scene}
use Rattle.engine.specs.contracts.engine.Engine.{the_view}
use Rattle.engine.proofs.engine.Engine.invalidate_area.Goals as goal

pub invariant_of-self : goal.invariant_of-self
invariant_of-self c =
    let m = the_view c.self.inside in
    let new = rw c.screen-screen.ensures at c.invalidate_area.ensures in
    subst (λ (s : Scene). IsKept (with_scene m s)) (sym new)
    (kept-windows m (with_invalid_area (screen_of m.setup) c.args.area.now m.state.windows) c.self.invariant (scene_area m.setup m.state.windows m.state.handles (clip_in (screen_of m.setup) m.state.windows) c.args.area.now c.self.invariant.scene))
