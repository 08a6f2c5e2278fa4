use Rattle.std.proofs.Common.{List, sym, ap, ◌∙◌}
use Rattle.scene.specs.declared.win.Win.{Win}
use Rattle.win_tree.specs.Trees.{Scene}
use Rattle.desk.specs.Changes.{call_for, list_after}
use Rattle.desk.specs.Desks.{refusal_of, objections}
use Rattle.window_list.proofs.FollowLemmas.{changed_is}
use Rattle.window_list.proofs.windows.Windows.change.Goals as goal

pub returns : goal.returns
returns c =
    let same = c.self.invariant.windows ∙ ap (λ (s : Scene). s.windows) c.self.view_is in (
      ap (λ (ws : List Win). refusal_of (objections c.args.classes ws (call_for c.args.h c.args.change))) (sym same) ∙ c.in_ok-perform.ensures.0,
      changed_is c.args.screen.now c.args.h (list_after c.args.h c.args.change) c.args.self.now c.self.inside.tree c.perform.new.tree c.follow.new.tree c.self.inside.stack.items c.follow.new.stack.items
          c.in_ok-perform.ensures.1 c.follow.ensures.stack c.follow.ensures.tree c.self.invariant.windows c.self.view_is,
    )
