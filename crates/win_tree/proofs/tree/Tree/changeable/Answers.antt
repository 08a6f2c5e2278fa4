use Rattle.std.proofs.Common.{ap, sym}
use Rattle.win_tree.specs.Trees.{Scene}
use Rattle.win_tree.proofs.ChangeLemmas.{window_of-handle, live_own}
use Rattle.win_tree.proofs.tree.Tree.changeable.Goals as goal

pub returns-clause-handle : goal.returns-clause-handle
returns-clause-handle c = window_of-handle c.args.self.now.windows c.args.h c.in-Some.w.now (sym c.in-Some.ensures.found)

pub returns-clause-window : goal.returns-clause-window
returns-clause-window c = (live_own c.self.inside.nodes c.self.inside.desktop c.self.inside.handles c.self.invariant c.args.self.now.windows c.args.h c.in-Some.w.now (ap (λ (s : Scene). s.windows) c.self.view_is) (sym c.in-Some.ensures.found)).0
