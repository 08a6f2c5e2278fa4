use Rattle.std.proofs.Common.{ap}
use Rattle.scene.specs.Places.{window_of}
use Rattle.win_tree.specs.Trees.{Scene}
use Rattle.win_tree.proofs.ChangeLemmas.{live_own}
use Rattle.win_tree.proofs.ReplacementLemmas.{replacement_own}
use Rattle.win_tree.proofs.tree.Tree.put.Goals as goal

pub replace-requires-clause-window : goal.replace-requires-clause-window
replace-requires-clause-window c =
    (replacement_own (window_of c.args.self.now.windows c.args.win.now.handle) c.args.win.now c.requires
    (λ w live. live_own c.self.inside.nodes c.self.inside.desktop c.self.inside.handles c.self.invariant c.args.self.now.windows c.args.win.now.handle w (ap (λ (s : Scene). s.windows) c.self.view_is) live)).0

pub replace-requires-clause-desktop : goal.replace-requires-clause-desktop
replace-requires-clause-desktop c =
    (replacement_own (window_of c.args.self.now.windows c.args.win.now.handle) c.args.win.now c.requires
    (λ w live. live_own c.self.inside.nodes c.self.inside.desktop c.self.inside.handles c.self.invariant c.args.self.now.windows c.args.win.now.handle w (ap (λ (s : Scene). s.windows) c.self.view_is) live)).1
