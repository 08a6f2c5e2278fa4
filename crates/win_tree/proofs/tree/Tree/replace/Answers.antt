use Rattle.std.proofs.Common.{◌≡◌, ap, refl, Some}
use Rattle.scene.specs.declared.win.Win.{Win}
use Rattle.scene.specs.Places.{window_of}
use Rattle.slab.specs.Slab.{with_value}
use Rattle.scene.specs.Families.{window_changed}
use Rattle.win_tree.specs.Trees.{Scene}
use Rattle.win_tree.proofs.ChangeLemmas.{Became, scene_is, live_found, live_is, replaced_for}
use Rattle.win_tree.proofs.tree.Tree.replace.Goals as goal

pub unreachable-requires : goal.unreachable-requires
unreachable-requires c = live_found c.self.inside.nodes c.self.inside.desktop c.self.inside.handles c.self.invariant c.args.self.now.windows c.args.win.now.handle (ap (λ (s : Scene). s.windows) c.self.view_is) c.requires.live c.in_default.ensures.absent

became : (c : goal.After-self-1) (w : Win) (change : Win → Win) → window_of c.args.self.now.windows c.args.win.now.handle ≡ Some w → change w ≡ c.args.win.now
    → Became (with_value c.self.inside.nodes c.in-Some.key (record c.index_mut.result.now { win = c.args.win.now })) c.self.inside.desktop c.self.inside.handles (window_changed c.args.win.now.handle change c.args.self.now.windows)
became c w change live is =
    let found = c.in-Some.ensures.found in
    replaced_for c.self.inside.nodes c.self.inside.desktop c.self.inside.handles c.self.invariant c.args.self.now.windows c.args.win.now w c.in-Some.key c.index_mut.result.now found.0 change (ap (λ (s : Scene). s.windows) c.self.view_is) c.index_mut.ensures.value found.1 found.2 live is (rw live at c.requires.parent) c.requires.window c.requires.desktop

pub invariant_of-self : goal.invariant_of-self
invariant_of-self c =
    let w = live_is (window_of c.args.self.now.windows c.args.win.now.handle) c.requires.live in
    (became c w.0 (λ u. c.args.win.now) w.1 refl).tree

pub returns : goal.returns
returns c = λ w change live is. scene_is _ _ _ _ (became c w change live is).windows (ap (λ (s : Scene). s.handles) c.self.view_is)
