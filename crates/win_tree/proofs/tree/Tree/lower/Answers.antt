use Rattle.std.proofs.Common.{◌≡◌, ℕ, is_some, ap}
use Rattle.scene.specs.Families.{lowered}
use Rattle.scene.specs.Places.{window_of}
use Rattle.win_tree.specs.Trees.{Scene}
use Rattle.win_tree.proofs.ChangeLemmas.{Became, windows_of, IsMoving, scene_is, live_found, moving_parent, moving_differ, lowered_for}
use Rattle.win_tree.proofs.tree.Tree.lower.Goals as goal

pub unreachable-requires : goal.unreachable-requires
unreachable-requires c = live_found c.self.inside.nodes c.self.inside.desktop c.self.inside.handles c.self.invariant c.args.self.now.windows c.args.win.now.handle (ap (λ (s : Scene). s.windows) c.self.view_is) (ap is_some c.requires.live) c.in_default.ensures.absent

pub unreachable-requires-in_default-find : goal.unreachable-requires-in_default-find
unreachable-requires-in_default-find c =
    let found = c.in-Some.ensures.found in
    moving_parent c.self.inside.nodes c.self.inside.desktop c.self.inside.handles c.self.invariant c.args.self.now.windows c.args.win.now c.in-Some.key found.0 (ap (λ (s : Scene). s.windows) c.self.view_is) c.requires.live c.requires.other found.1 found.2 c.in_default-find.ensures.absent

pub put_at_bottom-requires-clause-differ : goal.put_at_bottom-requires-clause-differ
put_at_bottom-requires-clause-differ c =
    let found = c.in-Some.ensures.found in
    let moving : IsMoving c.self.inside.nodes c.self.inside.desktop c.args.self.now.windows c.args.win.now c.in-Some.key c.index.result.now found.0 =
    record { are = ap (λ (s : Scene). s.windows) c.self.view_is; live = c.requires.live; other = c.requires.other; at = c.index.ensures; found = found.1; same = found.2 } in
    let parent = c.in-Some-find.ensures.found in
    moving_differ c.self.inside.nodes c.detach.new.nodes c.self.inside.desktop c.self.inside.handles c.self.invariant c.args.self.now.windows c.args.win.now c.in-Some.key c.in-Some-find.parent c.index.result.now found.0 parent.0 moving parent.1 parent.2 c.detach.ensures.links

became : (c : goal.After-put_at_bottom) → Became c.put_at_bottom.new.nodes c.self.inside.desktop c.self.inside.handles (lowered c.args.win.now.handle c.args.self.now.windows) × ((x : ℕ) → window_of (windows_of c.put_at_bottom.new.nodes c.self.inside.desktop) x ≡ window_of c.args.self.now.windows x)
became c =
    let found = c.in-Some.ensures.found in
    let moving : IsMoving c.self.inside.nodes c.self.inside.desktop c.args.self.now.windows c.args.win.now c.in-Some.key c.index.result.now found.0 =
    record { are = ap (λ (s : Scene). s.windows) c.self.view_is; live = c.requires.live; other = c.requires.other; at = c.index.ensures; found = found.1; same = found.2 } in
    let parent = c.in-Some-find.ensures.found in
    lowered_for c.self.inside.nodes c.detach.new.nodes c.put_at_bottom.new.nodes c.self.inside.desktop c.self.inside.handles c.self.invariant c.args.self.now.windows c.args.win.now c.in-Some.key c.in-Some-find.parent c.index.result.now found.0 parent.0 moving parent.1 parent.2 c.detach.ensures.links c.detach.ensures.len c.detach.ensures.capacity c.put_at_bottom.ensures.parent c.put_at_bottom.ensures.key c.put_at_bottom.ensures.others c.put_at_bottom.ensures.len c.put_at_bottom.ensures.capacity

pub invariant_of-self : goal.invariant_of-self
invariant_of-self c = (became c).0.tree

pub returns-clause-windows : goal.returns-clause-windows
returns-clause-windows c = scene_is _ _ _ _ (became c).0.windows (ap (λ (s : Scene). s.handles) c.self.view_is)

pub returns-clause-found : goal.returns-clause-found
returns-clause-found c = (became c).1
