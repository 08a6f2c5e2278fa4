use Rattle.std.proofs.Common.{is_some, ap}
use Rattle.scene.specs.Families.{without_family}
use Rattle.win_tree.specs.Trees.{Scene}
use Rattle.win_tree.proofs.ChangeLemmas.{Became, IsMoving, scene_is, live_found, deleted_for}
use Rattle.win_tree.proofs.tree.Tree.remove.Goals as goal

pub unreachable-requires : goal.unreachable-requires
unreachable-requires c = live_found c.self.inside.nodes c.self.inside.desktop c.self.inside.handles c.self.invariant c.args.self.now.windows c.args.win.now.handle (ap (λ (s : Scene). s.windows) c.self.view_is) (ap is_some c.requires.live) c.in_default.ensures.absent

became : (c : goal.After-free) → Became c.free.new.nodes c.self.inside.desktop c.self.inside.handles (without_family c.args.win.now.handle c.args.self.now.windows)
became c =
    let found = c.in-Some.ensures.found in
    let moving : IsMoving c.self.inside.nodes c.self.inside.desktop c.args.self.now.windows c.args.win.now c.in-Some.key c.index.result.now found.0 =
    record { are = ap (λ (s : Scene). s.windows) c.self.view_is; live = c.requires.live; other = c.requires.other; at = c.index.ensures; found = found.1; same = found.2 } in
    deleted_for c.self.inside.nodes c.detach.new.nodes c.remove-first.new.self c.free.new.nodes c.self.inside.desktop c.self.inside.handles c.self.invariant c.args.self.now.windows c.args.win.now c.in-Some.key c.len-steps.result c.index.result.now found.0 c.remove-first.result moving c.detach.ensures.links c.detach.ensures.len c.detach.ensures.capacity c.remove-first.ensures.value c.remove-first.ensures.updates c.remove-first.ensures.len c.remove-first.ensures.capacity c.free.ensures.links c.free.ensures.len c.len-steps.ensures c.free.ensures.capacity

pub invariant_of-self : goal.invariant_of-self
invariant_of-self c = (became c).tree

pub returns : goal.returns
returns c = scene_is _ _ _ _ (became c).windows (ap (λ (s : Scene). s.handles) c.self.view_is)
