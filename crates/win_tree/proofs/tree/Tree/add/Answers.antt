use Rattle.std.proofs.Common.{◌≡◌, ◌+◌, arith, ap, sym, ◌∙◌, [], ◌∷◌}
use Rattle.scene.specs.Families.{on_top_of}
use Rattle.win_tree.specs.Trees.{Scene}
use Rattle.win_tree.proofs.ChangeLemmas.{Became, scene_is, live_found, added_for, size_is}
use Rattle.win_tree.proofs.tree.Tree.add.Goals as goal

pub unreachable-requires : goal.unreachable-requires
unreachable-requires c = live_found c.self.inside.nodes c.self.inside.desktop c.self.inside.handles c.self.invariant c.args.self.now.windows c.args.win.now.parent (ap (λ (s : Scene). s.windows) c.self.view_is) c.requires.parent c.in_default.ensures.absent

pub insert_reserved-key-requires : goal.insert_reserved-key-requires
insert_reserved-key-requires c = omega (arith, size_is c.self.inside.nodes c.self.inside.desktop c.self.inside.handles c.self.invariant c.args.self.now.windows (ap (λ (s : Scene). s.windows) c.self.view_is), c.requires.few, (c.self.invariant).room)

became : (c : goal.After-self-1) → Became c.put_on_top.new.nodes c.self.inside.desktop (c.self.inside.handles + 1) (on_top_of c.args.win.now.parent (c.args.win.now ∷ []) c.args.self.now.windows)
became c =
    let parent = c.in-Some.ensures.found in
    added_for c.self.inside.nodes c.insert_reserved-key.new.self c.put_on_top.new.nodes c.self.inside.desktop c.self.inside.handles c.self.invariant c.args.self.now.windows c.args.win.now c.insert_reserved-key.result c.in-Some.parent parent.0 (ap (λ (s : Scene). s.windows) c.self.view_is) c.insert_reserved-key.ensures.was_vacant c.insert_reserved-key.ensures.updates c.insert_reserved-key.ensures.len c.insert_reserved-key.ensures.capacity (c.requires.handle ∙ ap (λ n. n + 1) (sym (ap (λ (s : Scene). s.handles) c.self.view_is))) parent.1 parent.2 c.requires.few c.requires.shallow c.requires.window c.put_on_top.ensures.parent c.put_on_top.ensures.key c.put_on_top.ensures.others c.put_on_top.ensures.len c.put_on_top.ensures.capacity

handle_is : (c : goal.After-self-1) → c.self.inside.handles + 1 ≡ c.args.win.now.handle
handle_is c = ap (λ n. n + 1) (ap (λ (s : Scene). s.handles) c.self.view_is) ∙ sym c.requires.handle

pub invariant_of-self : goal.invariant_of-self
invariant_of-self c = rw (← handle_is c) ((became c).tree)

pub returns : goal.returns
returns c = scene_is _ _ _ _ (became c).windows c.requires.handle
