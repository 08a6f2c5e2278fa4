use Rattle.std.proofs.Common.{◌≡◌, arith, ap}
use Rattle.win_tree.specs.Trees.{Scene}
use Rattle.win_tree.proofs.TreeLemmas.{windows_are}
use Rattle.win_tree.proofs.StackLemmas.{is_stack, are_given}
use Rattle.win_tree.proofs.tree.Tree.walk.Goals as goal

pub push_order-requires : goal.push_order-requires
push_order-requires c =
    let tree = c.self.invariant in
    let is = windows_are c.self.inside.nodes c.self.inside.desktop c.self.inside.handles tree in
    rw (c.len.ensures, is, c.clear.ensures) (omega (arith, tree.len, tree.few))

pub returns-clause-stack : goal.returns-clause-stack
returns-clause-stack c = rw (c.push_order.ensures, c.clear.ensures, c.len.ensures) (is_stack c.self.inside.nodes c.self.inside.desktop c.self.inside.handles c.self.invariant)

pub returns-clause-given : goal.returns-clause-given
returns-clause-given c =
    let handles : c.self.inside.handles ≡ c.args.self.now.handles = ap (λ (s : Scene). s.handles) c.self.view_is in
    rw (c.push_order.ensures, c.clear.ensures, c.len.ensures, ← handles) (are_given c.self.inside.nodes c.self.inside.desktop c.self.inside.handles c.self.invariant)
