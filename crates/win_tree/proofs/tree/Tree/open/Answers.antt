use Rattle.std.proofs.Common.{arith, refl, None}
use Rattle.win_tree.specs.declared.node.Node.{Node}
use Rattle.win_tree.proofs.ChangeLemmas.{IsTree-open, screen-some}
use Rattle.win_tree.proofs.tree.Tree.open.Goals as goal

pub invariant_of-result : goal.invariant_of-result
invariant_of-result c =
    let n : Node = record { win = c.desktop.result; first = None; next = None } in
    (IsTree-open c.in-Ok.nodes c.insert_reserved-desktop.new.self c.insert_reserved-desktop.result n c.in-Ok.ensures.empty c.insert_reserved-desktop.ensures.updates c.insert_reserved-desktop.ensures.len (omega (arith, c.in-Ok.ensures.capacity, c.insert_reserved-desktop.ensures.capacity)) refl refl (rw c.desktop.ensures refl) (rw c.desktop.ensures refl)
    (rw c.desktop.ensures (record { handle = omega arith; some_width = c.requires.width.0; width = omega (arith, c.requires.width.1); some_height = c.requires.height.0; height = omega (arith, c.requires.height.1); invalid = screen-some c.args.w c.args.h c.requires.width.0 c.requires.height.0 }))
    (rw c.desktop.ensures (record { x = refl; y = refl; width = c.requires.width.1; height = c.requires.height.1; shown = refl; class = refl; trans = refl }))).tree
