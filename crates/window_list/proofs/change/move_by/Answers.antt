use Rattle.std.proofs.Common.{◌≡◌, List, Some, sym, subst, rules, w16}
use Rattle.std.proofs.lemmas.Int.{to_z-of_z}
use Rattle.std.specs.Prelude.{OnOk}
use Rattle.scene.specs.declared.win.Win.{Win}
use Rattle.scene.specs.Places.{window_of}
use Rattle.scene.specs.Families.{window_changed, moved_to}
use Rattle.scene.proofs.CallerLemmas.{all_found}
use Rattle.win_tree.specs.Refusals.{refusal_of_change}
use Rattle.desk.specs.Windows.{moved_by}
use Rattle.desk.proofs.CallerLemmas.{changed_alike}
use Rattle.window_list.proofs.ToldLemmas.{told_performs, change_reason}
use Rattle.window_list.proofs.change.move_by.Goals as goal

pub returns : goal.returns
returns c =
    let ws = c.args.tree.now.windows in
    let live : window_of ws c.args.h ≡ Some c.in-Some.win.now = sym c.in-Some.ensures.found in
    let same : window_changed c.args.h (moved_to c.saturating_add-x.result c.saturating_add-y.result) ws ≡ window_changed c.args.h (moved_by c.args.dx c.args.dy) ws =
    changed_alike c.args.h (moved_to c.saturating_add-x.result c.saturating_add-y.result) (moved_by c.args.dx c.args.dy) c.in-Some.win.now ws ws live (search rules) (all_found ws c.requires.single) in
    let x = to_z-of_z w16 c.saturating_add-x.result (record { sfits = c.saturating_add-x.type_inv }) in
    let y = to_z-of_z w16 c.saturating_add-y.result (record { sfits = c.saturating_add-y.type_inv }) in
    let moved = rw (x, y) at c.move_to.ensures.moved in
    rw c.told.ensures (told_performs c.move_to.result (refusal_of_change ws c.args.h) _ _ c.args.tree.now c.move_to.new.self (change_reason ws c.args.h) c.move_to.ensures.refused c.move_to.ensures.unchanged c.move_to.ensures.accepted (subst (λ (vs : List Win). OnOk c.move_to.result (c.move_to.new.self ≡ record { windows = vs; handles = c.args.tree.now.handles })) same moved))
