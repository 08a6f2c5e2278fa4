use Rattle.std.proofs.Common.{◌+◌, List, [], ◌∷◌, refl, sym, ap, ◌∙◌, arith, rules, w16}
use Rattle.std.proofs.lemmas.Int.{to_z-of_z}
use Rattle.std.specs.Prelude.{option_map}
use Rattle.scene.specs.declared.win.Win.{Win}
use Rattle.scene.specs.Clips.{clip_in}
use Rattle.scene.specs.Families.{new_window, on_top_of}
use Rattle.win_tree.specs.Trees.{Scene}
use Rattle.calls.specs.declared.call.Call.{Call}
use Rattle.calls.specs.declared.call.Call.TheVariants.{Create}
use Rattle.desk.specs.Desks.{refusal_of, objections}
use Rattle.desk.proofs.CallerLemmas.{unknown_handle, may_be_made, tree_makes}
use Rattle.window_list.proofs.FollowLemmas.{created_is}
use Rattle.window_list.proofs.windows.Windows.create.Goals as goal

pub returns-in-Some : goal.returns-in-Some
returns-in-Some c =
    let n = c.args.new.now in
    let call : Call = Create n.parent n.x n.y n.w n.h n.class in
    let same = c.self.invariant.windows ∙ ap (λ (s : Scene). s.windows) c.self.view_is in
    (ap (λ (ws : List Win). refusal_of (objections c.args.classes ws call)) (sym same) ∙ sym (c.refusal_of_create.ensures n.x n.y) ∙ c.in-Some.is, refl)

pub unreachable-requires : goal.unreachable-requires
unreachable-requires c =
    let n = c.args.new.now in
    let ws = c.self.inside.tree.windows in
    let m = may_be_made c.args.classes ws n.parent n.x n.y n.w n.h n.class (sym (c.refusal_of_create.ensures n.x n.y) ∙ c.in_default.is) in
    absurd (cc (tree_makes c.args.classes ws n.parent n.w n.h n.class m, c.in_default-create.ensures.refused))

pub follow-requires : goal.follow-requires
follow-requires c =
    let ws = c.self.inside.stack.items in
    let handle = c.in-Ok.ensures.handle in
    sym (ap (option_map (clip_in c.args.screen.now ws)) (unknown_handle c.self.inside.tree.handles c.in-Ok.handle ws c.self.invariant.given (omega arith)))

pub returns : goal.returns
returns c =
    let n = c.args.new.now in
    let call : Call = Create n.parent n.x n.y n.w n.h n.class in
    let same = c.self.invariant.windows ∙ ap (λ (s : Scene). s.windows) c.self.view_is in
    let made = rw (to_z-of_z w16 n.x (search rules), to_z-of_z w16 n.y (search rules)) at c.in-Ok.ensures.created in (
      ap (λ (ws : List Win). refusal_of (objections c.args.classes ws call)) (sym same) ∙ sym (c.refusal_of_create.ensures n.x n.y) ∙ c.in_default.is,
      c.in-Ok.ensures.handle ∙ ap (λ (s : Scene). s.handles + 1) c.self.view_is,
      created_is c.args.screen.now (λ handle ws. on_top_of n.parent (new_window handle n.parent n.x n.y n.w n.h n.class ∷ []) ws) c.args.self.now c.self.inside.tree c.create.new.self c.follow.new.tree c.self.inside.stack.items c.follow.new.stack.items c.in-Ok.handle
          c.in-Ok.ensures.handle made c.follow.ensures.stack c.follow.ensures.tree c.self.invariant.windows c.self.view_is,
    )
