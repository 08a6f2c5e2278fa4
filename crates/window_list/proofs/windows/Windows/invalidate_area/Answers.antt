use Rattle.std.proofs.Common.{[], ◌∷◌, map, sym, ap, subst, ◌∙◌}
use Rattle.scene.specs.Clips.{clip_in}
use Rattle.scene.specs.Stacks.{IsStack, AreGiven}
use Rattle.scene.proofs.CallerLemmas.{bare}
use Rattle.win_tree.specs.Trees.{Scene}
use Rattle.window_list.proofs.StepLemmas.{rest_same}
use Rattle.window_list.proofs.FollowLemmas.{areas_valid, given_bare}
use Rattle.desk.proofs.CallerLemmas.{areas_bare}
use Rattle.window_list.proofs.windows.Windows.invalidate_area.Goals as goal

pub put_back-requires-clause-stack : goal.put_back-requires-clause-stack
put_back-requires-clause-stack c =
    let ws = c.self.inside.stack.items in
    subst IsStack (sym (c.deref-2.ensures.0 ∙ c.invalidate_clip.ensures)) (areas_valid (clip_in c.args.screen.now ws) (c.args.area.now ∷ []) ws c.self.invariant.stack)

pub put_back-requires-clause-rest : goal.put_back-requires-clause-rest
put_back-requires-clause-rest c =
    let ws = c.self.inside.stack.items in
    rest_same _ _
    (ap (map bare) (c.deref-2.ensures.0 ∙ c.invalidate_clip.ensures)
    ∙ areas_bare (clip_in c.args.screen.now ws) (c.args.area.now ∷ []) ws
    ∙ sym (ap (map bare) (c.deref.ensures.0 ∙ c.take_over.ensures ∙ c.as_slice.ensures.value)))

pub invariant_of-self : goal.invariant_of-self
invariant_of-self c =
    let ws = c.self.inside.stack.items in
    record {
      windows = ap (λ (s : Scene). s.windows) c.put_back.ensures ∙ c.deref-2.ensures.0;
      stack = subst IsStack (sym c.invalidate_clip.ensures) (areas_valid (clip_in c.args.screen.now ws) (c.args.area.now ∷ []) ws c.self.invariant.stack);
      given =
          given_bare c.put_back.new.tree.handles ws c.invalidate_clip.new.stack.items (ap (map bare) c.invalidate_clip.ensures ∙ areas_bare (clip_in c.args.screen.now ws) (c.args.area.now ∷ []) ws)
          (subst (λ (s : Scene). AreGiven s.handles ws) (sym c.put_back.ensures) c.self.invariant.given);
    }
