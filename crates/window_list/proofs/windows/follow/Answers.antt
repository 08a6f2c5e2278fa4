use Rattle.std.proofs.Common.{◌≡◌, false, List, map, sym, ap, subst, ◌∙◌}
use Rattle.scene.specs.declared.win.Win.{Win}
use Rattle.scene.specs.Clips.{clip_in}
use Rattle.scene.specs.Stacks.{IsStack}
use Rattle.scene.proofs.CallerLemmas.{bare}
use Rattle.desk.specs.Windows.{are_as_they_were, clip_at, listed, after_change}
use Rattle.window_list.proofs.StepLemmas.{rest_same}
use Rattle.window_list.proofs.FollowLemmas.{areas_valid, AreSteps, steps_follow, bare_steps, stack_steps, given_bare}
use Rattle.window_list.proofs.windows.follow.Goals as goal

pub invalidate_clip-requires-2 : goal.invalidate_clip-requires-2
invalidate_clip-requires-2 c =
    let taken = c.take_over.new.stack.items in
    subst IsStack (sym c.invalidate_clip.ensures)
    (areas_valid (clip_in c.args.screen.now taken) (listed c.args.before) taken (subst IsStack (sym (c.take_over.ensures ∙ c.deref-3.ensures.0)) c.walk.ensures.stack))

steps : (c : goal.After-deref-6) → AreSteps c.args.screen.now c.args.h c.args.stack.now.items c.walk.new.out.items c.take_over.new.stack.items c.invalidate_clip.new.stack.items c.invalidate_clip-2.new.stack.items c.args.before c.clip_at-now.result
steps c = record {
  taken_is = c.take_over.ensures ∙ c.deref-3.ensures.0;
  before_is = c.requires;
  now_is = c.clip_at-now.ensures ∙ ap (λ (ws : List Win). clip_at c.args.screen.now ws c.args.h) c.deref-4.ensures.0;
  first_is = c.invalidate_clip.ensures;
  second_is = c.invalidate_clip-2.ensures;
}

pub put_back-requires-clause-stack : goal.put_back-requires-clause-stack
put_back-requires-clause-stack c =
    subst IsStack (sym c.deref-6.ensures.0)
    (stack_steps c.args.screen.now c.args.h c.args.stack.now.items c.walk.new.out.items c.take_over.new.stack.items c.invalidate_clip.new.stack.items c.invalidate_clip-2.new.stack.items c.args.before c.clip_at-now.result (steps c) c.walk.ensures.stack)

pub put_back-requires-clause-rest : goal.put_back-requires-clause-rest
put_back-requires-clause-rest c =
    rest_same _ _
    (ap (map bare) c.deref-6.ensures.0
    ∙ bare_steps c.args.screen.now c.args.h c.args.stack.now.items c.walk.new.out.items c.take_over.new.stack.items c.invalidate_clip.new.stack.items c.invalidate_clip-2.new.stack.items c.args.before c.clip_at-now.result (steps c)
    ∙ sym (ap (map bare) c.deref-5.ensures.0))

pub returns : goal.returns
returns c =
    let screen = c.args.screen.now in
    let h = c.args.h in
    let old = c.args.stack.now.items in
    let order = c.walk.new.out.items in
    let taken = c.take_over.new.stack.items in
    let first = c.invalidate_clip.new.stack.items in
    let end = c.invalidate_clip-2.new.stack.items in
    let before = c.args.before in
    let now = c.clip_at-now.result in
    let s : AreSteps screen h old order taken first end before now = record {
      taken_is = c.take_over.ensures ∙ c.deref-3.ensures.0;
      before_is = c.requires;
      now_is = c.clip_at-now.ensures ∙ ap (λ (ws : List Win). clip_at screen ws h) c.deref-4.ensures.0;
      first_is = c.invalidate_clip.ensures;
      second_is = c.invalidate_clip-2.ensures;
    } in
    let other : are_as_they_were old order ≡ false =
    ap (λ (ws : List Win). are_as_they_were ws order) (sym c.deref.ensures.0)
    ∙ ap (are_as_they_were c.deref.result.now) (sym c.deref-2.ensures.0)
    ∙ sym c.are_as_they_were-is_same.ensures
    ∙ c.if-is_same.false in
    record {
      stack = steps_follow screen h old order taken first end before now s other ∙ ap (after_change screen h old) c.walk.ensures.windows;
      tree = c.put_back.ensures ∙ ap (λ (ws : List Win). record c.args.tree.now { windows = ws }) c.deref-6.ensures.0;
      valid = stack_steps screen h old order taken first end before now s c.walk.ensures.stack;
      given = given_bare c.args.tree.now.handles order end (bare_steps screen h old order taken first end before now s) c.walk.ensures.given;
    }
