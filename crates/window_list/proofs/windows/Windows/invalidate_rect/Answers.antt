use Rattle.std.proofs.Common.{◌≡◌, List, None, length, get_or, refl, sym, ap, subst, ◌∙◌, arith}
use Rattle.std.proofs.Math.ListN.{length-set}
use Rattle.std.specs.Prelude.{position}
use Rattle.scene.specs.declared.win.Win.{Win}
use Rattle.scene.specs.Places.{window_of, no_window}
use Rattle.scene.specs.Clips.{clip_in}
use Rattle.scene.specs.Damage.{invalidated}
use Rattle.scene.specs.Families.{window_changed}
use Rattle.win_tree.specs.Trees.{Scene, IsReplacement}
use Rattle.invalidate.specs.Invalidation.{on_screen}
use Rattle.desk.proofs.CallerLemmas.{has_the, found_at, none_found, found_handle, none_refused, is_there}
use Rattle.window_list.proofs.PlaceLemmas.{BecomesAt, becomes_invalid, may_put, window_now, put_in_step, put_view}
use Rattle.window_list.proofs.windows.Windows.invalidate_rect.Goals as goal

pub returns-in_default : goal.returns-in_default
returns-in_default c =
    let ws = c.self.inside.stack.items in
    let none = none_found ws c.args.h (ap (λ (us : List Win). position (has_the c.args.h) us) (sym c.deref.ensures.0) ∙ sym c.place_of.ensures ∙ c.in_default.is) in
    (none_refused (window_of c.args.self.now.windows c.args.h) _ None (ap (λ (s : Scene). window_of s.windows c.args.h) (sym c.self.view_is) ∙ none), refl)

pub put-requires : goal.put-requires
put-requires c =
    let ws = c.self.inside.stack.items in
    let at = c.in-Some.at in
    let f : List Win → Win → Win = λ us w. invalidated (clip_in c.args.screen.now us w) (on_screen us w c.args.local.now) w in
    let is = found_at ws c.args.h at (ap (λ (us : List Win). position (has_the c.args.h) us) (sym c.deref.ensures.0) ∙ sym c.place_of.ensures ∙ c.in-Some.is) in
    let b : BecomesAt ws at (f ws) = becomes_invalid ws at (clip_in c.args.screen.now ws) (λ w. on_screen ws w c.args.local.now) c.self.invariant.stack is.there in
    let now = window_now ws c.invalidate_rect_at.new.stack.items at (f ws) is.there (c.invalidate_rect_at.ensures (get_or ws at no_window) is.place) in
    let there : get_or c.deref-2.result.now at no_window ≡ f ws (get_or ws at no_window) = ap (λ (us : List Win). get_or us at no_window) c.deref-2.ensures.0 ∙ now in
    subst (λ (w : Win). IsReplacement (window_of c.self.inside.tree.windows w.handle) w) (sym there)
    (subst (λ (us : List Win). IsReplacement (window_of us (f ws (get_or ws at no_window)).handle) (f ws (get_or ws at no_window))) (sym c.self.invariant.windows) (may_put ws at (f ws) c.self.invariant.stack b))

pub bounds-deref-at : goal.bounds-deref-at
bounds-deref-at c =
    let ws = c.self.inside.stack.items in
    let at = c.in-Some.at in
    let is = found_at ws c.args.h at (ap (λ (us : List Win). position (has_the c.args.h) us) (sym c.deref.ensures.0) ∙ sym c.place_of.ensures ∙ c.in-Some.is) in
    let there = is.there in
    let long : length c.deref-2.result.now ≡ length ws = ap length c.deref-2.ensures.0 ∙ ap length (c.invalidate_rect_at.ensures (get_or ws at no_window) is.place) ∙ length-set ws at _ in
    omega arith

pub invariant_of-self : goal.invariant_of-self
invariant_of-self c =
    let ws = c.self.inside.stack.items in
    let at = c.in-Some.at in
    let f : List Win → Win → Win = λ us w. invalidated (clip_in c.args.screen.now us w) (on_screen us w c.args.local.now) w in
    let is = found_at ws c.args.h at (ap (λ (us : List Win). position (has_the c.args.h) us) (sym c.deref.ensures.0) ∙ sym c.place_of.ensures ∙ c.in-Some.is) in
    put_in_step c.self.inside.tree c.put.new.self ws c.invalidate_rect_at.new.stack.items at (f ws) (record {
      same = c.self.invariant.windows;
      stack_is = c.self.invariant.stack;
      given = c.self.invariant.given;
      becomes = becomes_invalid ws at (clip_in c.args.screen.now ws) (λ w. on_screen ws w c.args.local.now) c.self.invariant.stack is.there;
      now_is = c.invalidate_rect_at.ensures (get_or ws at no_window) is.place;
      end_is = c.put.ensures ∙ ap (λ (us : List Win). record c.self.inside.tree { windows = window_changed (get_or us at no_window).handle (λ u. get_or us at no_window) c.self.inside.tree.windows }) c.deref-2.ensures.0;
    })

pub returns : goal.returns
returns c =
    let ws = c.self.inside.stack.items in
    let at = c.in-Some.at in
    let f : List Win → Win → Win = λ us w. invalidated (clip_in c.args.screen.now us w) (on_screen us w c.args.local.now) w in
    let is = found_at ws c.args.h at (ap (λ (us : List Win). position (has_the c.args.h) us) (sym c.deref.ensures.0) ∙ sym c.place_of.ensures ∙ c.in-Some.is) in (
      is_there (window_of c.args.self.now.windows c.args.h) (get_or ws at no_window) _ None (ap (λ (s : Scene). window_of s.windows c.args.h) (sym c.self.view_is) ∙ is.live),
      put_view c.self.inside.tree c.put.new.self c.args.self.now ws c.invalidate_rect_at.new.stack.items at c.args.h f (record {
        same = c.self.invariant.windows;
        stack_is = c.self.invariant.stack;
        given = c.self.invariant.given;
        becomes = becomes_invalid ws at (clip_in c.args.screen.now ws) (λ w. on_screen ws w c.args.local.now) c.self.invariant.stack is.there;
        now_is = c.invalidate_rect_at.ensures (get_or ws at no_window) is.place;
        end_is = c.put.ensures ∙ ap (λ (us : List Win). record c.self.inside.tree { windows = window_changed (get_or us at no_window).handle (λ u. get_or us at no_window) c.self.inside.tree.windows }) c.deref-2.ensures.0;
      }) (found_handle ws c.args.h (get_or ws at no_window) is.live) c.self.view_is,
    )
