use Rattle.std.proofs.Common.{◌≡◌, List, Some, None, length, get_or, sym, ap, subst, ◌∙◌, arith}
use Rattle.std.proofs.lemmas.List.Quantifiers.{position-Some}
use Rattle.std.specs.Prelude.{position}
use Rattle.scene.specs.declared.win.Win.{Win}
use Rattle.scene.specs.Places.{window_of, no_window}
use Rattle.scene.specs.Damage.{with_invalid}
use Rattle.scene.specs.Families.{window_changed}
use Rattle.win_tree.specs.Trees.{Scene, IsReplacement}
use Rattle.invalidate.specs.Invalidation.{is_invalid}
use Rattle.desk.specs.Jobs.{windows_after_job}
use Rattle.desk.proofs.CallerLemmas.{windows-set, length-windows_after_job}
use Rattle.window_list.proofs.PlaceLemmas.{becomes_valid_at, may_put, window_now, PutAt, put_in_step, end_windows}
use Rattle.window_list.proofs.windows.Windows.make_valid.Goals as goal

pub bounds-deref-which : goal.bounds-deref-which
bounds-deref-which c =
    let ws = c.self.inside.stack.items in
    let first : position is_invalid ws ≡ Some c.args.which = subst (λ (s : Scene). position is_invalid s.windows ≡ Some c.args.which) (sym c.self.view_is) c.requires in
    let there = (position-Some is_invalid ws c.args.which no_window first).0 in
    let long : length c.deref.result.now ≡ length ws = ap length (c.deref.ensures.0 ∙ c.make_valid_at.ensures) ∙ length-windows_after_job ws in
    omega arith

pub put-requires : goal.put-requires
put-requires c =
    let ws = c.self.inside.stack.items in
    let which = c.args.which in
    let f : Win → Win = λ w. with_invalid w None in
    let first : position is_invalid ws ≡ Some which = subst (λ (s : Scene). position is_invalid s.windows ≡ Some which) (sym c.self.view_is) c.requires in
    let there = (position-Some is_invalid ws which no_window first).0 in
    let now = window_now ws c.make_valid_at.new.stack.items which f there (c.make_valid_at.ensures ∙ sym (windows-set ws which first)) in
    let is : get_or c.deref.result.now which no_window ≡ f (get_or ws which no_window) = ap (λ (us : List Win). get_or us which no_window) c.deref.ensures.0 ∙ now in
    subst (λ (w : Win). IsReplacement (window_of c.self.inside.tree.windows w.handle) w) (sym is)
    (subst (λ (us : List Win). IsReplacement (window_of us (f (get_or ws which no_window)).handle) (f (get_or ws which no_window))) (sym c.self.invariant.windows) (may_put ws which f c.self.invariant.stack (becomes_valid_at ws which c.self.invariant.stack there)))

put_is : (c : goal.After-put) → PutAt c.self.inside.tree c.put.new.self c.self.inside.stack.items c.make_valid_at.new.stack.items c.args.which (λ w. with_invalid w None)
put_is c =
    let ws = c.self.inside.stack.items in
    let first : position is_invalid ws ≡ Some c.args.which = subst (λ (s : Scene). position is_invalid s.windows ≡ Some c.args.which) (sym c.self.view_is) c.requires in
    record {
      same = c.self.invariant.windows;
      stack_is = c.self.invariant.stack;
      given = c.self.invariant.given;
      becomes = becomes_valid_at ws c.args.which c.self.invariant.stack (position-Some is_invalid ws c.args.which no_window first).0;
      now_is = c.make_valid_at.ensures ∙ sym (windows-set ws c.args.which first);
      end_is = c.put.ensures ∙ ap (λ (us : List Win). record c.self.inside.tree { windows = window_changed (get_or us c.args.which no_window).handle (λ u. get_or us c.args.which no_window) c.self.inside.tree.windows }) c.deref.ensures.0;
    }

pub invariant_of-self : goal.invariant_of-self
invariant_of-self c = put_in_step c.self.inside.tree c.put.new.self c.self.inside.stack.items c.make_valid_at.new.stack.items c.args.which _ (put_is c)

pub returns : goal.returns
returns c =
    ap (λ (us : List Win). record { windows = us; handles = c.put.new.self.handles }) c.make_valid_at.ensures
    ∙ ap (λ (s : Scene). record { windows = windows_after_job c.self.inside.stack.items; handles = s.handles }) (end_windows c.self.inside.tree c.put.new.self c.self.inside.stack.items c.make_valid_at.new.stack.items c.args.which _ (put_is c))
    ∙ ap (λ (s : Scene). record s { windows = windows_after_job s.windows }) c.self.view_is
