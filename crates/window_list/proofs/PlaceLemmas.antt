-- One window that is made invalid, or valid, or composed aside, at its place in the list and in the tree.
use Rattle.std.proofs.Common.{◌≡◌, ℕ, ◌<◌, ◌≤◌, Bool, List, [], ◌∷◌, length, get_or, set, eqb, Option, Some, None, get_or-set_same, refl, sym, ap, subst, ◌∙◌, inl, inr, map}
use Rattle.std.proofs.lemmas.Bool.{cases_Bool}
use Rattle.std.proofs.lemmas.Option.{slice_get-get_or}
use Rattle.gfx_base.specs.declared.rect.Rect.{Rect}
use Rattle.scene.specs.declared.win.Win.{Win}
use Rattle.scene.specs.Places.{window_of, no_window}
use Rattle.scene.specs.Damage.{with_invalid, invalidated}
use Rattle.scene.specs.Families.{window_changed}
use Rattle.scene.specs.Stacks.{IsStack, IsWindow, IsDesktop, MayBecome, AreGiven}
use Rattle.scene.proofs.CallerLemmas.{bare, all_found, desktops, changed_valid, set_is_changed, window_of-single}
use Rattle.win_tree.specs.Trees.{Scene, MayReplace, IsReplacement}
use Rattle.invalidate.proofs.CallerLemmas.{may_become}
use Rattle.window_list.specs.Lists.{IsInStep}
use Rattle.desk.specs.Windows.{with_memdev}
use Rattle.desk.proofs.CallerLemmas.{bare_invalidated, found_has, changed_alike, becomes_valid, memdev_may_become, given_rest}
use Rattle.messages.specs.Delivery.{rest_of}

-- a window at its place becomes another one, that may stand there in the tree and has the same handle
pub record BecomesAt (ws : List Win) (at : ℕ) (f : Win → Win) : Type 0 where
  pub there : at < length ws
  pub replaces : (w : Win) → IsWindow (f w) → MayReplace w (f w)
  pub handle : (w : Win) → (f w).handle ≡ w.handle
  pub valid : (w : Win) → window_of ws (get_or ws at no_window).handle ≡ Some w → MayBecome w (f w)

-- the list with it changed by its handle
abbrev pub with_change_at : List Win → ℕ → (Win → Win) → List Win
with_change_at ws at f = window_changed (get_or ws at no_window).handle f ws

found_there : (ws : List Win) (at : ℕ) (f : Win → Win) → IsStack ws → BecomesAt ws at f → window_of ws (get_or ws at no_window).handle ≡ Some (get_or ws at no_window)
found_there ws at f stack b = window_of-single ws at (get_or ws at no_window) (slice_get-get_or ws at no_window b.there) (stack.single (get_or ws at no_window).handle)

pub set_there : (ws : List Win) (at : ℕ) (f : Win → Win) → IsStack ws → BecomesAt ws at f → set ws at (f (get_or ws at no_window)) ≡ with_change_at ws at f
set_there ws at f stack b = set_is_changed ws at (get_or ws at no_window) f stack.single (slice_get-get_or ws at no_window b.there)

-- what is put into the tree may stand there
pub may_put : (ws : List Win) (at : ℕ) (f : Win → Win) → IsStack ws → BecomesAt ws at f → let v = f (get_or ws at no_window) in IsReplacement (window_of ws v.handle) v
may_put ws at f stack b =
    let w = get_or ws at no_window in
    let v = f w in
    let live = found_there ws at f stack b in
    let become = b.valid w live in
    subst (λ (o : Option Win). IsReplacement o v) (sym (ap (window_of ws) become.handle ∙ live)) (b.replaces w become.window)

-- then the tree has the same list
pub put_there : (ws : List Win) (at : ℕ) (f : Win → Win) → IsStack ws → BecomesAt ws at f → let v = f (get_or ws at no_window) in window_changed v.handle (λ u. v) ws ≡ with_change_at ws at f
put_there ws at f stack b =
    let w = get_or ws at no_window in
    let live = found_there ws at f stack b in
    ap (λ (h : ℕ). window_changed h (λ u. f w) ws) ((b.valid w live).handle)
    ∙ changed_alike w.handle (λ u. f w) f w ws ws live refl (all_found ws stack.single)

-- ---- a window that was put

given_changed : (handles h : ℕ) (f : Win → Win) (ws : List Win) → ((w : Win) → (f w).handle ≡ w.handle) → AreGiven handles ws → AreGiven handles (window_changed h f ws)
unfolding window_changed
given_changed handles h f [] same given = tt
given_changed handles h f (w ∷ ws) same given =
    let later = given_changed handles h f ws same given.1 in
    elim (cases_Bool (eqb w.handle h)) [
      | inl at ↦ rw at (subst (λ (n : ℕ). n ≤ handles) (sym (same w)) given.0, later)
      | inr off ↦ rw off (given.0, later)
    ]

-- the window at a place became another one in the list, and then in the tree
pub record PutAt (tree end : Scene) (stack now : List Win) (at : ℕ) (f : Win → Win) : Type 0 where
  pub same : tree.windows ≡ stack
  pub stack_is : IsStack stack
  pub given : AreGiven tree.handles stack
  pub becomes : BecomesAt stack at f
  pub now_is : now ≡ set stack at (f (get_or stack at no_window))
  pub end_is : end ≡ record tree { windows = window_changed (get_or now at no_window).handle (λ u. get_or now at no_window) tree.windows }

pub window_now : (stack now : List Win) (at : ℕ) (f : Win → Win) → at < length stack → now ≡ set stack at (f (get_or stack at no_window)) → get_or now at no_window ≡ f (get_or stack at no_window)
window_now stack now at f there is = ap (λ (ws : List Win). get_or ws at no_window) is ∙ get_or-set_same stack at (f (get_or stack at no_window)) no_window there

pub end_windows : (tree end : Scene) (stack now : List Win) (at : ℕ) (f : Win → Win) → PutAt tree end stack now at f → end ≡ record tree { windows = now }
end_windows tree end stack now at f p =
    let v = window_now stack now at f p.becomes.there p.now_is in
    p.end_is
    ∙ ap (λ (w : Win). record tree { windows = window_changed w.handle (λ u. w) tree.windows }) v
    ∙ ap (λ (ws : List Win). record tree { windows = window_changed (f (get_or stack at no_window)).handle (λ u. f (get_or stack at no_window)) ws }) p.same
    ∙ ap (λ (ws : List Win). record tree { windows = ws }) (put_there stack at f p.stack_is p.becomes ∙ sym (set_there stack at f p.stack_is p.becomes) ∙ sym p.now_is)

pub put_in_step : (tree end : Scene) (stack now : List Win) (at : ℕ) (f : Win → Win) → PutAt tree end stack now at f → IsInStep end now
put_in_step tree end stack now at f p =
    let b = p.becomes in
    let is : now ≡ with_change_at stack at f = p.now_is ∙ set_there stack at f p.stack_is b in
    subst (λ (s : Scene). IsInStep s now) (sym (end_windows tree end stack now at f p))
    (record {
      windows = refl;
      stack = subst IsStack (sym is) (changed_valid (get_or stack at no_window).handle f stack p.stack_is b.valid);
      given = subst (AreGiven tree.handles) (sym is) (given_changed tree.handles (get_or stack at no_window).handle f stack b.handle p.given);
    })

-- what callers see then
pub put_view : (tree end old : Scene) (stack now : List Win) (at h : ℕ) (f : List Win → Win → Win) → PutAt tree end stack now at (f stack) → (get_or stack at no_window).handle ≡ h → ◌≡◌ {A = Scene} (record { windows = stack; handles = tree.handles }) old
    → ◌≡◌ {A = Scene} (record { windows = now; handles = end.handles }) (record old { windows = window_changed h (f old.windows) old.windows })
put_view tree end old stack now at h f p handle view =
    let is : now ≡ window_changed h (f stack) stack = p.now_is ∙ set_there stack at (f stack) p.stack_is p.becomes ∙ ap (λ (n : ℕ). window_changed n (f stack) stack) handle in
    ap (λ (ws : List Win). record { windows = ws; handles = end.handles }) is
    ∙ ap (λ (n : ℕ). record { windows = window_changed h (f stack) stack; handles = n }) (ap (λ (s : Scene). s.handles) (end_windows tree end stack now at (f stack) p))
    ∙ ap (λ (s : Scene). record s { windows = window_changed h (f s.windows) s.windows }) view

-- ---- what becomes of it

-- where no more than what is invalid changes, the window may stand there
bare_replaces : (w v : Win) → bare v ≡ bare w → IsWindow v → MayReplace w v
bare_replaces w v e window = record {
  same = ap (λ (u : Win). record u { invalid = v.invalid }) e ∙ ap (λ (u : Win). record w { class = u.class; trans = u.trans; memdev = u.memdev; values = u.values; invalid = v.invalid }) (sym e);
  invalid = window.invalid;
  desktop = λ one. (ap (λ (u : Win). u.class) e, ap (λ (u : Win). u.trans) e);
}

pub becomes_memdev : (ws : List Win) (at : ℕ) (memdev : Bool) → IsStack ws → at < length ws → BecomesAt ws at (with_memdev memdev)
becomes_memdev ws at memdev stack there = record {
  there = there;
  replaces = λ w window. record { same = refl; invalid = window.invalid; desktop = λ one. (refl, refl) };
  handle = λ w. refl;
  valid = λ w live. memdev_may_become ws (get_or ws at no_window).handle memdev stack w live;
}

same_handle : (w v : Win) → bare v ≡ bare w → v.handle ≡ w.handle
same_handle w v e = ap (λ (u : Win). u.handle) e

pub becomes_invalid : (ws : List Win) (at : ℕ) (clip area : Win → Rect) → IsStack ws → at < length ws → BecomesAt ws at (λ w. invalidated (clip w) (area w) w)
becomes_invalid ws at clip area stack there = record {
  there = there;
  replaces = λ w window. bare_replaces w (invalidated (clip w) (area w) w) (bare_invalidated (clip w) (area w) w) window;
  handle = λ w. same_handle w (invalidated (clip w) (area w) w) (bare_invalidated (clip w) (area w) w);
  valid = λ w live. may_become (clip w) (area w) w (found_has IsWindow ws (get_or ws at no_window).handle w live stack.windows) (found_has (λ v. v.handle ≡ 1 → IsDesktop v) ws (get_or ws at no_window).handle w live (desktops ws stack));
}

pub becomes_valid_at : (ws : List Win) (at : ℕ) → IsStack ws → at < length ws → BecomesAt ws at (λ w. with_invalid w None)
becomes_valid_at ws at stack there = record {
  there = there;
  replaces = λ w window. bare_replaces w (with_invalid w None) refl window;
  handle = λ w. refl;
  valid = λ w live. becomes_valid w (found_has IsWindow ws (get_or ws at no_window).handle w live stack.windows) (found_has (λ v. v.handle ≡ 1 → IsDesktop v) ws (get_or ws at no_window).handle w live (desktops ws stack));
}

-- what the tree and the list are then
pub in_step_rest : (tree end : Scene) (ws new : List Win) → AreGiven tree.handles ws → map rest_of new ≡ map rest_of ws → IsStack new → end ≡ record tree { windows = new } → IsInStep end new
in_step_rest tree end ws new given rest stack is =
    subst (λ (s : Scene). IsInStep s new) (sym is) (record { windows = refl; stack = stack; given = given_rest tree.handles ws new rest given })

-- what callers see then
pub view_rest : (tree end old : Scene) (ws new : List Win) (change : List Win → List Win) → new ≡ change ws → end ≡ record tree { windows = new } → ◌≡◌ {A = Scene} (record { windows = ws; handles = tree.handles }) old
    → ◌≡◌ {A = Scene} (record { windows = new; handles = end.handles }) (record old { windows = change old.windows })
view_rest tree end old ws new change now is view =
    ap (λ (us : List Win). record { windows = us; handles = end.handles }) now
    ∙ ap (λ (s : Scene). record { windows = change ws; handles = s.handles }) is
    ∙ ap (λ (s : Scene). record s { windows = change s.windows }) view
