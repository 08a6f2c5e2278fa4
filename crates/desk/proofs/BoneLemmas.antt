-- Windows of which handles and parents alone are looked at. Where these are of a valid stack, whatever the sides, the changes of the order are those that the laws on damage speak of.
use Rattle.std.proofs.Common.{◌≡◌, ℕ, zero, suc, pos, ◌+◌, ◌<◌, ◌≤◌, Bool, true, false, ◌&&◌, ◌||◌, cond, eqb, List, [], ◌∷◌, map, filter, Option, Some, None, refl, sym, ap, subst, ◌∙◌, inl, inr, arith}
use Rattle.std.specs.Prelude.{not, option_map, unwrap_or}
use Rattle.std.specs.Option.{option_map_or}
use Rattle.std.proofs.lemmas.Bool.{cases_Bool, eqb-true}
use Rattle.scene.specs.declared.win.Win.{Win}
use Rattle.scene.specs.Places.{Place, place_of, window_of, place_at, number_of, AreSingle}
use Rattle.scene.specs.Clips.{deepest_level}
use Rattle.scene.specs.Changes.{lies_below, is_below, LiesBelow, Fails, Adds, TakesAway, Reorders}
use Rattle.scene.specs.Families.{new_window, without_family, on_top_of, window_changed}
use Rattle.scene.specs.Stacks.{IsStack, IsWindow, IsDesktop, has_ancestors}
use Rattle.scene.proofs.CallerLemmas.{bare, AreFound, all_found}
use Rattle.messages.specs.Delivery.{rest_of}
use Rattle.desk.specs.Windows.{with_memdev}
use Rattle.win_tree.proofs.CallerLemmas.{none_given, IsNew, created_adds, without_takes}
use Rattle.desk.proofs.ShapeLemmas.{Keeps, window_of-map, number_of-map, filter-map, without_family-map, on_top_of-map}

-- ---- the desktop alone

one_handle : (b : Bool) → cond b 1 0 + 0 ≤ 1
one_handle true = omega arith
one_handle false = omega arith

shallow_desktop : (d : Win) → d.parent ≡ 0 → d.handle ≡ 1 → has_ancestors 8 (d ∷ []) d ≡ false
unfolding has_ancestors
shallow_desktop d root handle = rw (root, handle) refl

pub stack_alone : (d : Win) → d.handle ≡ 1 → d.parent ≡ 0 → IsDesktop d → IsWindow d → IsStack (d ∷ [])
stack_alone d handle root desktop window = record {
  order = (handle, root, desktop, tt);
  single = λ h. one_handle (eqb d.handle h);
  few = omega arith;
  levels = (shallow_desktop d root handle, tt);
  windows = (window, tt);
}

-- ---- bones

-- a window of which its handle and its parent alone are left
abbrev pub bones : Win → Win
bones w = new_window w.handle w.parent (pos 0) (pos 0) 1 1 0

pub keeps_bones : Keeps bones
keeps_bones = record { handle = λ w. refl; parent = λ w. refl }

pub bones_window : (w : Win) → 0 < w.handle → IsWindow (bones w)
bones_window w some = record { handle = some; some_width = omega arith; width = omega arith; some_height = omega arith; height = omega arith; invalid = refl }

bones-bare : (ws : List Win) → map bones (map bare ws) ≡ map bones ws
bones-bare [] = refl
bones-bare (w ∷ ws) = ap (λ (vs : List Win). bones w ∷ vs) (bones-bare ws)

pub bones-same : (ws vs : List Win) → map bare vs ≡ map bare ws → map bones vs ≡ map bones ws
bones-same ws vs e = sym (bones-bare vs) ∙ ap (map bones) e ∙ bones-bare ws

bones-rest : (ws : List Win) → map bones (map rest_of ws) ≡ map bones ws
bones-rest [] = refl
bones-rest (w ∷ ws) = ap (λ (vs : List Win). bones w ∷ vs) (bones-rest ws)

pub bones_rest : (ws vs : List Win) → map rest_of vs ≡ map rest_of ws → map bones vs ≡ map bones ws
bones_rest ws vs e = sym (bones-rest vs) ∙ ap (map bones) e ∙ bones-rest ws

places-rest : (ws : List Win) → map place_of (map rest_of ws) ≡ map place_of ws
places-rest [] = refl
places-rest (w ∷ ws) = ap (λ (ps : List Place). place_of w ∷ ps) (places-rest ws)

pub places_rest : (ws vs : List Win) → map rest_of vs ≡ map rest_of ws → map place_of vs ≡ map place_of ws
places_rest ws vs e = sym (places-rest vs) ∙ ap (map place_of) e ∙ places-rest ws

pub places_memdev : (h : ℕ) (memdev : Bool) (ws : List Win) → map place_of (window_changed h (with_memdev memdev) ws) ≡ map place_of ws
unfolding window_changed
places_memdev h memdev [] = refl
places_memdev h memdev (w ∷ ws) =
    elim (cases_Bool (eqb w.handle h)) [
      | inl at ↦ rw at (ap (λ (ps : List Place). place_of w ∷ ps) (places_memdev h memdev ws))
      | inr off ↦ rw off (ap (λ (ps : List Place). place_of w ∷ ps) (places_memdev h memdev ws))
    ]

pub live_bones : (ws : List Win) (h : ℕ) (w : Win) → window_of ws h ≡ Some w → window_of (map bones ws) h ≡ Some (bones w)
live_bones ws h w live = window_of-map bones keeps_bones ws h ∙ ap (option_map bones) live

single_bones : (ws : List Win) → AreSingle (map bones ws) → AreSingle ws
single_bones ws single h = subst (λ (n : ℕ). n ≤ 1) (number_of-map bones keeps_bones ws h) (single h)

pub all_live : (ws : List Win) → IsStack (map bones ws) → AreFound ws ws
all_live ws stack = all_found ws (single_bones ws stack.single)

-- ---- windows from their bones

-- the window of a list that has the handle, of this parent
abbrev back : List Win → Win → Win
back us v = record (unwrap_or (window_of us v.handle) v) { handle = v.handle; parent = v.parent }

abbrev place_back : List Win → Place → Place
place_back us q = record (unwrap_or (place_at us q.handle) q) { handle = q.handle; parent = q.parent }

keeps_back : (us : List Win) → Keeps (back us)
keeps_back us = record { handle = λ w. refl; parent = λ w. refl }

back_one : (us : List Win) (w : Win) → window_of us w.handle ≡ Some w → back us (bones w) ≡ w
back_one us w live =
    let one : back us (bones w) ≡ record w { handle = w.handle; parent = w.parent } = ap (λ (o : Option Win). record (unwrap_or o (bones w)) { handle = w.handle; parent = w.parent }) live in
    one

back_all : (us ws : List Win) → AreFound us ws → map (back us) (map bones ws) ≡ ws
back_all us [] found = refl
back_all us (w ∷ ws) found = ap (λ (v : Win). v ∷ map (back us) (map bones ws)) (back_one us w found.0) ∙ ap (λ (vs : List Win). w ∷ vs) (back_all us ws found.1)

back_some : (v : Win) (o : Option Win) → ◌≡◌ {A = Place} (place_of (record (unwrap_or o v) { handle = v.handle; parent = v.parent })) (record (unwrap_or (option_map place_of o) (place_of v)) { handle = v.handle; parent = v.parent })
back_some v None = refl
back_some v (Some u) = refl

back_place : (us : List Win) (v : Win) → place_of (back us v) ≡ place_back us (place_of v)
back_place us v = back_some v (window_of us v.handle)

back_found : (us : List Win) (o : Option Win) → option_map place_of (option_map (back us) o) ≡ option_map (place_back us) (option_map place_of o)
back_found us None = refl
back_found us (Some v) = ap (λ (q : Place). Some q) (back_place us v)

place_at-back : (us ws : List Win) (x : ℕ) → place_at (map (back us) ws) x ≡ option_map (place_back us) (place_at ws x)
place_at-back us ws x = ap (option_map place_of) (window_of-map (back us) (keeps_back us) ws x) ∙ back_found us (window_of ws x)

-- ---- what is below a window

below_some : (us : List Win) (n h : ℕ) (before after : ℕ → Option Place) (o : Option Place) → ((q : Place) → lies_below n after h (place_back us q) ≡ lies_below n before h q)
    → option_map_or (lies_below n after h) (option_map (place_back us) o) false ≡ option_map_or (lies_below n before h) o false
below_some us n h before after None same = refl
below_some us n h before after (Some q) same = same q

lies_below-back : (us ws : List Win) (n h : ℕ) (q : Place) → lies_below n (place_at (map (back us) ws)) h (place_back us q) ≡ lies_below n (place_at ws) h q
lies_below-back us ws zero h q = refl
lies_below-back us ws (suc n) h q =
    ap (λ (b : Bool). not (eqb q.parent 0) && (eqb q.parent h || b))
    (ap (λ (o : Option Place). option_map_or (lies_below n (place_at (map (back us) ws)) h) o false) (place_at-back us ws q.parent)
    ∙ below_some us n h (place_at ws) (place_at (map (back us) ws)) (place_at ws q.parent) (λ r. lies_below-back us ws n h r))

below-back : (us ws : List Win) (h : ℕ) (v : Win) → is_below (map (back us) ws) h (place_of (back us v)) ≡ is_below ws h (place_of v)
below-back us ws h v = ap (λ (q : Place). is_below (map (back us) ws) h q) (back_place us v) ∙ lies_below-back us ws deepest_level h (place_of v)

fails-back : (us ws : List Win) (w : Win) (test : Win → Bool) → Fails (map (back us) ws) (back us w) test → Fails ws w (λ v. test (back us v))
fails-back us ws w test fails = (fails.0, λ v below. fails.1 (back us v) (below-back us ws w.handle v ∙ below))

lies-back : (us ws : List Win) (h x : ℕ) (q : Place) (o : Option Place) → place_at ws x ≡ o → option_map (place_back us) o ≡ Some q → LiesBelow ws h x → is_below (map (back us) ws) h q ≡ true
lies-back us ws h x q None at is below = absurd cc
lies-back us ws h x q (Some r) at is below =
    let same : place_back us r ≡ q = cc in
    ap (λ (p : Place). is_below (map (back us) ws) h p) (sym same) ∙ lies_below-back us ws deepest_level h r ∙ below r at

-- ---- changes of the order, from those of the bones

rest-back : (us ws vs : List Win) (test : Win → Bool) → filter (λ v. test (back us v)) vs ≡ filter (λ v. test (back us v)) ws → filter test (map (back us) vs) ≡ filter test (map (back us) ws)
rest-back us ws vs test same =
    filter-map (back us) test (λ v. test (back us v)) (λ v. refl) vs ∙ ap (map (back us)) same ∙ sym (filter-map (back us) test (λ v. test (back us v)) (λ v. refl) ws)

-- a handle that finds the same finds the same
same-back : (us ws vs : List Win) (x : ℕ) → place_at vs x ≡ place_at ws x → place_at (map (back us) vs) x ≡ place_at (map (back us) ws) x
same-back us ws vs x same = place_at-back us vs x ∙ ap (option_map (place_back us)) same ∙ sym (place_at-back us ws x)

-- what a handle finds of the bones, and of the windows
found-back : (us ws : List Win) (w : Win) (x : ℕ) → place_at ws x ≡ Some (place_of w) → place_at (map (back us) ws) x ≡ Some (place_of (back us w))
found-back us ws w x found = place_at-back us ws x ∙ ap (option_map (place_back us)) found ∙ ap (λ (q : Place). Some q) (sym (back_place us w))

none-back : (us ws : List Win) (x : ℕ) → place_at ws x ≡ None → place_at (map (back us) ws) x ≡ None
none-back us ws x none = place_at-back us ws x ∙ ap (option_map (place_back us)) none

reorders-back : (us ws vs : List Win) (w : Win) → Reorders ws vs w → Reorders (map (back us) ws) (map (back us) vs) (back us w)
reorders-back us ws vs w r = record {
  known = found-back us ws w w.handle r.known;
  found = λ x. same-back us ws vs x (r.found x);
  rest = λ test fails. rest-back us ws vs test (r.rest (λ v. test (back us v)) (fails-back us ws w test fails));
}

takes-back : (us ws vs : List Win) (w : Win) → TakesAway ws vs w → TakesAway (map (back us) ws) (map (back us) vs) (back us w)
takes-back us ws vs w t = record {
  known = found-back us ws w w.handle t.known;
  gone = none-back us vs w.handle t.gone;
  others = λ x differ.
      elim (t.others x differ) [
        | inl same ↦ inl (same-back us ws vs x same)
        | inr gone ↦ inr (none-back us vs x gone.0, λ q is. lies-back us ws w.handle x q (place_at ws x) refl (sym (place_at-back us ws x) ∙ is) gone.1)
      ];
  rest = λ test fails. rest-back us ws vs test (t.rest (λ v. test (back us v)) (fails-back us ws w test fails));
}

adds-back : (us ws vs : List Win) (w : Win) → Adds ws vs w → Adds (map (back us) ws) (map (back us) vs) (back us w)
adds-back us ws vs w a = record {
  unknown = none-back us ws w.handle a.unknown;
  found = found-back us vs w w.handle a.found;
  others = λ x differ. same-back us ws vs x (a.others x differ);
  rest = λ test fails. rest-back us ws vs test (a.rest (λ v. test (back us v)) fails);
}

-- what holds of two lists and a window
same_three : (P : List Win → List Win → Win → Type 0) (ws us vs ts : List Win) (w v : Win) → ws ≡ us → vs ≡ ts → w ≡ v → P ws vs w → P us ts v
same_three P ws us vs ts w v one two three is = subst (λ (x : Win). P us ts x) three (subst (λ (xs : List Win). P us xs w) two (subst (λ (xs : List Win). P xs vs w) one is))

-- ---- the lists that calls lead to

-- a list function that looks at handles and parents alone
pub record Commutes (F : List Win → List Win) : Type 0 where
  pub is : (f : Win → Win) → Keeps f → (ws : List Win) → F (map f ws) ≡ map f (F ws)

whole : (ws : List Win) → IsStack (map bones ws) → map (back ws) (map bones ws) ≡ ws
whole ws stack = back_all ws ws (all_live ws stack)

whole_after : (F : List Win → List Win) → Commutes F → (ws : List Win) → IsStack (map bones ws) → map (back ws) (F (map bones ws)) ≡ F ws
whole_after F c ws stack = sym (c.is (back ws) (keeps_back ws) (map bones ws)) ∙ ap F (whole ws stack)

pub reorders : (F : List Win → List Win) → Commutes F → (ws : List Win) (w : Win) → IsStack (map bones ws) → window_of ws w.handle ≡ Some w → Reorders (map bones ws) (F (map bones ws)) (bones w) → Reorders ws (F ws) w
reorders F c ws w stack live r =
    same_three (λ us vs v. Reorders us vs v) _ ws _ (F ws) _ w (whole ws stack) (whole_after F c ws stack) (back_one ws w live) (reorders-back ws (map bones ws) (F (map bones ws)) (bones w) r)

-- a new order in which each handle finds the bones that it found: it finds its window
pub reorders_found : (F : List Win → List Win) → Commutes F → (ws : List Win) → IsStack (map bones ws) → (x : ℕ) → window_of (F (map bones ws)) x ≡ window_of (map bones ws) x → window_of (F ws) x ≡ window_of ws x
reorders_found F c ws stack x same =
    ap (λ (vs : List Win). window_of vs x) (sym (whole_after F c ws stack))
    ∙ window_of-map (back ws) (keeps_back ws) (F (map bones ws)) x
    ∙ ap (option_map (back ws)) same
    ∙ sym (window_of-map (back ws) (keeps_back ws) (map bones ws) x)
    ∙ ap (λ (vs : List Win). window_of vs x) (whole ws stack)

pub takes : (ws : List Win) (w : Win) → IsStack (map bones ws) → window_of ws w.handle ≡ Some w → TakesAway ws (without_family w.handle ws) w
takes ws w stack live =
    same_three (λ us vs v. TakesAway us vs v) _ ws _ (without_family w.handle ws) _ w (whole ws stack)
    (whole_after (without_family w.handle) (record { is = λ f k vs. without_family-map f k w.handle vs }) ws stack) (back_one ws w live)
    (takes-back ws (map bones ws) (without_family w.handle (map bones ws)) (bones w) (without_takes (map bones ws) (bones w) stack (live_bones ws w.handle w live)))

-- no handle stands twice in a list with a new window
one_new : (ws : List Win) (w : Win) (x : ℕ) → number_of w.handle ws ≡ 0 → number_of x ws ≤ 1 → number_of x (w ∷ ws) ≤ 1
one_new ws w x none few =
    elim (cases_Bool (eqb w.handle x)) [
      | inl e ↦ let same = eqb-true w.handle x e in rw e (omega (arith, none, ap (λ (h : ℕ). number_of h ws) same))
      | inr e ↦ rw e (omega (arith, few))
    ]

pub adds : (ws : List Win) (handles : ℕ) (w over' : Win) → IsNew (map bones ws) handles (bones w) over' → Adds ws (on_top_of w.parent (w ∷ []) ws) w
adds ws handles w over' new =
    let us : List Win = w ∷ ws in
    let none : number_of w.handle ws ≡ 0 = sym (number_of-map bones keeps_bones ws w.handle) ∙ none_given handles w.handle (map bones ws) new.given new.fresh in
    let found : AreFound us us = all_found us (λ x. one_new ws w x none (single_bones ws new.stack.single x)) in
    let old = back_all us ws found.1 in
    let this = back_one us w found.0 in
    same_three (λ rs vs v. Adds rs vs v) _ ws _ (on_top_of w.parent (w ∷ []) ws) _ w old
    (sym (on_top_of-map (back us) (keeps_back us) w.parent (bones w ∷ []) (map bones ws)) ∙ ap (λ (v : Win). on_top_of w.parent (v ∷ []) (map (back us) (map bones ws))) this ∙ ap (on_top_of w.parent (w ∷ [])) old)
    this
    (adds-back us (map bones ws) (on_top_of w.parent (bones w ∷ []) (map bones ws)) (bones w) (created_adds (map bones ws) handles (bones w) over' new.stack new.given new.fresh new.parent))
