-- The list's changes are such as the law on damage speaks of.
use Rattle.std.proofs.Common.{◌≡◌, ◌≢◌, ◌⊎◌, ℕ, zero, suc, ◌+◌, ◌-◌, ◌<◌, ◌≤◌, Bool, true, false, cond, eqb, List, [], ◌∷◌, filter, Option, Some, None, refl, sym, ap, subst, ◌∙◌, inl, inr, arith, eq-eqb}
use Rattle.std.specs.Prelude.{option_map, unwrap_or}
use Rattle.std.specs.Option.{option_map_or}
use Rattle.std.specs.List.{AllByRecursion}
use Rattle.std.proofs.lemmas.Bool.{cases_Bool, cases_lt, ne_eqb, eqb-true, false≢true, and_parts, and_from, or_cases, or_left, or_right}
use Rattle.scene.specs.declared.win.Win.{Win}
use Rattle.scene.specs.Places.{Place, window_of, place_of, place_at}
use Rattle.scene.specs.Families.{has_handle, family_of, without_family, on_top_of, raised, lowered, window_changed}
use Rattle.scene.specs.Stacks.{IsStack, IsShallow, AreGiven, has_ancestors}
use Rattle.scene.specs.Changes.{lies_below, is_below, LiesBelow, Fails, Adds, TakesAway, Changes, Reorders}
use Rattle.scene.proofs.CallerLemmas.{AreFound, all_found}
use Rattle.win_tree.specs.Forests.{Forest, Empty, Top, order, AreChildren}
use Rattle.win_tree.proofs.StackLemmas.{AllBy-append, AllBy-first, AllBy-last}
use Rattle.win_tree.proofs.BlockLemmas.{AllBy-block, filter-block}
use Rattle.win_tree.proofs.TreeLemmas.{window_of-absent}
use Rattle.win_tree.proofs.ClipLemmas.{IsKnown, all_known}
use Rattle.win_tree.proofs.ValidLemmas.{placed, fam_of, rest_of, block_in, family_is, window_of-win, family_stands, raised_stands, lowered_stands, created_stands, created_found, none_given, without_found, raised_found, lowered_found}

-- ---- levels

step_fewer : (n : ℕ) (ws : List Win) (o : Option Win) → ((u : Win) → has_ancestors (suc n) ws u ≡ true → has_ancestors n ws u ≡ true) → unwrap_or (option_map (has_ancestors (suc n) ws) o) false ≡ true → unwrap_or (option_map (has_ancestors n ws) o) false ≡ true
step_fewer n ws None inner e = absurd (false≢true e)
step_fewer n ws (Some u) inner e = inner u e

fewer : (n : ℕ) (ws : List Win) (w : Win) → has_ancestors (suc n) ws w ≡ true → has_ancestors n ws w ≡ true
unfolding has_ancestors
fewer zero ws w e = refl
fewer (suc n) ws w e = step_fewer n ws (window_of ws w.parent) (λ u d. fewer n ws u d) e

many_fewer : (d n : ℕ) (ws : List Win) (w : Win) → has_ancestors (d + n) ws w ≡ true → has_ancestors n ws w ≡ true
many_fewer zero n ws w e = let H : ℕ → Type 0 = λ k. has_ancestors k ws w ≡ true in subst H (omega arith) e
many_fewer (suc d) n ws w e = let H : ℕ → Type 0 = λ k. has_ancestors k ws w ≡ true in many_fewer d n ws w (fewer (d + n) ws w (subst H (omega arith) e))

few_above : (k : ℕ) (ws : List Win) (w : Win) → has_ancestors k ws w ≡ true → IsShallow ws w → k < 8
few_above k ws w e shallow =
    elim (cases_lt k 8) [
      | inl less ↦ less
      | inr more ↦
          let H : ℕ → Type 0 = λ j. has_ancestors j ws w ≡ true in
          absurd (false≢true (sym shallow ∙ many_fewer (k - 8) 8 ws w (subst H (omega arith) e)))
    ]

one_more_above : (k : ℕ) (ws : List Win) (w x : Win) → window_of ws w.parent ≡ Some x → has_ancestors k ws x ≡ true → has_ancestors (suc k) ws w ≡ true
unfolding has_ancestors
one_more_above k ws w x up e = rw up e

-- ---- windows below another

step_below : (n : ℕ) (found : ℕ → Option Place) (h : ℕ) (o : Option Place) → ((r : Place) → lies_below n found h r ≡ true → lies_below (suc n) found h r ≡ true) → option_map_or (lies_below n found h) o false ≡ true → option_map_or (lies_below (suc n) found h) o false ≡ true
step_below n found h None inner e = absurd (false≢true e)
step_below n found h (Some r) inner e = inner r e

more_below : (n : ℕ) (found : ℕ → Option Place) (h : ℕ) (q : Place) → lies_below n found h q ≡ true → lies_below (suc n) found h q ≡ true
more_below zero found h q e = absurd (false≢true e)
more_below (suc n) found h q e =
    let parts = and_parts _ _ e in
    and_from _ _ parts.0
    (elim (or_cases (eqb q.parent h) (option_map_or (lies_below n found h) (found q.parent) false) parts.1) [
      | inl same ↦ or_left (eqb q.parent h) _ same
      | inr up ↦ or_right (eqb q.parent h) _ (step_below n found h (found q.parent) (λ r d. more_below n found h r d) up)
    ])

much_below : (d n : ℕ) (found : ℕ → Option Place) (h : ℕ) (q : Place) → lies_below n found h q ≡ true → lies_below (d + n) found h q ≡ true
much_below zero n found h q e = let B : ℕ → Type 0 = λ k. lies_below k found h q ≡ true in subst B (omega arith) e
much_below (suc d) n found h q e =
    let B : ℕ → Type 0 = λ k. lies_below k found h q ≡ true in
    let same : suc (d + n) ≡ suc d + n = omega arith in
    subst B same (more_below (d + n) found h q (much_below d n found h q e))

below_all : (k : ℕ) (ws : List Win) (h : ℕ) (q : Place) → k ≤ 8 → lies_below k (place_at ws) h q ≡ true → is_below ws h q ≡ true
below_all k ws h q few e =
    let B : ℕ → Type 0 = λ j. lies_below j (place_at ws) h q ≡ true in
    let same : (8 - k) + k ≡ 8 = omega arith in
    subst B same (much_below (8 - k) k (place_at ws) h q e)

-- the window is the one, or lies so many levels below it
abbrev IsUnder : ℕ → List Win → ℕ → Win → Type 0
IsUnder k ws h x = (x.handle ≡ h) ⊎ (lies_below k (place_at ws) h (place_of x) ≡ true)

child_below : (k : ℕ) (ws : List Win) (h : ℕ) (w x : Win) → eqb w.parent 0 ≡ false → w.parent ≡ x.handle → window_of ws w.parent ≡ Some x → IsUnder k ws h x → lies_below (suc k) (place_at ws) h (place_of w) ≡ true
child_below k ws h w x child same up (inl is) = rw (child, eq-eqb w.parent h (same ∙ is)) refl
child_below k ws h w x child same up (inr below) = rw (child, up) (or_right (eqb w.parent h) _ below)

-- what is known of each window of a family
record IsInside (ws : List Win) (w : Win) : Type 0 where
  known : IsKnown ws w
  shallow : IsShallow ws w

all_inside : (ws us : List Win) → AllByRecursion (IsKnown ws) us → AllByRecursion (IsShallow ws) us → AllByRecursion (IsInside ws) us
all_inside ws [] known shallow = tt
all_inside ws (w ∷ us) known shallow = (record { known = known.0; shallow = shallow.0 }, all_inside ws us known.1 shallow.1)

children_below : (k : ℕ) (ws : List Win) (h : ℕ) (x : Win) (t : Forest) → IsKnown ws x → has_ancestors k ws x ≡ true → IsUnder k ws h x → AreChildren x.handle t → AllByRecursion (IsInside ws) (order t) → AllByRecursion (λ v. is_below ws h (place_of v) ≡ true) (order t)
children_below k ws h x Empty known deep under children all = tt
children_below k ws h x (Top w kids below) known deep under children all =
    let mine = AllBy-last (IsInside ws) (order below) (w ∷ order kids) all in
    let child : eqb w.parent 0 ≡ false = ne_eqb w.parent 0 (λ top. omega (arith, known.window.handle, children.0, top)) in
    let up : window_of ws w.parent ≡ Some x = ap (window_of ws) children.0 ∙ known.found in
    let deeper = one_more_above k ws w x up deep in
    let here = child_below k ws h w x child children.0 up under in
    let few = few_above (suc k) ws w deeper mine.0.shallow in
    AllBy-append (λ v. is_below ws h (place_of v) ≡ true) (order below) (w ∷ order kids)
    (children_below k ws h x below known deep under children.2 (AllBy-first (IsInside ws) (order below) (w ∷ order kids) all))
    (below_all (suc k) ws h (place_of w) (omega (arith, few)) here, children_below (suc k) ws h w kids mine.0.known deeper (inr here) children.1 mine.1)

none_above : (ws : List Win) (w : Win) → has_ancestors 0 ws w ≡ true
unfolding has_ancestors
none_above ws w = refl

-- each window of a family is the one, or lies below it
family_below : (ws : List Win) (w : Win) → IsStack ws → window_of ws w.handle ≡ Some w → AllByRecursion (λ v. (v ≡ w) ⊎ (is_below ws w.handle (place_of v) ≡ true)) (family_of w.handle ws)
family_below ws w stack live =
    let s = placed ws w.handle w stack live in
    let same : s.at.win ≡ w = let e = sym (window_of-win ws w.handle s stack) ∙ live in cc in
    let whole = all_inside ws ws (all_known ws ws stack.windows (all_found ws stack.single)) stack.levels in
    let all = AllBy-block (IsInside ws) (fam_of ws w.handle s) (order (rest_of ws w.handle s)) ws (block_in ws w.handle s) whole in
    let C : ℕ → Type 0 = λ k. AreChildren k s.at.kids in
    let kids = children_below 0 ws w.handle s.at.win s.at.kids all.0.known (none_above ws s.at.win) (inl s.at.handle) (subst C (sym s.at.handle) s.at.children) all.1 in
    let F : List Win → Type 0 = λ us. AllByRecursion (λ v. (v ≡ w) ⊎ (is_below ws w.handle (place_of v) ≡ true)) us in
    subst F (sym (family_is ws w.handle s)) (inl same, weaken (order s.at.kids) kids)
  where
    weaken : (us : List Win) → AllByRecursion (λ v. is_below ws w.handle (place_of v) ≡ true) us → AllByRecursion (λ v. (v ≡ w) ⊎ (is_below ws w.handle (place_of v) ≡ true)) us
    weaken [] all = tt
    weaken (u ∷ us) all = (inr all.0, weaken us all.1)

-- a test that fails for them leaves none of them
none_left : (ws : List Win) (w : Win) (test : Win → Bool) (us : List Win) → Fails ws w test → AllByRecursion (λ v. (v ≡ w) ⊎ (is_below ws w.handle (place_of v) ≡ true)) us → filter test us ≡ []
none_left ws w test [] fails all = refl
none_left ws w test (u ∷ us) fails all =
    let off : test u ≡ false = elim all.0 [ inl same ↦ ap test same ∙ fails.0 | inr below ↦ fails.1 u below ] in
    rw off (none_left ws w test us fails all.1)

-- ---- what handles find

placed_so : (ws : List Win) (x : ℕ) (o : Option Win) → window_of ws x ≡ o → place_at ws x ≡ option_map place_of o
placed_so ws x o e = ap (option_map place_of) e

pub created_adds : (ws : List Win) (n : ℕ) (w over' : Win) → IsStack ws → AreGiven n ws → n < w.handle → window_of ws w.parent ≡ Some over' → Adds ws (on_top_of w.parent (w ∷ []) ws) w
created_adds ws n w over' stack given fresh live =
    let unknown = window_of-absent w.handle ws (none_given n w.handle ws given fresh) in
    let s = placed ws w.parent over' stack live in
    let found = created_found ws n w s stack given fresh in
    record {
      unknown = placed_so ws w.handle None unknown;
      found = placed_so (on_top_of w.parent (w ∷ []) ws) w.handle (Some w) (found w.handle ∙ rw (eq-eqb w.handle w.handle refl) refl);
      others = λ handle differ. ap (option_map place_of) (found handle ∙ rw (ne_eqb w.handle handle (λ same. differ (sym same))) refl);
      rest = λ test fails. filter-block test (w ∷ []) ws (on_top_of w.parent (w ∷ []) ws) (created_stands ws w s) (rw fails refl);
    }

-- a window that has a handle of the list is in it
member : (us : List Win) (P : Win → Type 0) (x : ℕ) → has_handle x us ≡ true → AllByRecursion P us → (v : Win) × (v.handle ≡ x) × P v
member [] P x e all = absurd (false≢true e)
member (u ∷ us) P x e all =
    elim (cases_Bool (eqb u.handle x)) [
      | inl at ↦ (u, eqb-true u.handle x at, all.0)
      | inr off ↦ member us P x (rw off at e) all.1
    ]

-- of a window in the family: what its handle finds lies below
handle_below : (ws : List Win) (w : Win) (x : ℕ) → x ≢ w.handle → (v : Win) → v.handle ≡ x → ((v ≡ w) ⊎ (is_below ws w.handle (place_of v) ≡ true)) × (window_of ws v.handle ≡ Some v) → LiesBelow ws w.handle x
handle_below ws w x differ v is parts q e =
    let there : place_at ws x ≡ Some (place_of v) = placed_so ws x (Some v) (ap (window_of ws) (sym is) ∙ parts.1) in
    let same : place_of v ≡ q = let both = sym there ∙ e in cc in
    elim parts.0 [
      | inl it ↦ absurd (differ (sym is ∙ ap (λ (u : Win). u.handle) it))
      | inr below ↦ ap (λ (r : Place). is_below ws w.handle r) (sym same) ∙ below
    ]

both : (P Q : Win → Type 0) (us : List Win) → AllByRecursion P us → AllByRecursion Q us → AllByRecursion (λ v. P v × Q v) us
both P Q [] p q = tt
both P Q (u ∷ us) p q = ((p.0, q.0), both P Q us p.1 q.1)

in_own_family : (ws : List Win) (w : Win) → IsStack ws → window_of ws w.handle ≡ Some w → has_handle w.handle (family_of w.handle ws) ≡ true
in_own_family ws w stack live =
    let s = placed ws w.handle w stack live in
    ap (has_handle w.handle) (family_is ws w.handle s) ∙ rw (eq-eqb s.at.win.handle w.handle s.at.handle) refl

pub without_takes : (ws : List Win) (w : Win) → IsStack ws → window_of ws w.handle ≡ Some w → TakesAway ws (without_family w.handle ws) w
without_takes ws w stack live =
    let s = placed ws w.handle w stack live in
    let stands = family_stands ws w.handle s in
    let under = family_below ws w stack live in
    let found = AllBy-block (λ v. window_of ws v.handle ≡ Some v) (family_of w.handle ws) (without_family w.handle ws) ws stands (all_found ws stack.single) in
    let all = both (λ v. (v ≡ w) ⊎ (is_below ws w.handle (place_of v) ≡ true)) (λ v. window_of ws v.handle ≡ Some v) (family_of w.handle ws) under found in
    record {
      known = placed_so ws w.handle (Some w) live;
      gone = placed_so (without_family w.handle ws) w.handle None (without_found ws w.handle w.handle ∙ rw (in_own_family ws w stack live) refl);
      others = λ handle differ. elim (cases_Bool (has_handle handle (family_of w.handle ws))) [
        | inl in' ↦
            let v = member (family_of w.handle ws) (λ v. ((v ≡ w) ⊎ (is_below ws w.handle (place_of v) ≡ true)) × (window_of ws v.handle ≡ Some v)) handle in' all in
            inr (placed_so (without_family w.handle ws) handle None (without_found ws w.handle handle ∙ rw in' refl), handle_below ws w handle differ v.0 v.1 v.2)
        | inr out' ↦ inl (ap (option_map place_of) (without_found ws w.handle handle ∙ rw out' refl))
      ];
      rest = λ test fails. sym (filter-block test (family_of w.handle ws) (without_family w.handle ws) ws stands (none_left ws w test (family_of w.handle ws) fails under));
    }

pub raised_reorders : (ws : List Win) (w : Win) → IsStack ws → window_of ws w.handle ≡ Some w → w.handle ≢ 1 → Reorders ws (raised w.handle ws) w
raised_reorders ws w stack live other =
    let s = placed ws w.handle w stack live in
    let under = family_below ws w stack live in
    record {
      known = placed_so ws w.handle (Some w) live;
      found = λ handle. ap (option_map place_of) (raised_found ws w.handle s stack other handle);
      rest = λ test fails.
          let none = none_left ws w test (family_of w.handle ws) fails under in
          filter-block test (family_of w.handle ws) (without_family w.handle ws) (raised w.handle ws) (raised_stands ws w.handle s stack other) none
          ∙ sym (filter-block test (family_of w.handle ws) (without_family w.handle ws) ws (family_stands ws w.handle s) none);
    }

pub lowered_reorders : (ws : List Win) (w : Win) → IsStack ws → window_of ws w.handle ≡ Some w → w.handle ≢ 1 → Reorders ws (lowered w.handle ws) w
lowered_reorders ws w stack live other =
    let s = placed ws w.handle w stack live in
    let under = family_below ws w stack live in
    record {
      known = placed_so ws w.handle (Some w) live;
      found = λ handle. ap (option_map place_of) (lowered_found ws w.handle s stack other handle);
      rest = λ test fails.
          let none = none_left ws w test (family_of w.handle ws) fails under in
          filter-block test (family_of w.handle ws) (without_family w.handle ws) (lowered w.handle ws) (lowered_stands ws w.handle s stack other) none
          ∙ sym (filter-block test (family_of w.handle ws) (without_family w.handle ws) ws (family_stands ws w.handle s) none);
    }

-- ---- one window changed

-- the window alone has its handle
abbrev IsAlone : Win → List Win → Type 0
IsAlone w us = AllByRecursion (λ v. eqb v.handle w.handle ≡ true → v ≡ w) us

alone_in : (ws us : List Win) (w : Win) → window_of ws w.handle ≡ Some w → AreFound ws us → IsAlone w us
alone_in ws [] w live found = tt
alone_in ws (u ∷ us) w live found =
    (λ e. let there = ap (window_of ws) (sym (eqb-true u.handle w.handle e)) ∙ found.0 in let same : u ≡ w = let two = sym there ∙ live in cc in same, alone_in ws us w live found.1)

change_found : (us : List Win) (w : Win) (f : Win → Win) (x : ℕ) → (f w).handle ≡ w.handle → IsAlone w us → x ≢ w.handle → window_of (window_changed w.handle f us) x ≡ window_of us x
unfolding window_changed
change_found [] w f x keeps alone differ = refl
change_found (u ∷ us) w f x keeps alone differ =
    let later = change_found us w f x keeps alone.1 differ in
    elim (cases_Bool (eqb u.handle w.handle)) [
      | inl e ↦
          let handle : (f u).handle ≡ w.handle = ap (λ (v : Win). (f v).handle) (alone.0 e) ∙ keeps in
          let off : eqb (f u).handle x ≡ false = ne_eqb (f u).handle x (λ same. differ (sym same ∙ handle)) in
          let far : eqb u.handle x ≡ false = ne_eqb u.handle x (λ same. differ (sym same ∙ eqb-true u.handle w.handle e)) in
          rw (e, off, far) later
      | inr e ↦ elim (cases_Bool (eqb u.handle x)) [
        | inl at ↦ rw (e, at) refl
        | inr off ↦ rw (e, off) later
      ]
    ]

change_here : (us : List Win) (w : Win) (f : Win → Win) → (f w).handle ≡ w.handle → IsAlone w us → window_of us w.handle ≡ Some w → window_of (window_changed w.handle f us) w.handle ≡ Some (f w)
unfolding window_changed
change_here [] w f keeps alone live = absurd cc
change_here (u ∷ us) w f keeps alone live =
    elim (cases_Bool (eqb u.handle w.handle)) [
      | inl e ↦
          let handle : eqb (f u).handle w.handle ≡ true = eq-eqb (f u).handle w.handle (ap (λ (v : Win). (f v).handle) (alone.0 e) ∙ keeps) in
          rw (e, handle) (ap (λ (v : Win). Some (f v)) (alone.0 e))
      | inr e ↦ rw (e, e) (change_here us w f keeps alone.1 (rw e at live))
    ]

change_rest : (us : List Win) (w : Win) (f : Win → Win) (test : Win → Bool) → IsAlone w us → test w ≡ false → test (f w) ≡ false → filter test (window_changed w.handle f us) ≡ filter test us
unfolding window_changed
change_rest [] w f test alone fails fail = refl
change_rest (u ∷ us) w f test alone fails fail =
    let later = change_rest us w f test alone.1 fails fail in
    elim (cases_Bool (eqb u.handle w.handle)) [
      | inl e ↦
          let one : test u ≡ false = ap test (alone.0 e) ∙ fails in
          let two : test (f u) ≡ false = ap (λ (v : Win). test (f v)) (alone.0 e) ∙ fail in
          rw (e, one, two) later
      | inr e ↦ rw e (ap (λ vs. cond (test u) (u ∷ vs) vs) later)
    ]

pub changed_changes : (ws : List Win) (w : Win) (f : Win → Win) → IsStack ws → window_of ws w.handle ≡ Some w → (f w).handle ≡ w.handle → Changes ws (window_changed w.handle f ws) w (f w)
changed_changes ws w f stack live keeps =
    let alone = alone_in ws ws w live (all_found ws stack.single) in
    record {
      known = placed_so ws w.handle (Some w) live;
      found = placed_so (window_changed w.handle f ws) w.handle (Some (f w)) (change_here ws w f keeps alone live);
      others = λ handle differ. ap (option_map place_of) (change_found ws w f handle keeps alone differ);
      rest = λ test fails fail. change_rest ws w f test alone fails fail;
    }
