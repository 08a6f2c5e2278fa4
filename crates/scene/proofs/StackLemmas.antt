-- Windows found by their handles, their levels, and valid stacks whose windows are changed in place.
use Rattle.std.proofs.Common.{◌≡◌, ◌≢◌, ℕ, zero, suc, ◌≤◌, Bool, true, false, cond, eqb, List, [], ◌∷◌, length, map, set, Option, Some, None, refl, sym, ap, subst, ◌∙◌, inl, inr, arith, eq-eqb}
use Rattle.std.specs.Prelude.{option_map, unwrap_or, slice_get}
use Rattle.std.specs.List.{AllByRecursion}
use Rattle.std.proofs.lemmas.Bool.{cases_Bool, eqb-true, ne_eqb, false≢true, false_from_ne_true}
use Rattle.scene.specs.declared.win.Win.{Win}
use Rattle.scene.specs.Places.{window_of, number_of, AreSingle}
use Rattle.scene.specs.Families.{window_changed}
use Rattle.scene.specs.Stacks.{IsWindow, IsDesktop, MayBecome, has_ancestors, IsShallow, path_from, AreInOrder, BeginWithDesktop, IsStack, AreGiven}

-- ---- counts

abbrev one_if : Bool → ℕ
one_if b = cond b 1 0

here : (w : Win) (handle : ℕ) → w.handle ≡ handle → one_if (eqb w.handle handle) ≡ 1
here w handle e = rw (eq-eqb w.handle handle e) refl

-- ---- levels

-- each handle that is found was found before, with the same parent
abbrev pub FindsBack : List Win → List Win → Type 0
FindsBack ws vs = (h : ℕ) (u : Win) → window_of ws h ≡ Some u → (x : Win) × (window_of vs h ≡ Some x) × (u.parent ≡ x.parent)

back_step : (n : ℕ) (ws vs : List Win) (w v : Win) → FindsBack ws vs → ((u x : Win) → u.parent ≡ x.parent → has_ancestors n ws u ≡ true → has_ancestors n vs x ≡ true) → w.parent ≡ v.parent
    → (o : Option Win) → window_of ws w.parent ≡ o → unwrap_or (option_map (has_ancestors n ws) o) false ≡ true → unwrap_or (option_map (has_ancestors n vs) (window_of vs v.parent)) false ≡ true
back_step n ws vs w v back inner same None is e = absurd (false≢true e)
back_step n ws vs w v back inner same (Some u) is e =
    let x = back w.parent u is in
    let there : window_of vs v.parent ≡ Some x.0 = ap (window_of vs) (sym same) ∙ x.1 in
    rw there (inner u x.0 x.2 e)

has_ancestors-back : (n : ℕ) (ws vs : List Win) (w v : Win) → FindsBack ws vs → w.parent ≡ v.parent → has_ancestors n ws w ≡ true → has_ancestors n vs v ≡ true
unfolding has_ancestors
has_ancestors-back zero ws vs w v back same e = refl
has_ancestors-back (suc n) ws vs w v back same e =
    back_step n ws vs w v back (λ u x s d. has_ancestors-back n ws vs u x back s d) same (window_of ws w.parent) refl e

pub shallow_back : (ws vs us : List Win) → FindsBack ws vs → AllByRecursion (IsShallow vs) us → AllByRecursion (IsShallow ws) us
shallow_back ws vs [] back all = tt
shallow_back ws vs (w ∷ us) back all = (
  false_from_ne_true (has_ancestors 8 ws w) (λ deep. false≢true (sym all.0 ∙ has_ancestors-back 8 ws vs w w back refl deep)),
  shallow_back ws vs us back all.1,
)

pub FindsBack-same : (ws vs : List Win) → ((x : ℕ) → window_of ws x ≡ window_of vs x) → FindsBack ws vs
FindsBack-same ws vs same h u e = (u, sym (same h) ∙ e, refl)

-- ---- each handle finds its window

-- each window of a list that is found by its handle
abbrev pub AreFound : List Win → List Win → Type 0
AreFound ws us = AllByRecursion (λ w. window_of ws w.handle ≡ Some w) us

found_here : (w : Win) (ws : List Win) → window_of (w ∷ ws) w.handle ≡ Some w
found_here w ws = rw (eq-eqb w.handle w.handle refl) refl

found_later : (v : Win) (ws us : List Win) → number_of v.handle us ≡ 0 → AreFound ws us → AreFound (v ∷ ws) us
found_later v ws [] none all = tt
found_later v ws (w ∷ us) none all =
    let other : eqb v.handle w.handle ≡ false = ne_eqb v.handle w.handle (λ same. omega (arith, none, here w v.handle (sym same))) in
    (rw other all.0, found_later v ws us (omega (arith, none)) all.1)

pub all_found : (ws : List Win) → AreSingle ws → AreFound ws ws
all_found [] single = tt
all_found (w ∷ ws) single =
    (found_here w ws, found_later w ws ws (omega (arith, single w.handle, here w w.handle refl)) (all_found ws (λ h. omega (arith, single h))))

-- ---- windows changed in place

-- each window of a list may become what the change makes of it
abbrev AreKept : (Win → Win) → List Win → Type 0
AreKept f ws = AllByRecursion (λ w. MayBecome w (f w)) ws

number_of-map : (x : ℕ) (f : Win → Win) (ws : List Win) → AreKept f ws → number_of x (map f ws) ≡ number_of x ws
number_of-map x f [] all = refl
number_of-map x f (w ∷ ws) all =
    let same : one_if (eqb (f w).handle x) ≡ one_if (eqb w.handle x) = ap (λ h. one_if (eqb h x)) all.0.handle in
    omega (arith, same, number_of-map x f ws all.1)

length-mapped : (f : Win → Win) (ws : List Win) → length (map f ws) ≡ length ws
length-mapped f [] = refl
length-mapped f (w ∷ ws) = omega (arith, length-mapped f ws)

AreInOrder-map : (path : List ℕ) (f : Win → Win) (ws : List Win) → AreKept f ws → AreInOrder path ws → AreInOrder path (map f ws)
AreInOrder-map path f [] all ordered = tt
AreInOrder-map path f (w ∷ ws) all ordered =
    let P : ℕ → ℕ → Type 0 = λ h p. (path_from p path ≢ []) × AreInOrder (h ∷ path_from p path) (map f ws) in
    let H : ℕ → Type 0 = λ h. P h w.parent in
    let Q : ℕ → Type 0 = λ p. P (f w).handle p in
    subst Q (sym all.0.parent) (subst H (sym all.0.handle) (ordered.0, AreInOrder-map (w.handle ∷ path_from w.parent path) f ws all.1 ordered.1))

begin_map : (f : Win → Win) (ws : List Win) → AreKept f ws → BeginWithDesktop ws → BeginWithDesktop (map f ws)
begin_map f [] all begins = begins
begin_map f (w ∷ ws) all begins =
    let handle = all.0.handle ∙ begins.0 in
    (handle, all.0.parent ∙ begins.1, all.0.desktop handle, AreInOrder-map (1 ∷ []) f ws all.1 begins.3)

windows_map : (f : Win → Win) (ws : List Win) → AreKept f ws → AllByRecursion IsWindow (map f ws)
windows_map f [] all = tt
windows_map f (w ∷ ws) all = (all.0.window, windows_map f ws all.1)

found_map : (f : Win → Win) (ws : List Win) → AreKept f ws → FindsBack (map f ws) ws
found_map f [] all h u e = absurd cc
found_map f (w ∷ ws) all h u e =
    elim (cases_Bool (eqb w.handle h)) [
      | inl at ↦
          let same : eqb (f w).handle h ≡ true = ap (λ k. eqb k h) all.0.handle ∙ at in
          let is : Some (f w) ≡ Some u = rw same at e in
          let it : f w ≡ u = cc in
          (w, rw at refl, ap (λ (v : Win). v.parent) (sym it) ∙ all.0.parent)
      | inr off ↦
          let other : eqb (f w).handle h ≡ false = ap (λ k. eqb k h) all.0.handle ∙ off in
          let later = found_map f ws all.1 h u (rw other at e) in
          (later.0, rw off later.1, later.2)
    ]

levels_map : (f : Win → Win) (ws us : List Win) → FindsBack (map f ws) ws → AreKept f us → AllByRecursion (IsShallow ws) us → AllByRecursion (IsShallow (map f ws)) (map f us)
levels_map f ws [] back kept all = tt
levels_map f ws (w ∷ us) back kept all = (
  false_from_ne_true (has_ancestors 8 (map f ws) (f w)) (λ deep. false≢true (sym all.0 ∙ has_ancestors-back 8 (map f ws) ws (f w) w back kept.0.parent deep)),
  levels_map f ws us back kept.1 all.1,
)

pub mapped_valid : (f : Win → Win) (ws : List Win) → IsStack ws → AllByRecursion (λ w. MayBecome w (f w)) ws → IsStack (map f ws)
mapped_valid f ws stack kept = record {
  order = begin_map f ws kept stack.order;
  single = λ h. omega (arith, number_of-map h f ws kept, stack.single h);
  few = omega (arith, length-mapped f ws, stack.few);
  levels = levels_map f ws ws (found_map f ws kept) kept stack.levels;
  windows = windows_map f ws kept;
}

-- the first window is the desktop, and no other has its handle
pub desktops : (ws : List Win) → IsStack ws → AllByRecursion (λ w. w.handle ≡ 1 → IsDesktop w) ws
desktops [] stack = absurd stack.order
desktops (d ∷ ws) stack = (λ one. stack.order.2, others ws (omega (arith, stack.single 1, here d 1 stack.order.0)))
  where
    others : (us : List Win) → number_of 1 us ≡ 0 → AllByRecursion (λ w. w.handle ≡ 1 → IsDesktop w) us
    others [] none = tt
    others (u ∷ us) none = (λ one. absurd (omega (arith, none, here u 1 one)), others us (omega (arith, none)))

pub itself : (w : Win) → IsWindow w → (w.handle ≡ 1 → IsDesktop w) → MayBecome w w
itself w window desktop = record { handle = refl; parent = refl; window = window; desktop = desktop }

one_kept : (h : ℕ) (f : Win → Win) (ws us : List Win) → ((w : Win) → window_of ws h ≡ Some w → MayBecome w (f w)) → AreFound ws us → AllByRecursion IsWindow us → AllByRecursion (λ w. w.handle ≡ 1 → IsDesktop w) us → AreKept (λ w. cond (eqb w.handle h) (f w) w) us
one_kept h f ws [] kept found windows desk = tt
one_kept h f ws (w ∷ us) kept found windows desk =
    let later = one_kept h f ws us kept found.1 windows.1 desk.1 in
    elim (cases_Bool (eqb w.handle h)) [
      | inl e ↦ (rw e (kept w (ap (window_of ws) (sym (eqb-true w.handle h e)) ∙ found.0)), later)
      | inr e ↦ (rw e (itself w windows.0 desk.0), later)
    ]

pub changed_valid : (h : ℕ) (f : Win → Win) (ws : List Win) → IsStack ws → ((w : Win) → window_of ws h ≡ Some w → MayBecome w (f w)) → IsStack (window_changed h f ws)
unfolding window_changed
changed_valid h f ws stack kept =
    mapped_valid (λ w. cond (eqb w.handle h) (f w) w) ws stack (one_kept h f ws ws kept (all_found ws stack.single) stack.windows (desktops ws stack))

pub mapped_given : (n : ℕ) (f : Win → Win) (ws : List Win) → AreKept f ws → AreGiven n ws → AreGiven n (map f ws)
mapped_given n f [] kept given = tt
mapped_given n f (w ∷ ws) kept given = (omega (arith, kept.0.handle, given.0), mapped_given n f ws kept.1 given.1)

-- ---- a place, and the handle of the window there

changed-none : (h : ℕ) (f : Win → Win) (ws : List Win) → number_of h ws ≡ 0 → window_changed h f ws ≡ ws
unfolding window_changed
changed-none h f [] none = refl
changed-none h f (w ∷ ws) none =
    elim (cases_Bool (eqb w.handle h)) [
      | inl e ↦ absurd (omega (arith, none, here w h (eqb-true w.handle h e)))
      | inr e ↦ rw (e, changed-none h f ws (omega (arith, none))) refl
    ]

count_at : (ws : List Win) (i : ℕ) (w : Win) → slice_get ws i ≡ Some w → 1 ≤ number_of w.handle ws
count_at [] i w at = absurd cc
count_at (v ∷ ws) zero w at = let same : v ≡ w = cc in omega (arith, here v w.handle (ap (λ (u : Win). u.handle) same))
count_at (v ∷ ws) (suc i) w at = omega (arith, count_at ws i w at)

-- what is put in a place is what the handle of the window there names
pub set_is_changed : (ws : List Win) (i : ℕ) (w : Win) (f : Win → Win) → ((h : ℕ) → number_of h ws ≤ 1) → slice_get ws i ≡ Some w → set ws i (f w) ≡ window_changed w.handle f ws
unfolding window_changed
set_is_changed [] i w f single at = absurd cc
set_is_changed (v ∷ ws) zero w f single at =
    let same : v ≡ w = cc in
    let mine = here v w.handle (ap (λ (u : Win). u.handle) same) in
    let rest = changed-none w.handle f ws (omega (arith, single w.handle, mine)) in
    rw (eq-eqb v.handle w.handle (ap (λ (u : Win). u.handle) same)) (ap (λ u. u ∷ ws) (ap f (sym same)) ∙ ap (λ us. f v ∷ us) (sym rest))
set_is_changed (v ∷ ws) (suc i) w f single at =
    let off : eqb v.handle w.handle ≡ false = ne_eqb v.handle w.handle (λ same. omega (arith, single w.handle, here v w.handle same, count_at ws i w at)) in
    rw off (ap (λ us. v ∷ us) (set_is_changed ws i w f (λ h. omega (arith, single h)) at))
