-- A valid stack is the list of the windows of a tree.
use Rattle.std.proofs.Common.{◌≡◌, ◌≢◌, ℕ, ◌<◌, ◌≤◌, true, false, eqb, List, [], ◌∷◌, ◌++◌, refl, sym, ap, subst, ◌∙◌, inl, inr, arith, append_assoc}
use Rattle.std.specs.List.{AllByRecursion}
use Rattle.std.proofs.lemmas.Bool.{cases_Bool, cases_lt, ne_eqb, eqb-true}
use Rattle.std.proofs.lemmas.List.{append-nil}
use Rattle.scene.specs.declared.win.Win.{Win}
use Rattle.scene.specs.Places.{number_of}
use Rattle.scene.specs.Stacks.{IsWindow, path_from, AreInOrder, IsStack}
use Rattle.win_tree.specs.Forests.{Forest, Empty, Top, order, among, AreChildren}
use Rattle.win_tree.proofs.ForestLemmas.{here, not_here}
use Rattle.win_tree.proofs.LinkLemmas.{with_top, with_top-absent}
use Rattle.win_tree.proofs.FamilyLemmas.{number_of-append, number_of-order}
use Rattle.win_tree.proofs.TreeLemmas.{AreChildren-on_top}
use Rattle.win_tree.proofs.StackLemmas.{IsOwn, IsOneTree}

-- ---- paths

-- the handles from the last window of a tree up to its root
abbrev path_of : Forest → List ℕ
path_of Empty = []
path_of (Top w kids below) = path_of kids ++ w.handle ∷ []

path_from-none : (p : ℕ) (hs js : List ℕ) → path_from p hs ≡ [] → path_from p (hs ++ js) ≡ path_from p js
path_from-none p [] js none = refl
path_from-none p (h ∷ hs) js none =
    elim (cases_Bool (eqb h p)) [
      | inl e ↦ absurd (let bad : h ∷ hs ≡ [] = rw e at none in cc)
      | inr e ↦ let less : path_from p hs ≡ [] = rw e at none in rw e (path_from-none p hs js less)
    ]

path_from-some : (p : ℕ) (hs js : List ℕ) → path_from p hs ≢ [] → path_from p (hs ++ js) ≡ path_from p hs ++ js
path_from-some p [] js some = absurd (some refl)
path_from-some p (h ∷ hs) js some =
    elim (cases_Bool (eqb h p)) [
      | inl e ↦ rw e refl
      | inr e ↦ let less : path_from p hs ≢ [] = rw e at some in rw e (path_from-some p hs js less)
    ]

-- what isn't in the tree isn't on its path
none_on : (p : ℕ) (t : Forest) → among p t ≡ 0 → path_from p (path_of t) ≡ []
none_on p Empty none = refl
none_on p (Top w kids below) none =
    let other = not_here w p (omega (arith, none)) in
    path_from-none p (path_of kids) (w.handle ∷ []) (none_on p kids (omega (arith, none))) ∙ rw other refl

-- ---- one window more

-- the tree with a window after all others
abbrev with_last : Win → Forest → Forest
with_last w t = with_top w.parent w Empty t

record IsLonger (w : Win) (t : Forest) : Type 0 where
  whole : order (with_last w t) ≡ order t ++ w ∷ []
  path : path_of (with_last w t) ≡ w.handle ∷ path_from w.parent (path_of t)

longer_here : (w v : Win) (kids below : Forest) → ((h : ℕ) → among h (Top v kids below) ≤ 1) → eqb v.handle w.parent ≡ true → IsLonger w (Top v kids below)
longer_here w v kids below single e =
    let off : path_from w.parent (path_of kids) ≡ [] = none_on w.parent kids (omega (arith, single w.parent, here v w.parent (eqb-true v.handle w.parent e))) in
    record {
      whole = rw e (sym (append_assoc (order below) (v ∷ order kids) (w ∷ [])));
      path = rw e (sym (ap (λ hs. w.handle ∷ hs) (path_from-none w.parent (path_of kids) (v.handle ∷ []) off ∙ rw e refl)));
    }

longer_below : (w v : Win) (kids below : Forest) → ((h : ℕ) → among h (Top v kids below) ≤ 1) → eqb v.handle w.parent ≡ false → path_from w.parent (path_of kids) ≢ [] → IsLonger w kids → IsLonger w (Top v kids below)
longer_below w v kids below single e some more =
    let in_kids : 1 ≤ among w.parent kids = elim (cases_lt 0 (among w.parent kids)) [
      | inl yes' ↦ omega (arith, yes')
      | inr no' ↦ absurd (some (none_on w.parent kids (omega (arith, no'))))
    ] in
    let same = with_top-absent w.parent w Empty below (omega (arith, single w.parent, in_kids)) in
    record {
      whole = rw (e, same, more.whole) (sym (append_assoc (order below) (v ∷ order kids) (w ∷ [])));
      path = rw (e, more.path) (sym (ap (λ hs. w.handle ∷ hs) (path_from-some w.parent (path_of kids) (v.handle ∷ []) some)));
    }

is_longer : (w : Win) (t : Forest) → ((h : ℕ) → among h t ≤ 1) → path_from w.parent (path_of t) ≢ [] → IsLonger w t
is_longer w Empty single some = absurd (some refl)
is_longer w (Top v kids below) single some =
    elim (cases_Bool (eqb v.handle w.parent)) [
      | inl e ↦ longer_here w v kids below single e
      | inr e ↦
          let up : path_from w.parent (path_of kids) ≢ [] = λ none. some (path_from-none w.parent (path_of kids) (v.handle ∷ []) none ∙ rw e refl) in
          longer_below w v kids below single e up (is_longer w kids (λ h. omega (arith, single h)) up)
    ]

-- ---- all windows

record IsGrown (t : Forest) (ws : List Win) : Type 0 where
  forest : Forest
  whole : order forest ≡ order t ++ ws
  children : AreChildren 0 forest

grown_from : (ws : List Win) (t : Forest) (path : List ℕ) → path ≡ path_of t → AreChildren 0 t → ((h : ℕ) → number_of h (order t ++ ws) ≤ 1) → AreInOrder path ws → IsGrown t ws
grown_from [] t path is children single ordered = record { forest = t; whole = sym (append-nil (order t)); children = children }
grown_from (w ∷ ws) t path is children single ordered =
    let some : path_from w.parent (path_of t) ≢ [] = λ none. ordered.0 (ap (path_from w.parent) is ∙ none) in
    let each : (h : ℕ) → among h t ≤ 1 = λ h. omega (arith, single h, number_of-append h (order t) (w ∷ ws), number_of-order h t) in
    let more = is_longer w t each some in
    let now : order (with_last w t) ++ ws ≡ order t ++ (w ∷ ws) = ap (λ us. us ++ ws) more.whole ∙ append_assoc (order t) (w ∷ []) ws in
    let S : List Win → Type 0 = λ us. (h : ℕ) → number_of h us ≤ 1 in
    let rest = grown_from ws (with_last w t) (w.handle ∷ path_from w.parent path)
    (ap (λ hs. w.handle ∷ path_from w.parent hs) is ∙ sym more.path)
    (AreChildren-on_top w.parent 0 w Empty t refl tt children) (subst S (sym now) single) ordered.1 in
    record { forest = rest.forest; whole = rest.whole ∙ now; children = rest.children }

-- ---- only the desktop has no parent

abbrev ArePositive : List ℕ → Type 0
ArePositive [] = Unit {0}
ArePositive (h ∷ hs) = (0 < h) × ArePositive hs

path_from-positive : (p : ℕ) (hs : List ℕ) → ArePositive hs → ArePositive (path_from p hs)
path_from-positive p [] all = tt
path_from-positive p (h ∷ hs) all = elim (cases_Bool (eqb h p)) [ inl e ↦ rw e all | inr e ↦ rw e (path_from-positive p hs all.1) ]

no_zero : (hs : List ℕ) → ArePositive hs → path_from 0 hs ≡ []
no_zero [] all = refl
no_zero (h ∷ hs) all = rw (ne_eqb h 0 (λ same. omega (arith, all.0, same))) (no_zero hs all.1)

rest_own : (path : List ℕ) (ws : List Win) → ArePositive path → AreInOrder path ws → AllByRecursion IsWindow ws → number_of 1 ws ≡ 0 → AllByRecursion IsOwn ws
rest_own path [] positive ordered all none = tt
rest_own path (w ∷ ws) positive ordered all none =
    let off : w.handle ≡ 1 → ⊥ = λ one. omega (arith, none, here w 1 one) in
    let P : ℕ → Type 0 = λ p. path_from p path ≢ [] in
    let child : w.parent ≡ 0 → ⊥ = λ top. subst P top ordered.0 (no_zero path positive) in (
      record { window = all.0; root = λ top. absurd (child top); desktop = λ one. absurd (off one) },
      rest_own (w.handle ∷ path_from w.parent path) ws (all.0.handle, path_from-positive w.parent path positive) ordered.1 all.1 (omega (arith, none)),
    )

-- ---- the tree of a stack

pub record IsTreeOfStack (ws : List Win) : Type 0 where
  pub forest : Forest
  pub whole : order forest ≡ ws
  pub tree : IsOneTree forest

pub tree_of : (ws : List Win) → IsStack ws → IsTreeOfStack ws
tree_of [] stack = absurd stack.order
tree_of (d ∷ ws) stack =
    let begins = stack.order in
    let first : Forest = Top d Empty Empty in
    let C : ℕ → Type 0 = λ p. p ≡ 0 in
    let grown = grown_from ws first (1 ∷ []) (ap (λ h. h ∷ []) (sym begins.0)) (begins.1, tt, tt) stack.single begins.3 in
    let count : (h : ℕ) → among h grown.forest ≡ number_of h (d ∷ ws) = λ h. sym (number_of-order h grown.forest) ∙ ap (number_of h) grown.whole in
    let mine = here d 1 begins.0 in
    let A : List Win → Type 0 = λ us. AllByRecursion IsOwn us in
    record {
      forest = grown.forest;
      whole = grown.whole;
      tree = record {
        children = grown.children;
        single = λ h. omega (arith, count h, stack.single h);
        some = omega (arith, count 1, mine);
        own = subst A (sym grown.whole) (
          record { window = stack.windows.0; root = λ top. begins.0; desktop = λ one. begins.2 },
          rest_own (1 ∷ []) ws (omega arith, tt) begins.3 stack.windows.1 (omega (arith, stack.single 1, mine)),
        );
      };
    }
