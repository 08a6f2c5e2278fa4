-- The windows of a tree are a valid stack.
use Rattle.std.proofs.Common.{◌≡◌, ◌≢◌, ℕ, ◌≤◌, List, [], ◌∷◌, ◌++◌, length, Option, Some, refl, sym, ap, subst, ◌∙◌, arith, eq-eqb, append_assoc}
use Rattle.std.specs.List.{AllByRecursion}
use Rattle.std.proofs.lemmas.Bool.{ne_eqb}
use Rattle.std.proofs.lemmas.List.{append-nil}
use Rattle.scene.specs.declared.win.Win.{Win}
use Rattle.scene.specs.Places.{number_of}
use Rattle.scene.specs.Stacks.{IsShallow, IsWindow, IsDesktop, path_from, AreInOrder, BeginWithDesktop, IsStack, AreGiven}
use Rattle.slab.specs.Slab.{Slab, get}
use Rattle.win_tree.specs.declared.node.Node.{Node}
use Rattle.win_tree.specs.Forests.{Forest, Empty, Top, order, among, AreLinked, AreChildren, IsTreeOf, IsTree}
use Rattle.win_tree.proofs.ForestLemmas.{here}
use Rattle.win_tree.proofs.FamilyLemmas.{number_of-order}
use Rattle.win_tree.proofs.TreeLemmas.{windows_are}
use Rattle.win_tree.proofs.ChangeLemmas.{windows_of}

-- ---- the order

-- none of the handles is the parent's
abbrev AreOther : ℕ → List ℕ → Type 0
AreOther parent [] = Unit {0}
AreOther parent (h ∷ hs) = (h ≢ parent) × AreOther parent hs

path_from-parent : (parent : ℕ) (hs up : List ℕ) → AreOther parent hs → path_from parent (hs ++ parent ∷ up) ≡ parent ∷ up
path_from-parent parent [] up other = rw (eq-eqb parent parent refl) refl
path_from-parent parent (h ∷ hs) up other = rw (ne_eqb h parent other.0) (path_from-parent parent hs up other.1)

not_nil : (h : ℕ) (hs path : List ℕ) → path ≡ h ∷ hs → path ≢ []
not_nil h hs path e none = let bad : h ∷ hs ≡ [] = sym e ∙ none in cc

AreOther-append : (parent : ℕ) (hs js : List ℕ) → AreOther parent hs → AreOther parent js → AreOther parent (hs ++ js)
AreOther-append parent [] js p q = q
AreOther-append parent (h ∷ hs) js p q = (p.0, AreOther-append parent hs js p.1 q)

-- each of the handles is among the windows
abbrev AreAmong : Forest → List ℕ → Type 0
AreAmong t [] = Unit {0}
AreAmong t (h ∷ hs) = (1 ≤ among h t) × AreAmong t hs

AreOther-among : (parent : ℕ) (t : Forest) (hs : List ℕ) → among parent t ≡ 0 → AreAmong t hs → AreOther parent hs
AreOther-among parent t [] none all = tt
AreOther-among parent t (h ∷ hs) none all = (λ same. omega (arith, all.0, none, ap (λ x. among x t) same), AreOther-among parent t hs none all.1)

AreAmong-more : (t u : Forest) (hs : List ℕ) → ((h : ℕ) → among h t ≤ among h u) → AreAmong t hs → AreAmong u hs
AreAmong-more t u [] less all = tt
AreAmong-more t u (h ∷ hs) less all = (omega (arith, less h, all.0), AreAmong-more t u hs less all.1)

AreAmong-append : (t : Forest) (hs js : List ℕ) → AreAmong t hs → AreAmong t js → AreAmong t (hs ++ js)
AreAmong-append t [] js p q = q
AreAmong-append t (h ∷ hs) js p q = (p.0, AreAmong-append t hs js p.1 q)

-- The windows of siblings and their descendants are in order after any path up to their parent. What follows them may follow
-- any path of theirs.
AreInOrder-tree : (parent : ℕ) (t : Forest) (hs up : List ℕ) (rest : List Win) → AreChildren parent t → ((h : ℕ) → among h t ≤ 1) → among parent t ≡ 0 → AreOther parent hs → AreInOrder (hs ++ parent ∷ up) rest
    → ((js : List ℕ) → AreAmong t js → AreInOrder (js ++ parent ∷ up) rest) → AreInOrder (hs ++ parent ∷ up) (order t ++ rest)
AreInOrder-tree parent Empty hs up rest children single free other at_once later = at_once
AreInOrder-tree parent (Top w kids below) hs up rest children single free other at_once later =
    let mine = here w w.handle refl in
    let kids_after : AreInOrder (w.handle ∷ (parent ∷ up)) (order kids ++ rest) =
    AreInOrder-tree w.handle kids [] (parent ∷ up) rest children.1 (λ h. omega (arith, single h)) (omega (arith, single w.handle, mine)) tt
    (later (w.handle ∷ []) (omega (arith, mine), tt))
    (λ js all.
    let P : List ℕ → Type 0 = λ path. AreInOrder path rest in
    subst P (append_assoc js (w.handle ∷ []) (parent ∷ up))
    (later (js ++ w.handle ∷ []) (AreAmong-append (Top w kids below) js (w.handle ∷ []) (AreAmong-more kids (Top w kids below) js (λ h. omega arith) all) (omega (arith, mine), tt)))) in
    let top : (js : List ℕ) → AreOther parent js → AreInOrder (js ++ parent ∷ up) (w ∷ (order kids ++ rest)) = λ js apart.
    let path : path_from w.parent (js ++ parent ∷ up) ≡ parent ∷ up = ap (λ p. path_from p (js ++ parent ∷ up)) children.0 ∙ path_from-parent parent js up apart in
    let P : List ℕ → Type 0 = λ path. AreInOrder (w.handle ∷ path) (order kids ++ rest) in
    (not_nil parent up _ path, subst P (sym path) kids_after) in
    let P : List Win → Type 0 = λ ws. AreInOrder (hs ++ parent ∷ up) ws in
    subst P (sym (append_assoc (order below) (w ∷ order kids) rest))
    (AreInOrder-tree parent below hs up (w ∷ (order kids ++ rest)) children.2 (λ h. omega (arith, single h)) (omega (arith, free)) other (top hs other)
    (λ js all. top js (AreOther-among parent below js (omega (arith, free)) all)))

-- ---- what is true of each window

pub AllBy-append : (P : Win → Type 0) (xs ys : List Win) → AllByRecursion P xs → AllByRecursion P ys → AllByRecursion P (xs ++ ys)
AllBy-append P [] ys p q = q
AllBy-append P (x ∷ xs) ys p q = (p.0, AllBy-append P xs ys p.1 q)

pub AllBy-first : (P : Win → Type 0) (xs ys : List Win) → AllByRecursion P (xs ++ ys) → AllByRecursion P xs
AllBy-first P [] ys p = tt
AllBy-first P (x ∷ xs) ys p = (p.0, AllBy-first P xs ys p.1)

pub AllBy-last : (P : Win → Type 0) (xs ys : List Win) → AllByRecursion P (xs ++ ys) → AllByRecursion P ys
AllBy-last P [] ys p = p
AllBy-last P (x ∷ xs) ys p = AllBy-last P xs ys p.1

-- what a window of a tree has of its own: only the desktop has no parent
pub record IsOwn (w : Win) : Type 0 where
  pub window : IsWindow w
  pub root : w.parent ≡ 0 → w.handle ≡ 1
  pub desktop : w.handle ≡ 1 → IsDesktop w

pub AllBy-window : (ws : List Win) → AllByRecursion IsOwn ws → AllByRecursion IsWindow ws
AllBy-window [] own = tt
AllBy-window (w ∷ ws) own = (own.0.window, AllBy-window ws own.1)

-- the windows are those of one tree, whose root is the desktop
pub record IsOneTree (t : Forest) : Type 0 where
  pub children : AreChildren 0 t
  pub single : (h : ℕ) → among h t ≤ 1
  pub some : 1 ≤ among 1 t
  pub own : AllByRecursion IsOwn (order t)

no_zero : (ws : List Win) → AllByRecursion IsOwn ws → number_of 0 ws ≡ 0
no_zero [] own = refl
no_zero (w ∷ ws) own =
    let off : w.handle ≢ 0 = λ same. omega (arith, own.0.window.handle, same) in
    rw (ne_eqb w.handle 0 off) (omega (arith, no_zero ws own.1))

pub free_of : (t : Forest) → IsOneTree t → among 0 t ≡ 0
free_of t tree = sym (number_of-order 0 t) ∙ no_zero (order t) tree.own

alone : (w : Win) (kids u : Forest) → w.handle ≡ 1 → AreChildren 0 u → ((h : ℕ) → among h (Top w kids u) ≤ 1) → AllByRecursion IsOwn (order u) → u ≡ Empty
alone w kids Empty one children single own = refl
alone w kids (Top v inner below) one children single own =
    let mine = AllBy-last IsOwn (order below) (v ∷ order inner) own in
    absurd (omega (arith, single 1, here w 1 one, here v 1 (mine.0.root children.0)))

begin : (t : Forest) → IsOneTree t → BeginWithDesktop (order t)
begin t tree = by_forest t tree.children tree.single tree.some tree.own
  where
    by_forest : (u : Forest) → AreChildren 0 u → ((h : ℕ) → among h u ≤ 1) → 1 ≤ among 1 u → AllByRecursion IsOwn (order u) → BeginWithDesktop (order u)
    by_forest Empty children single some own = absurd (omega (arith, some))
    by_forest (Top w kids below) children single some own =
        let mine = AllBy-last IsOwn (order below) (w ∷ order kids) own in
        let handle = mine.0.root children.0 in
        let none = alone w kids below handle children.2 single (AllBy-first IsOwn (order below) (w ∷ order kids) own) in
        let K : ℕ → Type 0 = λ h. AreChildren h kids in
        let after = AreInOrder-tree 1 kids [] [] [] (subst K handle children.1) (λ h. omega (arith, single h)) (omega (arith, single 1, here w 1 handle)) tt tt (λ js all. tt) in
        let O : List Win → Type 0 = λ ws. AreInOrder (1 ∷ []) ws in
        rw none (handle, children.0, mine.0.desktop handle, subst O (append-nil (order kids)) after)

pub stack_of : (t : Forest) → IsOneTree t → AllByRecursion (IsShallow (order t)) (order t) → length (order t) ≤ 256 → IsStack (order t)
stack_of t tree levels few = record {
  order = begin t tree;
  single = λ h. omega (arith, tree.single h, number_of-order h t);
  few = few;
  levels = levels;
  windows = AllBy-window (order t) tree.own;
}

-- ---- each window has a node

all_of_nodes : (P : Win → Type 0) (found : ℕ → Option Node) (link : Option ℕ) (t : Forest) → ((k : ℕ) (n : Node) → found k ≡ Some n → P n.win) → AreLinked found link t → AllByRecursion P (order t)
all_of_nodes P found link Empty each q = tt
all_of_nodes P found link (Top w kids below) each q =
    AllBy-append P (order below) (w ∷ order kids) (all_of_nodes P found q.1.next below each q.6)
    (subst P q.4 (each q.0 q.1 q.3), all_of_nodes P found q.1.first kids each q.5)

root_among : (found : ℕ → Option Node) (desktop : ℕ) (t : Forest) → ((n : Node) → found desktop ≡ Some n → n.win.handle ≡ 1) → AreLinked found (Some desktop) t → 1 ≤ among 1 t
root_among found desktop Empty root q = absurd cc
root_among found desktop (Top w kids below) root q =
    let same : q.0 ≡ desktop = cc (q.2) in
    let handle : w.handle ≡ 1 = ap (λ (u : Win). u.handle) (sym q.4) ∙ root q.1 (ap found (sym same) ∙ q.3) in
    omega (arith, here w 1 handle)

one_tree : (found : ℕ → Option Node) (desktop handles : ℕ) (t : Forest) → IsTreeOf found desktop handles t → IsOneTree t
one_tree found desktop handles t tree = record {
  children = tree.children;
  single = tree.single;
  some = root_among found desktop t tree.root tree.linked;
  own = all_of_nodes IsOwn found (Some desktop) t
      (λ k n e. let named = tree.named k n e in record { window = named.window; root = named.parent; desktop = named.desktop })
      tree.linked;
}

pub is_stack : (nodes : Slab Node) (desktop handles : ℕ) → IsTree nodes desktop handles → IsStack (windows_of nodes desktop)
is_stack nodes desktop handles tree =
    let t = tree.forest in
    let of = tree.nodes_of in
    rw (windows_are nodes desktop handles tree) (stack_of t (one_tree (get nodes) desktop handles t of)
    (all_of_nodes (IsShallow (order t)) (get nodes) (Some desktop) t tree.shallow of.linked)
    (omega (arith, tree.len, tree.few)))

pub are_given : (nodes : Slab Node) (desktop handles : ℕ) → IsTree nodes desktop handles → AreGiven handles (windows_of nodes desktop)
are_given nodes desktop handles tree =
    let t = tree.forest in
    rw (windows_are nodes desktop handles tree) (all_of_nodes (λ w. w.handle ≤ handles) (get nodes) (Some desktop) t (λ k n e. (tree.nodes_of.named k n e).given) tree.nodes_of.linked)
