-- Trees of nodes after each change.
use Rattle.std.proofs.Common.{◌≡◌, ◌≢◌, ℕ, zero, suc, ◌+◌, ◌≤◌, true, false, eqb, List, [], ◌∷◌, ◌++◌, Option, Some, None, refl, sym, ap, subst, ◌∙◌, inl, inr, arith, eq-eqb}
use Rattle.std.specs.Prelude.{option_map, unwrap_or}
use Rattle.std.proofs.lemmas.Bool.{cases_Bool, cases_eq, cases_lt, ne_eqb, eqb-true, false≢true, false_from_ne_true}
use Rattle.scene.specs.declared.win.Win.{Win}
use Rattle.scene.specs.Places.{window_of}
use Rattle.slab.specs.Slab.{Slab, get, slab_len}
use Rattle.win_tree.specs.declared.node.Node.{Node}
use Rattle.scene.specs.Stacks.{has_ancestors, IsShallow, IsWindow, IsDesktop}
use Rattle.win_tree.specs.Links.{over, or_to, skipping, above, order_from}
use Rattle.scene.specs.Places.{number_of}
use Rattle.win_tree.specs.Forests.{Forest, Empty, Top, order, among, one_if, AreLinked, AreChildren, IsOneEach, IsNamed, IsTreeOf, IsTree}
use Rattle.win_tree.proofs.ForestLemmas.{here, not_here, same_node, order_from-linked}
use Rattle.win_tree.proofs.LinkLemmas.{without, with_top, ended, with_bottom, without-absent, AreLinked-skipping, IsPutOnTop, IsPutBelow, AreLinked-on_top, AreLinked-at_bottom}
use Rattle.win_tree.proofs.FamilyLemmas.{number_of-append, number_of-order, Spot, spot, parts_counted}

-- ---- what the list has

pub windows_are : (nodes : Slab Node) (desktop handles : ℕ) (tree : IsTree nodes desktop handles) → order_from (slab_len nodes) (get nodes) (Some desktop) ≡ order tree.forest
windows_are nodes desktop handles tree = order_from-linked (slab_len nodes) (get nodes) (Some desktop) tree.forest tree.nodes_of.linked (omega (arith, tree.len))

-- a handle that no node has isn't among the windows
pub among-unnamed : (found : ℕ → Option Node) (h : ℕ) (link : Option ℕ) (t : Forest) → ((k : ℕ) (n : Node) → found k ≡ Some n → n.win.handle ≢ h) → AreLinked found link t → among h t ≡ 0
among-unnamed found h link Empty none q = refl
among-unnamed found h link (Top w kids below) none q =
    let off : w.handle ≢ h = λ same. none q.0 q.1 q.3 (ap (λ (u : Win). u.handle) q.4 ∙ same) in
    let zero' : one_if (eqb w.handle h) ≡ 0 = rw (ne_eqb w.handle h off) refl in
    omega (arith, zero', among-unnamed found h q.1.first kids none q.5, among-unnamed found h q.1.next below none q.6)

pub window_of-absent : (h : ℕ) (ws : List Win) → number_of h ws ≡ 0 → window_of ws h ≡ None
window_of-absent h [] none = refl
window_of-absent h (w ∷ ws) none = rw (not_here w h (omega (arith, none))) (window_of-absent h ws (omega (arith, none)))

window_of-first : (h : ℕ) (before rest : List Win) (w : Win) → number_of h before ≡ 0 → w.handle ≡ h → window_of (before ++ (w ∷ rest)) h ≡ Some w
window_of-first h [] rest w none e = rw (eq-eqb w.handle h e) refl
window_of-first h (b ∷ before) rest w none e = rw (not_here b h (omega (arith, none))) (window_of-first h before rest w (omega (arith, none)) e)

pub free_of : (found : ℕ → Option Node) (desktop handles : ℕ) (t : Forest) → IsTreeOf found desktop handles t → among 0 t ≡ 0
free_of found desktop handles t tree = among-unnamed found 0 (Some desktop) t (λ k n e same. omega (arith, (tree.named k n e).window.handle, same)) tree.linked

-- where a node's window stands
pub spot_of : (found : ℕ → Option Node) (desktop handles : ℕ) (t : Forest) (k : ℕ) (n : Node) → IsTreeOf found desktop handles t → found k ≡ Some n → Spot n.win.handle 0 t
spot_of found desktop handles t k n tree e = spot n.win.handle 0 t tree.children tree.single (free_of found desktop handles t tree) (tree.complete k n e)

-- the node of a spot
pub spot_node : (found : ℕ → Option Node) (desktop handles : ℕ) (t : Forest) (k : ℕ) (n : Node) (tree : IsTreeOf found desktop handles t) → found k ≡ Some n → (s : Spot n.win.handle 0 t) → (n.win ≡ s.win) × AreLinked found n.first s.kids
spot_node found desktop handles t k n tree e s =
    let at = s.node found (Some desktop) tree.linked in
    let same_handle : at.1.win.handle ≡ n.win.handle = ap (λ (u : Win). u.handle) at.3 ∙ s.handle in
    let same = same_node found at.0 k at.1 n at.2 e (tree.one_each at.0 k at.1 n at.2 e same_handle) in
    let K : Node → Type 0 = λ m. AreLinked found m.first s.kids in
    (ap (λ (m : Node). m.win) (sym same) ∙ at.3, subst K same at.4)

pub window_of-node : (found : ℕ → Option Node) (desktop handles : ℕ) (t : Forest) (k : ℕ) (n : Node) (h : ℕ) → IsTreeOf found desktop handles t → found k ≡ Some n → n.win.handle ≡ h → window_of (order t) h ≡ Some n.win
window_of-node found desktop handles t k n h tree e same =
    let s = spot_of found desktop handles t k n tree e in
    let count = parts_counted n.win.handle 0 t s n.win.handle in
    let none : number_of n.win.handle s.before ≡ 0 = omega (arith, count, tree.single n.win.handle, here s.win n.win.handle s.handle) in
    ap (window_of (order t)) (sym same)
    ∙ ap (λ ws. window_of ws n.win.handle) s.is
    ∙ window_of-first n.win.handle s.before (order s.kids ++ s.after) s.win none s.handle
    ∙ ap Some (sym (spot_node found desktop handles t k n tree e s).0)

pub window_of-no_node : (found : ℕ → Option Node) (desktop handles : ℕ) (t : Forest) (h : ℕ) → IsTreeOf found desktop handles t → ((k : ℕ) (n : Node) → found k ≡ Some n → n.win.handle ≢ h) → window_of (order t) h ≡ None
window_of-no_node found desktop handles t h tree none =
    window_of-absent h (order t) (number_of-order h t ∙ among-unnamed found h (Some desktop) t none tree.linked)

-- ---- nodes whose windows were there before

-- each node has the window of a node that was there
abbrev pub Keeps : (ℕ → Option Node) → (ℕ → Option Node) → Type 0
Keeps found new = (k : ℕ) (n : Node) → new k ≡ Some n → (m : Node) × (found k ≡ Some m) × (m.win ≡ n.win)

IsOneEach-kept : (found new : ℕ → Option Node) → Keeps found new → IsOneEach found → IsOneEach new
IsOneEach-kept found new kept one k j n m e f same =
    let a = kept k n e in
    let b = kept j m f in
    one k j a.0 b.0 a.1 b.1 (ap (λ (u : Win). u.handle) a.2 ∙ same ∙ sym (ap (λ (u : Win). u.handle) b.2))

IsNamed-same : (handles : ℕ) (m n : Node) → m.win ≡ n.win → IsNamed handles m → IsNamed handles n
IsNamed-same handles m n e named =
    let h : m.win.handle ≡ n.win.handle = ap (λ (u : Win). u.handle) e in
    let p : m.win.parent ≡ n.win.parent = ap (λ (u : Win). u.parent) e in
    record {
      given = omega (arith, named.given, h);
      parent = λ none. sym h ∙ named.parent (p ∙ none);
      parent_given = omega (arith, named.parent_given, p);
      window = let S : Win → Type 0 = λ u. IsWindow u in subst S e named.window;
      desktop = λ one. let D : Win → Type 0 = λ u. IsDesktop u in subst D e (named.desktop (h ∙ one));
    }

named-kept : (found new : ℕ → Option Node) (handles : ℕ) → Keeps found new → ((k : ℕ) (n : Node) → found k ≡ Some n → IsNamed handles n) → (k : ℕ) (n : Node) → new k ≡ Some n → IsNamed handles n
named-kept found new handles kept named k n e = let a = kept k n e in IsNamed-same handles a.0 n a.2 (named k a.0 a.1)

root-kept : (found new : ℕ → Option Node) (desktop : ℕ) → Keeps found new → ((n : Node) → found desktop ≡ Some n → n.win.handle ≡ 1) → (n : Node) → new desktop ≡ Some n → n.win.handle ≡ 1
root-kept found new desktop kept root n e = let a = kept desktop n e in sym (ap (λ (u : Win). u.handle) a.2) ∙ root a.0 a.1

-- ---- levels

-- each node has the handle and the parent of a node that was there
abbrev pub KeepsParents : (ℕ → Option Node) → (ℕ → Option Node) → Type 0
KeepsParents found new = (k : ℕ) (n : Node) → new k ≡ Some n → (m : Node) × (found k ≡ Some m) × (m.win.handle ≡ n.win.handle) × (m.win.parent ≡ n.win.parent)

pub KeepsParents-from : (found new : ℕ → Option Node) → Keeps found new → KeepsParents found new
KeepsParents-from found new kept k n e = let a = kept k n e in (a.0, a.1, ap (λ (u : Win). u.handle) a.2, ap (λ (u : Win). u.parent) a.2)

pub Keeps-twice : (found one new : ℕ → Option Node) → Keeps found one → Keeps one new → Keeps found new
Keeps-twice found one new first second k n e = let b = second k n e in let a = first k b.0 b.1 in (a.0, a.1, a.2 ∙ b.2)

-- the windows of handles up to a bound have parents up to it, and where others have them too, of the same parents
abbrev pub FindsLess : ℕ → List Win → List Win → Type 0
FindsLess bound ws vs = (h : ℕ) (u : Win) → h ≤ bound → window_of ws h ≡ Some u → (x : Win) × (window_of vs h ≡ Some x) × (u.parent ≡ x.parent) × (u.parent ≤ bound)

-- one step up
ancestors_step : (n bound : ℕ) (ws vs : List Win) (w v : Win) → FindsLess bound ws vs → ((u x : Win) → u.parent ≤ bound → u.parent ≡ x.parent → has_ancestors n ws u ≡ true → has_ancestors n vs x ≡ true) → w.parent ≤ bound → w.parent ≡ v.parent
    → (o : Option Win) → window_of ws w.parent ≡ o → unwrap_or (option_map (has_ancestors n ws) o) false ≡ true → unwrap_or (option_map (has_ancestors n vs) (window_of vs v.parent)) false ≡ true
ancestors_step n bound ws vs w v less inner low same None is e = absurd (false≢true e)
ancestors_step n bound ws vs w v less inner low same (Some u) is e =
    let x = less w.parent u low is in
    let there : window_of vs v.parent ≡ Some x.0 = ap (window_of vs) (sym same) ∙ x.1 in
    rw there (inner u x.0 x.3 x.2 e)

pub has_ancestors-less : (n bound : ℕ) (ws vs : List Win) (w v : Win) → FindsLess bound ws vs → w.parent ≤ bound → w.parent ≡ v.parent → has_ancestors n ws w ≡ true → has_ancestors n vs v ≡ true
unfolding has_ancestors
has_ancestors-less zero bound ws vs w v less low same e = refl
has_ancestors-less (suc n) bound ws vs w v less low same e =
    ancestors_step n bound ws vs w v less (λ u x l s d. has_ancestors-less n bound ws vs u x less l s d) low same (window_of ws w.parent) refl e

-- the node of a handle that is found
pub node_of : (found : ℕ → Option Node) (desktop handles : ℕ) (t : Forest) (h : ℕ) (u : Win) → IsTreeOf found desktop handles t → window_of (order t) h ≡ Some u → (k : ℕ) × (n : Node) × (found k ≡ Some n) × (n.win ≡ u) × (n.win.handle ≡ h)
node_of found desktop handles t h u tree is =
    elim (cases_lt 0 (among h t)) [
      | inl some ↦
          let s = spot h 0 t tree.children tree.single (free_of found desktop handles t tree) some in
          let at = s.node found (Some desktop) tree.linked in
          let handle : at.1.win.handle ≡ h = ap (λ (v : Win). v.handle) at.3 ∙ s.handle in
          let same = window_of-node found desktop handles t at.0 at.1 h tree at.2 handle in
          let both : at.1.win ≡ u = cc in
          (at.0, at.1, at.2, both, handle)
      | inr none ↦ absurd (let gone = window_of-absent h (order t) (omega (arith, number_of-order h t, none)) in let bad : None ≡ Some u = sym gone ∙ is in cc)
    ]

FindsLess-kept : (found new : ℕ → Option Node) (desktop handles : ℕ) (t u : Forest) → IsTreeOf found desktop handles t → IsTreeOf new desktop handles u → KeepsParents found new → FindsLess handles (order u) (order t)
FindsLess-kept found new desktop handles t u tree later kept h w low is =
    let at = node_of new desktop handles u h w later is in
    let was = kept at.0 at.1 at.2 in
    let parent : w.parent ≡ at.1.win.parent = ap (λ (v : Win). v.parent) (sym at.3) in (
      was.0.win,
      window_of-node found desktop handles t at.0 was.0 h tree was.1 (was.2 ∙ at.4),
      parent ∙ sym was.3,
      omega (arith, parent, (later.named at.0 at.1 at.2).parent_given),
    )

pub shallow-kept : (found new : ℕ → Option Node) (desktop handles : ℕ) (t u : Forest) → IsTreeOf found desktop handles t → IsTreeOf new desktop handles u → KeepsParents found new
    → ((k : ℕ) (n : Node) → found k ≡ Some n → IsShallow (order t) n.win) → (k : ℕ) (n : Node) → new k ≡ Some n → IsShallow (order u) n.win
shallow-kept found new desktop handles t u tree later kept shallow k n e =
    let was = kept k n e in
    let less = FindsLess-kept found new desktop handles t u tree later kept in
    false_from_ne_true (has_ancestors 8 (order u) n.win) (λ deep.
    false≢true (sym (shallow k was.0 was.1) ∙ has_ancestors-less 8 handles (order u) (order t) n.win was.0.win less (later.named k n e).parent_given (sym was.3) deep))

-- ---- a window apart from the tree

-- the nodes are those of a tree, and of a window with its children apart from it
pub record IsSplit (found : ℕ → Option Node) (desktop handles : ℕ) (t : Forest) (key : ℕ) (v : Node) (inner : Forest) : Type 0 where
  pub linked : AreLinked found (Some desktop) t
  pub children : AreChildren 0 t
  pub key_was : found key ≡ Some v
  pub inner_linked : AreLinked found v.first inner
  pub inner_children : AreChildren v.win.handle inner
  pub single : (x : ℕ) → one_if (eqb v.win.handle x) + among x inner + among x t ≤ 1
  pub complete : (k : ℕ) (n : Node) → found k ≡ Some n → 1 ≤ one_if (eqb v.win.handle n.win.handle) + among n.win.handle inner + among n.win.handle t
  pub one_each : IsOneEach found
  pub named : (k : ℕ) (n : Node) → found k ≡ Some n → IsNamed handles n
  pub root : (n : Node) → found desktop ≡ Some n → n.win.handle ≡ 1
  pub some : 1 ≤ handles

-- the window's parent is in the tree
pub record HasParent (found : ℕ → Option Node) (t : Forest) (v p : Node) (parent : ℕ) : Type 0 where
  pub parent_was : found parent ≡ Some p
  pub child : v.win.parent ≡ p.win.handle
  pub inside : 1 ≤ among p.win.handle t

pub AreChildren-on_top : (parent over' : ℕ) (v : Win) (inner t : Forest) → v.parent ≡ parent → AreChildren v.handle inner → AreChildren over' t → AreChildren over' (with_top parent v inner t)
AreChildren-on_top parent over' v inner Empty child family children = tt
AreChildren-on_top parent over' v inner (Top w kids below) child family children =
    elim (cases_Bool (eqb w.handle parent)) [
      | inl e ↦ rw e (children.0, (child ∙ sym (eqb-true w.handle parent e), family, children.1), children.2)
      | inr e ↦ rw e (children.0, AreChildren-on_top parent w.handle v inner kids child family children.1, AreChildren-on_top parent over' v inner below child family children.2)
    ]

AreChildren-ended : (over' : ℕ) (v : Win) (inner t : Forest) → v.parent ≡ over' → AreChildren v.handle inner → AreChildren over' t → AreChildren over' (ended v inner t)
AreChildren-ended over' v inner Empty child family children = (child, family, tt)
AreChildren-ended over' v inner (Top w kids below) child family children = (children.0, children.1, AreChildren-ended over' v inner below child family children.2)

pub AreChildren-at_bottom : (parent over' : ℕ) (v : Win) (inner t : Forest) → v.parent ≡ parent → AreChildren v.handle inner → AreChildren over' t → AreChildren over' (with_bottom parent v inner t)
AreChildren-at_bottom parent over' v inner Empty child family children = tt
AreChildren-at_bottom parent over' v inner (Top w kids below) child family children =
    elim (cases_Bool (eqb w.handle parent)) [
      | inl e ↦ rw e (children.0, AreChildren-ended w.handle v inner kids (child ∙ sym (eqb-true w.handle parent e)) family children.1, children.2)
      | inr e ↦ rw e (children.0, AreChildren-at_bottom parent w.handle v inner kids child family children.1, AreChildren-at_bottom parent over' v inner below child family children.2)
    ]

pub AreChildren-without : (h over' : ℕ) (t : Forest) → AreChildren over' t → AreChildren over' (without h t)
AreChildren-without h over' Empty children = tt
AreChildren-without h over' (Top w kids below) children =
    elim (cases_Bool (eqb w.handle h)) [
      | inl e ↦ rw e children.2
      | inr e ↦ rw e (children.0, AreChildren-without h w.handle kids children.1, AreChildren-without h over' below children.2)
    ]

-- ---- the window put back

split_free : (found : ℕ → Option Node) (desktop handles : ℕ) (t : Forest) (key : ℕ) (v : Node) (inner : Forest) → IsSplit found desktop handles t key v inner → among 0 t ≡ 0
split_free found desktop handles t key v inner split = among-unnamed found 0 (Some desktop) t (λ k n e same. omega (arith, (split.named k n e).window.handle, same)) split.linked

pub split_spot : (found : ℕ → Option Node) (desktop handles : ℕ) (t : Forest) (key : ℕ) (v : Node) (inner : Forest) (p : Node) (parent : ℕ) → IsSplit found desktop handles t key v inner → HasParent found t v p parent → Spot p.win.handle 0 t
split_spot found desktop handles t key v inner p parent split has =
    spot p.win.handle 0 t split.children (λ x. omega (arith, split.single x)) (split_free found desktop handles t key v inner split) has.inside

pub split_differ : (found : ℕ → Option Node) (desktop handles : ℕ) (t : Forest) (key : ℕ) (v : Node) (inner : Forest) (p : Node) (parent : ℕ) → IsSplit found desktop handles t key v inner → HasParent found t v p parent → v.win.handle ≢ p.win.handle
split_differ found desktop handles t key v inner p parent split has same =
    omega (arith, split.single p.win.handle, has.inside, here v.win p.win.handle same)

pub IsPutOnTop-split : (found new : ℕ → Option Node) (desktop handles : ℕ) (t : Forest) (key : ℕ) (v : Node) (inner : Forest) (p : Node) (parent : ℕ) → IsSplit found desktop handles t key v inner → HasParent found t v p parent
    → ((q : Node) → found parent ≡ Some q → new parent ≡ Some (record q { first = Some key }))
    → ((q n : Node) → found parent ≡ Some q → found key ≡ Some n → new key ≡ Some (record n { next = q.first }))
    → ((k : ℕ) → k ≢ parent → k ≢ key → new k ≡ found k) → IsPutOnTop found new parent key p v
IsPutOnTop-split found new desktop handles t key v inner p parent split has at_parent at_key others = record {
  parent_was = has.parent_was;
  key_was = split.key_was;
  differ_in = split_differ found desktop handles t key v inner p parent split has;
  parent_is = at_parent p has.parent_was;
  key_is = at_key p v has.parent_was split.key_was;
  others = others;
}

pub on_top_keeps : (found new : ℕ → Option Node) (parent key : ℕ) (p v : Node) → IsPutOnTop found new parent key p v → Keeps found new
on_top_keeps found new parent key p v put k n e =
    elim (cases_eq k parent) [
      | inl same ↦ let both = ap new same ∙ put.parent_is in let is : record p { first = Some key } ≡ n = cc in (p, ap found same ∙ put.parent_was, ap (λ (m : Node). m.win) is)
      | inr off ↦ elim (cases_eq k key) [
        | inl same ↦ let both = ap new same ∙ put.key_is in let is : record v { next = p.first } ≡ n = cc in (v, ap found same ∙ put.key_was, ap (λ (m : Node). m.win) is)
        | inr far ↦ (n, sym (put.others k off far) ∙ e, refl)
      ]
    ]

pub IsTreeOf-on_top : (found new : ℕ → Option Node) (desktop handles : ℕ) (t : Forest) (key : ℕ) (v : Node) (inner : Forest) (p : Node) (parent : ℕ) → IsSplit found desktop handles t key v inner → HasParent found t v p parent → IsPutOnTop found new parent key p v
    → IsTreeOf new desktop handles (with_top p.win.handle v.win inner t)
IsTreeOf-on_top found new desktop handles t key v inner p parent split has put =
    let s = split_spot found desktop handles t key v inner p parent split has in
    let kept = on_top_keeps found new parent key p v put in
    let count : (x : ℕ) → among x (with_top p.win.handle v.win inner t) ≡ one_if (eqb v.win.handle x) + among x inner + among x t = λ x.
    omega (arith, parts_counted p.win.handle 0 t s x, number_of-order x (with_top p.win.handle v.win inner t), ap (number_of x) (s.topped v.win inner), number_of-append x s.before (s.win ∷ ((order s.kids ++ v.win ∷ order inner) ++ s.after)), number_of-append x (order s.kids ++ v.win ∷ order inner) s.after, number_of-append x (order s.kids) (v.win ∷ order inner), number_of-order x inner) in
    record {
      linked = AreLinked-on_top found new parent key p v inner (Some desktop) t put split.one_each split.inner_linked (omega (arith, split.single p.win.handle, has.inside)) split.single split.linked;
      children = AreChildren-on_top p.win.handle 0 v.win inner t has.child split.inner_children split.children;
      single = λ x. omega (arith, count x, split.single x);
      complete = λ k n e. let a = kept k n e in
          let h : a.0.win.handle ≡ n.win.handle = ap (λ (u : Win). u.handle) a.2 in
          omega (arith, split.complete k a.0 a.1, count a.0.win.handle, ap (λ x. among x (with_top p.win.handle v.win inner t)) h);
      one_each = IsOneEach-kept found new kept split.one_each;
      named = named-kept found new handles kept split.named;
      root = root-kept found new desktop kept split.root;
      some = split.some;
    }

pub IsPutBelow-split : (found new : ℕ → Option Node) (desktop handles : ℕ) (t : Forest) (key : ℕ) (v : Node) (inner : Forest) (p : Node) (parent : ℕ) → IsSplit found desktop handles t key v inner → HasParent found t v p parent
    → ((q : Node) → found parent ≡ Some q → new parent ≡ Some (record (above p.win.handle key q) { first = or_to key q.first }))
    → ((n : Node) → found key ≡ Some n → new key ≡ Some (record n { next = None }))
    → ((k : ℕ) → k ≢ parent → k ≢ key → new k ≡ option_map (above p.win.handle key) (found k)) → IsPutBelow found new parent key p v
IsPutBelow-split found new desktop handles t key v inner p parent split has at_parent at_key others = record {
  parent_was = has.parent_was;
  key_was = split.key_was;
  differ_in = split_differ found desktop handles t key v inner p parent split has;
  parent_is = at_parent p has.parent_was;
  key_is = at_key v split.key_was;
  others = others;
}

-- a changed node has the window that it had
mapped_keeps : (f : Node → Node) (o : Option Node) (n : Node) → ((m : Node) → (f m).win ≡ m.win) → option_map f o ≡ Some n → (m : Node) × (o ≡ Some m) × (m.win ≡ n.win)
mapped_keeps f None n same e = absurd cc
mapped_keeps f (Some m) n same e = let is : f m ≡ n = cc in (m, refl, sym (same m) ∙ ap (λ (u : Node). u.win) is)

pub below_keeps : (found new : ℕ → Option Node) (parent key : ℕ) (p v : Node) → IsPutBelow found new parent key p v → Keeps found new
below_keeps found new parent key p v put k n e =
    elim (cases_eq k parent) [
      | inl same ↦ let both = ap new same ∙ put.parent_is in let is : record (above p.win.handle key p) { first = or_to key p.first } ≡ n = cc in (p, ap found same ∙ put.parent_was, ap (λ (m : Node). m.win) is)
      | inr off ↦ elim (cases_eq k key) [
        | inl same ↦ let both = ap new same ∙ put.key_is in let is : record v { next = None } ≡ n = cc in (v, ap found same ∙ put.key_was, ap (λ (m : Node). m.win) is)
        | inr far ↦ mapped_keeps (above p.win.handle key) (found k) n (λ m. refl) (sym (put.others k off far) ∙ e)
      ]
    ]

pub IsTreeOf-at_bottom : (found new : ℕ → Option Node) (desktop handles : ℕ) (t : Forest) (key : ℕ) (v : Node) (inner : Forest) (p : Node) (parent : ℕ) → IsSplit found desktop handles t key v inner → HasParent found t v p parent → IsPutBelow found new parent key p v
    → IsTreeOf new desktop handles (with_bottom p.win.handle v.win inner t)
IsTreeOf-at_bottom found new desktop handles t key v inner p parent split has put =
    let s = split_spot found desktop handles t key v inner p parent split has in
    let kept = below_keeps found new parent key p v put in
    let positive = (split.named parent p has.parent_was).window.handle in
    let count : (x : ℕ) → among x (with_bottom p.win.handle v.win inner t) ≡ one_if (eqb v.win.handle x) + among x inner + among x t = λ x.
    omega (arith, parts_counted p.win.handle 0 t s x, number_of-order x (with_bottom p.win.handle v.win inner t), ap (number_of x) (s.bottomed v.win inner), number_of-append x s.before (s.win ∷ (((v.win ∷ order inner) ++ order s.kids) ++ s.after)), number_of-append x ((v.win ∷ order inner) ++ order s.kids) s.after, number_of-append x (v.win ∷ order inner) (order s.kids), number_of-order x inner) in
    record {
      linked = AreLinked-at_bottom found new parent key p v inner 0 (Some desktop) t put split.one_each split.inner_linked split.inner_children (omega (arith, split.single p.win.handle, has.inside)) split.single split.children (λ same. omega (arith, positive, same)) split.linked;
      children = AreChildren-at_bottom p.win.handle 0 v.win inner t has.child split.inner_children split.children;
      single = λ x. omega (arith, count x, split.single x);
      complete = λ k n e. let a = kept k n e in
          let h : a.0.win.handle ≡ n.win.handle = ap (λ (u : Win). u.handle) a.2 in
          omega (arith, split.complete k a.0 a.1, count a.0.win.handle, ap (λ x. among x (with_bottom p.win.handle v.win inner t)) h);
      one_each = IsOneEach-kept found new kept split.one_each;
      named = named-kept found new handles kept split.named;
      root = root-kept found new desktop kept split.root;
      some = split.some;
    }

-- ---- a window taken out

pub skipping_keeps : (found new : ℕ → Option Node) (key : ℕ) (below : Option ℕ) → ((k : ℕ) → new k ≡ option_map (skipping key below) (found k)) → Keeps found new
skipping_keeps found new key below change k n e = mapped_keeps (skipping key below) (found k) n (λ m. refl) (sym (change k) ∙ e)

pub IsSplit-detached : (found new : ℕ → Option Node) (desktop handles : ℕ) (t : Forest) (key : ℕ) (v : Node) (tree : IsTreeOf found desktop handles t) (at : found key ≡ Some v) → v.win.handle ≢ 1 → ((k : ℕ) → new k ≡ option_map (skipping key v.next) (found k))
    → IsSplit new desktop handles (without v.win.handle t) key (skipping key v.next v) (spot_of found desktop handles t key v tree at).kids
IsSplit-detached found new desktop handles t key v tree at other change =
    let s = spot_of found desktop handles t key v tree at in
    let node = spot_node found desktop handles t key v tree at s in
    let kept = skipping_keeps found new key v.next change in
    let single = tree.single in
    let not_root : desktop ≢ key = λ same. other (tree.root v (ap found same ∙ at)) in
    let alone = AreLinked-skipping found new key v v.first s.kids at tree.one_each change in
    let count : (x : ℕ) → among x t ≡ one_if (eqb v.win.handle x) + among x s.kids + among x (without v.win.handle t) = λ x.
    omega (arith, parts_counted v.win.handle 0 t s x, number_of-order x (without v.win.handle t), ap (number_of x) s.gone, number_of-append x s.before s.after, number_of-order x s.kids, ap (λ h. one_if (eqb h x)) s.handle) in
    let none : among v.win.handle s.kids ≡ 0 = omega (arith, count v.win.handle, single v.win.handle, here v.win v.win.handle refl) in
    let L : Forest → Type 0 = λ u. AreLinked new (over key v.next v.first) u in
    let D : Option ℕ → Type 0 = λ l. AreLinked new l (without v.win.handle t) in
    let same_link : over key v.next (Some desktop) ≡ Some desktop = rw (ne_eqb desktop key not_root) refl in
    record {
      linked = subst D same_link (AreLinked-skipping found new key v (Some desktop) t at tree.one_each change (single v.win.handle) tree.linked);
      children = AreChildren-without v.win.handle 0 t tree.children;
      key_was = change key ∙ ap (option_map (skipping key v.next)) at;
      inner_linked = subst L (without-absent v.win.handle s.kids none) (alone (omega (arith, none)) node.1);
      inner_children = s.children;
      single = λ x. omega (arith, count x, single x);
      complete = λ k n e. let a = kept k n e in
          let h : a.0.win.handle ≡ n.win.handle = ap (λ (u : Win). u.handle) a.2 in
          omega (arith, tree.complete k a.0 a.1, ap (λ x. among x t) h, count n.win.handle);
      one_each = IsOneEach-kept found new kept tree.one_each;
      named = named-kept found new handles kept tree.named;
      root = root-kept found new desktop kept tree.root;
      some = tree.some;
    }

pub HasParent-detached : (found new : ℕ → Option Node) (desktop handles : ℕ) (t : Forest) (key : ℕ) (v : Node) (parent : ℕ) (p : Node) (tree : IsTreeOf found desktop handles t) (at : found key ≡ Some v) → v.win.handle ≢ 1 → found parent ≡ Some p → p.win.handle ≡ v.win.parent → ((k : ℕ) → new k ≡ option_map (skipping key v.next) (found k))
    → HasParent new (without v.win.handle t) (skipping key v.next v) (skipping key v.next p) parent
HasParent-detached found new desktop handles t key v parent p tree at other parent_was child change =
    let s = spot_of found desktop handles t key v tree at in
    let node = spot_node found desktop handles t key v tree at s in
    let same_parent : s.win.parent ≡ p.win.handle = sym (ap (λ (u : Win). u.parent) node.0) ∙ sym child in
    let positive = (tree.named parent p parent_was).window.handle in
    let stands : 1 ≤ number_of p.win.handle s.before =
    elim s.parent [
      | inl top ↦ absurd (omega (arith, positive, same_parent, top))
      | inr n ↦ omega (arith, n, ap (λ h. number_of h s.before) same_parent)
    ] in
    record {
      parent_was = change parent ∙ ap (option_map (skipping key v.next)) parent_was;
      child = sym child;
      inside = omega (arith, stands, number_of-order p.win.handle (without v.win.handle t), ap (number_of p.win.handle) s.gone, number_of-append p.win.handle s.before s.after);
    }

-- ---- look-ups

pub skipping_keeps_all : (found new : ℕ → Option Node) (key : ℕ) (below : Option ℕ) → ((k : ℕ) → new k ≡ option_map (skipping key below) (found k)) → Keeps new found
skipping_keeps_all found new key below change k n e = (skipping key below n, change k ∙ ap (option_map (skipping key below)) e, refl)

pub on_top_keeps_all : (found new : ℕ → Option Node) (parent key : ℕ) (p v : Node) → IsPutOnTop found new parent key p v → Keeps new found
on_top_keeps_all found new parent key p v put k n e =
    elim (cases_eq k parent) [
      | inl same ↦ (record p { first = Some key }, ap new same ∙ put.parent_is, ap (λ (m : Node). m.win) (sym (same_node found k parent n p e put.parent_was same)))
      | inr off ↦ elim (cases_eq k key) [
        | inl same ↦ (record v { next = p.first }, ap new same ∙ put.key_is, ap (λ (m : Node). m.win) (sym (same_node found k key n v e put.key_was same)))
        | inr far ↦ (n, put.others k off far ∙ e, refl)
      ]
    ]

pub below_keeps_all : (found new : ℕ → Option Node) (parent key : ℕ) (p v : Node) → IsPutBelow found new parent key p v → Keeps new found
below_keeps_all found new parent key p v put k n e =
    elim (cases_eq k parent) [
      | inl same ↦ (record (above p.win.handle key p) { first = or_to key p.first }, ap new same ∙ put.parent_is, ap (λ (m : Node). m.win) (sym (same_node found k parent n p e put.parent_was same)))
      | inr off ↦ elim (cases_eq k key) [
        | inl same ↦ (record v { next = None }, ap new same ∙ put.key_is, ap (λ (m : Node). m.win) (sym (same_node found k key n v e put.key_was same)))
        | inr far ↦ (above p.win.handle key n, put.others k off far ∙ ap (option_map (above p.win.handle key)) e, refl)
      ]
    ]

-- where the nodes have the windows that they had, each handle finds what it found
pub finds_same : (found new : ℕ → Option Node) (desktop handles : ℕ) (t u : Forest) → IsTreeOf found desktop handles t → IsTreeOf new desktop handles u → Keeps found new → Keeps new found → (x : ℕ) → window_of (order u) x ≡ window_of (order t) x
finds_same found new desktop handles t u tree later kept all x = by_option (window_of (order u) x) (window_of (order t) x) refl refl
  where
    by_option : (o r : Option Win) → window_of (order u) x ≡ o → window_of (order t) x ≡ r → window_of (order u) x ≡ window_of (order t) x
    by_option None None e f = e ∙ sym f
    by_option (Some w) r e f =
        let at = node_of new desktop handles u x w later e in
        let was = kept at.0 at.1 at.2 in
        let there = window_of-node found desktop handles t at.0 was.0 x tree was.1 (ap (λ (v : Win). v.handle) was.2 ∙ at.4) in
        e ∙ ap Some (sym (was.2 ∙ at.3)) ∙ sym there
    by_option None (Some w) e f =
        let at = node_of found desktop handles t x w tree f in
        let is = all at.0 at.1 at.2 in
        let there = window_of-node new desktop handles u at.0 is.0 x later is.1 (ap (λ (v : Win). v.handle) is.2 ∙ at.4) in
        absurd (let bad : None ≡ Some is.0.win = sym e ∙ there in cc)
