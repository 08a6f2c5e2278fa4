-- What each change of the nodes makes of the list of windows.
use Rattle.std.proofs.Common.{◌≡◌, ◌≢◌, ◌⊎◌, ℕ, suc, ◌+◌, ◌<◌, ◌≤◌, true, false, cond, eqb, ltb, ◌||◌, List, [], ◌∷◌, ◌++◌, length, Option, Some, None, refl, sym, ap, subst, ◌∙◌, inl, inr, arith, length-append, get_or}
use Rattle.std.specs.Prelude.{option_map, unwrap_or, is_some}
use Rattle.std.proofs.lemmas.Bool.{cases_Bool, cases_eq, cases_lt, ne_eqb, eqb-true, false≢true, false_from_ne_true, or_parts, eqb-false, ltb-false}
use Rattle.std.proofs.lemmas.List.{map-append}
use Rattle.scene.specs.declared.win.Win.{Win}
use Rattle.scene.specs.Places.{window_of, number_of}
use Rattle.slab.specs.Slab.{Slab, get, slab_len, with_value, Updates}
use Rattle.slab.proofs.SlabLemmas.{Updates-with_value}
use Rattle.win_tree.proofs.SlotLemmas.{ContainsKey-from, slab_len-with_value}
use Rattle.win_tree.specs.declared.node.Node.{Node}
use Rattle.scene.specs.Families.{has_handle, family_of, without_family, on_top_of, right_after, parent_of, raised, lowered, window_changed}
use Rattle.scene.specs.Stacks.{has_ancestors, IsShallow, IsWindow, IsDesktop, is_bad_size}
use Rattle.scene.specs.Looks.{screen_with}
use Rattle.gfx_base.specs.Rects.{is_empty}
use Rattle.std.proofs.lemmas.Int.{ints}
use Rattle.std.proofs.lemmas.Bool.Decides.{nat_tests}
use Rattle.win_tree.specs.Links.{or_to, skipping, above, order_from}
use Rattle.win_tree.specs.Trees.{Scene}
use Rattle.win_tree.specs.Forests.{Forest, Empty, Top, order, among, one_if, AreLinked, AreChildren, IsOneEach, IsNamed, IsTreeOf, IsTree}
use Rattle.win_tree.proofs.ForestLemmas.{here, differ, same_node, AreLinked-same}
use Rattle.win_tree.proofs.LinkLemmas.{without, with_top, with_bottom}
use Rattle.win_tree.proofs.FreeLemmas.{Frees, FreesSo, has_handle-absent, left_was, left_kept, left_stays, IsOneEach-less}
use Rattle.win_tree.proofs.FamilyLemmas.{number_of-order, has_handle-some, Spot, parts_counted, family_of-is, without_family-is, on_top_of-is, right_after-is}
use Rattle.win_tree.proofs.TreeLemmas.{windows_are, among-unnamed, spot_of, spot_node, window_of-node, window_of-no_node, IsSplit, HasParent, split_spot, split_differ, IsPutOnTop-split, IsPutBelow-split, IsTreeOf-on_top, IsTreeOf-at_bottom, IsSplit-detached, HasParent-detached, KeepsParents-from, Keeps-twice, on_top_keeps, below_keeps, skipping_keeps, FindsLess, has_ancestors-less, node_of, finds_same, skipping_keeps_all, on_top_keeps_all, below_keeps_all, shallow-kept}

abbrev pub windows_of : Slab Node → ℕ → List Win
windows_of nodes desktop = order_from (slab_len nodes) (get nodes) (Some desktop)

-- the nodes have become a tree of these windows
pub record Became (new : Slab Node) (desktop handles : ℕ) (ws : List Win) : Type 0 where
  pub tree : IsTree new desktop handles
  pub windows : windows_of new desktop ≡ ws

pub Became-from : (new : Slab Node) (desktop handles : ℕ) (t : Forest) (ws : List Win) → IsTreeOf (get new) desktop handles t → ((k : ℕ) (n : Node) → get new k ≡ Some n → IsShallow (order t) n.win) → slab_len new ≡ length (order t) → slab_len new ≤ 256 → 256 ≤ new.capacity → order t ≡ ws → Became new desktop handles ws
Became-from new desktop handles t ws tree shallow len few room e =
    let whole : IsTree new desktop handles = record { forest = t; nodes_of = tree; shallow = shallow; len = len; few = few; room = room } in
    record { tree = whole; windows = windows_are new desktop handles whole ∙ e }

-- ---- finding

pub none_found : (nodes : Slab Node) (desktop handles : ℕ) (tree : IsTree nodes desktop handles) (h : ℕ) → ((k : ℕ) (n : Node) → get nodes k ≡ Some n → n.win.handle ≢ h) → window_of (windows_of nodes desktop) h ≡ None
none_found nodes desktop handles tree h none =
    ap (λ ws. window_of ws h) (windows_are nodes desktop handles tree) ∙ window_of-no_node (get nodes) desktop handles tree.forest h tree.nodes_of none

pub one_found : (nodes : Slab Node) (desktop handles : ℕ) (tree : IsTree nodes desktop handles) (h key : ℕ) (n m : Node) → get nodes key ≡ Some m → m.win.handle ≡ h → get nodes key ≡ Some n → window_of (windows_of nodes desktop) h ≡ Some n.win
one_found nodes desktop handles tree h key n m is same at =
    let both : m ≡ n = cc in
    ap (λ ws. window_of ws h) (windows_are nodes desktop handles tree)
    ∙ window_of-node (get nodes) desktop handles tree.forest key n h tree.nodes_of at (sym (ap (λ (u : Node). u.win.handle) both) ∙ same)

-- ---- lengths

size_topped : (h over' : ℕ) (t : Forest) (s : Spot h over' t) (v : Win) (inner : Forest) → length (order (with_top h v inner t)) ≡ length (order t) + suc (length (order inner))
size_topped h over' t s v inner =
    omega (arith, ap length s.is, ap length (s.topped v inner), length-append s.before (s.win ∷ (order s.kids ++ s.after)), length-append (order s.kids) s.after, length-append s.before (s.win ∷ ((order s.kids ++ v ∷ order inner) ++ s.after)), length-append (order s.kids ++ v ∷ order inner) s.after, length-append (order s.kids) (v ∷ order inner))

size_bottomed : (h over' : ℕ) (t : Forest) (s : Spot h over' t) (v : Win) (inner : Forest) → length (order (with_bottom h v inner t)) ≡ length (order t) + suc (length (order inner))
size_bottomed h over' t s v inner =
    omega (arith, ap length s.is, ap length (s.bottomed v inner), length-append s.before (s.win ∷ (order s.kids ++ s.after)), length-append (order s.kids) s.after, length-append s.before (s.win ∷ (((v ∷ order inner) ++ order s.kids) ++ s.after)), length-append ((v ∷ order inner) ++ order s.kids) s.after, length-append (v ∷ order inner) (order s.kids))

size_gone : (h over' : ℕ) (t : Forest) (s : Spot h over' t) → length (order t) ≡ length (order (without h t)) + suc (length (order s.kids))
size_gone h over' t s =
    omega (arith, ap length s.is, ap length s.gone, length-append s.before (s.win ∷ (order s.kids ++ s.after)), length-append (order s.kids) s.after, length-append s.before s.after)

-- ---- opening

alone : (old new : Slab Node) (key : ℕ) (n : Node) → old.slots ≡ [] → Updates old new key (Some n) → (k : ℕ) (m : Node) → get new k ≡ Some m → (k ≡ key) × (n ≡ m)
alone old new key n empty updates k m e =
    elim (cases_eq k key) [
      | inl same ↦ (same, let f = ap (get new) same ∙ updates.changed in cc)
      | inr other ↦ absurd (let f = sym (updates.others k other) ∙ e in let g : get old k ≡ None = ap (λ slots. get_or slots k None) empty in cc)
    ]

alone_shallow : (w : Win) → w.handle ≡ 1 → w.parent ≡ 0 → IsShallow (w ∷ []) w
unfolding has_ancestors
alone_shallow w handle parent =
    let off : eqb w.handle w.parent ≡ false = ne_eqb w.handle w.parent (λ same. omega (arith, handle, parent, same)) in
    rw off refl

pub IsTree-open : (old new : Slab Node) (key : ℕ) (n : Node) → old.slots ≡ [] → Updates old new key (Some n) → slab_len new ≡ slab_len old + 1 → 256 ≤ new.capacity → n.first ≡ None → n.next ≡ None → n.win.handle ≡ 1 → n.win.parent ≡ 0 → IsWindow n.win → IsDesktop n.win → Became new key 1 (n.win ∷ [])
IsTree-open old new key n empty updates len room first next handle parent sides desk =
    let only = alone old new key n empty updates in
    let none : slab_len old ≡ 0 = rw empty refl in
    let named : IsNamed 1 n = record { given = omega (arith, handle); parent = λ e. handle; parent_given = omega (arith, parent); window = sides; desktop = λ e. desk } in
    let S : Node → Type 0 = λ m. IsShallow (n.win ∷ []) m.win in
    let N : Node → Type 0 = IsNamed 1 in
    Became-from new key 1 (Top n.win Empty Empty) (n.win ∷ [])
    (record {
      linked = (key, n, refl, updates.changed, refl, first, next);
      children = (parent, tt, tt);
      single = λ x. elim (cases_Bool (eqb n.win.handle x)) [
        | inl e ↦ rw e (omega arith)
        | inr e ↦ rw e (omega arith)
      ];
      complete = λ k m e. let is = only k m e in omega (arith, here n.win m.win.handle (ap (λ (u : Node). u.win.handle) is.1));
      one_each = λ k j m o e f same. (only k m e).0 ∙ sym (only j o f).0;
      named = λ k m e. subst N (only k m e).1 named;
      root = λ m e. sym (ap (λ (u : Node). u.win.handle) (only key m e).1) ∙ handle;
      some = omega arith;
    })
    (λ k m e. subst S (only k m e).1 (alone_shallow n.win handle parent))
    (omega (arith, len, none))
    (omega (arith, len, none))
    room
    refl

-- ---- a new window

added_was : (old one : Slab Node) (key : ℕ) (n : Node) → Updates old one key (Some n) → (k : ℕ) (m : Node) → get one k ≡ Some m → ((n ≡ m) × (k ≡ key)) ⊎ ((get old k ≡ Some m) × (k ≢ key))
added_was old one key n updates k m e =
    elim (cases_eq k key) [
      | inl same ↦ inl (let f = ap (get one) same ∙ updates.changed in cc, same)
      | inr other ↦ inr (sym (updates.others k other) ∙ e, other)
    ]

added_kept : (old one : Slab Node) (key : ℕ) (n : Node) → get old key ≡ None → Updates old one key (Some n) → (k : ℕ) (m : Node) → get old k ≡ Some m → get one k ≡ Some m
added_kept old one key n vacant updates k m e = updates.others k (λ same. let f = sym (ap (get old) same) ∙ e in let bad : None ≡ Some m = sym vacant ∙ f in absurd cc) ∙ e

fresh : (found : ℕ → Option Node) (desktop handles : ℕ) (t : Forest) → IsTreeOf found desktop handles t → among (handles + 1) t ≡ 0
fresh found desktop handles t tree = among-unnamed found (handles + 1) (Some desktop) t (λ k n e same. omega (arith, (tree.named k n e).given, same)) tree.linked

occupied : (found : ℕ → Option Node) (desktop handles : ℕ) (t : Forest) → IsTreeOf found desktop handles t → found desktop ≡ None → ⊥
occupied found desktop handles t tree none = by_forest t tree.linked
  where
    by_forest : (u : Forest) → AreLinked found (Some desktop) u → ⊥
    by_forest Empty q = absurd cc
    by_forest (Top w kids below) q = let same : q.0 ≡ desktop = cc (q.2) in let e = sym (ap found same) ∙ q.3 in let bad : None ≡ Some q.1 = sym none ∙ e in absurd cc

pub IsSplit-added : (old one : Slab Node) (desktop handles : ℕ) (t : Forest) (key : ℕ) (v : Node) → IsTreeOf (get old) desktop handles t → get old key ≡ None → Updates old one key (Some v) → v.first ≡ None → v.win.handle ≡ handles + 1 → 0 < v.win.parent → v.win.parent ≤ handles → IsWindow v.win
    → IsSplit (get one) desktop (handles + 1) t key v Empty
IsSplit-added old one desktop handles t key v tree vacant updates first handle parent low sides =
    let kept = added_kept old one key v vacant updates in
    let none = fresh (get old) desktop handles t tree in
    let new_handle : (m : Node) (k : ℕ) → get old k ≡ Some m → m.win.handle ≢ v.win.handle = λ m k e same. omega (arith, (tree.named k m e).given, same, handle) in
    let root_kept : desktop ≢ key = λ same. occupied (get old) desktop handles t tree (ap (get old) same ∙ vacant) in
    let root_there : (n : Node) → get one desktop ≡ Some n → n.win.handle ≡ 1 = λ n e.
    elim (added_was old one key v updates desktop n e) [
      | inl is ↦ absurd (root_kept is.1)
      | inr was ↦ tree.root n was.0
    ] in
    record {
      linked = AreLinked-same (get old) (get one) (Some desktop) t (λ k n e some. kept k n e) tree.linked;
      children = tree.children;
      key_was = updates.changed;
      inner_linked = first;
      inner_children = tt;
      single = λ x. elim (cases_Bool (eqb v.win.handle x)) [
        | inl e ↦ let same = eqb-true v.win.handle x e in rw e (omega (arith, none, ap (λ h. among h t) (sym same ∙ handle)))
        | inr e ↦ rw e (omega (arith, tree.single x))
      ];
      complete = λ k n e. elim (added_was old one key v updates k n e) [
        | inl is ↦ omega (arith, here v.win n.win.handle (ap (λ (u : Node). u.win.handle) is.0))
        | inr was ↦ omega (arith, tree.complete k n was.0)
      ];
      one_each = λ k j n m e f same.
          elim (added_was old one key v updates k n e) [
            | inl is ↦ elim (added_was old one key v updates j m f) [
              | inl so ↦ is.1 ∙ sym so.1
              | inr was ↦ absurd (new_handle m j was.0 (sym same ∙ sym (ap (λ (u : Node). u.win.handle) is.0)))
            ]
            | inr was ↦ elim (added_was old one key v updates j m f) [
              | inl so ↦ absurd (new_handle n k was.0 (same ∙ sym (ap (λ (u : Node). u.win.handle) so.0)))
              | inr there ↦ tree.one_each k j n m was.0 there.0 same
            ]
          ];
      named = λ k n e. elim (added_was old one key v updates k n e) [
        | inl is ↦
            let N : Node → Type 0 = IsNamed (handles + 1) in
            let named : IsNamed (handles + 1) v = record { given = omega (arith, handle); parent = λ zero'. absurd (omega (arith, parent, zero')); parent_given = omega (arith, low); window = sides; desktop = λ one. absurd (omega (arith, one, handle, tree.some)) } in
            subst N is.0 named
        | inr was ↦ let a = tree.named k n was.0 in record { given = omega (arith, a.given); parent = a.parent; parent_given = omega (arith, a.parent_given); window = a.window; desktop = a.desktop }
      ];
      root = root_there;
      some = omega (arith, tree.some);
    }

pub has_ancestors-step : (n : ℕ) (ws : List Win) (w : Win) → has_ancestors (suc n) ws w ≡ true → unwrap_or (option_map (has_ancestors n ws) (window_of ws w.parent)) false ≡ true
unfolding has_ancestors
has_ancestors-step n ws w e = e

-- a window with eight ancestors has a parent with seven
pub deep_parent : (ws : List Win) (w : Win) → has_ancestors 8 ws w ≡ true → ((u : Win) → window_of ws w.parent ≡ Some u → has_ancestors 7 ws u ≡ true → ⊥) → ⊥
deep_parent ws w deep no' = by_parent (window_of ws w.parent) refl (has_ancestors-step 7 ws w deep)
  where
    by_parent : (o : Option Win) → window_of ws w.parent ≡ o → unwrap_or (option_map (has_ancestors 7 ws) (window_of ws w.parent)) false ≡ true → ⊥
    by_parent None is e = false≢true (rw is at e)
    by_parent (Some u) is e = no' u is (rw is at e)

-- the new window is at the eighth level at the deepest, if its parent isn't
shallow-created : (found new : ℕ → Option Node) (desktop handles : ℕ) (t u : Forest) → IsTreeOf found desktop handles t → IsTreeOf new desktop (handles + 1) u → (key parent : ℕ) (v p : Node)
    → ((k : ℕ) (n : Node) → new k ≡ Some n → (n.win ≡ v.win) ⊎ ((m : Node) × (found k ≡ Some m) × (m.win ≡ n.win)))
    → v.win.handle ≡ handles + 1 → found parent ≡ Some p → p.win.handle ≡ v.win.parent → has_ancestors 7 (order t) p.win ≡ false → ((k : ℕ) (n : Node) → found k ≡ Some n → IsShallow (order t) n.win)
    → (k : ℕ) (n : Node) → new k ≡ Some n → IsShallow (order u) n.win
shallow-created found new desktop handles t u tree later key parent v p was handle parent_was child above_it shallow k n e =
    let less : FindsLess handles (order u) (order t) = λ h w low is.
    let at = node_of new desktop (handles + 1) u h w later is in
    elim (was at.0 at.1 at.2) [
      | inl fresh' ↦ absurd (omega (arith, low, at.4, ap (λ (x : Win). x.handle) fresh', handle))
      | inr there ↦
          let parent_is : w.parent ≡ there.0.win.parent = ap (λ (x : Win). x.parent) (sym at.3 ∙ sym there.2) in (
            there.0.win,
            window_of-node found desktop handles t at.0 there.0 h tree there.1 (ap (λ (x : Win). x.handle) there.2 ∙ at.4),
            parent_is,
            omega (arith, parent_is, (tree.named at.0 there.0 there.1).parent_given),
          )
    ] in
    false_from_ne_true (has_ancestors 8 (order u) n.win) (λ deep.
    elim (was k n e) [
      | inl is ↦
          let named = tree.named parent p parent_was in
          let top : n.win.parent ≡ p.win.handle = ap (λ (x : Win). x.parent) is ∙ sym child in
          deep_parent (order u) n.win deep (λ w there high.
          let at = node_of new desktop (handles + 1) u n.win.parent w later there in
          let found_is = less n.win.parent w (omega (arith, top, named.given)) there in
          let p_is = window_of-node found desktop handles t parent p n.win.parent tree parent_was (sym top) in
          let both : found_is.0 ≡ p.win = let f = found_is.1 in cc in
          false≢true (sym above_it ∙ has_ancestors-less 7 handles (order u) (order t) w p.win less found_is.3 (found_is.2 ∙ ap (λ (x : Win). x.parent) both) high))
      | inr there ↦
          let same : n.win.parent ≡ there.0.win.parent = ap (λ (x : Win). x.parent) (sym there.2) in
          false≢true (sym (shallow k there.0 there.1) ∙ has_ancestors-less 8 handles (order u) (order t) n.win there.0.win less (omega (arith, same, (tree.named k there.0 there.1).parent_given)) same deep)
    ])

-- a tree with a window put on top of a parent's children
pub Became-created : (old one two : Slab Node) (desktop handles : ℕ) (tree : IsTree old desktop handles) (key parent : ℕ) (v p : Node) → get old key ≡ None → Updates old one key (Some v) → slab_len one ≡ slab_len old + 1 → one.capacity ≡ old.capacity → v.first ≡ None → v.win.handle ≡ handles + 1
    → get old parent ≡ Some p → p.win.handle ≡ v.win.parent → slab_len old < 256 → has_ancestors 7 (windows_of old desktop) p.win ≡ false → IsWindow v.win
    → ((q : Node) → get one parent ≡ Some q → get two parent ≡ Some (record q { first = Some key }))
    → ((q n : Node) → get one parent ≡ Some q → get one key ≡ Some n → get two key ≡ Some (record n { next = q.first }))
    → ((k : ℕ) → k ≢ parent → k ≢ key → get two k ≡ get one k) → slab_len two ≡ slab_len one → two.capacity ≡ one.capacity
    → Became two desktop (handles + 1) (on_top_of v.win.parent (v.win ∷ []) (windows_of old desktop))
Became-created old one two desktop handles tree key parent v p vacant updates len_one room_one first handle parent_was child few above_it sides at_parent at_key others len_two room_two =
    let t = tree.forest in
    let of = tree.nodes_of in
    let positive = (of.named parent p parent_was).window.handle in
    let split = IsSplit-added old one desktop handles t key v of vacant updates first handle (omega (arith, positive, child)) (omega (arith, child, (of.named parent p parent_was).given)) sides in
    let has : HasParent (get one) t v p parent = record { parent_was = added_kept old one key v vacant updates parent p parent_was; child = sym child; inside = of.complete parent p parent_was } in
    let put = IsPutOnTop-split (get one) (get two) desktop (handles + 1) t key v Empty p parent split has at_parent at_key others in
    let new = IsTreeOf-on_top (get one) (get two) desktop (handles + 1) t key v Empty p parent split has put in
    let s = split_spot (get one) desktop (handles + 1) t key v Empty p parent split has in
    let size = size_topped p.win.handle 0 t s v.win Empty in
    Became-from two desktop (handles + 1) (with_top p.win.handle v.win Empty t) (on_top_of v.win.parent (v.win ∷ []) (windows_of old desktop)) new
    (shallow-created (get old) (get two) desktop handles t (with_top p.win.handle v.win Empty t) of new key parent v p
    (λ k n e. let a = on_top_keeps (get one) (get two) parent key p v put k n e in
    elim (added_was old one key v updates k a.0 a.1) [
      | inl is ↦ inl (sym a.2 ∙ ap (λ (u : Node). u.win) (sym is.0))
      | inr was ↦ inr (a.0, was.0, a.2)
    ])
    handle parent_was child (ap (λ us. has_ancestors 7 us p.win) (sym (windows_are old desktop handles tree)) ∙ above_it) tree.shallow)
    (omega (arith, size, tree.len, len_one, len_two))
    (omega (arith, len_one, len_two, few))
    (omega (arith, tree.room, room_one, room_two))
    (sym (
    ap (on_top_of v.win.parent (v.win ∷ [])) (windows_are old desktop handles tree)
    ∙ ap (λ h. on_top_of h (v.win ∷ []) (order t)) (sym child)
    ∙ on_top_of-is p.win.handle 0 t s v.win Empty of.single
    ))

-- ---- a window moved among its siblings

parent_of-node : (found : ℕ → Option Node) (desktop handles : ℕ) (t : Forest) (key : ℕ) (v : Node) → IsTreeOf found desktop handles t → found key ≡ Some v → parent_of v.win.handle (order t) ≡ v.win.parent
unfolding parent_of
parent_of-node found desktop handles t key v tree at = rw (window_of-node found desktop handles t key v v.win.handle tree at refl) refl

-- each window but the desktop has a parent
pub parent_found : (found : ℕ → Option Node) (desktop handles : ℕ) (t : Forest) (key : ℕ) (v : Node) → IsTreeOf found desktop handles t → found key ≡ Some v → v.win.handle ≢ 1 → ((k : ℕ) (n : Node) → found k ≡ Some n → n.win.handle ≢ v.win.parent) → ⊥
parent_found found desktop handles t key v tree at other none =
    let s = spot_of found desktop handles t key v tree at in
    let node = spot_node found desktop handles t key v tree at s in
    let same : s.win.parent ≡ v.win.parent = sym (ap (λ (u : Win). u.parent) node.0) in
    elim s.parent [
      | inl top ↦ other ((tree.named key v at).parent (sym same ∙ top))
      | inr n ↦ omega (arith, n, ap (λ h. number_of h s.before) same, parts_counted v.win.handle 0 t s v.win.parent, among-unnamed found v.win.parent (Some desktop) t none tree.linked)
    ]

pub Became-raised : (old one two : Slab Node) (desktop handles : ℕ) (tree : IsTree old desktop handles) (key parent : ℕ) (v p : Node) → get old key ≡ Some v → v.win.handle ≢ 1 → get old parent ≡ Some p → p.win.handle ≡ v.win.parent
    → ((k : ℕ) → get one k ≡ option_map (skipping key v.next) (get old k)) → slab_len one ≡ slab_len old → one.capacity ≡ old.capacity
    → ((q : Node) → get one parent ≡ Some q → get two parent ≡ Some (record q { first = Some key }))
    → ((q n : Node) → get one parent ≡ Some q → get one key ≡ Some n → get two key ≡ Some (record n { next = q.first }))
    → ((k : ℕ) → k ≢ parent → k ≢ key → get two k ≡ get one k) → slab_len two ≡ slab_len one → two.capacity ≡ one.capacity
    → Became two desktop handles (raised v.win.handle (windows_of old desktop)) × ((x : ℕ) → window_of (windows_of two desktop) x ≡ window_of (windows_of old desktop) x)
unfolding raised Became-from
Became-raised old one two desktop handles tree key parent v p at other parent_was child change len_one room_one at_parent at_key others len_two room_two =
    let t = tree.forest in
    let of = tree.nodes_of in
    let h = v.win.handle in
    let s = spot_of (get old) desktop handles t key v of at in
    let node = spot_node (get old) desktop handles t key v of at s in
    let rest = without h t in
    let v1 = skipping key v.next v in
    let p1 = skipping key v.next p in
    let split = IsSplit-detached (get old) (get one) desktop handles t key v of at other change in
    let has = HasParent-detached (get old) (get one) desktop handles t key v parent p of at other parent_was child change in
    let put = IsPutOnTop-split (get one) (get two) desktop handles rest key v1 s.kids p1 parent split has at_parent at_key others in
    let new = IsTreeOf-on_top (get one) (get two) desktop handles rest key v1 s.kids p1 parent split has put in
    let s1 = split_spot (get one) desktop handles rest key v1 s.kids p1 parent split has in
    let sizes = size_topped p.win.handle 0 rest s1 v.win s.kids in
    let whole = size_gone h 0 t s in
    let became = Became-from two desktop handles (with_top p.win.handle v.win s.kids rest) (raised h (windows_of old desktop)) new
    (shallow-kept (get old) (get two) desktop handles t (with_top p.win.handle v.win s.kids rest) of new
    (KeepsParents-from (get old) (get two) (Keeps-twice (get old) (get one) (get two) (skipping_keeps (get old) (get one) key v.next change) (on_top_keeps (get one) (get two) parent key p1 v1 put))) tree.shallow)
    (omega (arith, sizes, whole, tree.len, len_one, len_two))
    (omega (arith, len_one, len_two, tree.few))
    (omega (arith, tree.room, room_one, room_two))
    (sym (
    ap (raised h) (windows_are old desktop handles tree)
    ∙ ap (λ q. on_top_of q (family_of h (order t)) (without_family h (order t))) (parent_of-node (get old) desktop handles t key v of at ∙ sym child)
    ∙ ap (λ f. on_top_of p.win.handle f (without_family h (order t))) (family_of-is h 0 t s of.single ∙ ap (λ w. w ∷ order s.kids) (sym node.0))
    ∙ ap (on_top_of p.win.handle (v.win ∷ order s.kids)) (without_family-is h 0 t s of.single)
    ∙ on_top_of-is p.win.handle 0 rest s1 v.win s.kids (λ x. omega (arith, split.single x))
    )) in (
      became,
      λ x. ap (λ ws. window_of ws x) (windows_are two desktop handles became.tree)
          ∙ finds_same (get old) (get two) desktop handles t (with_top p.win.handle v.win s.kids rest) of new
          (Keeps-twice (get old) (get one) (get two) (skipping_keeps (get old) (get one) key v.next change) (on_top_keeps (get one) (get two) parent key p1 v1 put))
          (Keeps-twice (get two) (get one) (get old) (on_top_keeps_all (get one) (get two) parent key p1 v1 put) (skipping_keeps_all (get old) (get one) key v.next change))
          x
          ∙ sym (ap (λ ws. window_of ws x) (windows_are old desktop handles tree)),
    )

pub Became-lowered : (old one two : Slab Node) (desktop handles : ℕ) (tree : IsTree old desktop handles) (key parent : ℕ) (v p : Node) → get old key ≡ Some v → v.win.handle ≢ 1 → get old parent ≡ Some p → p.win.handle ≡ v.win.parent
    → ((k : ℕ) → get one k ≡ option_map (skipping key v.next) (get old k)) → slab_len one ≡ slab_len old → one.capacity ≡ old.capacity
    → ((q : Node) → get one parent ≡ Some q → get two parent ≡ Some (record (above p.win.handle key q) { first = or_to key q.first }))
    → ((n : Node) → get one key ≡ Some n → get two key ≡ Some (record n { next = None }))
    → ((k : ℕ) → k ≢ parent → k ≢ key → get two k ≡ option_map (above p.win.handle key) (get one k)) → slab_len two ≡ slab_len one → two.capacity ≡ one.capacity
    → Became two desktop handles (lowered v.win.handle (windows_of old desktop)) × ((x : ℕ) → window_of (windows_of two desktop) x ≡ window_of (windows_of old desktop) x)
unfolding lowered Became-from
Became-lowered old one two desktop handles tree key parent v p at other parent_was child change len_one room_one at_parent at_key others len_two room_two =
    let t = tree.forest in
    let of = tree.nodes_of in
    let h = v.win.handle in
    let s = spot_of (get old) desktop handles t key v of at in
    let node = spot_node (get old) desktop handles t key v of at s in
    let rest = without h t in
    let v1 = skipping key v.next v in
    let p1 = skipping key v.next p in
    let split = IsSplit-detached (get old) (get one) desktop handles t key v of at other change in
    let has = HasParent-detached (get old) (get one) desktop handles t key v parent p of at other parent_was child change in
    let put = IsPutBelow-split (get one) (get two) desktop handles rest key v1 s.kids p1 parent split has at_parent at_key others in
    let new = IsTreeOf-at_bottom (get one) (get two) desktop handles rest key v1 s.kids p1 parent split has put in
    let s1 = split_spot (get one) desktop handles rest key v1 s.kids p1 parent split has in
    let sizes = size_bottomed p.win.handle 0 rest s1 v.win s.kids in
    let whole = size_gone h 0 t s in
    let became = Became-from two desktop handles (with_bottom p.win.handle v.win s.kids rest) (lowered h (windows_of old desktop)) new
    (shallow-kept (get old) (get two) desktop handles t (with_bottom p.win.handle v.win s.kids rest) of new
    (KeepsParents-from (get old) (get two) (Keeps-twice (get old) (get one) (get two) (skipping_keeps (get old) (get one) key v.next change) (below_keeps (get one) (get two) parent key p1 v1 put))) tree.shallow)
    (omega (arith, sizes, whole, tree.len, len_one, len_two))
    (omega (arith, len_one, len_two, tree.few))
    (omega (arith, tree.room, room_one, room_two))
    (sym (
    ap (lowered h) (windows_are old desktop handles tree)
    ∙ ap (λ q. right_after q (family_of h (order t)) (without_family h (order t))) (parent_of-node (get old) desktop handles t key v of at ∙ sym child)
    ∙ ap (λ f. right_after p.win.handle f (without_family h (order t))) (family_of-is h 0 t s of.single ∙ ap (λ w. w ∷ order s.kids) (sym node.0))
    ∙ ap (right_after p.win.handle (v.win ∷ order s.kids)) (without_family-is h 0 t s of.single)
    ∙ right_after-is p.win.handle 0 rest s1 v.win s.kids (λ x. omega (arith, split.single x))
    )) in (
      became,
      λ x. ap (λ ws. window_of ws x) (windows_are two desktop handles became.tree)
          ∙ finds_same (get old) (get two) desktop handles t (with_bottom p.win.handle v.win s.kids rest) of new
          (Keeps-twice (get old) (get one) (get two) (skipping_keeps (get old) (get one) key v.next change) (below_keeps (get one) (get two) parent key p1 v1 put))
          (Keeps-twice (get two) (get one) (get old) (below_keeps_all (get one) (get two) parent key p1 v1 put) (skipping_keeps_all (get old) (get one) key v.next change))
          x
          ∙ sym (ap (λ ws. window_of ws x) (windows_are old desktop handles tree)),
    )

-- ---- a window deleted

still_there : (one two : Slab Node) (key : ℕ) (v : Node) → get one key ≡ Some v → Updates one two key None → (k : ℕ) (m : Node) → get one k ≡ Some m → m.win.handle ≢ v.win.handle → get two k ≡ Some m
still_there one two key v at updates k m e other = updates.others k (λ same. other (ap (λ (u : Node). u.win.handle) (same_node (get one) k key m v e at same))) ∙ e

was_there : (one two : Slab Node) (key : ℕ) (k : ℕ) (m : Node) → Updates one two key None → get two k ≡ Some m → (get one k ≡ Some m) × (k ≢ key)
was_there one two key k m updates e =
    let off : k ≢ key = λ same. let f = ap (get two) same ∙ updates.changed in let bad : None ≡ Some m = sym f ∙ e in absurd cc in
    (sym (updates.others k off) ∙ e, off)

pub IsTreeOf-deleted : (one two three : Slab Node) (desktop handles : ℕ) (t : Forest) (key : ℕ) (v : Node) (inner : Forest) (steps : ℕ) → IsSplit (get one) desktop handles t key v inner → Updates one two key None → Frees two three v.first steps → length (order inner) ≤ steps
    → IsTreeOf (get three) desktop handles t
IsTreeOf-deleted one two three desktop handles t key v inner steps split updates frees few =
    let itself = here v.win v.win.handle refl in
    let apart : (u : Forest) (m : Node) → among v.win.handle u ≡ 0 → 1 ≤ among m.win.handle u → m.win.handle ≢ v.win.handle =
    λ u m none some same. omega (arith, ap (λ h. among h u) same, none, some) in
    let linked_two = AreLinked-same (get one) (get two) v.first inner (λ k m e some. still_there one two key v split.key_was updates k m e (apart inner m (omega (arith, split.single v.win.handle, itself)) some)) split.inner_linked in
    let each_two = IsOneEach-less (get one) (get two) (λ k m e. (was_there one two key k m updates e).0) split.one_each in
    let freed = frees inner linked_two each_two (λ x. omega (arith, split.single x)) few in
    let in_two : (k : ℕ) (m : Node) → get three k ≡ Some m → get two k ≡ Some m = λ k m e. left_was (order inner) (get two k) m (sym (freed k) ∙ e) in
    let outside : (k : ℕ) (m : Node) → get three k ≡ Some m → has_handle m.win.handle (order inner) ≡ false = λ k m e. left_stays (order inner) (get two k) m (sym (freed k) ∙ e) in
    let in_one : (k : ℕ) (m : Node) → get three k ≡ Some m → get one k ≡ Some m = λ k m e. (was_there one two key k m updates (in_two k m e)).0 in
    record {
      linked = AreLinked-same (get one) (get three) (Some desktop) t
          (λ k m e some. freed k ∙ left_kept (order inner) (get two k) m
          (still_there one two key v split.key_was updates k m e (apart t m (omega (arith, split.single v.win.handle, itself)) some))
          (has_handle-absent m.win.handle inner (omega (arith, split.single m.win.handle, some))))
          split.linked;
      children = split.children;
      single = λ x. omega (arith, split.single x);
      complete = λ k m e.
          let off = (was_there one two key k m updates (in_two k m e)).1 in
          let not_v : eqb v.win.handle m.win.handle ≡ false = ne_eqb v.win.handle m.win.handle (λ same. off (split.one_each k key m v (in_one k m e) split.key_was (sym same))) in
          let zero' : one_if (eqb v.win.handle m.win.handle) ≡ 0 = rw not_v refl in
          let none : among m.win.handle inner ≡ 0 = elim (cases_lt 0 (among m.win.handle inner)) [
            | inl some ↦ absurd (false≢true (sym (outside k m e) ∙ has_handle-some m.win.handle (order inner) (omega (arith, some, number_of-order m.win.handle inner))))
            | inr zero'' ↦ omega (arith, zero'')
          ] in
          omega (arith, split.complete k m (in_one k m e), zero', none);
      one_each = IsOneEach-less (get one) (get three) in_one split.one_each;
      named = λ k m e. split.named k m (in_one k m e);
      root = λ m e. split.root m (in_one desktop m e);
      some = split.some;
    }

pub Became-deleted : (old one two three : Slab Node) (desktop handles : ℕ) (tree : IsTree old desktop handles) (key steps : ℕ) (v u : Node) → get old key ≡ Some v → v.win.handle ≢ 1
    → ((k : ℕ) → get one k ≡ option_map (skipping key v.next) (get old k)) → slab_len one ≡ slab_len old → one.capacity ≡ old.capacity
    → get one key ≡ Some u → Updates one two key None → slab_len two + 1 ≡ slab_len one → two.capacity ≡ one.capacity
    → Frees two three u.first steps → FreesSo two three u.first steps → steps ≡ slab_len two → three.capacity ≡ two.capacity
    → Became three desktop handles (without_family v.win.handle (windows_of old desktop))
Became-deleted old one two three desktop handles tree key steps v u at other change len_one room_one taken updates len_two room_two frees frees_so all room_three =
    let t = tree.forest in
    let of = tree.nodes_of in
    let h = v.win.handle in
    let s = spot_of (get old) desktop handles t key v of at in
    let rest = without h t in
    let v1 = skipping key v.next v in
    let split = IsSplit-detached (get old) (get one) desktop handles t key v of at other change in
    let same : u ≡ v1 = let e = split.key_was in cc in
    let F : Node → Type 0 = λ m. Frees two three m.first steps in
    let G : Node → Type 0 = λ m. FreesSo two three m.first steps in
    let whole = size_gone h 0 t s in
    let few : length (order s.kids) ≤ steps = omega (arith, all, whole, tree.len, len_one, len_two) in
    let itself = here v.win v.win.handle refl in
    let linked_two = AreLinked-same (get one) (get two) v1.first s.kids
    (λ k m e some. still_there one two key v1 split.key_was updates k m e (λ alike. omega (arith, ap (λ x. among x s.kids) alike, split.single v.win.handle, itself, some)))
    split.inner_linked in
    let each_two = IsOneEach-less (get one) (get two) (λ k m e. (was_there one two key k m updates e).0) split.one_each in
    let freed = subst F same frees s.kids linked_two each_two (λ x. omega (arith, split.single x)) few in
    let removed = subst G same frees_so s.kids linked_two each_two (λ x. omega (arith, split.single x)) few in
    let new = IsTreeOf-deleted one two three desktop handles rest key v1 s.kids steps split updates (subst F same frees) few in
    Became-from three desktop handles rest (without_family h (windows_of old desktop)) new
    (shallow-kept (get old) (get three) desktop handles t rest of new
    (KeepsParents-from (get old) (get three) (Keeps-twice (get old) (get one) (get three) (skipping_keeps (get old) (get one) key v.next change)
    (λ k m e. (m, (was_there one two key k m updates (left_was (order s.kids) (get two k) m (sym (freed k) ∙ e))).0, refl)))) tree.shallow)
    (omega (arith, removed, whole, tree.len, len_one, len_two))
    (omega (arith, removed, len_one, len_two, tree.few))
    (omega (arith, tree.room, room_one, room_two, room_three))
    (sym (ap (without_family h) (windows_are old desktop handles tree) ∙ without_family-is h 0 t s of.single))

-- ---- a window changed

abbrev pub mapped : ℕ → (Win → Win) → Forest → Forest
mapped h f Empty = Empty
mapped h f (Top w kids below) = Top (cond (eqb w.handle h) (f w) w) (mapped h f kids) (mapped h f below)

order-mapped : (h : ℕ) (f : Win → Win) (t : Forest) → order (mapped h f t) ≡ window_changed h f (order t)
unfolding window_changed
order-mapped h f Empty = refl
order-mapped h f (Top w kids below) =
    rw (order-mapped h f below, order-mapped h f kids) (sym (map-append (λ (u : Win). cond (eqb u.handle h) (f u) u) (order below) (w ∷ order kids)))

length-changed : (h : ℕ) (f : Win → Win) (ws : List Win) → length (window_changed h f ws) ≡ length ws
unfolding window_changed
length-changed h f [] = refl
length-changed h f (w ∷ ws) = omega (arith, length-changed h f ws)

-- a node whose window is changed
pub record IsRewritten (found new : ℕ → Option Node) (key : ℕ) (v : Node) (f : Win → Win) : Type 0 where
  pub was : found key ≡ Some v
  pub is : new key ≡ Some (record v { win = f v.win })
  pub others : (k : ℕ) → k ≢ key → new k ≡ found k
  pub handle : (f v.win).handle ≡ v.win.handle
  pub parent : (f v.win).parent ≡ v.win.parent
  pub window : IsWindow (f v.win)
  pub desktop : (f v.win).handle ≡ 1 → IsDesktop (f v.win)

-- the window of the handle is that of the node
window_at : (found new : ℕ → Option Node) (key : ℕ) (v : Node) (f : Win → Win) (link : Option ℕ) (w : Win) (kids below : Forest) → IsRewritten found new key v f → IsOneEach found → w.handle ≡ v.win.handle → (q : AreLinked found link (Top w kids below)) → (q.0 ≡ key) × (q.1 ≡ v) × (w ≡ v.win)
window_at found new key v f link w kids below rewritten one same q =
    let same_key = one q.0 key q.1 v q.3 rewritten.was (ap (λ (u : Win). u.handle) q.4 ∙ same) in
    let node = same_node found q.0 key q.1 v q.3 rewritten.was same_key in
    (same_key, node, sym q.4 ∙ ap (λ (m : Node). m.win) node)

AreLinked-mapped : (found new : ℕ → Option Node) (key : ℕ) (v : Node) (f : Win → Win) (link : Option ℕ) (t : Forest) → IsRewritten found new key v f → IsOneEach found → AreLinked found link t → AreLinked new link (mapped v.win.handle f t)
AreLinked-mapped found new key v f link Empty rewritten one q = q
AreLinked-mapped found new key v f link (Top w kids below) rewritten one q =
    elim (cases_Bool (eqb w.handle v.win.handle)) [
      | inl e ↦
          let at = window_at found new key v f link w kids below rewritten one (eqb-true w.handle v.win.handle e) q in
          let K : Node → Type 0 = λ m. AreLinked new m.first (mapped v.win.handle f kids) in
          let B : Node → Type 0 = λ m. AreLinked new m.next (mapped v.win.handle f below) in
          rw e (
            q.0,
            record v { win = f v.win },
            q.2,
            ap new at.0 ∙ rewritten.is,
            ap f (sym at.2),
            subst K at.1 (AreLinked-mapped found new key v f q.1.first kids rewritten one q.5),
            subst B at.1 (AreLinked-mapped found new key v f q.1.next below rewritten one q.6),
          )
      | inr e ↦
          let off : q.0 ≢ key = λ same. differ w v.win.handle e (sym (ap (λ (u : Win). u.handle) q.4) ∙ ap (λ (m : Node). m.win.handle) (same_node found q.0 key q.1 v q.3 rewritten.was same)) in
          rw e (
            q.0,
            q.1,
            q.2,
            rewritten.others q.0 off ∙ q.3,
            q.4,
            AreLinked-mapped found new key v f q.1.first kids rewritten one q.5,
            AreLinked-mapped found new key v f q.1.next below rewritten one q.6,
          )
    ]

AreChildren-mapped : (found new : ℕ → Option Node) (key : ℕ) (v : Node) (f : Win → Win) (link : Option ℕ) (over' : ℕ) (t : Forest) → IsRewritten found new key v f → IsOneEach found → AreLinked found link t → AreChildren over' t → AreChildren over' (mapped v.win.handle f t)
AreChildren-mapped found new key v f link over' Empty rewritten one q children = tt
AreChildren-mapped found new key v f link over' (Top w kids below) rewritten one q children =
    let later = AreChildren-mapped found new key v f q.1.next over' below rewritten one q.6 children.2 in
    let inner = AreChildren-mapped found new key v f q.1.first w.handle kids rewritten one q.5 children.1 in
    elim (cases_Bool (eqb w.handle v.win.handle)) [
      | inl e ↦
          let at = window_at found new key v f link w kids below rewritten one (eqb-true w.handle v.win.handle e) q in
          let C : ℕ → Type 0 = λ h. AreChildren h (mapped v.win.handle f kids) in
          let handle : w.handle ≡ (f w).handle = ap (λ (u : Win). u.handle) at.2 ∙ sym rewritten.handle ∙ ap (λ (u : Win). (f u).handle) (sym at.2) in
          rw e (ap (λ (u : Win). (f u).parent) at.2 ∙ rewritten.parent ∙ ap (λ (u : Win). u.parent) (sym at.2) ∙ children.0, subst C handle inner, later)
      | inr e ↦ rw e (children.0, inner, later)
    ]

among-mapped : (found new : ℕ → Option Node) (key : ℕ) (v : Node) (f : Win → Win) (link : Option ℕ) (x : ℕ) (t : Forest) → IsRewritten found new key v f → IsOneEach found → AreLinked found link t → among x (mapped v.win.handle f t) ≡ among x t
among-mapped found new key v f link x Empty rewritten one q = refl
among-mapped found new key v f link x (Top w kids below) rewritten one q =
    let later = among-mapped found new key v f q.1.next x below rewritten one q.6 in
    let inner = among-mapped found new key v f q.1.first x kids rewritten one q.5 in
    elim (cases_Bool (eqb w.handle v.win.handle)) [
      | inl e ↦
          let at = window_at found new key v f link w kids below rewritten one (eqb-true w.handle v.win.handle e) q in
          let handle : (f w).handle ≡ w.handle = ap (λ (u : Win). (f u).handle) at.2 ∙ rewritten.handle ∙ ap (λ (u : Win). u.handle) (sym at.2) in
          rw (e, handle, later, inner) refl
      | inr e ↦ rw (e, later, inner) refl
    ]

rewritten_was : (found new : ℕ → Option Node) (key : ℕ) (v : Node) (f : Win → Win) → IsRewritten found new key v f → (k : ℕ) (n : Node) → new k ≡ Some n → (m : Node) × (found k ≡ Some m) × (m.win.handle ≡ n.win.handle) × (m.win.parent ≡ n.win.parent)
rewritten_was found new key v f rewritten k n e =
    elim (cases_eq k key) [
      | inl same ↦
          let both = ap new same ∙ rewritten.is in
          let is : record v { win = f v.win } ≡ n = cc in
          (v, ap found same ∙ rewritten.was, sym rewritten.handle ∙ ap (λ (m : Node). m.win.handle) is, sym rewritten.parent ∙ ap (λ (m : Node). m.win.parent) is)
      | inr other ↦ (n, sym (rewritten.others k other) ∙ e, refl, refl)
    ]

-- what a node's window has of its own
rewritten_own : (found new : ℕ → Option Node) (desktop handles : ℕ) (t : Forest) (key : ℕ) (v : Node) (f : Win → Win) → IsTreeOf found desktop handles t → IsRewritten found new key v f → (k : ℕ) (n : Node) → new k ≡ Some n → IsWindow n.win × (n.win.handle ≡ 1 → IsDesktop n.win)
rewritten_own found new desktop handles t key v f tree rewritten k n e =
    elim (cases_eq k key) [
      | inl same ↦
          let both = ap new same ∙ rewritten.is in
          let is : record v { win = f v.win } ≡ n = cc in
          let P : Node → Type 0 = λ m. IsWindow m.win × (m.win.handle ≡ 1 → IsDesktop m.win) in
          subst P is (rewritten.window, rewritten.desktop)
      | inr other ↦ let named = tree.named k n (sym (rewritten.others k other) ∙ e) in (named.window, named.desktop)
    ]

pub IsTreeOf-changed : (found new : ℕ → Option Node) (desktop handles : ℕ) (t : Forest) (key : ℕ) (v : Node) (f : Win → Win) → IsTreeOf found desktop handles t → IsRewritten found new key v f → IsTreeOf new desktop handles (mapped v.win.handle f t)
IsTreeOf-changed found new desktop handles t key v f tree rewritten =
    let was = rewritten_was found new key v f rewritten in
    let count = λ (x : ℕ). among-mapped found new key v f (Some desktop) x t rewritten tree.one_each tree.linked in
    record {
      linked = AreLinked-mapped found new key v f (Some desktop) t rewritten tree.one_each tree.linked;
      children = AreChildren-mapped found new key v f (Some desktop) 0 t rewritten tree.one_each tree.linked tree.children;
      single = λ x. omega (arith, count x, tree.single x);
      complete = λ k n e. let a = was k n e in omega (arith, tree.complete k a.0 a.1, count n.win.handle, ap (λ x. among x t) a.2);
      one_each = λ k j n m e g same. let a = was k n e in let b = was j m g in tree.one_each k j a.0 b.0 a.1 b.1 (a.2 ∙ same ∙ sym b.2);
      named = λ k n e. let a = was k n e in let named = tree.named k a.0 a.1 in let own = rewritten_own found new desktop handles t key v f tree rewritten k n e in record {
        given = omega (arith, named.given, a.2);
        parent = λ none. sym a.2 ∙ named.parent (a.3 ∙ none);
        parent_given = omega (arith, named.parent_given, a.3);
        window = own.0;
        desktop = own.1;
      };
      root = λ n e. let a = was desktop n e in sym a.2 ∙ tree.root a.0 a.1;
      some = tree.some;
    }

pub Became-changed : (old new : Slab Node) (desktop handles : ℕ) (tree : IsTree old desktop handles) (key : ℕ) (v : Node) (f : Win → Win) → get old key ≡ Some v → Updates old new key (Some (record v { win = f v.win })) → (f v.win).handle ≡ v.win.handle → (f v.win).parent ≡ v.win.parent → IsWindow (f v.win) → ((f v.win).handle ≡ 1 → IsDesktop (f v.win)) → slab_len new ≡ slab_len old → new.capacity ≡ old.capacity
    → Became new desktop handles (window_changed v.win.handle f (windows_of old desktop))
Became-changed old new desktop handles tree key v f at updates handle parent sides desk len room =
    let rewritten : IsRewritten (get old) (get new) key v f = record { was = at; is = updates.changed; others = updates.others; handle = handle; parent = parent; window = sides; desktop = desk } in
    let of = IsTreeOf-changed (get old) (get new) desktop handles tree.forest key v f tree.nodes_of rewritten in
    let size = ap length (order-mapped v.win.handle f tree.forest) ∙ length-changed v.win.handle f (order tree.forest) in
    Became-from new desktop handles (mapped v.win.handle f tree.forest) (window_changed v.win.handle f (windows_of old desktop)) of
    (shallow-kept (get old) (get new) desktop handles tree.forest (mapped v.win.handle f tree.forest) tree.nodes_of of (rewritten_was (get old) (get new) key v f rewritten) tree.shallow)
    (omega (arith, size, len, tree.len))
    (omega (arith, len, tree.few))
    (omega (arith, room, tree.room))
    (order-mapped v.win.handle f tree.forest ∙ sym (ap (window_changed v.win.handle f) (windows_are old desktop handles tree)))

-- ---- as callers see it

pub Became-for : (new : Slab Node) (desktop handles : ℕ) (xs ys : List Win) → xs ≡ ys → Became new desktop handles xs → Became new desktop handles ys
Became-for new desktop handles xs ys e became = record { tree = became.tree; windows = became.windows ∙ e }

pub scene_is : (a b : List Win) (m n : ℕ) → a ≡ b → m ≡ n → ◌≡◌ {A = Scene} (record { windows = a; handles = m }) (record { windows = b; handles = n })
scene_is a b m n e f = rw (e, f) refl

-- a live window's handle is found, and its node has the window
pub live_node : (nodes : Slab Node) (desktop handles : ℕ) (tree : IsTree nodes desktop handles) (ws : List Win) (win : Win) (key : ℕ) (n : Node) → windows_of nodes desktop ≡ ws → window_of ws win.handle ≡ Some win → get nodes key ≡ Some n → n.win.handle ≡ win.handle → n.win ≡ win
live_node nodes desktop handles tree ws win key n are live at same =
    let found = one_found nodes desktop handles tree win.handle key n n at same at in
    let there = ap (λ (us : List Win). window_of us win.handle) are in
    cc

pub live_found : (nodes : Slab Node) (desktop handles : ℕ) (tree : IsTree nodes desktop handles) (ws : List Win) (h : ℕ) → windows_of nodes desktop ≡ ws → is_some (window_of ws h) ≡ true → ((k : ℕ) (n : Node) → get nodes k ≡ Some n → n.win.handle ≢ h) → ⊥
live_found nodes desktop handles tree ws h are live none =
    let found = none_found nodes desktop handles tree h none in
    let there = ap (λ (us : List Win). is_some (window_of us h)) are in
    let absent : is_some (window_of (windows_of nodes desktop) h) ≡ false = ap is_some found in
    false≢true (sym absent ∙ there ∙ live)

pub window_of-handle : (ws : List Win) (h : ℕ) (w : Win) → window_of ws h ≡ Some w → w.handle ≡ h
window_of-handle [] h w e = absurd cc
window_of-handle (u ∷ ws) h w e =
    elim (cases_Bool (eqb u.handle h)) [
      | inl at ↦ let is : Some u ≡ Some w = rw at at e in let same : u ≡ w = cc in ap (λ (v : Win). v.handle) (sym same) ∙ eqb-true u.handle h at
      | inr off ↦ window_of-handle ws h w (rw off at e)
    ]

-- what is known of a window that is about to be moved
pub record IsMoving (nodes : Slab Node) (desktop : ℕ) (ws : List Win) (win : Win) (key : ℕ) (v n : Node) : Type 0 where
  pub are : windows_of nodes desktop ≡ ws
  pub live : window_of ws win.handle ≡ Some win
  pub other : win.handle ≢ 1
  pub at : get nodes key ≡ Some v
  pub found : get nodes key ≡ Some n
  pub same : n.win.handle ≡ win.handle

moving_is : (nodes : Slab Node) (desktop handles : ℕ) (tree : IsTree nodes desktop handles) (ws : List Win) (win : Win) (key : ℕ) (v n : Node) → IsMoving nodes desktop ws win key v n → v.win ≡ win
moving_is nodes desktop handles tree ws win key v n m =
    let both : n ≡ v = let a = m.at in let b = m.found in cc in
    live_node nodes desktop handles tree ws win key v m.are m.live m.at (ap (λ (u : Node). u.win.handle) (sym both) ∙ m.same)

moving_other : (nodes : Slab Node) (desktop handles : ℕ) (tree : IsTree nodes desktop handles) (ws : List Win) (win : Win) (key : ℕ) (v n : Node) → IsMoving nodes desktop ws win key v n → v.win.handle ≢ 1
moving_other nodes desktop handles tree ws win key v n m e = m.other (ap (λ (w : Win). w.handle) (sym (moving_is nodes desktop handles tree ws win key v n m)) ∙ e)

pub moving_parent : (nodes : Slab Node) (desktop handles : ℕ) (tree : IsTree nodes desktop handles) (ws : List Win) (win : Win) (key : ℕ) (n : Node) → windows_of nodes desktop ≡ ws → window_of ws win.handle ≡ Some win → win.handle ≢ 1 → get nodes key ≡ Some n → n.win.handle ≡ win.handle
    → ((k : ℕ) (m : Node) → get nodes k ≡ Some m → m.win.handle ≢ win.parent) → ⊥
moving_parent nodes desktop handles tree ws win key n are live other at same none =
    let is = live_node nodes desktop handles tree ws win key n are live at same in
    parent_found (get nodes) desktop handles tree.forest key n tree.nodes_of at (λ e. other (sym same ∙ e)) (λ k m e so. none k m e (so ∙ ap (λ (w : Win). w.parent) is))

pub moving_differ : (nodes one : Slab Node) (desktop handles : ℕ) (tree : IsTree nodes desktop handles) (ws : List Win) (win : Win) (key parent : ℕ) (v n p : Node) → IsMoving nodes desktop ws win key v n → get nodes parent ≡ Some p → p.win.handle ≡ win.parent
    → ((k : ℕ) → get one k ≡ option_map (skipping key v.next) (get nodes k)) → parent ≢ key
moving_differ nodes one desktop handles tree ws win key parent v n p m parent_was child change same =
    let is = moving_is nodes desktop handles tree ws win key v n m in
    let of = tree.nodes_of in
    let other = moving_other nodes desktop handles tree ws win key v n m in
    let s = spot_of (get nodes) desktop handles tree.forest key v of m.at in
    let split = IsSplit-detached (get nodes) (get one) desktop handles tree.forest key v of m.at other change in
    let has = HasParent-detached (get nodes) (get one) desktop handles tree.forest key v parent p of m.at other parent_was (child ∙ ap (λ (w : Win). w.parent) (sym is)) change in
    let alike = same_node (get nodes) key parent v p m.at parent_was (sym same) in
    split_differ (get one) desktop handles (without v.win.handle tree.forest) key (skipping key v.next v) s.kids (skipping key v.next p) parent split has (ap (λ (u : Node). u.win.handle) alike)

pub raised_for : (old one two : Slab Node) (desktop handles : ℕ) (tree : IsTree old desktop handles) (ws : List Win) (win : Win) (key parent : ℕ) (v n p : Node) → IsMoving old desktop ws win key v n → get old parent ≡ Some p → p.win.handle ≡ win.parent
    → ((k : ℕ) → get one k ≡ option_map (skipping key v.next) (get old k)) → slab_len one ≡ slab_len old → one.capacity ≡ old.capacity
    → ((q : Node) → get one parent ≡ Some q → get two parent ≡ Some (record q { first = Some key }))
    → ((q m : Node) → get one parent ≡ Some q → get one key ≡ Some m → get two key ≡ Some (record m { next = q.first }))
    → ((k : ℕ) → k ≢ parent → k ≢ key → get two k ≡ get one k) → slab_len two ≡ slab_len one → two.capacity ≡ one.capacity
    → Became two desktop handles (raised win.handle ws) × ((x : ℕ) → window_of (windows_of two desktop) x ≡ window_of ws x)
raised_for old one two desktop handles tree ws win key parent v n p m parent_was child change len_one room_one at_parent at_key others len_two room_two =
    let is = moving_is old desktop handles tree ws win key v n m in
    let both = (Became-raised old one two desktop handles tree key parent v p m.at (moving_other old desktop handles tree ws win key v n m) parent_was (child ∙ ap (λ (w : Win). w.parent) (sym is)) change len_one room_one at_parent at_key others len_two room_two) in (
      Became-for two desktop handles (raised v.win.handle (windows_of old desktop)) (raised win.handle ws)
          (ap (λ (w : Win). raised w.handle (windows_of old desktop)) is ∙ ap (raised win.handle) m.are)
          both.0,
      λ x. both.1 x ∙ ap (λ (us : List Win). window_of us x) m.are,
    )

pub lowered_for : (old one two : Slab Node) (desktop handles : ℕ) (tree : IsTree old desktop handles) (ws : List Win) (win : Win) (key parent : ℕ) (v n p : Node) → IsMoving old desktop ws win key v n → get old parent ≡ Some p → p.win.handle ≡ win.parent
    → ((k : ℕ) → get one k ≡ option_map (skipping key v.next) (get old k)) → slab_len one ≡ slab_len old → one.capacity ≡ old.capacity
    → ((q : Node) → get one parent ≡ Some q → get two parent ≡ Some (record (above win.parent key q) { first = or_to key q.first }))
    → ((m : Node) → get one key ≡ Some m → get two key ≡ Some (record m { next = None }))
    → ((k : ℕ) → k ≢ parent → k ≢ key → get two k ≡ option_map (above win.parent key) (get one k)) → slab_len two ≡ slab_len one → two.capacity ≡ one.capacity
    → Became two desktop handles (lowered win.handle ws) × ((x : ℕ) → window_of (windows_of two desktop) x ≡ window_of ws x)
lowered_for old one two desktop handles tree ws win key parent v n p m parent_was child change len_one room_one at_parent at_key others len_two room_two =
    let is = moving_is old desktop handles tree ws win key v n m in
    let A : ℕ → Type 0 = λ h. (q : Node) → get one parent ≡ Some q → get two parent ≡ Some (record (above h key q) { first = or_to key q.first }) in
    let O : ℕ → Type 0 = λ h. (k : ℕ) → k ≢ parent → k ≢ key → get two k ≡ option_map (above h key) (get one k) in
    let both = (Became-lowered old one two desktop handles tree key parent v p m.at (moving_other old desktop handles tree ws win key v n m) parent_was (child ∙ ap (λ (w : Win). w.parent) (sym is)) change len_one room_one (subst A (sym child) at_parent) at_key (subst O (sym child) others) len_two room_two) in (
      Became-for two desktop handles (lowered v.win.handle (windows_of old desktop)) (lowered win.handle ws)
          (ap (λ (w : Win). lowered w.handle (windows_of old desktop)) is ∙ ap (lowered win.handle) m.are)
          both.0,
      λ x. both.1 x ∙ ap (λ (us : List Win). window_of us x) m.are,
    )

pub deleted_for : (old one two three : Slab Node) (desktop handles : ℕ) (tree : IsTree old desktop handles) (ws : List Win) (win : Win) (key steps : ℕ) (v n u : Node) → IsMoving old desktop ws win key v n
    → ((k : ℕ) → get one k ≡ option_map (skipping key v.next) (get old k)) → slab_len one ≡ slab_len old → one.capacity ≡ old.capacity
    → get one key ≡ Some u → Updates one two key None → slab_len two + 1 ≡ slab_len one → two.capacity ≡ one.capacity
    → Frees two three u.first steps → FreesSo two three u.first steps → steps ≡ slab_len two → three.capacity ≡ two.capacity
    → Became three desktop handles (without_family win.handle ws)
deleted_for old one two three desktop handles tree ws win key steps v n u m change len_one room_one taken updates len_two room_two frees frees_so all room_three =
    let is = moving_is old desktop handles tree ws win key v n m in
    Became-for three desktop handles (without_family v.win.handle (windows_of old desktop)) (without_family win.handle ws)
    (ap (λ (w : Win). without_family w.handle (windows_of old desktop)) is ∙ ap (without_family win.handle) m.are)
    (Became-deleted old one two three desktop handles tree key steps v u m.at (moving_other old desktop handles tree ws win key v n m) change len_one room_one taken updates len_two room_two frees frees_so all room_three)

pub added_for : (old one two : Slab Node) (desktop handles : ℕ) (tree : IsTree old desktop handles) (ws : List Win) (win : Win) (key parent : ℕ) (p : Node) → windows_of old desktop ≡ ws → get old key ≡ None → Updates old one key (Some (record { win = win; first = None; next = None })) → slab_len one ≡ slab_len old + 1 → one.capacity ≡ old.capacity → win.handle ≡ handles + 1
    → get old parent ≡ Some p → p.win.handle ≡ win.parent → length ws < 256 → ((w : Win) → window_of ws win.parent ≡ Some w → has_ancestors 7 ws w ≡ false) → IsWindow win
    → ((q : Node) → get one parent ≡ Some q → get two parent ≡ Some (record q { first = Some key }))
    → ((q n : Node) → get one parent ≡ Some q → get one key ≡ Some n → get two key ≡ Some (record n { next = q.first }))
    → ((k : ℕ) → k ≢ parent → k ≢ key → get two k ≡ get one k) → slab_len two ≡ slab_len one → two.capacity ≡ one.capacity
    → Became two desktop (handles + 1) (on_top_of win.parent (win ∷ []) ws)
added_for old one two desktop handles tree ws win key parent p are vacant updates len_one room_one handle parent_was child few above_it sides at_parent at_key others len_two room_two =
    let there = ap (λ (us : List Win). window_of us win.parent) (sym are) ∙ one_found old desktop handles tree win.parent parent p p parent_was child parent_was in
    let v : Node = record { win = win; first = None; next = None } in
    Became-for two desktop (handles + 1) (on_top_of win.parent (win ∷ []) (windows_of old desktop)) (on_top_of win.parent (win ∷ []) ws)
    (ap (on_top_of win.parent (win ∷ [])) are)
    (Became-created old one two desktop handles tree key parent v p vacant updates len_one room_one refl handle parent_was child (omega (arith, few, ap length (sym are ∙ windows_are old desktop handles tree), tree.len)) (ap (λ (us : List Win). has_ancestors 7 us p.win) are ∙ above_it p.win there) sides at_parent at_key others len_two room_two)

pub size_is : (nodes : Slab Node) (desktop handles : ℕ) (tree : IsTree nodes desktop handles) (ws : List Win) → windows_of nodes desktop ≡ ws → slab_len nodes ≡ length ws
size_is nodes desktop handles tree ws are = omega (arith, ap length (sym are ∙ windows_are nodes desktop handles tree), tree.len)

pub replaced_for : (old : Slab Node) (desktop handles : ℕ) (tree : IsTree old desktop handles) (ws : List Win) (win w : Win) (key : ℕ) (v n : Node) (f : Win → Win) → windows_of old desktop ≡ ws → get old key ≡ Some v → get old key ≡ Some n → n.win.handle ≡ win.handle → window_of ws win.handle ≡ Some w → f w ≡ win → w.parent ≡ win.parent → IsWindow win → (win.handle ≡ 1 → IsDesktop win)
    → Became (with_value old key (record v { win = win })) desktop handles (window_changed win.handle f ws)
replaced_for old desktop handles tree ws win w key v n f are at found same live change parent sides desk =
    let both : n ≡ v = cc in
    let handle : v.win.handle ≡ win.handle = ap (λ (u : Node). u.win.handle) (sym both) ∙ same in
    let found_is = one_found old desktop handles tree win.handle key v v at handle at in
    let there = ap (λ (us : List Win). window_of us win.handle) are in
    let is : v.win ≡ w = cc in
    let written : f v.win ≡ win = ap f is ∙ change in
    let new = with_value old key (record v { win = win }) in
    let U : Win → Type 0 = λ u. Updates old new key (Some (record v { win = u })) in
    let S : Win → Type 0 = λ u. IsWindow u in
    let D : Win → Type 0 = λ u. u.handle ≡ 1 → IsDesktop u in
    Became-for new desktop handles (window_changed v.win.handle f (windows_of old desktop)) (window_changed win.handle f ws)
    (ap (λ h. window_changed h f (windows_of old desktop)) handle ∙ ap (window_changed win.handle f) are)
    (Became-changed old new desktop handles tree key v f at
    (subst U (sym written) (Updates-with_value old key (record v { win = win }) (ContainsKey-from old key v at)))
    (ap (λ (u : Win). u.handle) written ∙ sym handle)
    (ap (λ (u : Win). u.parent) written ∙ sym parent ∙ ap (λ (u : Win). u.parent) (sym is))
    (subst S (sym written) sides)
    (subst D (sym written) desk)
    (slab_len-with_value old key v (record v { win = win }) at)
    refl)

pub live_is : (o : Option Win) → is_some o ≡ true → (w : Win) × (o ≡ Some w)
live_is None e = absurd (false≢true e)
live_is (Some w) e = (w, refl)

-- each window has what the windows of a tree have
pub live_own : (nodes : Slab Node) (desktop handles : ℕ) (tree : IsTree nodes desktop handles) (ws : List Win) (h : ℕ) (w : Win) → windows_of nodes desktop ≡ ws → window_of ws h ≡ Some w → IsWindow w × (w.handle ≡ 1 → IsDesktop w)
live_own nodes desktop handles tree ws h w are live =
    let there : window_of (order tree.forest) h ≡ Some w = ap (λ (us : List Win). window_of us h) (sym (windows_are nodes desktop handles tree) ∙ are) ∙ live in
    let at = node_of (get nodes) desktop handles tree.forest h w tree.nodes_of there in
    let named = tree.nodes_of.named at.0 at.1 at.2 in
    let P : Win → Type 0 = λ u. IsWindow u × (u.handle ≡ 1 → IsDesktop u) in
    subst P at.3 (named.window, named.desktop)

pub sides_accepted : (w h : ℕ) → is_bad_size w h ≡ false → (1 ≤ w) × (w ≤ 4096) × (1 ≤ h) × (h ≤ 4096)
sides_accepted w h e =
    let outer = or_parts (eqb w 0 || eqb h 0) (ltb 4096 w || ltb 4096 h) e in
    let zeros = or_parts (eqb w 0) (eqb h 0) outer.0 in
    let highs = or_parts (ltb 4096 w) (ltb 4096 h) outer.1 in
    let some_w = eqb-false w 0 zeros.0 in
    let some_h = eqb-false h 0 zeros.1 in
    (omega (arith, some_w), omega (arith, ltb-false 4096 w highs.0), omega (arith, some_h), omega (arith, ltb-false 4096 h highs.1))

-- a screen has a point
pub screen-some : (width height : ℕ) → 1 ≤ width → 1 ≤ height → is_empty (screen_with width height) ≡ false
unfolding is_empty
screen-some width height wide high = grind (arith, ints, nat_tests)
