-- Removing the windows that a link leads to.
use Rattle.std.proofs.Common.{◌≡◌, ◌≢◌, ℕ, ◌+◌, ◌-◌, ◌<◌, ◌≤◌, true, false, eqb, ◌||◌, List, [], ◌∷◌, ◌++◌, length, Option, Some, None, refl, sym, ap, subst, ◌∙◌, inl, inr, arith, eq-eqb, length-append}
use Rattle.std.proofs.lemmas.Bool.{cases_Bool, cases_eq, ne_eqb, or_from, or_right}
use Rattle.scene.specs.declared.win.Win.{Win}
use Rattle.slab.specs.Slab.{Slab, get, slab_len, Updates}
use Rattle.win_tree.specs.declared.node.Node.{Node}
use Rattle.scene.specs.Families.{has_handle}
use Rattle.win_tree.specs.Forests.{Forest, Empty, Top, order, among, AreLinked, IsOneEach, left_without}
use Rattle.win_tree.proofs.ForestLemmas.{here, not_here, same_node, AreLinked-same}

-- ---- handles of a list

pub has_handle-append : (h : ℕ) (xs ys : List Win) → has_handle h (xs ++ ys) ≡ (has_handle h xs || has_handle h ys)
has_handle-append h [] ys = refl
has_handle-append h (x ∷ xs) ys =
    elim (cases_Bool (eqb x.handle h)) [
      | inl e ↦ rw e refl
      | inr e ↦ rw e (has_handle-append h xs ys)
    ]

-- a tree has windows with the handle where there are some among them
pub has_handle-absent : (h : ℕ) (t : Forest) → among h t ≡ 0 → has_handle h (order t) ≡ false
has_handle-absent h Empty none = refl
has_handle-absent h (Top w kids below) none =
    let other = not_here w h (omega (arith, none)) in
    has_handle-append h (order below) (w ∷ order kids)
    ∙ or_from _ _ (has_handle-absent h below (omega (arith, none))) (rw other (has_handle-absent h kids (omega (arith, none))))

-- ---- what is left

pub left_was : (ws : List Win) (o : Option Node) (n : Node) → left_without ws o ≡ Some n → o ≡ Some n
left_was ws None n e = absurd cc
left_was ws (Some m) n e =
    elim (cases_Bool (has_handle m.win.handle ws)) [
      | inl gone ↦ absurd (let f = rw gone at e in cc)
      | inr stays ↦ rw stays at e
    ]

pub left_kept : (ws : List Win) (o : Option Node) (n : Node) → o ≡ Some n → has_handle n.win.handle ws ≡ false → left_without ws o ≡ Some n
left_kept ws o n e stays = rw (e, stays) refl

pub left_stays : (ws : List Win) (o : Option Node) (n : Node) → left_without ws o ≡ Some n → has_handle n.win.handle ws ≡ false
left_stays ws None n e = absurd cc
left_stays ws (Some m) n e =
    elim (cases_Bool (has_handle m.win.handle ws)) [
      | inl gone ↦ absurd (let f = rw gone at e in cc)
      | inr stays ↦ let is : Some m ≡ Some n = rw stays at e in let same : m ≡ n = cc in ap (λ (u : Node). has_handle u.win.handle ws) (sym same) ∙ stays
    ]

left_none : (ws : List Win) (o : Option Node) → o ≡ None → left_without ws o ≡ None
left_none ws o e = rw e refl

pub IsOneEach-less : (found new : ℕ → Option Node) → ((k : ℕ) (n : Node) → new k ≡ Some n → found k ≡ Some n) → IsOneEach found → IsOneEach new
IsOneEach-less found new less one k j n m e f same = one k j n m (less k n e) (less j m f) same

-- what one call of `free` says of the nodes
abbrev pub Frees : Slab Node → Slab Node → Option ℕ → ℕ → Type 0
Frees old new link steps = (t : Forest) → AreLinked (get old) link t → IsOneEach (get old) → ((handle : ℕ) → among handle t ≤ 1) → length (order t) ≤ steps → (k : ℕ) → get new k ≡ left_without (order t) (get old k)

-- and of their number
abbrev pub FreesSo : Slab Node → Slab Node → Option ℕ → ℕ → Type 0
FreesSo old new link steps = (t : Forest) → AreLinked (get old) link t → IsOneEach (get old) → ((handle : ℕ) → among handle t ≤ 1) → length (order t) ≤ steps → slab_len new + length (order t) ≡ slab_len old

-- a slab without one node
pub record IsRemoved (old one : Slab Node) (key : ℕ) (node : Node) : Type 0 where
  pub was : get old key ≡ Some node
  pub updates : Updates old one key None
  pub len : slab_len one + 1 ≡ slab_len old

pub removed_less : (old one : Slab Node) (key : ℕ) (node : Node) → IsRemoved old one key node → (k : ℕ) (n : Node) → get one k ≡ Some n → get old k ≡ Some n
removed_less old one key node gone k n e =
    elim (cases_eq k key) [
      | inl same ↦ absurd (let f : get one k ≡ None = ap (get one) same ∙ gone.updates.changed in cc)
      | inr other ↦ sym (gone.updates.others k other) ∙ e
    ]

pub removed_kept : (old one : Slab Node) (key : ℕ) (node : Node) → IsRemoved old one key node → (k : ℕ) (n : Node) → get old k ≡ Some n → n.win.handle ≢ node.win.handle → get one k ≡ Some n
removed_kept old one key node gone k n e other =
    gone.updates.others k (λ same. other (ap (λ (m : Node). m.win.handle) (same_node (get old) k key n node e gone.was same))) ∙ e

-- the parts of a tree whose first node was removed
record IsOpened (old one two : Slab Node) (node : Node) (kids below : Forest) : Type 0 where
  below_linked : AreLinked (get one) node.next below
  below_each : IsOneEach (get one)
  kids_linked : AreLinked (get two) node.first kids
  kids_each : IsOneEach (get two)

opened : (old one two : Slab Node) (key : ℕ) (node : Node) (w : Win) (kids below : Forest) → IsRemoved old one key node → node.win ≡ w → AreLinked (get old) node.first kids → AreLinked (get old) node.next below → IsOneEach (get old)
    → ((handle : ℕ) → among handle (Top w kids below) ≤ 1) → (AreLinked (get one) node.next below → IsOneEach (get one) → (k : ℕ) → get two k ≡ left_without (order below) (get one k)) → IsOpened old one two node kids below
opened old one two key node w kids below gone is linked_kids linked_below each single step =
    let handle : node.win.handle ≡ w.handle = ap (λ (u : Win). u.handle) is in
    let mine = here w w.handle refl in
    let at_w = single w.handle in
    let apart : (t : Forest) (n : Node) → among w.handle t ≡ 0 → 1 ≤ among n.win.handle t → n.win.handle ≢ node.win.handle =
    λ t n none some same. omega (arith, ap (λ h. among h t) (same ∙ handle), none, some) in
    let linked_one = AreLinked-same (get old) (get one) node.next below (λ k n e some. removed_kept old one key node gone k n e (apart below n (omega (arith, mine, at_w)) some)) linked_below in
    let each_one = IsOneEach-less (get old) (get one) (removed_less old one key node gone) each in
    let two_is = step linked_one each_one in
    record {
      below_linked = linked_one;
      below_each = each_one;
      kids_linked = AreLinked-same (get old) (get two) node.first kids
          (λ k n e some. two_is k ∙ left_kept (order below) (get one k) n (removed_kept old one key node gone k n e (apart kids n (omega (arith, mine, at_w)) some)) (has_handle-absent n.win.handle below (omega (arith, single n.win.handle, some))))
          linked_kids;
      kids_each = IsOneEach-less (get one) (get two) (λ k n e. left_was (order below) (get one k) n (sym (two_is k) ∙ e)) each_one;
    }

in_all : (h : ℕ) (below kids : List Win) (w : Win) → eqb w.handle h ≡ true → has_handle h (below ++ w ∷ kids) ≡ true
in_all h below kids w e = has_handle-append h below (w ∷ kids) ∙ or_right (has_handle h below) (has_handle h (w ∷ kids)) (rw e refl)

at_other : (below kids : List Win) (w : Win) (o : Option Node) → ((n : Node) → o ≡ Some n → eqb w.handle n.win.handle ≡ false) → left_without kids (left_without below o) ≡ left_without (below ++ w ∷ kids) o
at_other below kids w None other = refl
at_other below kids w (Some n) other =
    let off = other n refl in
    elim (cases_Bool (has_handle n.win.handle below)) [
      | inl yes' ↦ rw (has_handle-append n.win.handle below (w ∷ kids), yes') refl
      | inr no' ↦ rw (has_handle-append n.win.handle below (w ∷ kids), no', off) refl
    ]

pub Frees-node : (old one two three : Slab Node) (key steps : ℕ) (node : Node) → IsRemoved old one key node → 0 < steps → Frees one two node.next (steps - 1) → Frees two three node.first (steps - 1) → Frees old three (Some key) steps
Frees-node old one two three key steps node gone positive first second Empty linked each single few k = absurd cc
Frees-node old one two three key steps node gone positive first second (Top w kids below) linked each single few k =
    let same_key : linked.0 ≡ key = cc (linked.2) in
    let same = same_node (get old) linked.0 key linked.1 node linked.3 gone.was same_key in
    let is : node.win ≡ w = cc (linked.4, same) in
    let K : Node → Type 0 = λ m. AreLinked (get old) m.first kids in
    let B : Node → Type 0 = λ m. AreLinked (get old) m.next below in
    let count = length-append (order below) (w ∷ order kids) in
    let less_below : (h : ℕ) → among h below ≤ 1 = λ h. omega (arith, single h) in
    let less_kids : (h : ℕ) → among h kids ≤ 1 = λ h. omega (arith, single h) in
    let step = λ (l : AreLinked (get one) node.next below) (o : IsOneEach (get one)). first below l o less_below (omega (arith, few, count)) in
    let parts = opened old one two key node w kids below gone is (subst K same linked.5) (subst B same linked.6) each single step in
    let two_is = step parts.below_linked parts.below_each in
    let three_is = second kids parts.kids_linked parts.kids_each less_kids (omega (arith, few, count)) in
    let both : get three k ≡ left_without (order kids) (left_without (order below) (get one k)) = three_is k ∙ ap (left_without (order kids)) (two_is k) in
    both ∙ elim (cases_eq k key) [
      | inl here' ↦
          let empty : get one k ≡ None = ap (get one) here' ∙ gone.updates.changed in
          let full : get old k ≡ Some node = ap (get old) here' ∙ gone.was in
          let in' = in_all node.win.handle (order below) (order kids) w (eq-eqb w.handle node.win.handle (sym (ap (λ (u : Win). u.handle) is))) in
          rw (empty, full, in') refl
      | inr other ↦
          ap (λ o. left_without (order kids) (left_without (order below) o)) (gone.updates.others k other)
          ∙ at_other (order below) (order kids) w (get old k) (λ n e. ne_eqb w.handle n.win.handle (λ s. other (each k key n node e gone.was (sym s ∙ sym (ap (λ (u : Win). u.handle) is)))))
    ]

pub FreesSo-node : (old one two three : Slab Node) (key steps : ℕ) (node : Node) → IsRemoved old one key node → 0 < steps → Frees one two node.next (steps - 1) → FreesSo one two node.next (steps - 1) → FreesSo two three node.first (steps - 1) → FreesSo old three (Some key) steps
FreesSo-node old one two three key steps node gone positive first len_first len_second Empty linked each single few = absurd cc
FreesSo-node old one two three key steps node gone positive first len_first len_second (Top w kids below) linked each single few =
    let same_key : linked.0 ≡ key = cc (linked.2) in
    let same = same_node (get old) linked.0 key linked.1 node linked.3 gone.was same_key in
    let is : node.win ≡ w = cc (linked.4, same) in
    let K : Node → Type 0 = λ m. AreLinked (get old) m.first kids in
    let B : Node → Type 0 = λ m. AreLinked (get old) m.next below in
    let count = length-append (order below) (w ∷ order kids) in
    let less_below : (h : ℕ) → among h below ≤ 1 = λ h. omega (arith, single h) in
    let less_kids : (h : ℕ) → among h kids ≤ 1 = λ h. omega (arith, single h) in
    let step = λ (l : AreLinked (get one) node.next below) (o : IsOneEach (get one)). first below l o less_below (omega (arith, few, count)) in
    let parts = opened old one two key node w kids below gone is (subst K same linked.5) (subst B same linked.6) each single step in
    let l1 = len_first below parts.below_linked parts.below_each less_below (omega (arith, few, count)) in
    let l2 = len_second kids parts.kids_linked parts.kids_each less_kids (omega (arith, few, count)) in
    omega (arith, l1, l2, gone.len, count)

-- where a link leads to no node, there is nothing to remove
pub Frees-nothing : (old : Slab Node) (link : Option ℕ) (steps : ℕ) → ((key : ℕ) → link ≡ Some key → get old key ≡ None) → Frees old old link steps
Frees-nothing old link steps none Empty linked each single few k = left_nothing (get old k)
  where
    left_nothing : (o : Option Node) → o ≡ left_without [] o
    left_nothing None = refl
    left_nothing (Some n) = refl
Frees-nothing old link steps none (Top w kids below) linked each single few k = absurd (let e = none linked.0 linked.2 in let f = linked.3 in cc)

pub FreesSo-nothing : (old : Slab Node) (link : Option ℕ) (steps : ℕ) → ((key : ℕ) → link ≡ Some key → get old key ≡ None) → FreesSo old old link steps
FreesSo-nothing old link steps none Empty linked each single few = omega arith
FreesSo-nothing old link steps none (Top w kids below) linked each single few = absurd (let e = none linked.0 linked.2 in let f = linked.3 in cc)
