-- Valid stacks after each change of the list.
use Rattle.std.proofs.Common.{◌≡◌, ◌≢◌, ℕ, ◌+◌, ◌<◌, ◌≤◌, Bool, true, false, cond, eqb, not, List, [], ◌∷◌, ◌++◌, filter, length, Option, Some, None, refl, sym, ap, subst, ◌∙◌, inl, inr, arith, append_assoc, eq-eqb}
use Rattle.std.specs.Prelude.{option_map, unwrap_or}
use Rattle.std.specs.List.{AllByRecursion}
use Rattle.std.proofs.lemmas.Bool.{cases_Bool, cases_lt, eqb-true, ne_eqb, false≢true, false_from_ne_true}
use Rattle.scene.specs.declared.win.Win.{Win}
use Rattle.scene.specs.Places.{window_of, number_of}
use Rattle.scene.specs.Families.{has_handle, is_in, family_of, without_family, on_top_of, right_after, parent_of, raised, lowered, StandsIn}
use Rattle.scene.specs.Stacks.{IsWindow, IsDesktop, has_ancestors, IsShallow, BeginWithDesktop, IsStack, AreGiven}
use Rattle.win_tree.specs.Forests.{Forest, Empty, order, among, AreChildren}
use Rattle.win_tree.proofs.ForestLemmas.{here}
use Rattle.win_tree.proofs.LinkLemmas.{without, with_top, with_bottom}
use Rattle.win_tree.proofs.FamilyLemmas.{number_of-append, number_of-order, Spot, spot, family_of-is, without_family-is, on_top_of-is, right_after-is}
use Rattle.win_tree.proofs.TreeLemmas.{AreChildren-on_top, AreChildren-at_bottom, AreChildren-without, window_of-absent, FindsLess, has_ancestors-less}
use Rattle.win_tree.proofs.ChangeLemmas.{deep_parent}
use Rattle.win_tree.proofs.StackLemmas.{IsOwn, IsOneTree, free_of, stack_of}
use Rattle.win_tree.proofs.BlockLemmas.{number_of-block, length-block, AllBy-rest, AllBy-block, AllBy-whole, window_of-block, window_of-alone}
use Rattle.scene.proofs.CallerLemmas.{FindsBack, FindsBack-same, shallow_back, AreFound, all_found}
use Rattle.win_tree.proofs.ListLemmas.{IsTreeOfStack, tree_of}

-- ---- a family and what is left without it

pub live_counted : (ws : List Win) (h : ℕ) (w : Win) → window_of ws h ≡ Some w → 1 ≤ number_of h ws
live_counted ws h w live =
    elim (cases_lt 0 (number_of h ws)) [
      | inl some ↦ omega (arith, some)
      | inr none ↦ absurd (let gone = window_of-absent h ws (omega (arith, none)) in let bad : None ≡ Some w = sym gone ∙ live in cc)
    ]

-- a window of a valid stack in its tree
pub record IsPlaced (ws : List Win) (h : ℕ) : Type 0 where
  pub tree : IsTreeOfStack ws
  pub at : Spot h 0 tree.forest

pub placed : (ws : List Win) (h : ℕ) (w : Win) → IsStack ws → window_of ws h ≡ Some w → IsPlaced ws h
placed ws h w stack live =
    let t = tree_of ws stack in
    let some : 1 ≤ among h t.forest = omega (arith, live_counted ws h w live, number_of-order h t.forest, ap (number_of h) t.whole) in
    record { tree = t; at = spot h 0 t.forest t.tree.children t.tree.single (free_of t.forest t.tree) some }

-- the family of a window
abbrev pub fam_of : (ws : List Win) (h : ℕ) → IsPlaced ws h → List Win
fam_of ws h s = s.at.win ∷ order s.at.kids

-- the tree without it
abbrev pub rest_of : (ws : List Win) (h : ℕ) → IsPlaced ws h → Forest
rest_of ws h s = without h s.tree.forest

pub family_is : (ws : List Win) (h : ℕ) (s : IsPlaced ws h) → family_of h ws ≡ fam_of ws h s
family_is ws h s = ap (family_of h) (sym s.tree.whole) ∙ family_of-is h 0 s.tree.forest s.at s.tree.tree.single

pub without_is : (ws : List Win) (h : ℕ) (s : IsPlaced ws h) → without_family h ws ≡ order (rest_of ws h s)
without_is ws h s = ap (without_family h) (sym s.tree.whole) ∙ without_family-is h 0 s.tree.forest s.at s.tree.tree.single

pub block_in : (ws : List Win) (h : ℕ) (s : IsPlaced ws h) → StandsIn (fam_of ws h s) (order (rest_of ws h s)) ws
block_in ws h s = record { before = s.at.before; after = s.at.after; whole = sym s.tree.whole ∙ s.at.is; left = s.at.gone }

pub StandsIn-same : (block mine rest yours ws : List Win) → mine ≡ block → yours ≡ rest → StandsIn block rest ws → StandsIn mine yours ws
StandsIn-same block mine rest yours ws same so s = record {
  before = s.before;
  after = s.after;
  whole = s.whole ∙ ap (λ b. s.before ++ (b ++ s.after)) (sym same);
  left = so ∙ s.left;
}

pub family_stands : (ws : List Win) (h : ℕ) (s : IsPlaced ws h) → StandsIn (family_of h ws) (without_family h ws) ws
family_stands ws h s = StandsIn-same (fam_of ws h s) (family_of h ws) (order (rest_of ws h s)) (without_family h ws) ws (family_is ws h s) (without_is ws h s) (block_in ws h s)

-- each handle once, in the family or in the rest
pub each_once : (ws : List Win) (h : ℕ) (s : IsPlaced ws h) (x : ℕ) → IsStack ws → number_of x (fam_of ws h s) + number_of x (order (rest_of ws h s)) ≤ 1
each_once ws h s x stack = omega (arith, stack.single x, number_of-block (fam_of ws h s) (order (rest_of ws h s)) ws (block_in ws h s) x)

pub window_of-win : (ws : List Win) (h : ℕ) (s : IsPlaced ws h) → IsStack ws → window_of ws h ≡ Some s.at.win
window_of-win ws h s stack =
    window_of-block (fam_of ws h s) (order (rest_of ws h s)) ws h (block_in ws h s) (each_once ws h s h stack)
    ∙ rw (eq-eqb s.at.win.handle h s.at.handle) refl

parent_is : (ws : List Win) (h : ℕ) (s : IsPlaced ws h) → IsStack ws → parent_of h ws ≡ s.at.win.parent
unfolding parent_of
parent_is ws h s stack = ap (λ (o : Option Win). unwrap_or (option_map (λ (w : Win). w.parent) o) 0) (window_of-win ws h s stack)

own_of : (ws : List Win) (h : ℕ) (s : IsPlaced ws h) → AllByRecursion IsOwn ws
own_of ws h s = let A : List Win → Type 0 = λ us. AllByRecursion IsOwn us in subst A s.tree.whole s.tree.tree.own

-- the window's parent stands before it
parent_before : (ws : List Win) (h : ℕ) (s : IsPlaced ws h) → h ≢ 1 → 1 ≤ number_of s.at.win.parent s.at.before
parent_before ws h s other =
    let mine = AllBy-block IsOwn (fam_of ws h s) (order (rest_of ws h s)) ws (block_in ws h s) (own_of ws h s) in
    elim s.at.parent [
      | inl top ↦ absurd (other (sym s.at.handle ∙ mine.0.root top))
      | inr n ↦ n
    ]

parent_left : (ws : List Win) (h : ℕ) (s : IsPlaced ws h) → h ≢ 1 → 1 ≤ among s.at.win.parent (rest_of ws h s)
parent_left ws h s other =
    omega (arith, parent_before ws h s other, number_of-order s.at.win.parent (rest_of ws h s), ap (number_of s.at.win.parent) s.at.gone, number_of-append s.at.win.parent s.at.before s.at.after)

-- the tree without the family is one whose windows stand once each
rest_single : (ws : List Win) (h : ℕ) (s : IsPlaced ws h) → IsStack ws → (x : ℕ) → among x (rest_of ws h s) ≤ 1
rest_single ws h s stack x = omega (arith, each_once ws h s x stack, number_of-order x (rest_of ws h s))

-- where the parent stands in the rest
pub parent_spot : (ws : List Win) (h : ℕ) (s : IsPlaced ws h) → IsStack ws → h ≢ 1 → Spot s.at.win.parent 0 (rest_of ws h s)
parent_spot ws h s stack other =
    spot s.at.win.parent 0 (rest_of ws h s) (AreChildren-without h 0 s.tree.forest s.tree.tree.children) (rest_single ws h s stack)
    (omega (arith, free_of s.tree.forest s.tree.tree, ap (number_of 0) s.tree.whole, number_of-order 0 s.tree.forest, number_of-order 0 (rest_of ws h s), number_of-block (fam_of ws h s) (order (rest_of ws h s)) ws (block_in ws h s) 0))
    (parent_left ws h s other)

-- ---- blocks put in again

join_top : (b k f a : List Win) (w : Win) → b ++ (w ∷ ((k ++ f) ++ a)) ≡ (b ++ (w ∷ k)) ++ (f ++ a)
join_top b k f a w = ap (λ us. b ++ (w ∷ us)) (append_assoc k f a) ∙ sym (append_assoc b (w ∷ k) (f ++ a))

join_bottom : (b k f a : List Win) (w : Win) → b ++ (w ∷ ((f ++ k) ++ a)) ≡ (b ++ (w ∷ [])) ++ (f ++ (k ++ a))
join_bottom b k f a w = ap (λ us. b ++ (w ∷ us)) (append_assoc f k a) ∙ sym (append_assoc b (w ∷ []) (f ++ (k ++ a)))

-- a window with its children on top of a parent's
top_in : (p : ℕ) (t : Forest) (s : Spot p 0 t) (v : Win) (inner : Forest) → StandsIn (v ∷ order inner) (order t) (order (with_top p v inner t))
top_in p t s v inner = record {
  before = s.before ++ (s.win ∷ order s.kids);
  after = s.after;
  whole = s.topped v inner ∙ join_top s.before (order s.kids) (v ∷ order inner) s.after s.win;
  left = s.is ∙ sym (append_assoc s.before (s.win ∷ order s.kids) s.after);
}

bottom_in : (p : ℕ) (t : Forest) (s : Spot p 0 t) (v : Win) (inner : Forest) → StandsIn (v ∷ order inner) (order t) (order (with_bottom p v inner t))
bottom_in p t s v inner = record {
  before = s.before ++ (s.win ∷ []);
  after = order s.kids ++ s.after;
  whole = s.bottomed v inner ∙ join_bottom s.before (order s.kids) (v ∷ order inner) s.after s.win;
  left = s.is ∙ sym (append_assoc s.before (s.win ∷ []) (order s.kids ++ s.after));
}

StandsIn-in : (block rest ws vs : List Win) → vs ≡ ws → StandsIn block rest ws → StandsIn block rest vs
StandsIn-in block rest ws vs same s = record { before = s.before; after = s.after; whole = same ∙ s.whole; left = s.left }

raised_tree : (ws : List Win) (h : ℕ) → IsPlaced ws h → Forest
raised_tree ws h s = with_top s.at.win.parent s.at.win s.at.kids (rest_of ws h s)

lowered_tree : (ws : List Win) (h : ℕ) → IsPlaced ws h → Forest
lowered_tree ws h s = with_bottom s.at.win.parent s.at.win s.at.kids (rest_of ws h s)

raised_is : (ws : List Win) (h : ℕ) (s : IsPlaced ws h) → IsStack ws → h ≢ 1 → raised h ws ≡ order (raised_tree ws h s)
unfolding raised raised_tree
raised_is ws h s stack other =
    ap (λ p. on_top_of p (family_of h ws) (without_family h ws)) (parent_is ws h s stack)
    ∙ ap (λ f. on_top_of s.at.win.parent f (without_family h ws)) (family_is ws h s)
    ∙ ap (on_top_of s.at.win.parent (fam_of ws h s)) (without_is ws h s)
    ∙ on_top_of-is s.at.win.parent 0 (rest_of ws h s) (parent_spot ws h s stack other) s.at.win s.at.kids (rest_single ws h s stack)

lowered_is : (ws : List Win) (h : ℕ) (s : IsPlaced ws h) → IsStack ws → h ≢ 1 → lowered h ws ≡ order (lowered_tree ws h s)
unfolding lowered lowered_tree
lowered_is ws h s stack other =
    ap (λ p. right_after p (family_of h ws) (without_family h ws)) (parent_is ws h s stack)
    ∙ ap (λ f. right_after s.at.win.parent f (without_family h ws)) (family_is ws h s)
    ∙ ap (right_after s.at.win.parent (fam_of ws h s)) (without_is ws h s)
    ∙ right_after-is s.at.win.parent 0 (rest_of ws h s) (parent_spot ws h s stack other) s.at.win s.at.kids (rest_single ws h s stack)

raised_block : (ws : List Win) (h : ℕ) (s : IsPlaced ws h) → IsStack ws → h ≢ 1 → StandsIn (fam_of ws h s) (order (rest_of ws h s)) (raised h ws)
unfolding raised_tree
raised_block ws h s stack other =
    StandsIn-in (fam_of ws h s) (order (rest_of ws h s)) (order (raised_tree ws h s)) (raised h ws) (raised_is ws h s stack other)
    (top_in s.at.win.parent (rest_of ws h s) (parent_spot ws h s stack other) s.at.win s.at.kids)

lowered_block : (ws : List Win) (h : ℕ) (s : IsPlaced ws h) → IsStack ws → h ≢ 1 → StandsIn (fam_of ws h s) (order (rest_of ws h s)) (lowered h ws)
unfolding lowered_tree
lowered_block ws h s stack other =
    StandsIn-in (fam_of ws h s) (order (rest_of ws h s)) (order (lowered_tree ws h s)) (lowered h ws) (lowered_is ws h s stack other)
    (bottom_in s.at.win.parent (rest_of ws h s) (parent_spot ws h s stack other) s.at.win s.at.kids)

pub raised_stands : (ws : List Win) (h : ℕ) (s : IsPlaced ws h) → IsStack ws → h ≢ 1 → StandsIn (family_of h ws) (without_family h ws) (raised h ws)
raised_stands ws h s stack other = StandsIn-same (fam_of ws h s) (family_of h ws) (order (rest_of ws h s)) (without_family h ws) (raised h ws) (family_is ws h s) (without_is ws h s) (raised_block ws h s stack other)

pub lowered_stands : (ws : List Win) (h : ℕ) (s : IsPlaced ws h) → IsStack ws → h ≢ 1 → StandsIn (family_of h ws) (without_family h ws) (lowered h ws)
lowered_stands ws h s stack other = StandsIn-same (fam_of ws h s) (family_of h ws) (order (rest_of ws h s)) (without_family h ws) (lowered h ws) (family_is ws h s) (without_is ws h s) (lowered_block ws h s stack other)

-- ---- the same windows in another order

same_found : (ws vs : List Win) (h : ℕ) (s : IsPlaced ws h) → IsStack ws → StandsIn (fam_of ws h s) (order (rest_of ws h s)) vs → (x : ℕ) → window_of vs x ≡ window_of ws x
same_found ws vs h s stack put x =
    window_of-block (fam_of ws h s) (order (rest_of ws h s)) vs x put (each_once ws h s x stack)
    ∙ sym (window_of-block (fam_of ws h s) (order (rest_of ws h s)) ws x (block_in ws h s) (each_once ws h s x stack))

reordered : (ws vs : List Win) (h : ℕ) (s : IsPlaced ws h) (u : Forest) → IsStack ws → StandsIn (fam_of ws h s) (order (rest_of ws h s)) vs → vs ≡ order u → AreChildren 0 u → IsStack vs
reordered ws vs h s u stack put is children =
    let fam = fam_of ws h s in
    let rest = order (rest_of ws h s) in
    let whole = block_in ws h s in
    let all : (P : Win → Type 0) → AllByRecursion P ws → AllByRecursion P vs = λ P each. AllBy-whole P fam rest vs put (AllBy-block P fam rest ws whole each) (AllBy-rest P fam rest ws whole each) in
    let count : (x : ℕ) → among x u ≡ number_of x ws = λ x. omega (arith, number_of-order x u, ap (number_of x) is, number_of-block fam rest vs put x, number_of-block fam rest ws whole x) in
    let levels = shallow_back vs ws vs (FindsBack-same vs ws (same_found ws vs h s stack put)) (all (IsShallow ws) stack.levels) in
    let O : List Win → Type 0 = λ us. AllByRecursion IsOwn us in
    let L : List Win → Type 0 = λ us. AllByRecursion (IsShallow us) us in
    let S : List Win → Type 0 = λ us. IsStack us in
    let tree : IsOneTree u = record {
      children = children;
      single = λ x. omega (arith, count x, stack.single x);
      some = omega (arith, count 1, s.tree.tree.some, number_of-order 1 s.tree.forest, ap (number_of 1) s.tree.whole);
      own = subst O is (all IsOwn (own_of ws h s));
    } in
    subst S (sym is) (stack_of u tree (subst L is levels) (omega (arith, ap length (sym is), length-block fam rest vs put, length-block fam rest ws whole, stack.few)))

pub raised_valid : (ws : List Win) (h : ℕ) (s : IsPlaced ws h) → IsStack ws → h ≢ 1 → IsStack (raised h ws)
unfolding raised_tree
raised_valid ws h s stack other =
    let C : ℕ → Type 0 = λ p. AreChildren p s.at.kids in
    reordered ws (raised h ws) h s (raised_tree ws h s) stack (raised_block ws h s stack other) (raised_is ws h s stack other)
    (AreChildren-on_top s.at.win.parent 0 s.at.win s.at.kids (rest_of ws h s) refl (subst C (sym s.at.handle) s.at.children) (AreChildren-without h 0 s.tree.forest s.tree.tree.children))

pub lowered_valid : (ws : List Win) (h : ℕ) (s : IsPlaced ws h) → IsStack ws → h ≢ 1 → IsStack (lowered h ws)
unfolding lowered_tree
lowered_valid ws h s stack other =
    let C : ℕ → Type 0 = λ p. AreChildren p s.at.kids in
    reordered ws (lowered h ws) h s (lowered_tree ws h s) stack (lowered_block ws h s stack other) (lowered_is ws h s stack other)
    (AreChildren-at_bottom s.at.win.parent 0 s.at.win s.at.kids (rest_of ws h s) refl (subst C (sym s.at.handle) s.at.children) (AreChildren-without h 0 s.tree.forest s.tree.tree.children))

pub raised_found : (ws : List Win) (h : ℕ) (s : IsPlaced ws h) → IsStack ws → h ≢ 1 → (x : ℕ) → window_of (raised h ws) x ≡ window_of ws x
raised_found ws h s stack other = same_found ws (raised h ws) h s stack (raised_block ws h s stack other)

pub lowered_found : (ws : List Win) (h : ℕ) (s : IsPlaced ws h) → IsStack ws → h ≢ 1 → (x : ℕ) → window_of (lowered h ws) x ≡ window_of ws x
lowered_found ws h s stack other = same_found ws (lowered h ws) h s stack (lowered_block ws h s stack other)

-- ---- a family taken away

same_either : (b : Bool) (o : Option Win) → o ≡ cond b o o
same_either true o = refl
same_either false o = refl

pub kept_found : (fam ws : List Win) (x : ℕ) → window_of (filter (λ w. not (is_in fam w)) ws) x ≡ cond (has_handle x fam) None (window_of ws x)
kept_found fam [] x = same_either (has_handle x fam) None
kept_found fam (w ∷ ws) x =
    let later = kept_found fam ws x in
    elim (cases_Bool (eqb w.handle x)) [
      | inl e ↦
          let same : has_handle w.handle fam ≡ has_handle x fam = ap (λ h. has_handle h fam) (eqb-true w.handle x e) in
          elim (cases_Bool (has_handle x fam)) [
            | inl in' ↦ rw (same ∙ in', e, in') (later ∙ rw in' refl)
            | inr out' ↦ rw (same ∙ out', e, out') refl
          ]
      | inr e ↦ elim (cases_Bool (has_handle w.handle fam)) [
        | inl in' ↦ rw (in', e) later
        | inr out' ↦ rw (out', e) later
      ]
    ]

pub without_found : (ws : List Win) (h x : ℕ) → window_of (without_family h ws) x ≡ cond (has_handle x (family_of h ws)) None (window_of ws x)
unfolding without_family
without_found ws h x = kept_found (family_of h ws) ws x

found_before : (b : Bool) (o : Option Win) (u : Win) → cond b None o ≡ Some u → o ≡ Some u
found_before true o u e = absurd cc
found_before false o u e = e

-- the desktop stands before each other window
desktop_before : (before rest : List Win) (p : ℕ) → BeginWithDesktop (before ++ rest) → 1 ≤ number_of p before → 1 ≤ number_of 1 before
desktop_before [] rest p begins some = absurd (omega (arith, some))
desktop_before (d ∷ before) rest p begins some = omega (arith, here d 1 begins.0)

pub without_valid : (ws : List Win) (h : ℕ) (s : IsPlaced ws h) → IsStack ws → h ≢ 1 → IsStack (without_family h ws)
without_valid ws h s stack other =
    let fam = fam_of ws h s in
    let u = rest_of ws h s in
    let rest = order u in
    let whole = block_in ws h s in
    let is = without_is ws h s in
    let B : List Win → Type 0 = λ us. BeginWithDesktop us in
    let first = desktop_before s.at.before (s.at.win ∷ (order s.at.kids ++ s.at.after)) s.at.win.parent (subst B (sym s.tree.whole ∙ s.at.is) stack.order) (parent_before ws h s other) in
    let back : FindsBack (without_family h ws) ws = λ x v e. (v, found_before (has_handle x (family_of h ws)) (window_of ws x) v (sym (without_found ws h x) ∙ e), refl) in
    let levels = shallow_back (without_family h ws) ws rest back (AllBy-rest (IsShallow ws) fam rest ws whole stack.levels) in
    let L : List Win → Type 0 = λ us. AllByRecursion (IsShallow us) rest in
    let S : List Win → Type 0 = λ us. IsStack us in
    let tree : IsOneTree u = record {
      children = AreChildren-without h 0 s.tree.forest s.tree.tree.children;
      single = rest_single ws h s stack;
      some = omega (arith, first, number_of-order 1 u, ap (number_of 1) s.at.gone, number_of-append 1 s.at.before s.at.after);
      own = AllBy-rest IsOwn fam rest ws whole (own_of ws h s);
    } in
    subst S (sym is) (stack_of u tree (subst L is levels) (omega (arith, length-block fam rest ws whole, stack.few)))

-- ---- a new window

-- a handle that wasn't given out is that of no window
pub none_given : (n x : ℕ) (ws : List Win) → AreGiven n ws → n < x → number_of x ws ≡ 0
none_given n x [] given more = refl
none_given n x (w ∷ ws) given more =
    let off : w.handle ≢ x = λ same. omega (arith, given.0, same, more) in
    rw (ne_eqb w.handle x off) (omega (arith, none_given n x ws given.1 more))

-- of the handles that stand there each was given out
some_given : (n x : ℕ) (ws : List Win) → AreGiven n ws → 1 ≤ number_of x ws → x ≤ n
some_given n x ws given some =
    elim (cases_lt n x) [
      | inl more ↦ absurd (omega (arith, none_given n x ws given more, some))
      | inr less ↦ omega (arith, less)
    ]

-- what is known of a window that is put on top of a parent's children
pub record IsNew (ws : List Win) (n : ℕ) (w over' : Win) : Type 0 where
  pub stack : IsStack ws
  pub given : AreGiven n ws
  pub fresh : n < w.handle
  pub parent : window_of ws w.parent ≡ Some over'
  pub above : has_ancestors 7 ws over' ≡ false
  pub few : length ws < 256
  pub window : IsWindow w

created_is : (ws : List Win) (w : Win) (s : IsPlaced ws w.parent) → on_top_of w.parent (w ∷ []) ws ≡ order (with_top w.parent w Empty s.tree.forest)
created_is ws w s = ap (on_top_of w.parent (w ∷ [])) (sym s.tree.whole) ∙ on_top_of-is w.parent 0 s.tree.forest s.at w Empty s.tree.tree.single

pub created_stands : (ws : List Win) (w : Win) (s : IsPlaced ws w.parent) → StandsIn (w ∷ []) ws (on_top_of w.parent (w ∷ []) ws)
created_stands ws w s =
    let put = StandsIn-in (w ∷ []) (order s.tree.forest) (order (with_top w.parent w Empty s.tree.forest)) (on_top_of w.parent (w ∷ []) ws) (created_is ws w s) (top_in w.parent s.tree.forest s.at w Empty) in
    StandsIn-same (w ∷ []) (w ∷ []) (order s.tree.forest) ws (on_top_of w.parent (w ∷ []) ws) refl (sym s.tree.whole) put

alone_once : (w : Win) (ws : List Win) (x : ℕ) → number_of w.handle ws ≡ 0 → number_of x ws ≤ 1 → number_of x (w ∷ []) + number_of x ws ≤ 1
alone_once w ws x none few =
    elim (cases_Bool (eqb w.handle x)) [
      | inl e ↦ let same = eqb-true w.handle x e in rw e (omega (arith, none, ap (λ h. number_of h ws) same))
      | inr e ↦ rw e (omega (arith, few))
    ]

pub created_found : (ws : List Win) (n : ℕ) (w : Win) (s : IsPlaced ws w.parent) → IsStack ws → AreGiven n ws → n < w.handle → (x : ℕ) → window_of (on_top_of w.parent (w ∷ []) ws) x ≡ cond (eqb w.handle x) (Some w) (window_of ws x)
created_found ws n w s stack given fresh x =
    window_of-block (w ∷ []) ws (on_top_of w.parent (w ∷ []) ws) x (created_stands ws w s) (alone_once w ws x (none_given n w.handle ws given fresh) (stack.single x))
    ∙ window_of-alone w (window_of ws x) x

-- the parent of each window has no handle, or one that stands there
parent_known : (ws : List Win) (n x : ℕ) (u : Win) → IsStack ws → AreGiven n ws → window_of ws x ≡ Some u → u.parent ≤ n
parent_known ws n x u stack given live =
    let s = placed ws x u stack live in
    let same : s.at.win ≡ u = let e = sym (window_of-win ws x s stack) ∙ live in cc in
    let parent : s.at.win.parent ≡ u.parent = ap (λ (v : Win). v.parent) same in
    elim s.at.parent [
      | inl top ↦ omega (arith, top, parent)
      | inr n' ↦
          let there : 1 ≤ number_of s.at.win.parent ws = omega (arith, n', ap (number_of s.at.win.parent) s.tree.whole, ap (number_of s.at.win.parent) s.at.is, number_of-append s.at.win.parent s.at.before (s.at.win ∷ (order s.at.kids ++ s.at.after))) in
          omega (arith, some_given n s.at.win.parent ws given there, parent)
    ]

created_less : (ws : List Win) (n : ℕ) (w over' : Win) (s : IsPlaced ws w.parent) → IsNew ws n w over' → FindsLess n (on_top_of w.parent (w ∷ []) ws) ws
created_less ws n w over' s new h u low is =
    let off : eqb w.handle h ≡ false = ne_eqb w.handle h (λ same. omega (arith, new.fresh, low, same)) in
    let there : window_of ws h ≡ Some u = sym (created_found ws n w s new.stack new.given new.fresh h ∙ rw off refl) ∙ is in
    (u, there, refl, parent_known ws n h u new.stack new.given there)

shallow_less : (n : ℕ) (ws vs us : List Win) → FindsLess n vs ws → AllByRecursion (λ w. w.parent ≤ n) us → AllByRecursion (IsShallow ws) us → AllByRecursion (IsShallow vs) us
shallow_less n ws vs [] less known all = tt
shallow_less n ws vs (w ∷ us) less known all = (
  false_from_ne_true (has_ancestors 8 vs w) (λ deep. false≢true (sym all.0 ∙ has_ancestors-less 8 n vs ws w w less known.0 refl deep)),
  shallow_less n ws vs us less known.1 all.1,
)

parents_known : (ws us : List Win) (n : ℕ) → IsStack ws → AreGiven n ws → AreFound ws us → AllByRecursion (λ w. w.parent ≤ n) us
parents_known ws [] n stack given found = tt
parents_known ws (w ∷ us) n stack given found = (parent_known ws n w.handle w stack given found.0, parents_known ws us n stack given found.1)

new_shallow : (ws : List Win) (n : ℕ) (w over' : Win) (s : IsPlaced ws w.parent) → IsNew ws n w over' → IsShallow (on_top_of w.parent (w ∷ []) ws) w
new_shallow ws n w over' s new =
    let vs = on_top_of w.parent (w ∷ []) ws in
    let low : w.parent ≤ n = some_given n w.parent ws new.given (live_counted ws w.parent over' new.parent) in
    let less = created_less ws n w over' s new in
    false_from_ne_true (has_ancestors 8 vs w) (λ deep. deep_parent vs w deep (λ u is up.
    let at = less w.parent u low is in
    let same : at.0 ≡ over' = let e = sym at.1 ∙ new.parent in cc in
    let H : Win → Type 0 = λ v. has_ancestors 7 ws v ≡ true in
    false≢true (sym new.above ∙ subst H same (has_ancestors-less 7 n vs ws u at.0 less at.3 at.2 up))))

pub created_valid : (ws : List Win) (n : ℕ) (w over' : Win) (s : IsPlaced ws w.parent) → IsNew ws n w over' → IsStack (on_top_of w.parent (w ∷ []) ws)
created_valid ws n w over' s new =
    let stack = new.stack in
    let vs = on_top_of w.parent (w ∷ []) ws in
    let u = with_top w.parent w Empty s.tree.forest in
    let is = created_is ws w s in
    let put = created_stands ws w s in
    let none = none_given n w.handle ws new.given new.fresh in
    let one : 1 ≤ number_of 1 ws = omega (arith, s.tree.tree.some, number_of-order 1 s.tree.forest, ap (number_of 1) s.tree.whole) in
    let root : w.parent ≡ 0 → w.handle ≡ 1 = λ top. absurd (omega (arith, live_counted ws w.parent over' new.parent, ap (λ p. number_of p ws) top, free_of s.tree.forest s.tree.tree, number_of-order 0 s.tree.forest, ap (number_of 0) s.tree.whole)) in
    let desk : w.handle ≡ 1 → IsDesktop w = λ same. absurd (omega (arith, none, ap (λ p. number_of p ws) same, one)) in
    let count : (x : ℕ) → among x u ≡ number_of x (w ∷ []) + number_of x ws = λ x. sym (number_of-order x u) ∙ ap (number_of x) (sym is) ∙ number_of-block (w ∷ []) ws vs put x in
    let mine : IsOwn w = record { window = new.window; root = root; desktop = desk } in
    let old = shallow_less n ws vs ws (created_less ws n w over' s new) (parents_known ws ws n stack new.given (all_found ws stack.single)) stack.levels in
    let levels = AllBy-whole (IsShallow vs) (w ∷ []) ws vs put (new_shallow ws n w over' s new, tt) old in
    let O : List Win → Type 0 = λ us. AllByRecursion IsOwn us in
    let L : List Win → Type 0 = λ us. AllByRecursion (IsShallow us) us in
    let S : List Win → Type 0 = λ us. IsStack us in
    let tree : IsOneTree u = record {
      children = AreChildren-on_top w.parent 0 w Empty s.tree.forest refl tt s.tree.tree.children;
      single = λ x. omega (arith, count x, alone_once w ws x none (stack.single x));
      some = omega (arith, count 1, one);
      own = subst O is (AllBy-whole IsOwn (w ∷ []) ws vs put (mine, tt) (own_of ws w.parent s));
    } in
    subst S (sym is) (stack_of u tree (subst L is levels) (omega (arith, ap length (sym is), length-block (w ∷ []) ws vs put, new.few)))

-- ---- handles that were given out

given_more : (n : ℕ) (ws : List Win) → AreGiven n ws → AreGiven (n + 1) ws
given_more n [] given = tt
given_more n (w ∷ ws) given = (omega (arith, given.0), given_more n ws given.1)

pub created_given : (ws : List Win) (n : ℕ) (w : Win) (s : IsPlaced ws w.parent) → AreGiven n ws → w.handle ≡ n + 1 → AreGiven (n + 1) (on_top_of w.parent (w ∷ []) ws)
created_given ws n w s given next =
    AllBy-whole (λ v. v.handle ≤ n + 1) (w ∷ []) ws (on_top_of w.parent (w ∷ []) ws) (created_stands ws w s) (omega (arith, next), tt) (given_more n ws given)

pub without_given : (ws : List Win) (n h : ℕ) (s : IsPlaced ws h) → AreGiven n ws → AreGiven n (without_family h ws)
without_given ws n h s given = AllBy-rest (λ v. v.handle ≤ n) (family_of h ws) (without_family h ws) ws (family_stands ws h s) given

given_moved : (ws vs fam rest : List Win) (n : ℕ) → StandsIn fam rest ws → StandsIn fam rest vs → AreGiven n ws → AreGiven n vs
given_moved ws vs fam rest n was is given =
    AllBy-whole (λ v. v.handle ≤ n) fam rest vs is (AllBy-block (λ v. v.handle ≤ n) fam rest ws was given) (AllBy-rest (λ v. v.handle ≤ n) fam rest ws was given)

pub raised_given : (ws : List Win) (n h : ℕ) (s : IsPlaced ws h) → IsStack ws → h ≢ 1 → AreGiven n ws → AreGiven n (raised h ws)
raised_given ws n h s stack other given = given_moved ws (raised h ws) (family_of h ws) (without_family h ws) n (family_stands ws h s) (raised_stands ws h s stack other) given

pub lowered_given : (ws : List Win) (n h : ℕ) (s : IsPlaced ws h) → IsStack ws → h ≢ 1 → AreGiven n ws → AreGiven n (lowered h ws)
lowered_given ws n h s stack other given = given_moved ws (lowered h ws) (family_of h ws) (without_family h ws) n (family_stands ws h s) (lowered_stands ws h s stack other) given
