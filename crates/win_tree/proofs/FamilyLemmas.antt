-- Families in the windows of a tree, from back to front.
use Rattle.std.proofs.Common.{◌≡◌, ◌⊎◌, ℕ, ◌+◌, ◌≤◌, Bool, true, false, not, cond, eqb, List, [], ◌∷◌, ◌++◌, filter, Option, Some, refl, sym, ap, subst, ◌∙◌, inl, inr, arith, eq-eqb, append_assoc}
use Rattle.std.specs.List.{list_any}
use Rattle.std.proofs.lemmas.Bool.{cases_Bool, cases_lt, eqb-true, or_from, or_right, or_left, or_parts}
use Rattle.std.proofs.lemmas.List.{append-nil}
use Rattle.std.proofs.lemmas.List.Elements.{filter-append}
use Rattle.scene.specs.declared.win.Win.{Win}
use Rattle.win_tree.specs.declared.node.Node.{Node}
use Rattle.scene.specs.Families.{has_handle, belongs, family_from, family_of, is_in, without_family, after_last, on_top_of, right_after}
use Rattle.scene.specs.Places.{number_of}
use Rattle.win_tree.specs.Forests.{Forest, Empty, Top, order, among, one_if, AreLinked, AreChildren}
use Rattle.win_tree.proofs.ForestLemmas.{here, not_here}
use Rattle.win_tree.proofs.LinkLemmas.{without, with_top, ended, with_bottom, without-absent, with_top-absent, with_bottom-absent}
use Rattle.win_tree.proofs.FreeLemmas.{has_handle-append}

-- ---- counts in lists

pub number_of-append : (h : ℕ) (xs ys : List Win) → number_of h (xs ++ ys) ≡ number_of h xs + number_of h ys
number_of-append h [] ys = omega arith
number_of-append h (x ∷ xs) ys = omega (arith, number_of-append h xs ys)

pub number_of-order : (h : ℕ) (t : Forest) → number_of h (order t) ≡ among h t
number_of-order h Empty = refl
number_of-order h (Top w kids below) = omega (arith, number_of-append h (order below) (w ∷ order kids), number_of-order h below, number_of-order h kids)

pub has_handle-none : (h : ℕ) (ws : List Win) → number_of h ws ≡ 0 → has_handle h ws ≡ false
has_handle-none h [] none = refl
has_handle-none h (w ∷ ws) none = rw (not_here w h (omega (arith, none))) (has_handle-none h ws (omega (arith, none)))

pub has_handle-some : (h : ℕ) (ws : List Win) → 1 ≤ number_of h ws → has_handle h ws ≡ true
has_handle-some h [] some = absurd (omega (arith, some))
has_handle-some h (w ∷ ws) some =
    elim (cases_Bool (eqb w.handle h)) [
      | inl e ↦ rw e refl
      | inr e ↦ let f : one_if (eqb w.handle h) ≡ 0 = rw e refl in rw e (has_handle-some h ws (omega (arith, some, f)))
    ]

-- ---- what is in a family, and what isn't

-- lists that share no handle
abbrev pub ArePart : List Win → List Win → Type 0
ArePart fam xs = (x : ℕ) → number_of x xs + number_of x fam ≤ 1

in_none : (fam : List Win) (w : Win) (ws : List Win) → ArePart fam (w ∷ ws) → is_in fam w ≡ false
in_none fam w ws part = has_handle-none w.handle fam (omega (arith, part w.handle, here w w.handle refl))

pub filter-keeps : (fam xs : List Win) → ArePart fam xs → filter (λ w. not (is_in fam w)) xs ≡ xs
filter-keeps fam [] part = refl
filter-keeps fam (w ∷ ws) part = rw (in_none fam w ws part, filter-keeps fam ws (λ x. omega (arith, part x))) refl

in_it : (fam : List Win) (w : Win) (ws : List Win) → ((x : ℕ) → number_of x (w ∷ ws) ≤ number_of x fam) → is_in fam w ≡ true
in_it fam w ws within = has_handle-some w.handle fam (omega (arith, within w.handle, here w w.handle refl))

pub filter-drops : (fam xs : List Win) → ((x : ℕ) → number_of x xs ≤ number_of x fam) → filter (λ w. not (is_in fam w)) xs ≡ []
filter-drops fam [] within = refl
filter-drops fam (w ∷ ws) within = rw (in_it fam w ws within) (filter-drops fam ws (λ x. omega (arith, within x)))

any_none : (fam xs : List Win) → ArePart fam xs → list_any (is_in fam) xs ≡ false
any_none fam [] part = refl
any_none fam (w ∷ ws) part = rw (in_none fam w ws part) (any_none fam ws (λ x. omega (arith, part x)))

-- ---- after the last

after_last-before : (test : Win → Bool) (more bs rest : List Win) → list_any test bs ≡ false → after_last test more (bs ++ rest) ≡ bs ++ after_last test more rest
after_last-before test more [] rest none = refl
after_last-before test more (b ∷ bs) rest none =
    let parts = or_parts (test b) (list_any test bs) none in
    rw parts.0 (ap (λ ws. b ∷ ws) (after_last-before test more bs rest parts.1))

-- each of the windows passes
abbrev AllPass : (Win → Bool) → List Win → Type 0
AllPass test [] = Unit {0}
AllPass test (w ∷ ws) = (test w ≡ true) × AllPass test ws

all_in : (fam xs : List Win) → ((x : ℕ) → number_of x xs ≤ number_of x fam) → AllPass (is_in fam) xs
all_in fam [] within = tt
all_in fam (w ∷ ws) within = (in_it fam w ws within, all_in fam ws (λ x. omega (arith, within x)))

after_last-more : (test : Win → Bool) (more : List Win) (w : Win) (ws : List Win) → test w ≡ true → list_any test ws ≡ true → after_last test more (w ∷ ws) ≡ w ∷ after_last test more ws
after_last-more test more w ws passes any = rw (passes, any) refl

after_last-block : (test : Win → Bool) (more : List Win) (m : Win) (ms rest : List Win) → AllPass test (m ∷ ms) → list_any test rest ≡ false → after_last test more (m ∷ (ms ++ rest)) ≡ m ∷ (ms ++ (more ++ rest))
after_last-block test more m [] rest pass none = rw (pass.0, none) refl
after_last-block test more m (m2 ∷ ms) rest pass none =
    after_last-more test more m (m2 ∷ (ms ++ rest)) pass.0 (or_left (test m2) (list_any test (ms ++ rest)) pass.1.0)
    ∙ ap (λ ws. m ∷ ws) (after_last-block test more m2 ms rest pass.1 none)

-- ---- where a window stands

-- the parents of the windows aren't in the family
abbrev pub AreOutside : List Win → List Win → Type 0
AreOutside fam [] = Unit {0}
AreOutside fam (w ∷ ws) = (has_handle w.parent fam ≡ false) × AreOutside fam ws

AreOutside-append : (fam xs ys : List Win) → AreOutside fam xs → AreOutside fam ys → AreOutside fam (xs ++ ys)
AreOutside-append fam [] ys p q = q
AreOutside-append fam (x ∷ xs) ys p q = (p.0, AreOutside-append fam xs ys p.1 q)

AreOutside-children : (fam : List Win) (over' : ℕ) (t : Forest) → AreChildren over' t → number_of over' fam ≡ 0 → ((x : ℕ) → among x t + number_of x fam ≤ 1) → AreOutside fam (order t)
AreOutside-children fam over' Empty children none part = tt
AreOutside-children fam over' (Top w kids below) children none part =
    AreOutside-append fam (order below) (w ∷ order kids)
    (AreOutside-children fam over' below children.2 none (λ x. omega (arith, part x))) (
      has_handle-none w.parent fam (omega (arith, none, ap (λ p. number_of p fam) children.0)),
      AreOutside-children fam w.handle kids children.1 (omega (arith, part w.handle, here w w.handle refl)) (λ x. omega (arith, part x)),
    )

-- a window of a tree in the list of its windows, and the lists after changes there
pub record Spot (h over' : ℕ) (t : Forest) : Type 0 where
  pub before : List Win
  pub after : List Win
  pub win : Win
  pub kids : Forest
  pub handle : win.handle ≡ h
  pub is : order t ≡ before ++ (win ∷ (order kids ++ after))
  pub children : AreChildren h kids
  pub parent : (win.parent ≡ over') ⊎ (1 ≤ number_of win.parent before)
  pub outside : AreOutside (win ∷ order kids) after
  pub gone : order (without h t) ≡ before ++ after
  pub topped : (v : Win) (inner : Forest) → order (with_top h v inner t) ≡ before ++ (win ∷ ((order kids ++ v ∷ order inner) ++ after))
  pub bottomed : (v : Win) (inner : Forest) → order (with_bottom h v inner t) ≡ before ++ (win ∷ (((v ∷ order inner) ++ order kids) ++ after))
  pub node : (found : ℕ → Option Node) (link : Option ℕ) → AreLinked found link t → (k : ℕ) × (n : Node) × (found k ≡ Some n) × (n.win ≡ win) × AreLinked found n.first kids

order-ended : (v : Win) (inner t : Forest) → order (ended v inner t) ≡ (v ∷ order inner) ++ order t
order-ended v inner Empty = sym (append-nil (v ∷ order inner))
order-ended v inner (Top w kids below) = rw (order-ended v inner below) (append_assoc (v ∷ order inner) (order below) (w ∷ order kids))

tail_moved : (a b c d : List Win) (x : Win) → (a ++ (x ∷ (b ++ c))) ++ d ≡ a ++ (x ∷ (b ++ (c ++ d)))
tail_moved a b c d x = append_assoc a (x ∷ (b ++ c)) d ∙ ap (λ ws. a ++ (x ∷ ws)) (append_assoc b c d)

at_top : (h over' : ℕ) (w : Win) (kids below : Forest) → w.handle ≡ h → AreChildren over' (Top w kids below) → Spot h over' (Top w kids below)
at_top h over' w kids below e children =
    let test = eq-eqb w.handle h e in
    let C : ℕ → Type 0 = λ p. AreChildren p kids in
    record {
      before = order below;
      after = [];
      win = w;
      kids = kids;
      handle = e;
      is = ap (λ ws. order below ++ (w ∷ ws)) (sym (append-nil (order kids)));
      children = subst C e children.1;
      parent = inl children.0;
      outside = tt;
      gone = rw test (sym (append-nil (order below)));
      topped = λ v inner. rw test (ap (λ ws. order below ++ (w ∷ ws)) (sym (append-nil (order kids ++ v ∷ order inner))));
      bottomed = λ v inner. rw test (ap (λ ws. order below ++ (w ∷ ws)) (order-ended v inner kids ∙ sym (append-nil ((v ∷ order inner) ++ order kids))));
      node = λ found link q. (q.0, q.1, q.3, q.4, q.5);
    }

parent_above : (w win : Win) (below before : List Win) → (win.parent ≡ w.handle) ⊎ (1 ≤ number_of win.parent before) → 1 ≤ number_of win.parent (below ++ (w ∷ before))
parent_above w win below before (inl e) = omega (arith, number_of-append win.parent below (w ∷ before), here w win.parent (sym e))
parent_above w win below before (inr n) = omega (arith, number_of-append win.parent below (w ∷ before), n)

in_kids : (h over' : ℕ) (w : Win) (kids below : Forest) → eqb w.handle h ≡ false → among h below ≡ 0 → Spot h w.handle kids → Spot h over' (Top w kids below)
in_kids h over' w kids below test none s =
    record {
      before = order below ++ (w ∷ s.before);
      after = s.after;
      win = s.win;
      kids = s.kids;
      handle = s.handle;
      is = ap (λ ws. order below ++ (w ∷ ws)) s.is ∙ sym (append_assoc (order below) (w ∷ s.before) (s.win ∷ (order s.kids ++ s.after)));
      children = s.children;
      parent = inr (parent_above w s.win (order below) s.before s.parent);
      outside = s.outside;
      gone = rw (test, without-absent h below none) (ap (λ ws. order below ++ (w ∷ ws)) s.gone ∙ sym (append_assoc (order below) (w ∷ s.before) s.after));
      topped = λ v inner. rw (test, with_top-absent h v inner below none) (ap (λ ws. order below ++ (w ∷ ws)) (s.topped v inner) ∙ sym (append_assoc (order below) (w ∷ s.before) (s.win ∷ ((order s.kids ++ v ∷ order inner) ++ s.after))));
      bottomed = λ v inner. rw (test, with_bottom-absent h v inner below none) (ap (λ ws. order below ++ (w ∷ ws)) (s.bottomed v inner) ∙ sym (append_assoc (order below) (w ∷ s.before) (s.win ∷ (((v ∷ order inner) ++ order s.kids) ++ s.after))));
      node = λ found link q. s.node found q.1.first q.5;
    }

in_below : (h over' : ℕ) (w : Win) (kids below : Forest) → AreChildren over' (Top w kids below) → ((x : ℕ) → among x (Top w kids below) ≤ 1) → among over' below ≡ 0 → eqb w.handle h ≡ false → among h kids ≡ 0 → Spot h over' below → Spot h over' (Top w kids below)
in_below h over' w kids below children single free test none s =
    let fam = s.win ∷ order s.kids in
    let counted : (x : ℕ) → among x below ≡ number_of x s.before + (number_of x fam + number_of x s.after) = λ x.
    omega (arith, number_of-order x below, ap (number_of x) s.is, number_of-append x s.before (s.win ∷ (order s.kids ++ s.after)), number_of-append x (order s.kids) s.after) in
    record {
      before = s.before;
      after = s.after ++ (w ∷ order kids);
      win = s.win;
      kids = s.kids;
      handle = s.handle;
      is = ap (λ ws. ws ++ (w ∷ order kids)) s.is ∙ tail_moved s.before (order s.kids) s.after (w ∷ order kids) s.win;
      children = s.children;
      parent = s.parent;
      outside = AreOutside-append fam s.after (w ∷ order kids) s.outside (
        has_handle-none w.parent fam (omega (arith, free, counted over', ap (λ p. number_of p fam) children.0)),
        AreOutside-children fam w.handle kids children.1
            (omega (arith, single w.handle, counted w.handle, here w w.handle refl))
            (λ x. omega (arith, single x, counted x)),
      );
      gone = rw (test, without-absent h kids none) (ap (λ ws. ws ++ (w ∷ order kids)) s.gone ∙ append_assoc s.before s.after (w ∷ order kids));
      topped = λ v inner. rw (test, with_top-absent h v inner kids none) (ap (λ ws. ws ++ (w ∷ order kids)) (s.topped v inner) ∙ tail_moved s.before (order s.kids ++ v ∷ order inner) s.after (w ∷ order kids) s.win);
      bottomed = λ v inner. rw (test, with_bottom-absent h v inner kids none) (ap (λ ws. ws ++ (w ∷ order kids)) (s.bottomed v inner) ∙ tail_moved s.before ((v ∷ order inner) ++ order s.kids) s.after (w ∷ order kids) s.win);
      node = λ found link q. s.node found q.1.next q.6;
    }

pub spot : (h over' : ℕ) (t : Forest) → AreChildren over' t → ((x : ℕ) → among x t ≤ 1) → among over' t ≡ 0 → 1 ≤ among h t → Spot h over' t
spot h over' Empty children single free some = absurd (omega (arith, some))
spot h over' (Top w kids below) children single free some =
    elim (cases_Bool (eqb w.handle h)) [
      | inl e ↦ at_top h over' w kids below (eqb-true w.handle h e) children
      | inr e ↦
          let off : one_if (eqb w.handle h) ≡ 0 = rw e refl in
          elim (cases_lt 0 (among h kids)) [
            | inl inside ↦ in_kids h over' w kids below e (omega (arith, single h, inside))
                (spot h w.handle kids children.1 (λ x. omega (arith, single x)) (omega (arith, single w.handle, here w w.handle refl)) inside)
            | inr outside ↦ in_below h over' w kids below children single (omega (arith, free)) e (omega (arith, outside))
                (spot h over' below children.2 (λ x. omega (arith, single x)) (omega (arith, free)) (omega (arith, some, off, outside)))
          ]
    ]

-- ---- the family of a window

family_from-member : (h : ℕ) (found : List Win) (w : Win) (ws : List Win) → belongs h found w ≡ true → family_from h found (w ∷ ws) ≡ family_from h (found ++ w ∷ []) ws
family_from-member h found w ws e = ap (λ b. family_from h (cond b (found ++ w ∷ []) found) ws) e

family_from-other : (h : ℕ) (found : List Win) (w : Win) (ws : List Win) → belongs h found w ≡ false → family_from h found (w ∷ ws) ≡ family_from h found ws
family_from-other h found w ws e = ap (λ b. family_from h (cond b (found ++ w ∷ []) found) ws) e

family_from-before : (h : ℕ) (bs rest : List Win) → number_of h bs ≡ 0 → family_from h [] (bs ++ rest) ≡ family_from h [] rest
family_from-before h [] rest none = refl
family_from-before h (b ∷ bs) rest none = family_from-other h [] b (bs ++ rest) (or_from _ _ (not_here b h (omega (arith, none))) refl) ∙ family_from-before h bs rest (omega (arith, none))

last_has : (found : List Win) (w : Win) → has_handle w.handle (found ++ w ∷ []) ≡ true
last_has found w = has_handle-some w.handle (found ++ w ∷ []) (omega (arith, number_of-append w.handle found (w ∷ []), here w w.handle refl))

family_from-children : (h : ℕ) (found : List Win) (over' : ℕ) (t : Forest) (rest : List Win) → AreChildren over' t → has_handle over' found ≡ true → family_from h found (order t ++ rest) ≡ family_from h (found ++ order t) rest
family_from-children h found over' Empty rest children has = ap (λ ws. family_from h ws rest) (sym (append-nil found))
family_from-children h found over' (Top w kids below) rest children has =
    let has_parent : has_handle w.parent (found ++ order below) ≡ true = ap (λ p. has_handle p (found ++ order below)) children.0 ∙ has_handle-append over' found (order below) ∙ or_left _ _ has in
    let member : belongs h (found ++ order below) w ≡ true = or_right (eqb w.handle h) (has_handle w.parent (found ++ order below)) has_parent in
    ap (family_from h found) (append_assoc (order below) (w ∷ order kids) rest)
    ∙ family_from-children h found over' below (w ∷ (order kids ++ rest)) children.2 has
    ∙ family_from-member h (found ++ order below) w (order kids ++ rest) member
    ∙ (family_from-children h ((found ++ order below) ++ w ∷ []) w.handle kids rest children.1 (last_has (found ++ order below) w))
    ∙ ap (λ ws. family_from h ws rest) (append_assoc (found ++ order below) (w ∷ []) (order kids) ∙ append_assoc found (order below) (w ∷ order kids))

family_from-outside : (h : ℕ) (fam ws : List Win) → AreOutside fam ws → number_of h ws ≡ 0 → family_from h fam ws ≡ fam
family_from-outside h fam [] outside none = refl
family_from-outside h fam (w ∷ ws) outside none = family_from-other h fam w ws (or_from _ _ (not_here w h (omega (arith, none))) outside.0) ∙ family_from-outside h fam ws outside.1 (omega (arith, none))

-- how often a handle stands in the parts of a list
pub parts_counted : (h over' : ℕ) (t : Forest) (s : Spot h over' t) (x : ℕ) → among x t ≡ number_of x s.before + (number_of x (s.win ∷ order s.kids) + number_of x s.after)
parts_counted h over' t s x = omega (arith, number_of-order x t, ap (number_of x) s.is, number_of-append x s.before (s.win ∷ (order s.kids ++ s.after)), number_of-append x (order s.kids) s.after)

pub family_of-is : (h over' : ℕ) (t : Forest) (s : Spot h over' t) → ((x : ℕ) → among x t ≤ 1) → family_of h (order t) ≡ s.win ∷ order s.kids
family_of-is h over' t s single =
    let count = parts_counted h over' t s h in
    let at = single h in
    let mine = here s.win h s.handle in
    let test = eq-eqb s.win.handle h s.handle in
    let has : has_handle h (s.win ∷ []) ≡ true = rw test refl in
    ap (family_from h []) s.is
    ∙ family_from-before h s.before (s.win ∷ (order s.kids ++ s.after)) (omega (arith, count, at, mine))
    ∙ family_from-member h [] s.win (order s.kids ++ s.after) (or_left (eqb s.win.handle h) false test)
    ∙ (family_from-children h (s.win ∷ []) h s.kids s.after s.children has)
    ∙ family_from-outside h (s.win ∷ order s.kids) s.after s.outside (omega (arith, count, at, mine))

pub without_family-is : (h over' : ℕ) (t : Forest) (s : Spot h over' t) → ((x : ℕ) → among x t ≤ 1) → without_family h (order t) ≡ order (without h t)
unfolding without_family
without_family-is h over' t s single =
    let fam = s.win ∷ order s.kids in
    let test : Win → Bool = λ w. not (is_in fam w) in
    let count = parts_counted h over' t s in
    ap (λ f. filter (λ w. not (is_in f w)) (order t)) (family_of-is h over' t s single)
    ∙ ap (filter test) s.is
    ∙ filter-append test s.before (fam ++ s.after)
    ∙ ap (λ ws. filter test s.before ++ ws) (filter-append test fam s.after)
    ∙ rw (
      filter-keeps fam s.before (λ x. omega (arith, single x, count x)),
      filter-keeps fam s.after (λ x. omega (arith, single x, count x)),
      filter-drops fam fam (λ x. omega arith),
    ) (sym s.gone)

pub on_top_of-is : (h over' : ℕ) (t : Forest) (s : Spot h over' t) (v : Win) (inner : Forest) → ((x : ℕ) → among x t ≤ 1) → on_top_of h (v ∷ order inner) (order t) ≡ order (with_top h v inner t)
unfolding on_top_of
on_top_of-is h over' t s v inner single =
    let fam = s.win ∷ order s.kids in
    let count = parts_counted h over' t s in
    let more = v ∷ order inner in
    ap (λ f. after_last (is_in f) more (order t)) (family_of-is h over' t s single)
    ∙ ap (after_last (is_in fam) more) s.is
    ∙ after_last-before (is_in fam) more s.before (fam ++ s.after) (any_none fam s.before (λ x. omega (arith, single x, count x)))
    ∙ ap (λ ws. s.before ++ ws) (after_last-block (is_in fam) more s.win (order s.kids) s.after (all_in fam fam (λ x. omega arith)) (any_none fam s.after (λ x. omega (arith, single x, count x))))
    ∙ ap (λ ws. s.before ++ (s.win ∷ ws)) (sym (append_assoc (order s.kids) more s.after))
    ∙ sym (s.topped v inner)

pub right_after-is : (h over' : ℕ) (t : Forest) (s : Spot h over' t) (v : Win) (inner : Forest) → ((x : ℕ) → among x t ≤ 1) → right_after h (v ∷ order inner) (order t) ≡ order (with_bottom h v inner t)
unfolding right_after
right_after-is h over' t s v inner single =
    let test : Win → Bool = λ w. eqb w.handle h in
    let count = parts_counted h over' t s h in
    let at = single h in
    let mine = here s.win h s.handle in
    let more = v ∷ order inner in
    let rest = order s.kids ++ s.after in
    let none : list_any test rest ≡ false = has_handle-none h rest (omega (arith, count, at, mine, number_of-append h (order s.kids) s.after)) in
    ap (after_last test more) s.is
    ∙ after_last-before test more s.before (s.win ∷ rest) (has_handle-none h s.before (omega (arith, count, at, mine)))
    ∙ ap (λ ws. s.before ++ ws) (after_last-block test more s.win [] rest (eq-eqb s.win.handle h s.handle, tt) none)
    ∙ ap (λ ws. s.before ++ (s.win ∷ ws)) (sym (append_assoc more (order s.kids) s.after))
    ∙ sym (s.bottomed v inner)
