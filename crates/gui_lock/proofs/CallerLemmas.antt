-- Histories: their calls by one actor, which begins which, and what an apply without marks does.
use Rattle.std.proofs.Common.{◌≡◌, ◌≢◌, ℕ, ◌≤◌, Bool, true, false, eqb, eq-eqb, ne_eqb, List, [], ◌∷◌, ◌++◌, length, refl, sym, ap, ◌∙◌, subst, arith, append_assoc}
use Rattle.gui_lock.specs.declared.entry.Entry.{Entry}
use Rattle.gui_lock.specs.declared.entry.Entry.TheVariants.{Made, Mark}
use Rattle.gui_lock.specs.Entries.{AreMarks, AreByPasses, calls_by, pick, own, Begins, Outcome, IsAnswered, Applied}

module _ {A : Type 0} where
  pub append_none : (xs ys : List A) → xs ≡ xs ++ ys → ys ≡ []
  append_none [] ys e = sym e
  append_none (x ∷ xs) ys e = append_none xs ys cc

  pub append_empty : (xs ys : List A) → xs ++ ys ≡ [] → xs ≡ []
  append_empty [] ys e = refl
  append_empty (x ∷ xs) ys e = cc

  pub append_rest_empty : (xs ys : List A) → xs ++ ys ≡ [] → ys ≡ []
  append_rest_empty [] ys e = e
  append_rest_empty (x ∷ xs) ys e = cc

  pub append_nil : (xs : List A) → xs ++ [] ≡ xs
  append_nil [] = refl
  append_nil (x ∷ xs) = ap (λ l. x ∷ l) (append_nil xs)

module _ {C : Type 0} where
  pick_append : (b : Bool) (c : C) (xs ys : List C) → pick b c (xs ++ ys) ≡ pick b c xs ++ ys
  pick_append true c xs ys = refl
  pick_append false c xs ys = refl

  pub calls_by-append : (k : ℕ) (xs ys : List (Entry C)) → calls_by k (xs ++ ys) ≡ calls_by k xs ++ calls_by k ys
  calls_by-append k [] ys = refl
  calls_by-append k (Mark m n ∷ xs) ys = calls_by-append k xs ys
  calls_by-append k (Made a c ∷ xs) ys = ap (pick (eqb a k) c) (calls_by-append k xs ys) ∙ pick_append (eqb a k) c (calls_by k xs) (calls_by k ys)

  pub marks_none : (k : ℕ) (ms : List (Entry C)) → AreMarks ms → calls_by k ms ≡ []
  marks_none k [] h = refl
  marks_none k (Mark m n ∷ ms) h = marks_none k ms h
  marks_none k (Made a c ∷ ms) h = absurd h

  pub marks_append : (xs ys : List (Entry C)) → AreMarks xs → AreMarks ys → AreMarks (xs ++ ys)
  marks_append [] ys h g = g
  marks_append (Mark m n ∷ xs) ys h g = marks_append xs ys h g
  marks_append (Made a c ∷ xs) ys h g = absurd h

  pub own_same : (b : Bool) (k : ℕ) (c : C) → calls_by k (own b k c) ≡ pick b c []
  own_same true k c = ap (λ t. pick t c []) (eq-eqb k k refl)
  own_same false k c = refl

  pub own_other : (b : Bool) (k j : ℕ) (c : C) → k ≢ j → calls_by j (own b k c) ≡ []
  own_other true k j c ne = ap (λ t. pick t c []) (ne_eqb k j ne)
  own_other false k j c ne = refl

  -- entries of passes and more of them, and what is left of them
  pub by_passes-append : (passes : ℕ) (xs ys : List (Entry C)) → AreByPasses passes xs → AreByPasses passes ys → AreByPasses passes (xs ++ ys)
  by_passes-append passes xs ys h g k out = calls_by-append k xs ys ∙ (ap (λ l. l ++ calls_by k ys) (h k out) ∙ g k out)

  pub by_passes-rest : (passes : ℕ) (xs ys : List (Entry C)) → AreByPasses passes (xs ++ ys) → AreByPasses passes ys
  by_passes-rest passes xs ys h k out = append_rest_empty (calls_by k xs) (calls_by k ys) (sym (calls_by-append k xs ys) ∙ h k out)

  pub by_passes-marks : (passes : ℕ) (ms : List (Entry C)) → AreMarks ms → AreByPasses passes ms
  by_passes-marks passes ms h k out = marks_none k ms h

  pub begins_all : (xs : List (Entry C)) → Begins xs xs
  begins_all xs = ([], sym (append_nil xs))

  abbrev pub begins_more : (xs ys zs : List (Entry C)) → Begins xs ys → Begins ys zs → Begins xs zs
  begins_more xs ys zs p q = (p.0 ++ q.0, q.1 ∙ (ap (λ l. l ++ q.0) p.1 ∙ append_assoc xs p.0 q.0))

  -- of two beginnings of one list the shorter begins the longer
  pub begins_shorter : (a b log : List (Entry C)) → Begins a log → Begins b log → length a ≤ length b → Begins a b
  begins_shorter [] b log p q le = (b, refl)
  begins_shorter (x ∷ xs) [] log p q le = absurd (omega arith)
  begins_shorter (x ∷ xs) (y ∷ ys) log p q le =
      let r : List (Entry C) = p.0 in
      let s : List (Entry C) = q.0 in
      let e : x ∷ (xs ++ r) ≡ y ∷ (ys ++ s) = sym p.1 ∙ q.1 in
      let head : x ≡ y = cc in
      let tail : ys ++ s ≡ xs ++ r = cc in
      let t = begins_shorter xs ys (ys ++ s) (r, tail) (s, refl) (omega arith) in
      let t' : ys ≡ xs ++ t.0 = t.1 in
      (t.0, (ap (λ z. z ∷ ys) (sym head) ∙ ap (λ l. x ∷ l) t'))

module _ {C R M : Type 0} where
  -- an apply that adds its call and no mark
  pub applied_added : (gives : List (Entry C) → Outcome R M) (wanting may_want : Bool) (actor : ℕ) (call : C) (before after : List (Entry C)) (reply : R) (old_room room : M)
      → after ≡ before ++ Made actor call ∷ [] → wanting ≡ false → IsAnswered (gives before) true reply room
      → Applied gives wanting may_want actor call before after reply old_room room
  applied_added gives wanting may_want actor call before after reply old_room room is calm given =
      let none : before ++ [] ≡ before = append_nil before in record {
        marks = [];
        added = true;
        are_marks = tt;
        list = is ∙ ap (λ (l : List (Entry C)). l ++ Made actor call ∷ []) (sym none);
        wants = λ e. let f : true ≡ false = sym e ∙ calm in absurd cc;
        given = λ e. subst (λ (l : List (Entry C)). IsAnswered (gives l) true reply room) (sym none) given;
        unchanged = λ e. absurd cc;
      }

  -- an apply that adds nothing
  pub applied_nothing : (gives : List (Entry C) → Outcome R M) (wanting may_want : Bool) (actor : ℕ) (call : C) (before : List (Entry C)) (reply : R) (room : M)
      → (wanting ≡ true → may_want ≡ true) → (wanting ≡ false → IsAnswered (gives before) false reply room)
      → Applied gives wanting may_want actor call before before reply room room
  applied_nothing gives wanting may_want actor call before reply room wants given =
      let none : before ++ [] ≡ before = append_nil before in record {
        marks = [];
        added = false;
        are_marks = tt;
        list = sym (append_nil (before ++ []) ∙ none);
        wants = λ e. (refl, wants e);
        given = λ e. subst (λ (l : List (Entry C)). IsAnswered (gives l) false reply room) (sym none) (given e);
        unchanged = λ e. refl;
      }
