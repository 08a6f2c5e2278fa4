-- Passes that are made with the lock, and passes that are gathered for its end.
use Rattle.std.proofs.Common.{◌≡◌, ℕ, ◌+◌, ◌<◌, zero, suc, inl, inr, ⊎_elim, Bool, cond, eq-eqb, List, [], ◌∷◌, ◌++◌, length, refl, sym, ap, ◌∙◌, subst, arith, append_assoc, Option, Some}
use Rattle.gui_lock.specs.declared.entry.Entry.{Entry}
use Rattle.gui_lock.specs.declared.view.Terms.{Terms}
use Rattle.gui_lock.specs.declared.view.View.{View}
use Rattle.gui_lock.specs.Entries.{Begins, calls_by}
use Rattle.gui_lock.specs.Rule.{claims, AreCallsIn, joined}
use Rattle.gui_lock.specs.Passes.{Locked, Held, IsOf, terms_of, longer, shorter, new_pass, new_passes, AreFree, HasNumber, HasAll}
use Rattle.gui_lock.specs.Seats.{Claims, Gathered}
use Rattle.gui_lock.proofs.CallerLemmas.{append_nil, begins_more}
use Rattle.gui_lock.proofs.ClaimLemmas.{begins_longer}
use Rattle.atomic_table.specs.Seated.{TableId}

pub no_items : {A : Type 0} (l : List A) → length l ≡ 0 → l ≡ []
no_items [] e = refl
no_items (x ∷ xs) e = absurd (omega arith)

pub same_some : {A : Type 0} (o : Option A) (x y : A) → o ≡ Some x → o ≡ Some y → x ≡ y
same_some o x y e f = let g : Some x ≡ Some y = sym e ∙ f in cc

pub length_new : {K : Type 0} (C : Type 0) (lock : Locked K) (first n : ℕ) → length (new_passes {C = C} lock first n) ≡ n
length_new C lock first zero = refl
length_new C lock first (suc n) = ap suc (length_new C lock (suc first) n)

module _ {C : Type 0} where
  claims_left : (k : ℕ) (m : List C) (xs ys : List (ℕ × List C)) → Claims k m xs → Claims k m (xs ++ ys)
  claims_left k m [] ys h = absurd h
  claims_left k m (c ∷ cs) ys h = ⊎_elim (λ (e : (c.0 ≡ k) × (c.1 ≡ m)). inl e) (λ (t : Claims k m cs). inr (claims_left k m cs ys t)) h

  claims_right : (k : ℕ) (m : List C) (xs ys : List (ℕ × List C)) → Claims k m ys → Claims k m (xs ++ ys)
  claims_right k m [] ys h = h
  claims_right k m (c ∷ cs) ys h = inr (claims_right k m cs ys h)

  claims_some : (k : ℕ) (m : List C) (cs : List (ℕ × List C)) → Claims k m cs → 0 < claims k cs
  claims_some k m [] h = absurd h
  claims_some k m (c ∷ cs) h = ⊎_elim
      (λ (e : (c.0 ≡ k) × (c.1 ≡ m)). subst (λ (b : Bool). 0 < cond b 1 0 + claims k cs) (sym (eq-eqb c.0 k e.0)) (omega arith))
      (λ (t : Claims k m cs). let p = claims_some k m cs t in omega arith) h

  claims_are : (k : ℕ) (m : List C) (log : List (Entry C)) (cs : List (ℕ × List C)) → AreCallsIn log cs → Claims k m cs → calls_by k log ≡ m
  claims_are k m log [] r h = absurd h
  claims_are k m log (c ∷ cs) r h = ⊎_elim
      (λ (e : (c.0 ≡ k) × (c.1 ≡ m)). ap (λ (n : ℕ). calls_by n log) (sym e.0) ∙ (r.0 ∙ e.1))
      (λ (t : Claims k m cs). claims_are k m log cs r.1 t) h

module _ {C K : Type 0} where
  pub new_is : (lock : Locked K) (table : TableId) (terms : Option (Terms K)) (k : ℕ) → table ≡ lock.table → terms ≡ Some (terms_of lock)
      → record { table = table; number = k; depth = 0; seen = []; mine = []; terms = terms } ≡ new_pass {C = C} lock k
  new_is lock table terms k e f i = record { table = e i; number = k; depth = 0; seen = []; mine = []; terms = f i }

  pub new_more : (lock : Locked K) (first n k : ℕ) (p : Held C K) → p ≡ new_pass lock k → k ≡ first + n → new_passes lock first n ++ p ∷ [] ≡ new_passes lock first (suc n)
  new_more lock first zero k p is at = ap (λ (q : Held C K). q ∷ []) (is ∙ ap (new_pass lock) (omega arith))
  new_more lock first (suc n) k p is at = ap (λ (l : List (Held C K)). new_pass lock first ∷ l) (new_more lock (suc first) n k p is (omega arith))

  pub free_at : (lock : Locked K) (xs : List (Held C K)) (p : Held C K) (rest : List (Held C K)) → AreFree lock (xs ++ p ∷ rest) → IsOf lock p × (p.depth ≡ 0)
  free_at lock [] p rest h = h.0
  free_at lock (x ∷ xs) p rest h = free_at lock xs p rest h.1

  pub gathered_first : (p : Held C K) (v : View C K) → v.seen ≡ p.seen → v.mine ≡ (p.number, p.mine) ∷ [] → Gathered (p ∷ []) v
  gathered_first p v seen mine = ((([], sym (append_right v.seen p.seen seen)), subst (Claims p.number p.mine) (sym mine) (inl (refl, refl))), tt)
    where
      append_right : (a b : List (Entry C)) → a ≡ b → b ++ [] ≡ a
      append_right a b e = append_nil b ∙ sym e

  pub gathered_both : (ps : List (Held C K)) (v w : View C K) → Begins v.seen (longer v.seen w.seen) → Gathered ps v → Gathered ps (joined v w)
  gathered_both [] v w begins h = tt
  gathered_both (p ∷ ps) v w begins h = ((begins_more p.seen v.seen (longer v.seen w.seen) h.0.0 begins, claims_left p.number p.mine v.mine w.mine h.0.1), gathered_both ps v w begins h.1)

  pub gathered_more : (p : Held C K) (ps : List (Held C K)) (v w : View C K) → w.seen ≡ p.seen → w.mine ≡ (p.number, p.mine) ∷ [] → Begins (shorter v.seen w.seen) (longer v.seen w.seen) → Gathered ps v → Gathered (p ∷ ps) (joined v w)
  gathered_more p ps v w seen mine begins h =
      let both = begins_longer v.seen w.seen begins in (
        (
          subst (λ (l : List (Entry C)). Begins l (longer v.seen w.seen)) seen both.1,
          claims_right p.number p.mine v.mine w.mine (subst (Claims p.number p.mine) (sym mine) (inl (refl, refl))),
        ),
        gathered_both ps v w both.0 h,
      )

  pub gathered_acts : (k : ℕ) (ps : List (Held C K)) (v : View C K) → Gathered ps v → HasNumber k ps → 0 < claims k v.mine
  gathered_acts k [] v h n = absurd n
  gathered_acts k (p ∷ ps) v h n = ⊎_elim (λ (e : p.number ≡ k). claims_some k p.mine v.mine (subst (λ (j : ℕ). Claims j p.mine v.mine) e h.0.1)) (λ (t : HasNumber k ps). gathered_acts k ps v h.1 t) n

  pub gathered_has : (log : List (Entry C)) (ps : List (Held C K)) (v : View C K) → Begins v.seen log → AreCallsIn log v.mine → Gathered ps v → HasAll log ps
  gathered_has log [] v begins right h = tt
  gathered_has log (p ∷ ps) v begins right h = ((begins_more p.seen v.seen log h.0.0 begins, claims_are p.number p.mine log v.mine right h.0.1), gathered_has log ps v begins right h.1)

  -- the last of the passes that are left goes in front of those that were taken
  pub taken_more : (all left less taken : List (Held C K)) (p : Held C K) → all ≡ left ++ taken → left ≡ less ++ p ∷ [] → all ≡ less ++ p ∷ taken
  taken_more all left less taken p is last = is ∙ (ap (λ (l : List (Held C K)). l ++ taken) last ∙ append_assoc less (p ∷ []) taken)

  pub taken_all : (all left taken : List (Held C K)) → all ≡ left ++ taken → length left ≡ 0 → all ≡ taken
  taken_all all left taken is none = is ∙ ap (λ (l : List (Held C K)). l ++ taken) (no_items left none)
