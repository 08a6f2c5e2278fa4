-- Numbers with their calls in a history.
use Rattle.std.proofs.Common.{◌≡◌, ℕ, ◌+◌, ◌<◌, ◌≤◌, zero, suc, Bool, true, false, cond, nat_lt, eqb, eq-eqb, ne_eqb, List, [], ◌∷◌, ◌++◌, length, refl, sym, ap, ◌∙◌, subst, arith}
use Rattle.gui_lock.specs.declared.entry.Entry.{Entry}
use Rattle.gui_lock.specs.Entries.{calls_by, Begins}
use Rattle.gui_lock.specs.Passes.{longer, shorter}
use Rattle.gui_lock.specs.Rule.{claims, AreCallsIn, retold, numbers}
use Rattle.gui_lock.proofs.CallerLemmas.{begins_all}
use mathlib.Core.Logic.{dite}
use native.Mathlib.Decide.{ℕ_discrete}

module _ {C : Type 0} where
  pub begins_longer : (a b : List (Entry C)) → Begins (shorter a b) (longer a b) → Begins a (longer a b) × Begins b (longer a b)
  begins_longer a b h = go (nat_lt (length a) (length b)) h
    where
      go : (t : Bool) → Begins (cond t a b) (cond t b a) → Begins a (cond t b a) × Begins b (cond t b a)
      go true h = (h, begins_all b)
      go false h = (begins_all a, h)

  -- each number's calls are the same in the longer history
  pub are_calls_more : (log more : List (Entry C)) (cs : List (ℕ × List C)) → AreCallsIn log cs → ((k : ℕ) → 0 < claims k cs → calls_by k more ≡ calls_by k log) → AreCallsIn more cs
  are_calls_more log more [] h same = tt
  are_calls_more log more (c ∷ cs) h same =
      let here : 0 < claims c.0 (c ∷ cs) = subst (λ (b : Bool). 0 < cond b 1 0 + claims c.0 cs) (sym (eq-eqb c.0 c.0 refl)) (omega arith) in (
        same c.0 here ∙ h.0,
        are_calls_more log more cs h.1 (λ k pos. same k (omega arith)),
      )

  pub are_calls_retold : (log : List (Entry C)) (cs : List (ℕ × List C)) → AreCallsIn log (retold log cs)
  are_calls_retold log [] = tt
  are_calls_retold log (c ∷ cs) = (refl, are_calls_retold log cs)

  pub claims_retold : (k : ℕ) (log : List (Entry C)) (cs : List (ℕ × List C)) → claims k (retold log cs) ≡ claims k cs
  claims_retold k log [] = refl
  claims_retold k log (c ∷ cs) = ap (λ n. cond (eqb c.0 k) 1 0 + n) (claims_retold k log cs)

  pub claims-append : (k : ℕ) (xs ys : List (ℕ × List C)) → claims k (xs ++ ys) ≡ claims k xs + claims k ys
  claims-append k [] ys = omega arith
  claims-append k (c ∷ cs) ys = let e = claims-append k cs ys in omega arith

  pub are_calls-append : (log : List (Entry C)) (xs ys : List (ℕ × List C)) → AreCallsIn log xs → AreCallsIn log ys → AreCallsIn log (xs ++ ys)
  are_calls-append log [] ys h g = g
  are_calls-append log (c ∷ cs) ys h g = (h.0, are_calls-append log cs ys h.1 g)

-- the numbers that the first seat acts for
module _ (C : Type 0) where
  pub are_calls_numbers : (first n : ℕ) → AreCallsIn {C = C} [] (numbers first n)
  are_calls_numbers first zero = tt
  are_calls_numbers first (suc n) = (refl, are_calls_numbers (suc first) n)

  pub claims_below : (k first n : ℕ) → k < first → claims k (numbers {C = C} first n) ≡ 0
  claims_below k first zero lt = refl
  claims_below k first (suc n) lt = let e = claims_below k (suc first) n (omega arith) in subst (λ (b : Bool). cond b 1 0 + claims k (numbers {C = C} (suc first) n) ≡ 0) (sym (ne_eqb first k (λ h. omega arith))) (omega arith)

  -- a number is among first, first + 1 .. once at most
  pub claims_numbers : (k first n : ℕ) → claims k (numbers {C = C} first n) ≤ 1
  claims_numbers k first zero = omega arith
  claims_numbers k first (suc n) = dite (ℕ_discrete first k)
      (λ e. subst (λ (b : Bool). cond b 1 0 + claims k (numbers {C = C} (suc first) n) ≤ 1) (sym (eq-eqb first k e)) (let z = claims_below k (suc first) n (omega arith) in omega arith))
      (λ ne. subst (λ (b : Bool). cond b 1 0 + claims k (numbers {C = C} (suc first) n) ≤ 1) (sym (ne_eqb first k ne)) (let z = claims_numbers k (suc first) n in omega arith))

  pub claims_above : (k first n : ℕ) → first + n ≤ k → claims k (numbers {C = C} first n) ≡ 0
  claims_above k first zero le = refl
  claims_above k first (suc n) le = let e = claims_above k (suc first) n (omega arith) in subst (λ (b : Bool). cond b 1 0 + claims k (numbers {C = C} (suc first) n) ≡ 0) (sym (ne_eqb first k (λ h. omega arith))) (omega arith)
