-- Splits and joins of seats keep the lock's rule, and what it says at the start and at the end.
use Rattle.std.proofs.Common.{◌≡◌, ◌≢◌, ℕ, ◌+◌, ◌*◌, ◌<◌, ◌≤◌, zero, suc, ◌⊎◌, inl, inr, ⊎_elim, Bool, true, false, cond, nat_lt, List, [], ◌∷◌, ◌++◌, length, set, refl, sym, ap, ◌∙◌, subst, arith, Option, Some}
use mathlib.Core.Option.{some, some-injective, some-ne-none}
use mathlib.Core.Logic.{dite}
use native.Mathlib.Decide.{ℕ_discrete, dec_le}
use lib.ListN.{get_elem?}
use Rattle.gui_lock.specs.declared.entry.Entry.{Entry}
use Rattle.gui_lock.specs.declared.view.Terms.{Terms}
use Rattle.gui_lock.specs.declared.view.View.{View}
use Rattle.gui_lock.specs.Entries.{AreByPasses, Begins}
use Rattle.gui_lock.specs.Rule.{total, claims, AreCallsIn, dealing, claims_of, turns_of, Knows, IsKept, Rule, first_view, first_claim, later_claims, without_next, with_next, note_of, joined, spent}
use Rattle.gui_lock.proofs.SumLemmas.{total_set, total_at, total_two, total_snoc, total_some}
use Rattle.gui_lock.proofs.ClaimLemmas.{claims-append, are_calls-append, are_calls_numbers, claims_below, claims_numbers, claims_above}
use Rattle.atomic_table.proofs.Lists.{at_set, at_snoc}
use Rattle.atomic_table.specs.Table.{State, Splits, Joins, Seen, Final, opening}

module _ {C : Type 0} where
  cut_claims : (k : ℕ) (cs : List (ℕ × List C)) → claims k (later_claims cs) + claims k (first_claim cs) ≡ claims k cs
  cut_claims k [] = refl
  cut_claims k (c ∷ cs) = omega arith

  are_calls_later : (log : List (Entry C)) (cs : List (ℕ × List C)) → AreCallsIn log cs → AreCallsIn log (later_claims cs)
  are_calls_later log [] h = tt
  are_calls_later log (c ∷ cs) h = h.1

  are_calls_first : (log : List (Entry C)) (cs : List (ℕ × List C)) → AreCallsIn log cs → AreCallsIn log (first_claim cs)
  are_calls_first log [] h = tt
  are_calls_first log (c ∷ cs) h = (h.0, tt)

  either_of : (b : Bool) (P : List (Entry C) → Type 0) (x y : List (Entry C)) → P x → P y → P (cond b x y)
  either_of true P x y p q = p
  either_of false P x y p q = q

module _ {V K C : Type 0} (entries : V → List (Entry C)) (kind : V → K) (opened : Terms K) where
  split_kept : (s : State (Option V) (View C K)) (log : List (Entry C)) → IsKept entries kind opened s log
      → (id : ℕ) (v : View C K) → get_elem? s.views id ≡ some v → (l r : View C K) → Knows opened log l → Knows opened log r
      → ((k : ℕ) → claims k l.mine + claims k r.mine ≡ claims k v.mine) → l.turns + r.turns ≡ v.turns
      → IsKept entries kind opened record { words = s.words; homes = s.homes; views = set s.views id l ++ r ∷ [] } log
  split_kept s log kept id v at l r left right parts turns =
      let t = total_set turns_of s.views id v l at in
      let u = total_snoc turns_of (set s.views id l) r in
      let all : total turns_of (set s.views id l ++ r ∷ []) ≡ total turns_of s.views = omega arith in
      let many : (k : ℕ) → total (claims_of k) (set s.views id l ++ r ∷ []) ≡ total (claims_of k) s.views = λ k.
      let a = total_set (claims_of k) s.views id v l at in let b = total_snoc (claims_of k) (set s.views id l) r in let p = parts k in omega arith in record {
        one_word = kept.one_word;
        word = kept.word ∙ ap (λ n. 2 * length log + n) (sym all);
        turns = subst (λ n. n ≤ 1) (sym all) kept.turns;
        home = λ none. kept.home (sym all ∙ none);
        views = λ by w there. ⊎_elim
            (λ (old : get_elem? (set s.views id l) by ≡ some w). ⊎_elim
            (λ (e : (by ≡ id) × (l ≡ w)). subst (λ (z : View C K). Knows opened log z) e.1 left)
            (λ (e : (by ≢ id) × (get_elem? s.views by ≡ some w)). kept.views by w e.1)
            (at_set s.views id by l w old))
            (λ (e : r ≡ w). subst (λ (z : View C K). Knows opened log z) e right)
            (at_snoc (set s.views id l) r w by there);
        once = λ k. subst (λ n. n ≤ 1) (sym (many k)) (kept.once k);
        within = λ k out. many k ∙ kept.within k out;
        only = kept.only;
      }

  -- the seat gives its first number to a new one
  pub splits : (id : ℕ) (v : View C K) → v.turns ≡ 0 → Splits (Rule entries kind opened) id v (without_next v) (with_next v)
  splits id v turn s g at =
      let log : List (Entry C) = g.0 in
      let knew : Knows opened log v = g.1.views id v at in (
        log,
        split_kept s log g.1 id v at (without_next v) (with_next v)
            record { seen = knew.seen; told = knew.told; calls = are_calls_later log v.mine knew.calls; whole = knew.whole; named = λ z. absurd (omega arith); same = knew.same }
            record { seen = knew.seen; told = (log, refl); calls = are_calls_first log v.mine knew.calls; whole = λ z. absurd (omega arith); named = λ z. absurd (omega arith); same = knew.same }
            (λ k. cut_claims k v.mine) (omega arith),
      )

  pub notes : (id : ℕ) (v : View C K) → Splits (Rule entries kind opened) id v v (note_of v)
  notes id v s g at =
      let log : List (Entry C) = g.0 in
      let knew : Knows opened log v = g.1.views id v at in (
        log,
        split_kept s log g.1 id v at v (note_of v) knew
            record { seen = knew.seen; told = (log, refl); calls = tt; whole = λ z. absurd (omega arith); named = λ z. absurd (omega arith); same = knew.same }
            (λ k. omega arith) (omega arith),
      )

  pub joins : (id : ℕ) (v : View C K) (other : ℕ) (w : View C K) → v.turns ≡ 0 → w.turns ≡ 0 → Joins (Rule entries kind opened) id v other w (joined v w) spent
  joins id v other w turn turn' s g at apart there =
      let log : List (Entry C) = g.0 in
      let kept : IsKept entries kind opened s log = g.1 in
      let b : View C K = joined v w in
      let there' : get_elem? s.views other ≡ some w = ⊎_elim (λ (e : (other ≡ id) × (b ≡ w)). absurd (apart e.0)) (λ (e : (other ≢ id) × (get_elem? s.views other ≡ some w)). e.1) (at_set s.views id other b w there) in
      let one : Knows opened log v = kept.views id v at in
      let two : Knows opened log w = kept.views other w there' in
      let both : Knows opened log b = record {
        seen = either_of (nat_lt (length v.seen) (length w.seen)) (λ l. Begins l log) w.seen v.seen two.seen one.seen;
        told = either_of (nat_lt (length v.seen) (length w.seen)) (λ l. Begins l log) v.seen w.seen one.seen two.seen;
        calls = are_calls-append log v.mine w.mine one.calls two.calls;
        whole = λ z. absurd (omega arith);
        named = λ z. absurd (omega arith);
        same = one.same;
      } in
      let none : Knows opened log spent = record { seen = (log, refl); told = (log, refl); calls = tt; whole = λ z. absurd (omega arith); named = λ z. absurd (omega arith); same = λ k e. cc } in
      let views : List (View C K) = set (set s.views id b) other spent in
      let t = total_set turns_of s.views id v b at in
      let u = total_set turns_of (set s.views id b) other w spent there in
      let all : total turns_of views ≡ total turns_of s.views = omega arith in
      let many : (k : ℕ) → total (claims_of k) views ≡ total (claims_of k) s.views = λ k.
      let x = total_set (claims_of k) s.views id v b at in let y = total_set (claims_of k) (set s.views id b) other w spent there in let p = claims-append k v.mine w.mine in omega arith in (
        log,
        record {
          one_word = kept.one_word;
          word = kept.word ∙ ap (λ n. 2 * length log + n) (sym all);
          turns = subst (λ n. n ≤ 1) (sym all) kept.turns;
          home = λ z. kept.home (sym all ∙ z);
          views = λ by x here. ⊎_elim
              (λ (e : (by ≡ other) × (spent ≡ x)). subst (λ (z : View C K). Knows opened log z) e.1 none)
              (λ (e : (by ≢ other) × (get_elem? (set s.views id b) by ≡ some x)). ⊎_elim
              (λ (f : (by ≡ id) × (b ≡ x)). subst (λ (z : View C K). Knows opened log z) f.1 both)
              (λ (f : (by ≢ id) × (get_elem? s.views by ≡ some x)). kept.views by x f.1)
              (at_set s.views id by b x e.1))
              (at_set (set s.views id b) other by spent x here);
          once = λ k. subst (λ n. n ≤ 1) (sym (many k)) (kept.once k);
          within = λ k out. many k ∙ kept.within k out;
          only = kept.only;
        },
      )

  -- the rule holds at the start
  pub opens : (x : V) → entries x ≡ [] → kind x ≡ opened.kind → Rule entries kind opened (opening (0 ∷ []) (Some x ∷ []) (first_view opened))
  opens x empty is =
      let first : View C K = first_view opened in
      let knows : Knows opened [] first = record { seen = ([], refl); told = ([], refl); calls = are_calls_numbers C 1 opened.passes; whole = λ z. refl; named = λ z. absurd (omega arith); same = λ k e. cc } in (
        [],
        record {
          one_word = refl;
          word = refl;
          turns = omega arith;
          home = λ z. (x, refl, empty, is);
          views = λ by v at. ⊎_elim (λ (old : get_elem? [] by ≡ some v). absurd (some-ne-none v (sym old))) (λ (e : first ≡ v). subst (λ (z : View C K). Knows opened [] z) e knows) (at_snoc [] first v by at);
          once = λ k. let c = claims_numbers C k 1 opened.passes in omega arith;
          within = λ k out. ⊎_elim (λ (lt : k < 1). let c = claims_below C k 1 opened.passes lt in omega arith) (λ (lt : opened.passes < k). let c = claims_above C k 1 opened.passes (omega arith) in omega arith) out;
          only = λ k out. refl;
        },
      )

  -- where one seat acts for every number, and has not the turn, the value is at home, and its list has the calls of those numbers alone
  pub closes : (s : State (Option V) (View C K)) → Rule entries kind opened s → (id : ℕ) (v : View C K) → get_elem? s.views id ≡ some v → v.turns ≡ 0
      → ((k : ℕ) → 0 < k → k ≤ opened.passes → 0 < claims k v.mine)
      → (x : V) × (get_elem? s.homes 0 ≡ some (some (Some x))) × (kind x ≡ opened.kind) × Begins v.seen (entries x) × AreCallsIn (entries x) v.mine × AreByPasses opened.passes (entries x)
  closes s g id v at turn whole =
      let log : List (Entry C) = g.0 in
      let kept : IsKept entries kind opened s log = g.1 in
      let knew : Knows opened log v = kept.views id v at in
      let t : ℕ = total turns_of s.views in
      let free : t ≡ 0 = dite (ℕ_discrete t 0) (λ (e : t ≡ 0). e) (λ (ne : t ≢ 0).
      let there = total_some turns_of s.views (omega arith) in
      let by : ℕ = there.0 in
      let u : View C K = there.1 in
      let here : get_elem? s.views by ≡ some u = there.2 in
      let pos : 0 < u.turns = there.3 in
      let its : Knows opened log u = kept.views by u here in
      let k : ℕ = (its.named pos).0 in
      let has : 0 < claims k u.mine = (its.named pos).1 in
      let part : claims k u.mine ≤ total (claims_of k) s.views = total_at (claims_of k) s.views by u here in
      let once : total (claims_of k) s.views ≤ 1 = kept.once k in
      let out : (k < 1) ⊎ (opened.passes < k) → t ≡ 0 = λ o. let z : total (claims_of k) s.views ≡ 0 = kept.within k o in absurd (omega arith) in
      dite (dec_le 1 k) (λ (low : 1 ≤ k). dite (dec_le k opened.passes) (λ (high : k ≤ opened.passes).
      let mine : 0 < claims k v.mine = whole k (omega arith) high in
      dite (ℕ_discrete by id)
      (λ (e : by ≡ id). let same : some u ≡ some v = sym here ∙ (ap (λ (j : ℕ). get_elem? s.views j) e ∙ at) in let turns : u.turns ≡ v.turns = ap turns_of (some-injective u v same) in absurd (omega arith))
      (λ (ne : by ≢ id). let two : claims k u.mine + claims k v.mine ≤ total (claims_of k) s.views = total_two (claims_of k) s.views by id u v ne here at in absurd (omega arith)))
      (λ h. out (inr (omega arith)))) (λ h. out (inl (omega arith)))) in
      let home = kept.home free in
      let is : log ≡ entries home.0 = sym home.2 in (
        home.0,
        home.1,
        home.3,
        subst (λ (l : List (Entry C)). Begins v.seen l) is knew.seen,
        subst (λ (l : List (Entry C)). AreCallsIn l v.mine) is knew.calls,
        subst (AreByPasses opened.passes) is kept.only,
      )

  -- the same of the table at the end
  pub ends : (words : List ℕ) (slots : List (Option V)) (id : ℕ) (v : View C K) (found : Option V) → Final (Seen (Rule entries kind opened) id v) words slots → get_elem? slots 0 ≡ some found → v.turns ≡ 0
      → ((k : ℕ) → 0 < k → k ≤ opened.passes → 0 < claims k v.mine)
      → (x : V) × (found ≡ Some x) × (kind x ≡ opened.kind) × Begins v.seen (entries x) × AreCallsIn (entries x) v.mine × AreByPasses opened.passes (entries x)
  ends words slots id v found f at turn whole =
      let c = closes f.0 f.1.0 id v f.1.1 turn whole in
      let there : get_elem? slots 0 ≡ some (Some c.0) = f.4 0 (Some c.0) c.1 in
      (c.0, some-injective found (Some c.0) (sym at ∙ there), c.2, c.3, c.4, c.5)

module _ {C K : Type 0} where
  -- the next number's seat, and the seat that is left
  pub next_view : (opened : Terms K) (k n : ℕ) → 0 < n → with_next (dealing {C = C} opened k n) ≡ record { seen = []; told = []; mine = (k, []) ∷ []; turns = 0; terms = Some opened }
  next_view opened k zero pos = absurd (omega arith)
  next_view opened k (suc n) pos = refl

  pub rest_view : (opened : Terms K) (k k' n m : ℕ) → n ≡ suc m → k' ≡ suc k → without_next (dealing {C = C} opened k n) ≡ dealing opened k' m
  rest_view opened k k' n m is next = ap (λ (j : ℕ). without_next (dealing {C = C} opened k j)) is ∙ ap (λ (j : ℕ). dealing {C = C} opened j m) (sym next)
