-- Each step keeps the lock's rule.
use Rattle.std.proofs.Common.{◌≡◌, ◌≢◌, ℕ, ◌+◌, ◌*◌, ◌<◌, ◌≤◌, ◌⊎◌, inl, inr, ⊎_elim, eqb, List, [], ◌∷◌, ◌++◌, length, get_or, set, refl, sym, ap, ◌∙◌, subst, arith, Option, Some, None, length-set, get_or-set_same}
use mathlib.Core.Option.{some, none, some-injective}
use lib.ListN.{get_elem?}
use Rattle.gui_lock.specs.declared.entry.Entry.{Entry}
use Rattle.gui_lock.specs.declared.view.Terms.{Terms}
use Rattle.gui_lock.specs.declared.view.View.{View}
use Rattle.gui_lock.specs.Entries.{calls_by, AreByPasses, Begins}
use Rattle.gui_lock.specs.Rule.{total, claims, AreCallsIn, claims_of, turns_of, Knows, IsHome, IsKept, Rule, at_turn, after_turn, announced, Acquired, Told, Released, Settled}
use Rattle.gui_lock.specs.Seats.{kind_in}
use Rattle.gui_lock.proofs.SumLemmas.{total_set, total_at, total_two}
use Rattle.gui_lock.proofs.CallerLemmas.{append_nil, calls_by-append, begins_all, begins_more, begins_shorter}
use Rattle.gui_lock.proofs.ClaimLemmas.{are_calls_more, are_calls_retold, claims_retold}
use Rattle.atomic_table.proofs.Lists.{at_set, set_here, exchanged}
use Rattle.atomic_table.specs.Table.{State, Me, Act, step, stepped, carried_after, Valid, keeps, takes, gives, Allows}
use prog.Atomic.{either}

kind_known : {K : Type 0} (terms : Option (Terms K)) (opened : Terms K) (k : K) → kind_in terms ≡ Some k → ((o : Terms K) → terms ≡ Some o → o ≡ opened) → k ≡ opened.kind
kind_known None opened k e same = absurd cc
kind_known (Some o) opened k e same = let f : o.kind ≡ k = cc in sym f ∙ ap (λ (p : Terms _). p.kind) (same o refl)

module _ {V K C : Type 0} (entries : V → List (Entry C)) (kind : V → K) (opened : Terms K) where
  -- The seat id goes from the view v to w, and the history from log to more, to which only the numbers of v have added
  pub kept_step : (s : State (Option V) (View C K)) (log : List (Entry C)) → IsKept entries kind opened s log
      → (id : ℕ) (v : View C K) → get_elem? s.views id ≡ some v
      → (n : ℕ) (hs : List (mathlib.Core.Option.Option (Option V))) (w : View C K) (more : List (Entry C))
      → Begins log more
      → ((k : ℕ) → claims k v.mine ≡ 0 → calls_by k more ≡ calls_by k log)
      → ((k : ℕ) → claims k w.mine ≡ claims k v.mine)
      → Knows opened more w
      → (log ≡ more) ⊎ (v.turns ≡ 1)
      → n + v.turns ≡ 2 * length more + total turns_of s.views + w.turns
      → total turns_of s.views + w.turns ≤ 1 + v.turns
      → (total turns_of s.views + w.turns ≡ v.turns → IsHome entries kind opened more record { words = s.words; homes = hs; views = s.views })
      → IsKept entries kind opened record { words = set s.words 0 n; homes = hs; views = set s.views id w } more
  kept_step s log kept id v at n hs w more longer others same knows calm word few home =
      let turns = total_set turns_of s.views id v w at in
      let one : length s.words ≡ 1 = kept.one_word in
      let here : get_or (set s.words 0 n) 0 0 ≡ n = get_or-set_same s.words 0 n 0 (omega arith) in record {
        one_word = length-set s.words 0 n ∙ one;
        word = here ∙ omega arith;
        turns = omega arith;
        home = λ none. home (omega arith);
        views = λ by u there. ⊎_elim
            (λ (t : (by ≡ id) × (w ≡ u)). subst (λ (z : View C K). Knows opened more z) t.1 knows)
            (λ (t : (by ≢ id) × (get_elem? s.views by ≡ some u)).
            let old : Knows opened log u = kept.views by u t.1 in
            let two : u.turns + v.turns ≤ total turns_of s.views = total_two turns_of s.views by id u v t.0 t.1 at in
            let most : total turns_of s.views ≤ 1 = kept.turns in
            record {
              seen = begins_more u.seen log more old.seen longer;
              told = begins_more u.told log more old.told longer;
              calls = are_calls_more log more u.mine old.calls (λ k pos.
                  let both : claims k u.mine + claims k v.mine ≤ total (claims_of k) s.views = total_two (claims_of k) s.views by id u v t.0 t.1 at in
                  let once : total (claims_of k) s.views ≤ 1 = kept.once k in
                  others k (omega arith));
              whole = λ pos. ⊎_elim (λ (e : log ≡ more). old.whole pos ∙ e) (λ (e : v.turns ≡ 1). absurd (omega arith)) calm;
              named = old.named;
              same = old.same;
            })
            (at_set s.views id by w u there);
        once = λ k. let t = total_set (claims_of k) s.views id v w at in let e : claims k w.mine ≡ claims k v.mine = same k in let o = kept.once k in omega arith;
        within = λ k out.
            let t = total_set (claims_of k) s.views id v w at in
            let e : claims k w.mine ≡ claims k v.mine = same k in
            let o = kept.within k out in
            let none : total (claims_of k) s.views ≡ 0 = o in
            let below : claims k v.mine ≤ total (claims_of k) s.views = total_at (claims_of k) s.views id v at in
            omega arith;
        only = λ k out.
            let o : total (claims_of k) s.views ≡ 0 = kept.within k out in
            let below : claims k v.mine ≤ total (claims_of k) s.views = total_at (claims_of k) s.views id v at in
            others k (omega arith) ∙ kept.only k out;
      }

  -- the turn is taken where the word is even, and as it was expected to be
  pub acquires : (slots id : ℕ) (m : Me (Option V) (View C K)) (old h : ℕ) → old ≡ 2 * h → (k : ℕ) → 0 < claims k m.0.mine
      → Allows (Rule entries kind opened) slots id m 0 (λ n. either (eqb n old) (old + 1) n) (Acquired entries kind (step slots 0 old (old + 1) none) m)
  acquires slots id m old h even k claim s g wide at small =
      let v : View C K = m.0 in
      let log : List (Entry C) = g.0 in
      let kept : IsKept entries kind opened s log = g.1 in
      let n : ℕ = get_or s.words 0 0 in
      let t : ℕ = total turns_of s.views in
      let word : n ≡ 2 * length log + t = kept.word in
      let few : t ≤ 1 = kept.turns in
      let knew : Knows opened log v = kept.views id v at in
      let part : v.turns ≤ t = total_at turns_of s.views id v at in
      let F : ℕ → Type 0 = λ n'. (w : View C K) × (a : Act (Option V)) × Valid s.homes m.1 a × Rule entries kind opened (stepped s 0 n' id m.1 w a) × Acquired entries kind (step slots 0 old (old + 1) none) m n (w, carried_after m.1 a) in
      exchanged n old (old + 1) F
      (λ (e : n ≡ old).
      let free : t ≡ 0 = omega arith in
      let home = kept.home free in
      let x : V = home.0 in
      let is : entries x ≡ log = home.2 in
      let w : View C K = at_turn v (entries x) in
      let knows : Knows opened log w = record {
        seen = subst (λ (l : List (Entry C)). Begins l log) (sym is) (begins_all log);
        told = knew.told;
        calls = knew.calls;
        whole = λ _. is;
        named = λ _. (k, claim);
        same = knew.same;
      } in (
        w,
        takes 0 (Some x),
        home.1,
        (log, kept_step s log kept id v at (old + 1) (set s.homes 0 none) w log (begins_all log) (λ j z. refl) (λ j. refl) knows (inl refl) (omega arith) (omega arith) (λ z. absurd (omega arith))),
        (
          (λ z. (
            x,
            refl,
            subst (λ (l : List (Entry C)). Begins v.seen l) (sym is) knew.seen,
            subst (λ (l : List (Entry C)). AreCallsIn l v.mine) (sym is) knew.calls,
            λ o q.
                let e : o ≡ opened = knew.same o q in (
                  home.3 ∙ ap (λ (p : Terms K). p.kind) (sym e),
                  subst (λ (p : Terms K). AreByPasses p.passes (entries x)) (sym e) (subst (AreByPasses opened.passes) (sym is) kept.only),
                ),
          )),
          (λ (ne : n ≢ old). absurd (ne e)),
        ),
      ))
      (λ (ne : n ≢ old). (
        v,
        keeps,
        tt,
        (log, kept_step s log kept id v at n s.homes v log (begins_all log) (λ j z. refl) (λ j. refl) knew (inl refl) (omega arith) (omega arith) (λ z. kept.home (omega arith))),
        ((λ (e : n ≡ old). absurd (ne e)), (λ z. refl)),
      ))

  -- with the turn, a longer list is announced, to which only the seat's own numbers added
  pub tells : (slots id : ℕ) (m : Me (Option V) (View C K)) (new : ℕ) (list extra : List (Entry C)) → new ≡ 2 * length list + 1
      → m.0.turns ≡ 1 → list ≡ m.0.seen ++ extra
      → ((k : ℕ) → claims k m.0.mine ≡ 0 → calls_by k extra ≡ [])
      → Allows (Rule entries kind opened) slots id m 0 (λ _. new) (Told list (step slots 0 new 0 none) m)
  tells slots id m new list extra after turn is apart s g wide at small =
      let v : View C K = m.0 in
      let log : List (Entry C) = g.0 in
      let kept : IsKept entries kind opened s log = g.1 in
      let t : ℕ = total turns_of s.views in
      let few : t ≤ 1 = kept.turns in
      let knew : Knows opened log v = kept.views id v at in
      let part : v.turns ≤ t = total_at turns_of s.views id v at in
      let turn' : v.turns ≡ 1 = turn in
      let whole : v.seen ≡ log = knew.whole (omega arith) in
      let longer : Begins log list = (extra, is ∙ ap (λ (l : List (Entry C)). l ++ extra) whole) in
      let w : View C K = announced v list in
      let named : (k : ℕ) × (0 < claims k v.mine) = knew.named (omega arith) in
      let knows : Knows opened list w = record {
        seen = begins_all list;
        told = begins_more v.told log list knew.told longer;
        calls = are_calls_retold list v.mine;
        whole = λ _. refl;
        named = λ _. (named.0, subst (λ (c : ℕ). 0 < c) (sym (claims_retold named.0 list v.mine)) named.1);
        same = knew.same;
      } in (
        w,
        keeps,
        tt,
        (
          list,
          kept_step s log kept id v at new s.homes w list longer
              (λ k z. ap (calls_by k) is ∙ (calls_by-append k v.seen extra ∙ (ap (λ (l : List C). calls_by k v.seen ++ l) (apart k z) ∙ (append_nil (calls_by k v.seen) ∙ ap (calls_by k) whole))))
              (λ k. claims_retold k list v.mine) knows (inr turn') (omega arith) (omega arith) (λ z. absurd (omega arith)),
        ),
        refl,
      )

  -- the value goes home, and the turn is given up
  pub releases : (slots id : ℕ) (m : Me (Option V) (View C K)) (v : View C K) (x : V) (more : List (ℕ × Option V)) (new : ℕ) → 0 < slots → m ≡ (v, (0, Some x) ∷ more) → new ≡ 2 * length v.seen
      → v.turns ≡ 1 → entries x ≡ v.seen → kind_in v.terms ≡ Some (kind x)
      → Allows (Rule entries kind opened) slots id m 0 (λ _. new) (Released (step slots 0 new 0 none) m)
  releases slots id m v x more new wide_enough is after turn ents kinds =
      subst (λ (y : Me (Option V) (View C K)). Allows (Rule entries kind opened) slots id y 0 (λ _. new) (Released (step slots 0 new 0 none) y)) (sym is)
      (λ s g wide at small.
      let log : List (Entry C) = g.0 in
      let kept : IsKept entries kind opened s log = g.1 in
      let n : ℕ = get_or s.words 0 0 in
      let t : ℕ = total turns_of s.views in
      let few : t ≤ 1 = kept.turns in
      let knew : Knows opened log v = kept.views id v at in
      let part : v.turns ≤ t = total_at turns_of s.views id v at in
      let whole : v.seen ≡ log = knew.whole (omega arith) in
      let len : length v.seen ≡ length log = ap length whole in
      let homes : List (mathlib.Core.Option.Option (Option V)) = s.homes in
      let w : View C K = after_turn v in
      let knows : Knows opened log w = record { seen = knew.seen; told = knew.told; calls = knew.calls; whole = λ _. whole; named = λ z. absurd (omega arith); same = knew.same } in (
        w,
        gives,
        tt,
        (
          log,
          kept_step s log kept id v at new (set s.homes 0 (some (Some x))) w log (begins_all log) (λ j z. refl) (λ j. refl) knows (inl refl) (omega arith) (omega arith)
              (λ z. (x, set_here s.homes 0 (some (Some x)) (omega arith), ents ∙ whole, kind_known v.terms opened (kind x) kinds knew.same)),
        ),
        refl,
      ))

  pub settles : (slots id : ℕ) (m : Me (Option V) (View C K)) → Allows (Rule entries kind opened) slots id m 0 (λ n. n) (Settled (step slots 0 0 0 none) m)
  settles slots id m s g wide at small =
      let v : View C K = m.0 in
      let log : List (Entry C) = g.0 in
      let kept : IsKept entries kind opened s log = g.1 in
      let n : ℕ = get_or s.words 0 0 in
      let t : ℕ = total turns_of s.views in
      let word : n ≡ 2 * length log + t = kept.word in
      let few : t ≤ 1 = kept.turns in
      let knew : Knows opened log v = kept.views id v at in (
        v,
        keeps,
        tt,
        (log, kept_step s log kept id v at n s.homes v log (begins_all log) (λ j z. refl) (λ j. refl) knew (inl refl) (omega arith) (omega arith) (λ z. kept.home (omega arith))),
        (refl, (λ le. begins_shorter v.told v.seen log knew.told knew.seen le), (log, knew.seen, knew.calls)),
      )
