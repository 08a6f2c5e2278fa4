-- What a pass has seen after each of its calls.
use Rattle.std.proofs.Common.{◌≡◌, ℕ, ◌+◌, ◌<◌, ◌≤◌, ◌⊎◌, ⊎_elim, Bool, true, false, cond, nat_lt, eq-eqb, List, [], ◌∷◌, ◌++◌, length, refl, sym, ap, ◌∙◌, subst, arith, append_assoc, Option, Some}
use Rattle.std.proofs.lemmas.Bool.{ltb-true, ltb-false}
use Rattle.gui_lock.specs.declared.entry.Entry.{Entry}
use Rattle.gui_lock.specs.declared.view.Terms.{Terms}
use Rattle.gui_lock.specs.declared.view.View.{View}
use Rattle.gui_lock.specs.Entries.{AreMarks, AreByPasses, Begins, calls_by, pick, own, Outcome, IsAnswered, Applied}
use Rattle.gui_lock.specs.Rule.{claims, AreCallsIn, retold, at_turn, announced, joined, note_of}
use Rattle.gui_lock.specs.Passes.{Locked, Held, IsOf, longer, shorter, Sees, Acts, Waits}
use Rattle.gui_lock.specs.Seats.{Asks, kind_in, calls_of, held, HasOut, IsPass}
use Rattle.gui_lock.proofs.CallerLemmas.{append_nil, append_none, append_empty, begins_more, marks_append, calls_by-append, marks_none, own_same, by_passes-append, by_passes-rest, by_passes-marks}
use Rattle.gui_lock.proofs.ClaimLemmas.{begins_longer}
use Rattle.atomic_table.specs.Table.{Me}
use Rattle.atomic_table.specs.Seated.{TableId}

same_some : {A : Type 0} (o : Option A) (x y : A) → o ≡ Some x → o ≡ Some y → x ≡ y
same_some o x y e f = let g : Some x ≡ Some y = sym e ∙ f in cc

-- a pass acts for its number
pub acts_for : {C : Type 0} (n : ℕ) (m : List C) (mine : List (ℕ × List C)) → mine ≡ (n, m) ∷ [] → 0 < claims n mine
acts_for {C} n m mine is = subst (λ (l : List (ℕ × List C)). 0 < claims n l) (sym is) (subst (λ (b : Bool). 0 < cond b 1 0 + 0) (sym (eq-eqb n n refl)) (omega arith))

-- where its calls in a longer history are its own, what came is of others
pub others_came : {C : Type 0} (n : ℕ) (m : List C) (mine : List (ℕ × List C)) (seen log : List (Entry C)) → mine ≡ (n, m) ∷ [] → calls_by n seen ≡ m → (b : Begins seen log) → AreCallsIn log mine → (calls_by n log ≡ m) × (calls_by n b.0 ≡ [])
others_came {C} n m mine seen log is was b right =
    let now : calls_by n log ≡ m = (subst (λ (l : List (ℕ × List C)). AreCallsIn log l) is right).0 in
    let parts : calls_by n log ≡ calls_by n seen ++ calls_by n b.0 = ap (calls_by n) b.1 ∙ calls_by-append n seen b.0 in
    (now, append_none (calls_by n seen) (calls_by n b.0) (was ∙ (sym now ∙ parts)))

-- the larger of two lengths is that of the longer list
long_is : {A : Type 0} (a b : List A) (n m k : ℕ) → n ≡ length a → m ≡ length b → (n < m → k ≡ m) → (m ≤ n → k ≡ n) → k ≡ length (longer a b)
long_is {A} a b n m k e f above below = go (nat_lt (length a) (length b)) refl
  where
    go : (t : Bool) → nat_lt (length a) (length b) ≡ t → k ≡ length (cond t b a)
    go true is = let lt = ltb-true (length a) (length b) is in above (omega arith) ∙ f
    go false is = let le = ltb-false (length a) (length b) is in below (omega arith) ∙ e

module _ {V K C : Type 0} (entries : V → List (Entry C)) (kind : V → K) where
  -- the outermost lock
  pub locks_first : (table table' : TableId) (passes number depth : ℕ) (me me' : Me (Option V) (View C K)) (value : Option V) (len : ℕ) (x : V) (more : List (ℕ × Option V)) → IsPass entries kind me value number depth len → depth ≡ 0
      → table' ≡ table → me' ≡ (at_turn me.0 (entries x), more) → Begins me.0.seen (entries x) → AreCallsIn (entries x) me.0.mine → AreByPasses passes (entries x)
      → Sees passes (held table number depth me) (held table' number (depth + 1) me')
  locks_first table table' passes number depth me me' value len x more is first same taken begins right within =
      let came = others_came number (calls_of me.0.mine) me.0.mine me.0.seen (entries x) is.mine is.counted begins right in
      let mine : me'.0.mine ≡ me.0.mine = ap (λ (m : Me (Option V) (View C K)). m.0.mine) taken in
      let seen : me'.0.seen ≡ entries x = ap (λ (m : Me (Option V) (View C K)). m.0.seen) taken in record {
        between = begins.0;
        others = came.1;
        within = by_passes-rest passes me.0.seen begins.0 (subst (AreByPasses passes) begins.1 within);
        near = λ pos. absurd (omega arith);
        seen = seen ∙ begins.1;
        mine = ap calls_of mine;
        counted = ap (calls_by number) seen ∙ (came.0 ∙ ap calls_of (sym mine));
        same = (same, refl, ap (λ (m : Me (Option V) (View C K)). m.0.terms) taken);
      }

  -- a lock within a lock
  pub locks_again : (table : TableId) (passes number depth depth' : ℕ) (me : Me (Option V) (View C K)) (value : Option V) (len : ℕ) → IsPass entries kind me value number depth len
      → Sees passes (held table number depth me) (held table number depth' me)
  locks_again table passes number depth depth' me value len is = record {
    between = [];
    others = refl;
    within = λ k out. refl;
    near = λ pos. refl;
    seen = sym (append_nil me.0.seen);
    mine = refl;
    counted = is.counted;
    same = (refl, refl, refl);
  }

  pub acts : {R M : Type 0} (gives : K → List (Entry C) → Outcome R M) (wanting may_want : Bool) (call : C) (table table' : TableId) (passes number depth : ℕ) (me me' : Me (Option V) (View C K)) (value value' : Option V) (len len' : ℕ) (terms : Terms K) (reply : R) (r0 r1 : M)
      → IsPass entries kind me value number depth len → 0 < depth → me.0.terms ≡ Some terms → table' ≡ table
      → ((x : V) → value ≡ Some x → (y : V) × (value' ≡ Some y) × (kind y ≡ kind x) × Applied (gives (kind x)) wanting may_want number call (entries x) (entries y) reply r0 r1 × (len' ≡ length (entries y)) × (me' ≡ (announced me.0 (entries y), me.1)))
      → Acts passes (gives terms.kind) wanting may_want call (held table number depth me) (held table' number depth me') reply r0 r1
  acts gives wanting may_want call table table' passes number depth me me' value value' len len' terms reply r0 r1 is deep kinds same done =
      let out = is.locked deep in
      let x : V = out.0 in
      let h : HasOut entries kind me x = out.2 in
      let d = done x out.1 in
      let y : V = d.0 in
      let a : Applied (gives (kind x)) wanting may_want number call (entries x) (entries y) reply r0 r1 = d.3 in
      let of : kind x ≡ terms.kind = same_some (kind_in me.0.terms) (kind x) terms.kind h.kinds (ap kind_in kinds) in
      let seen' : me'.0.seen ≡ entries y = ap (λ (m : Me (Option V) (View C K)). m.0.seen) d.5 in
      let retold' : me'.0.mine ≡ retold (entries y) me.0.mine = ap (λ (m : Me (Option V) (View C K)). m.0.mine) d.5 in
      let named : calls_of me'.0.mine ≡ calls_by number (entries y) = ap calls_of retold' ∙ ap (λ (l : List (ℕ × List C)). calls_of (retold (entries y) l)) is.mine in
      let place : entries x ++ a.marks ≡ (me.0.seen ++ []) ++ a.marks = ap (λ (l : List (Entry C)). l ++ a.marks) (h.seen ∙ sym (append_nil me.0.seen)) in
      let list : entries y ≡ ((me.0.seen ++ []) ++ a.marks) ++ own a.added number call = a.list ∙ ap (λ (l : List (Entry C)). l ++ own a.added number call) place in
      let calls : calls_by number (entries y) ≡ calls_of me.0.mine ++ pick a.added call [] =
      ap (calls_by number) a.list
      ∙ (calls_by-append number (entries x ++ a.marks) (own a.added number call)
      ∙ (ap (λ (l : List C). l ++ calls_by number (own a.added number call)) (calls_by-append number (entries x) a.marks ∙ (ap (λ (l : List C). calls_by number (entries x) ++ l) (marks_none number a.marks a.are_marks) ∙ (append_nil (calls_by number (entries x)) ∙ (ap (calls_by number) h.seen ∙ is.counted))))
      ∙ ap (λ (l : List C). calls_of me.0.mine ++ l) (own_same a.added number call))) in record {
        between = [];
        marks = a.marks;
        added = a.added;
        others = refl;
        within = λ k out. refl;
        near = λ pos. refl;
        are_marks = a.are_marks;
        seen = seen' ∙ list;
        mine = named ∙ calls;
        counted = ap (calls_by number) seen' ∙ sym named;
        wants = a.wants;
        given = λ no.
            let G : K → List (Entry C) → Type 0 = λ k l. IsAnswered (gives k l) a.added reply r1 in
            subst (λ k. G k ((me.0.seen ++ []) ++ a.marks)) of (subst (G (kind x)) place (a.given no));
        unchanged = a.unchanged;
        same = (same, refl, ap (λ (m : Me (Option V) (View C K)). m.0.terms) d.5);
        depth = refl;
      }

  pub asks : (answers : K → List (Entry C) → Bool) (answer : Bool) (table table' : TableId) (number depth : ℕ) (me me' : Me (Option V) (View C K)) (value value' : Option V) (len len' : ℕ) (terms : Terms K)
      → IsPass entries kind me value number depth len → 0 < depth → me.0.terms ≡ Some terms → table' ≡ table
      → ((x : V) → value ≡ Some x → (y : V) × (value' ≡ Some y) × (kind y ≡ kind x) × ((marks : List (Entry C)) × AreMarks marks × (entries y ≡ entries x ++ marks) × (answer ≡ answers (kind x) (entries y))) × (len' ≡ length (entries y)) × (me' ≡ (announced me.0 (entries y), me.1)))
      → Asks (answers terms.kind) answer (held table number depth me) (held table' number depth me')
  asks answers answer table table' number depth me me' value value' len len' terms is deep kinds same done =
      let out = is.locked deep in
      let x : V = out.0 in
      let h : HasOut entries kind me x = out.2 in
      let d = done x out.1 in
      let y : V = d.0 in
      let marks : List (Entry C) = d.3.0 in
      let of : kind x ≡ terms.kind = same_some (kind_in me.0.terms) (kind x) terms.kind h.kinds (ap kind_in kinds) in
      let seen' : me'.0.seen ≡ entries y = ap (λ (m : Me (Option V) (View C K)). m.0.seen) d.5 in
      let retold' : me'.0.mine ≡ retold (entries y) me.0.mine = ap (λ (m : Me (Option V) (View C K)). m.0.mine) d.5 in
      let named : calls_of me'.0.mine ≡ calls_by number (entries y) = ap calls_of retold' ∙ ap (λ (l : List (ℕ × List C)). calls_of (retold (entries y) l)) is.mine in
      let calls : calls_by number (entries y) ≡ calls_of me.0.mine =
      ap (calls_by number) d.3.2 ∙ (calls_by-append number (entries x) marks ∙ (ap (λ (l : List C). calls_by number (entries x) ++ l) (marks_none number marks d.3.1) ∙ (append_nil (calls_by number (entries x)) ∙ (ap (calls_by number) h.seen ∙ is.counted)))) in record {
        marks = marks;
        are_marks = d.3.1;
        seen = seen' ∙ (d.3.2 ∙ ap (λ (l : List (Entry C)). l ++ marks) h.seen);
        mine = named ∙ calls;
        counted = ap (calls_by number) seen' ∙ sym named;
        answered = d.3.3 ∙ (ap (λ k. answers k (entries y)) of ∙ ap (answers terms.kind) (sym seen'));
        same = (same, refl, ap (λ (m : Me (Option V) (View C K)). m.0.terms) d.5);
        depth = refl;
      }

  -- after a note the pass is as it was, but for what it saw
  pub learns : (number depth len other len' : ℕ) (me me' : Me (Option V) (View C K)) (value : Option V) (w : View C K) → IsPass entries kind me value number depth len → depth ≡ 0
      → me' ≡ (joined me.0 (note_of w), me.1) → Begins (shorter me.0.seen w.seen) (longer me.0.seen w.seen)
      → ((log : List (Entry C)) × Begins (longer me.0.seen w.seen) log × AreCallsIn log me.0.mine)
      → other ≡ length w.seen → (len < other → len' ≡ other) → (other ≤ len → len' ≡ len)
      → IsPass entries kind me' value number depth len'
  learns number depth len other len' me me' value w is free both begins right also above below =
      let n : List C = calls_of me.0.mine in
      let all : List (Entry C) = longer me.0.seen w.seen in
      let first = (begins_longer me.0.seen w.seen begins).0 in
      let come = others_came number n me.0.mine me.0.seen right.0 is.mine is.counted (begins_more me.0.seen all right.0 first right.1) right.2 in
      let none : calls_by number first.0 ≡ [] = append_empty (calls_by number first.0) (calls_by number right.1.0) (sym (calls_by-append number first.0 right.1.0) ∙ come.1) in
      let counted : calls_by number all ≡ n = ap (calls_by number) first.1 ∙ (calls_by-append number me.0.seen first.0 ∙ (ap (λ (l : List C). calls_by number me.0.seen ++ l) none ∙ (append_nil (calls_by number me.0.seen) ∙ is.counted))) in
      let seen : me'.0.seen ≡ all = ap (λ (m : Me (Option V) (View C K)). m.0.seen) both in
      let mine : me'.0.mine ≡ me.0.mine = ap (λ (m : Me (Option V) (View C K)). m.0.mine) both ∙ append_nil me.0.mine in
      let turns : me.0.turns ≡ 0 = (is.free free).0 in record {
        long = long_is me.0.seen w.seen len other len' is.long also above below ∙ ap length (sym seen);
        mine = mine ∙ (is.mine ∙ ap (λ (l : List C). (number, l) ∷ []) (ap calls_of (sym mine)));
        counted = ap (calls_by number) seen ∙ (counted ∙ ap calls_of (sym mine));
        low = is.low;
        free = λ z. (ap (λ (m : Me (Option V) (View C K)). m.0.turns) both ∙ omega arith, ap (λ (m : Me (Option V) (View C K)). m.1) both ∙ (is.free free).1, (is.free free).2);
        locked = λ pos. absurd (omega arith);
      }

module _ {C K : Type 0} where
  waits_again : (passes : ℕ) (a b c : Held C K) → Waits passes a b → Waits passes b c → Waits passes a c
  waits_again passes a b c w u =
      let others : calls_by a.number u.between ≡ [] = ap (λ (n : ℕ). calls_by n u.between) (sym w.same.1) ∙ u.others in
      let depth : b.depth ≡ a.depth = w.depth in record {
        between = w.between ++ u.between;
        others = calls_by-append a.number w.between u.between ∙ (ap (λ (l : List C). l ++ calls_by a.number u.between) w.others ∙ others);
        within = by_passes-append passes w.between u.between w.within u.within;
        near = λ pos. marks_append w.between u.between (w.near pos) (u.near (omega arith));
        seen = u.seen ∙ (ap (λ (l : List (Entry C)). l ++ u.between) w.seen ∙ append_assoc a.seen w.between u.between);
        mine = u.mine ∙ w.mine;
        counted = u.counted;
        same = (u.same.0 ∙ w.same.0, u.same.1 ∙ w.same.1, u.same.2 ∙ w.same.2);
        depth = u.depth ∙ w.depth;
      }

  -- the first question, or one more
  pub waits_next : (passes : ℕ) (a b c : Held C K) → (b ≡ a) ⊎ Waits passes a b → Waits passes b c → Waits passes a c
  waits_next passes a b c before w = ⊎_elim (λ (e : b ≡ a). subst (λ (p : Held C K). Waits passes p c) e w) (λ (u : Waits passes a b). waits_again passes a b c u w) before

  pub still_of : (lock : Locked K) (a b : Held C K) → (b ≡ a) ⊎ Waits lock.passes a b → IsOf lock a → IsOf lock b
  still_of lock a b before of = ⊎_elim (λ (e : b ≡ a). subst (λ (p : Held C K). IsOf lock p) (sym e) of) (λ (u : Waits lock.passes a b). (u.same.0 ∙ of.0, u.same.2 ∙ of.1)) before

  -- a question under a lock that the pass held
  pub waits_held : (passes : ℕ) (test : List (Entry C) → Bool) (answer : Bool) (b c : Held C K) → Asks test answer b c → Waits passes b c
  waits_held passes test answer b c q = record { between = q.marks; others = marks_none b.number q.marks q.are_marks; within = by_passes-marks passes q.marks q.are_marks; near = λ pos. q.are_marks; seen = q.seen; mine = q.mine; counted = q.counted; same = q.same; depth = q.depth }

  -- a question under a lock that was taken for it
  pub waits_free : (passes : ℕ) (test : List (Entry C) → Bool) (answer : Bool) (b c d e : Held C K) → b.depth ≡ 0 → Sees passes b c → c.depth ≡ b.depth + 1 → Asks test answer c d → d ≡ record e { depth = e.depth + 1 } → Waits passes b e × (answer ≡ test e.seen)
  waits_free passes test answer b c d e free s deeper q back =
      let seen : e.seen ≡ d.seen = sym (ap (λ (p : Held C K). p.seen) back) in
      let depth : d.depth ≡ e.depth + 1 = ap (λ (p : Held C K). p.depth) back in
      let d2 = q.depth in
      let number : e.number ≡ d.number = sym (ap (λ (p : Held C K). p.number) back) in
      let mine : e.mine ≡ d.mine = sym (ap (λ (p : Held C K). p.mine) back) in (
        record {
          between = s.between ++ q.marks;
          others = calls_by-append b.number s.between q.marks ∙ (ap (λ (l : List C). l ++ calls_by b.number q.marks) s.others ∙ marks_none b.number q.marks q.are_marks);
          within = by_passes-append passes s.between q.marks s.within (by_passes-marks passes q.marks q.are_marks);
          near = λ pos. absurd (omega arith);
          seen = seen ∙ (q.seen ∙ (ap (λ (l : List (Entry C)). l ++ q.marks) s.seen ∙ append_assoc b.seen s.between q.marks));
          mine = mine ∙ (q.mine ∙ s.mine);
          counted = ap (calls_by e.number) seen ∙ (ap (λ (n : ℕ). calls_by n d.seen) number ∙ (q.counted ∙ sym mine));
          same = (sym (ap (λ (p : Held C K). p.table) back) ∙ (q.same.0 ∙ s.same.0), number ∙ (q.same.1 ∙ s.same.1), sym (ap (λ (p : Held C K). p.terms) back) ∙ (q.same.2 ∙ s.same.2));
          depth = omega arith;
        },
        q.answered ∙ ap test (sym seen),
      )
