-- What an apply leaves, in the words of the rule and of a pass.
use Rattle.std.proofs.Common.{◌≡◌, ◌≢◌, ℕ, ◌<◌, Bool, List, [], ◌++◌, ap, ◌∙◌, arith, append_assoc}
use Rattle.gui_lock.specs.declared.entry.Entry.{Entry}
use Rattle.gui_lock.specs.Entries.{AreMarks, calls_by, own, Outcome, Applied}
use Rattle.gui_lock.specs.Rule.{claims}
use Rattle.gui_lock.proofs.CallerLemmas.{calls_by-append, marks_none, own_other}

module _ {C : Type 0} where
  -- marks and an entry of the number k have no call of another number
  pub extra_apart : (added : Bool) (k : ℕ) (call : C) (marks : List (Entry C)) (mine : List (ℕ × List C)) → AreMarks marks → 0 < claims k mine
      → (j : ℕ) → claims j mine ≡ 0 → calls_by j (marks ++ own added k call) ≡ []
  extra_apart added k call marks mine are has j none =
      let ne : k ≢ j = λ e. let f : claims k mine ≡ claims j mine = ap (λ (n : ℕ). claims n mine) e in omega arith in
      calls_by-append j marks (own added k call) ∙ (ap (λ (l : List C). l ++ calls_by j (own added k call)) (marks_none j marks are) ∙ own_other added k j call ne)

module _ {C R M : Type 0} where
  pub applied_more : (gives : List (Entry C) → Outcome R M) (wanting may_want : Bool) (k : ℕ) (call : C) (before after seen : List (Entry C)) (reply : R) (r0 r1 : M) (mine : List (ℕ × List C))
      → Applied gives wanting may_want k call before after reply r0 r1 → before ≡ seen → 0 < claims k mine
      → (extra : List (Entry C)) × (after ≡ seen ++ extra) × ((j : ℕ) → claims j mine ≡ 0 → calls_by j extra ≡ [])
  applied_more gives wanting may_want k call before after seen reply r0 r1 mine a is has =
      (a.marks ++ own a.added k call, a.list ∙ (append_assoc before a.marks (own a.added k call) ∙ ap (λ (l : List (Entry C)). l ++ (a.marks ++ own a.added k call)) is), extra_apart a.added k call a.marks mine a.are_marks has)
