-- A pass as its seat and its other fields have it, and what is true of them. No public contract
-- names it.
use Rattle.std.specs.Prelude.{◌≡◌, ℕ, ◌<◌, ◌≤◌, ◌⊎◌, List, [], ◌∷◌, length, Option, Some, None, Bool, ◌++◌}
use Rattle.gui_lock.specs.declared.entry.Entry.{Entry}
use Rattle.gui_lock.specs.declared.view.Terms.{Terms}
use Rattle.gui_lock.specs.declared.view.View.{View}
use Rattle.gui_lock.specs.Entries.{AreMarks, Begins, calls_by}
use Rattle.gui_lock.specs.Passes.{Held, Same}
use Rattle.atomic_table.specs.Table.{Me}
use Rattle.atomic_table.specs.Seated.{TableId}

-- the calls of the first number
abbrev pub calls_of : {C : Type 0} → List (ℕ × List C) → List C
calls_of [] = []
calls_of (c ∷ cs) = c.1

abbrev pub held : {V C K : Type 0} → TableId → ℕ → ℕ → Me V (View C K) → Held C K
held table number depth me = record {
  table = table;
  number = number;
  depth = depth;
  seen = me.0.seen;
  mine = calls_of me.0.mine;
  terms = me.0.terms;
}

-- the kind that a lock was opened with
abbrev pub kind_in : {K : Type 0} → Option (Terms K) → Option K
kind_in None = None
kind_in (Some terms) = Some terms.kind

-- a list of numbers with their calls has this one
abbrev pub Claims : {C : Type 0} → ℕ → List C → List (ℕ × List C) → Type 0
Claims k m [] = ⊥
Claims k m (c ∷ cs) = ((c.0 ≡ k) × (c.1 ≡ m)) ⊎ Claims k m cs

-- a seat saw what each pass saw, and acts for its number
abbrev pub Gathered : {C K : Type 0} → List (Held C K) → View C K → Type 0
Gathered [] v = Unit {0}
Gathered (p ∷ ps) v = (Begins p.seen v.seen × Claims p.number p.mine v.mine) × Gathered ps v

-- the pass, which holds the lock, saw marks, and was answered what the test says of the history
-- after them
pub record Asks {C K : Type 0} (test : List (Entry C) → Bool) (answer : Bool)
    (old new : Held C K) : Type 0 where
  pub marks : List (Entry C)
  pub are_marks : AreMarks marks
  pub seen : new.seen ≡ old.seen ++ marks
  pub mine : new.mine ≡ old.mine
  pub counted : calls_by new.number new.seen ≡ new.mine
  pub answered : answer ≡ test new.seen
  pub same : Same old new
  pub depth : new.depth ≡ old.depth

module _ {V K C : Type 0} (entries : V → List (Entry C)) (kind : V → K) where
  -- the value is out with the pass, which has the turn
  pub record HasOut (me : Me (Option V) (View C K)) (x : V) : Type 0 where
    pub turn : me.0.turns ≡ 1
    pub out : me.1 ≡ (0, None) ∷ []
    pub seen : entries x ≡ me.0.seen
    pub kinds : kind_in me.0.terms ≡ Some (kind x)

  -- the pass acts for its number alone, and its fields agree with its seat
  pub record IsPass (me : Me (Option V) (View C K)) (value : Option V)
      (number depth len : ℕ) : Type 0 where
    pub long : len ≡ length me.0.seen
    pub mine : me.0.mine ≡ (number, calls_of me.0.mine) ∷ []
    pub counted : calls_by number me.0.seen ≡ calls_of me.0.mine
    pub low : depth ≤ 100
    pub free : depth ≡ 0 → (me.0.turns ≡ 0) × (me.1 ≡ []) × (value ≡ None)
    pub locked : 0 < depth → (x : V) × (value ≡ Some x) × HasOut me x
