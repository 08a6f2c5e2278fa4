-- What holds of the lock's table between any two steps, and what each step tells. No public
-- contract names it.
use Rattle.std.specs.Prelude.{◌≡◌, ◌≢◌, ℕ, ◌+◌, ◌*◌, ◌<◌, ◌≤◌, ◌⊎◌, List, [], ◌∷◌, ◌++◌, length, Option, Some, None, slice_index, cond, nat_eq, suc, zero}
use Rattle.gui_lock.specs.declared.entry.Entry.{Entry}
use Rattle.gui_lock.specs.declared.view.Terms.{Terms}
use Rattle.gui_lock.specs.declared.view.View.{View}
use Rattle.gui_lock.specs.Entries.{calls_by, AreByPasses, Begins}
use Rattle.gui_lock.specs.Passes.{longer, shorter}
use Rattle.atomic_table.specs.Table.{State, Step, Me, rest}
use lib.ListN.{get_elem?}
use mathlib.Core.Option.{some}

-- the sum of f over a list
abbrev pub total : {A : Type 0} → (A → ℕ) → List A → ℕ
total f [] = 0
total f (x ∷ xs) = f x + total f xs

-- how often a list of numbers with their calls has the number k
abbrev pub claims : {C : Type 0} → ℕ → List (ℕ × List C) → ℕ
claims k [] = 0
claims k (c ∷ cs) = cond (nat_eq c.0 k) 1 0 + claims k cs

-- the calls beside each number are its calls in the history
abbrev pub AreCallsIn : {C : Type 0} → List (Entry C) → List (ℕ × List C) → Type 0
AreCallsIn log [] = Unit {0}
AreCallsIn log (c ∷ cs) = (calls_by c.0 log ≡ c.1) × AreCallsIn log cs

-- the numbers first, first + 1 .. of which there are n, with no calls
abbrev pub numbers : {C : Type 0} → ℕ → ℕ → List (ℕ × List C)
numbers first zero = []
numbers first (suc n) = (first, []) ∷ numbers (suc first) n

-- the same numbers, with their calls in this history
abbrev pub retold : {C : Type 0} → List (Entry C) → List (ℕ × List C) → List (ℕ × List C)
retold log [] = []
retold log (c ∷ cs) = (c.0, calls_by c.0 log) ∷ retold log cs

abbrev pub first_claim : {C : Type 0} → List (ℕ × List C) → List (ℕ × List C)
first_claim [] = []
first_claim (c ∷ cs) = c ∷ []

abbrev pub later_claims : {C : Type 0} → List (ℕ × List C) → List (ℕ × List C)
later_claims [] = []
later_claims (c ∷ cs) = cs

module _ {C K : Type 0} where
  abbrev pub claims_of : ℕ → View C K → ℕ
  claims_of k v = claims k v.mine

  abbrev pub turns_of : View C K → ℕ
  turns_of v = v.turns

  -- Of one view: what it saw and was told begins the history, its calls are there, and with the
  -- turn it has seen all
  pub record Knows (opened : Terms K) (log : List (Entry C)) (v : View C K) : Type 0 where
    pub seen : Begins v.seen log
    pub told : Begins v.told log
    pub calls : AreCallsIn log v.mine
    pub whole : 0 < v.turns → v.seen ≡ log
    pub named : 0 < v.turns → (k : ℕ) × (0 < claims k v.mine)
    pub same : (o : Terms K) → v.terms ≡ Some o → o ≡ opened

  -- the view of a seat that acts for the numbers first, first + 1 .. of which there are n, and has
  -- seen nothing
  abbrev pub dealing : Terms K → ℕ → ℕ → View C K
  dealing opened first n = record {
    seen = [];
    told = [];
    mine = numbers first n;
    turns = 0;
    terms = Some opened;
  }

  -- the view of the first seat, which acts for every number
  abbrev pub first_view : Terms K → View C K
  first_view opened = dealing opened 1 opened.passes

  -- the next number goes to a seat of its own
  abbrev pub without_next : View C K → View C K
  without_next v = record v { mine = later_claims v.mine }

  abbrev pub with_next : View C K → View C K
  with_next v = record v { told = []; mine = first_claim v.mine; turns = 0 }

  -- what a note has seen: it acts for no number
  abbrev pub note_of : View C K → View C K
  note_of v = record v { told = []; mine = []; turns = 0 }

  -- two seats made one: the longer history is seen, and the shorter told
  abbrev pub joined : View C K → View C K → View C K
  joined v w = record {
    seen = longer v.seen w.seen;
    told = shorter v.seen w.seen;
    mine = v.mine ++ w.mine;
    turns = v.turns + w.turns;
    terms = v.terms;
  }

  -- the view of a seat that became part of another
  abbrev pub spent : View C K
  spent = record { seen = []; told = []; mine = []; turns = 0; terms = None }

  abbrev pub at_turn : View C K → List (Entry C) → View C K
  at_turn v log = record v { seen = log; turns = 1 }

  abbrev pub after_turn : View C K → View C K
  after_turn v = record v { turns = 0 }

  abbrev pub announced : View C K → List (Entry C) → View C K
  announced v log = record v { seen = log; mine = retold log v.mine }

module _ {V K C : Type 0} (entries : V → List (Entry C)) (kind : V → K) where
  -- a value at home stands for the history, and is of the kind
  abbrev pub IsHome : Terms K → List (Entry C) → State (Option V) (View C K) → Type 0
  IsHome opened log s =
      (x : V) × (get_elem? s.homes 0 ≡ some (some (Some x))) × (entries x ≡ log)
      × (kind x ≡ opened.kind)

  -- With this history: the word is twice its length, and 1 more while a seat has the turn, as one
  -- seat at most has. With no turn given the value is at home. Each number from 1 to `passes` is
  -- with one seat at most, and other numbers made no call
  pub record IsKept (opened : Terms K) (s : State (Option V) (View C K))
      (log : List (Entry C)) : Type 0 where
    pub one_word : length s.words ≡ 1
    pub word : slice_index s.words 0 ≡ 2 * length log + total turns_of s.views
    pub turns : total turns_of s.views ≤ 1
    pub home : total turns_of s.views ≡ 0 → IsHome opened log s
    pub views : (by : ℕ) (v : View C K) → get_elem? s.views by ≡ some v → Knows opened log v
    pub once : (k : ℕ) → total (claims_of k) s.views ≤ 1
    pub within : (k : ℕ) → (k < 1) ⊎ (opened.passes < k) → total (claims_of k) s.views ≡ 0
    pub only : AreByPasses opened.passes log

  abbrev pub Rule : Terms K → State (Option V) (View C K) → Type 0
  Rule opened s = (log : List (Entry C)) × IsKept opened s log

  -- The turn was taken where the word was the one expected: the value's history is seen. It begins
  -- with what was seen, has the calls that are known, and none of other actors than the passes
  abbrev pub Acquired :
      Step (Option V) → Me (Option V) (View C K) → ℕ → Me (Option V) (View C K) → Type 0
  Acquired st m found m' =
      (found ≡ st.first →
      (x : V) × (m' ≡ (at_turn m.0 (entries x), (0, Some x) ∷ m.1))
      × Begins m.0.seen (entries x) × AreCallsIn (entries x) m.0.mine
      × ((o : Terms K) → m.0.terms ≡ Some o →
      (kind x ≡ o.kind) × AreByPasses o.passes (entries x)))
      × (found ≢ st.first → m' ≡ m)

module _ {V K C : Type 0} where
  -- the list that is told is seen
  abbrev pub Told : List (Entry C) →
      Step (Option V) → Me (Option V) (View C K) → ℕ → Me (Option V) (View C K) → Type 0
  Told log st m found m' = m' ≡ (announced m.0 log, m.1)

  abbrev pub Released :
      Step (Option V) → Me (Option V) (View C K) → ℕ → Me (Option V) (View C K) → Type 0
  Released st m found m' = m' ≡ (after_turn m.0, rest m.1)

  -- what was told begins what was seen, and that some history in which the calls are those known
  abbrev pub Settled :
      Step (Option V) → Me (Option V) (View C K) → ℕ → Me (Option V) (View C K) → Type 0
  Settled st m found m' =
      (m' ≡ m) × (length m.0.told ≤ length m.0.seen → Begins m.0.told m.0.seen)
      × ((log : List (Entry C)) × Begins m.0.seen log × AreCallsIn log m.0.mine)
