-- A history's entries, and what one call does to a history.
use Rattle.gui_lock.specs.declared.entry.Entry.{Entry}
use Rattle.gui_lock.specs.declared.entry.Entry.TheVariants.{Made, Mark}
use Rattle.std.specs.Prelude.{◌≡◌, ℕ, ◌<◌, ◌⊎◌, List, [], ◌∷◌, ◌++◌, Bool, true, false, nat_eq}

-- each entry is a mark
abbrev pub AreMarks : {C : Type 0} → List (Entry C) → Type 0
AreMarks [] = Unit {0}
AreMarks (Mark m n ∷ entries) = AreMarks entries
AreMarks (Made a c ∷ entries) = ⊥

-- the item at the head of the list, where it is taken
abbrev pub pick : {C : Type 0} → Bool → C → List C → List C
pick true c cs = c ∷ cs
pick false c cs = cs

-- the calls of one actor, in order
abbrev pub calls_by : {C : Type 0} → ℕ → List (Entry C) → List C
calls_by k [] = []
calls_by k (Mark m n ∷ entries) = calls_by k entries
calls_by k (Made a c ∷ entries) = pick (nat_eq a k) c (calls_by k entries)

-- no call is of another actor than 1 to `passes`
abbrev pub AreByPasses : {C : Type 0} → ℕ → List (Entry C) → Type 0
AreByPasses passes entries = (k : ℕ) → (k < 1) ⊎ (passes < k) → calls_by k entries ≡ []

-- one list begins another
abbrev pub Begins : {C : Type 0} → List (Entry C) → List (Entry C) → Type 0
Begins {C} prefix whole = (rest : List (Entry C)) × (whole ≡ prefix ++ rest)

-- the entry of a call, where it is added
abbrev pub own : {C : Type 0} → Bool → ℕ → C → List (Entry C)
own added actor call = pick added (Made actor call) []

-- what a call is answered: whether its entry is added, its reply, and the room after it
pub record Outcome (R M : Type 0) : Type 0 where
  pub added : Bool
  pub reply : R
  pub room : M

-- a call is answered so
abbrev pub IsAnswered : {R M : Type 0} → Outcome R M → Bool → R → M → Type 0
IsAnswered outcome added reply room =
    (added ≡ outcome.added) × (reply ≡ outcome.reply) × (room ≡ outcome.room)

-- A call makes the history longer by marks, and by its entry where that is added. What is answered
-- is what the definition gives after the marks. Where memory was wanting, which may be for some
-- calls, no entry is added. Without an entry the room stays
pub record Applied {C R M : Type 0} (gives : List (Entry C) → Outcome R M)
    (wanting may_want : Bool) (actor : ℕ) (call : C) (before after : List (Entry C))
    (reply : R) (old_room room : M) : Type 0 where
  pub marks : List (Entry C)
  pub added : Bool
  pub are_marks : AreMarks marks
  pub list : after ≡ (before ++ marks) ++ own added actor call
  pub wants : wanting ≡ true → (added ≡ false) × (may_want ≡ true)
  pub given : wanting ≡ false → IsAnswered (gives (before ++ marks)) added reply room
  pub unchanged : added ≡ false → room ≡ old_room
