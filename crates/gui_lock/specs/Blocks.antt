-- What a pass saw from one moment to another at both of which, and between which, it held the lock.
use Rattle.std.specs.Prelude.{◌≡◌, ℕ, List, [], ◌∷◌, ◌++◌}
use Rattle.gui_lock.specs.declared.entry.Entry.{Entry}
use Rattle.gui_lock.specs.declared.entry.Entry.TheVariants.{Made, Mark}
use Rattle.gui_lock.specs.Passes.{Held}

-- each entry is a call of this actor, or a mark
abbrev pub AreOf : {C : Type 0} → ℕ → List (Entry C) → Type 0
AreOf k [] = Unit {0}
AreOf k (Mark m n ∷ entries) = AreOf k entries
AreOf k (Made a c ∷ entries) = (a ≡ k) × AreOf k entries

-- the pass, of the same number, saw its own calls and marks alone
pub record StaysAlone {C K : Type 0} (old new : Held C K) : Type 0 where
  pub block : List (Entry C)
  pub own : AreOf old.number block
  pub seen : new.seen ≡ old.seen ++ block
  pub number : new.number ≡ old.number
