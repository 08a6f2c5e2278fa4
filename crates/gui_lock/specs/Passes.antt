-- What contracts see of a lock and of its passes, and what a pass's calls do.
use Rattle.std.specs.Prelude.{◌≡◌, ℕ, ◌<◌, ◌⊎◌, zero, suc, cond, nat_lt, List, [], ◌∷◌, ◌++◌, length, Option, Some, Bool, true, false}
use Rattle.gui_lock.specs.declared.entry.Entry.{Entry}
use Rattle.gui_lock.specs.declared.view.Terms.{Terms}
use Rattle.gui_lock.specs.Entries.{AreMarks, AreByPasses, Begins, calls_by, pick, own, Outcome, IsAnswered}
use Rattle.atomic_table.specs.Seated.{TableId}

-- a lock: which one it is, the kind of its value, and how many passes were made with it
pub record Locked (K : Type 0) : Type 0 where
  pub table : TableId
  pub kind : K
  pub passes : ℕ

-- a pass: its lock, its number, how often it holds the lock, the history that it saw, its own calls
-- in it, and what its lock was opened with
pub record Held (C K : Type 0) : Type 0 where
  pub table : TableId
  pub number : ℕ
  pub depth : ℕ
  pub seen : List (Entry C)
  pub mine : List C
  pub terms : Option (Terms K)

abbrev pub terms_of : {K : Type 0} → Locked K → Terms K
terms_of lock = record { kind = lock.kind; passes = lock.passes }

-- the longer of two lists, and the shorter
abbrev pub longer : {A : Type 0} → List A → List A → List A
longer a b = cond (nat_lt (length a) (length b)) b a

abbrev pub shorter : {A : Type 0} → List A → List A → List A
shorter a b = cond (nat_lt (length a) (length b)) a b

module _ {C K : Type 0} where
  -- pass and lock were made together
  abbrev pub IsOf : Locked K → Held C K → Type 0
  IsOf lock pass = (pass.table ≡ lock.table) × (pass.terms ≡ Some (terms_of lock))

  -- the same pass of the same lock
  abbrev pub Same : Held C K → Held C K → Type 0
  Same old new = (new.table ≡ old.table) × (new.number ≡ old.number) × (new.terms ≡ old.terms)

  -- The pass saw entries of other passes and marks, and none where it held the lock. Its own calls
  -- stay, and are those of its number in what it saw
  pub record Sees (passes : ℕ) (old new : Held C K) : Type 0 where
    pub between : List (Entry C)
    pub others : calls_by old.number between ≡ []
    pub within : AreByPasses passes between
    pub near : 0 < old.depth → between ≡ []
    pub seen : new.seen ≡ old.seen ++ between
    pub mine : new.mine ≡ old.mine
    pub counted : calls_by new.number new.seen ≡ new.mine
    pub same : Same old new

  -- The pass saw entries of other passes and marks, and none where it held the lock; then marks,
  -- and its call where that is added. What it is answered is what the definition gives after these
  -- marks. Where memory was wanting, which may be for some calls, no call is added. Without a call
  -- the room stays
  pub record Acts {R M : Type 0} (passes : ℕ) (gives : List (Entry C) → Outcome R M)
      (wanting may_want : Bool) (call : C) (old new : Held C K) (reply : R)
      (old_room room : M) : Type 0 where
    pub between : List (Entry C)
    pub marks : List (Entry C)
    pub added : Bool
    pub others : calls_by old.number between ≡ []
    pub within : AreByPasses passes between
    pub near : 0 < old.depth → between ≡ []
    pub are_marks : AreMarks marks
    pub seen : new.seen ≡ ((old.seen ++ between) ++ marks) ++ own added old.number call
    pub mine : new.mine ≡ old.mine ++ pick added call []
    pub counted : calls_by new.number new.seen ≡ new.mine
    pub wants : wanting ≡ true → (added ≡ false) × (may_want ≡ true)
    pub given : wanting ≡ false →
        IsAnswered (gives ((old.seen ++ between) ++ marks)) added reply room
    pub unchanged : added ≡ false → room ≡ old_room
    pub same : Same old new
    pub depth : new.depth ≡ old.depth

  -- the pass saw entries of other passes and marks, and marks alone where it held the lock; its own
  -- calls stay
  pub record Waits (passes : ℕ) (old new : Held C K) : Type 0 where
    pub between : List (Entry C)
    pub others : calls_by old.number between ≡ []
    pub within : AreByPasses passes between
    pub near : 0 < old.depth → AreMarks between
    pub seen : new.seen ≡ old.seen ++ between
    pub mine : new.mine ≡ old.mine
    pub counted : calls_by new.number new.seen ≡ new.mine
    pub same : Same old new
    pub depth : new.depth ≡ old.depth

  -- a pass that has seen nothing
  abbrev pub new_pass : Locked K → ℕ → Held C K
  new_pass lock k = record {
    table = lock.table;
    number = k;
    depth = 0;
    seen = [];
    mine = [];
    terms = Some (terms_of lock);
  }

  -- the passes first, first + 1 .. of which there are n
  abbrev pub new_passes : Locked K → ℕ → ℕ → List (Held C K)
  new_passes lock first zero = []
  new_passes lock first (suc n) = new_pass lock first ∷ new_passes lock (suc first) n

  -- each pass was made with the lock, and doesn't hold it
  abbrev pub AreFree : Locked K → List (Held C K) → Type 0
  AreFree lock [] = Unit {0}
  AreFree lock (p ∷ ps) = (IsOf lock p × (p.depth ≡ 0)) × AreFree lock ps

  -- a pass with this number is there
  abbrev pub HasNumber : ℕ → List (Held C K) → Type 0
  HasNumber k [] = ⊥
  HasNumber k (p ∷ ps) = (p.number ≡ k) ⊎ HasNumber k ps

  -- the history begins with what each pass saw, and its calls by the pass's number are the pass's
  -- own
  abbrev pub HasAll : List (Entry C) → List (Held C K) → Type 0
  HasAll log [] = Unit {0}
  HasAll log (p ∷ ps) = (Begins p.seen log × (calls_by p.number log ≡ p.mine)) × HasAll log ps
