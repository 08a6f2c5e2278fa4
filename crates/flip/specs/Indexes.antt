-- Indexes of buffers, and the word that says which one waits.
use Rattle.std.specs.Prelude.{◌≢◌, ℕ, zero, suc, ◌<◌, Option, Some, None}

-- the buffer that a word says waits: no one at 0, else the one below it
abbrev pub index_of : ℕ → Option ℕ
index_of zero = None
index_of (suc k) = Some k

-- the buffer that was known to wait, where none is found waiting
abbrev pub confirmed_by : Option ℕ → Option ℕ → Option ℕ
confirmed_by (Some k) None = Some k
confirmed_by (Some k) (Some j) = None
confirmed_by None found = None

-- the buffer is neither this one nor the one that waits
abbrev pub IsApart : ℕ → ℕ → Option ℕ → Type 0
IsApart k shown waiting = (k ≢ shown) × (waiting ≢ Some k)

-- the least of so many buffers that is apart, where there is one
abbrev pub IsLeastApart : ℕ → ℕ → Option ℕ → Option ℕ → Type 0
IsLeastApart n shown waiting None = (k : ℕ) → k < n → IsApart k shown waiting → ⊥
IsLeastApart n shown waiting (Some b) =
    (b < n) × IsApart b shown waiting × ((k : ℕ) → k < b → IsApart k shown waiting → ⊥)
