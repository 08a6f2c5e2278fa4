-- A pass that a thread is given and gives back.
use Rattle.std.specs.Prelude.{◌≡◌, ℕ}
use Rattle.gui_lock.specs.Passes.{Locked, Held, IsOf}

-- a pass of the lock, with this number, that doesn't hold it
abbrev pub IsFree : {C K : Type 0} → Locked K → ℕ → Held C K → Type 0
IsFree lock number pass = IsOf lock pass × (pass.depth ≡ 0) × (pass.number ≡ number)
