-- What a display shows and what waits there, by what its drawer knows.
use Rattle.std.specs.Prelude.{◌≡◌, ◌⊎◌, ℕ, true, false, Option, Some, None}
use Rattle.flip.specs.declared.views.Drawing.{Drawing}
use Rattle.flip.specs.declared.views.Showing.{Showing}
use Rattle.flip.specs.Drawers.{IsConsistent}

-- both are as the drawer knows them
abbrev pub AreKnown : Drawing → ℕ → Option ℕ → Type 0
AreKnown d shown waiting = (shown ≡ d.shown) × (waiting ≡ d.waiting)

-- the buffer that the drawer knows to wait is shown by now, and none waits
abbrev pub IsTaken : Drawing → ℕ → Option ℕ → Type 0
IsTaken d shown waiting = (d.waiting ≡ Some shown) × (waiting ≡ None)

-- the drawer's display may show this buffer while that one or none waits. A drawer that is its own
-- controller knows both
pub record IsDisplay (d : Drawing) (shown : ℕ) (waiting : Option ℕ) : Type 0 where
  pub agrees : AreKnown d shown waiting ⊎ IsTaken d shown waiting
  pub when_alone : d.alone ≡ true → AreKnown d shown waiting

-- a drawer and a controller of one display, at which this one or none waits
pub record ArePartners (d : Drawing) (c : Showing) (waiting : Option ℕ) : Type 0 where
  pub parted : d.alone ≡ false
  pub buffers : c.buffers ≡ d.buffers
  pub consistent : IsConsistent d
  pub display : IsDisplay d c.shown waiting

-- a drawer that is its own controller, at whose display this one or none waits
pub record IsAlone (d : Drawing) (waiting : Option ℕ) : Type 0 where
  pub alone : d.alone ≡ true
  pub consistent : IsConsistent d
  pub display : IsDisplay d d.shown waiting
