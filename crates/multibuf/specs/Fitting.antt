-- How the buffers in their parts fit what their drawer knows.
use Rattle.std.specs.Prelude.{◌≡◌, ◌≢◌, ◌⊎◌, ℕ, ◌<◌, ◌≤◌, Option, Some, None, IfSome}
use Rattle.std.specs.Option.{option_map}
use Rattle.flip.specs.declared.views.Drawing.{Drawing}
use Rattle.flip.specs.Drawers.{IsConsistent}
use Rattle.multibuf.specs.declared.owners.Back.{Back}
use Rattle.multibuf.specs.declared.several.Several.{Several}
use Rattle.multibuf.specs.declared.held.Held.{Held}
use Rattle.multibuf.specs.declared.held.Held.TheVariants.{One, More}
use Rattle.multibuf.specs.Owners.{index_of_free, index_of_back, index_of_waiting}

-- of n buffers this one has no other part: one is shown, one or none waits, and one or none is
-- drawn on
pub record IsRest (n shown : ℕ) (waiting back : Option ℕ) (k : ℕ) : Type 0 where
  pub exists : k < n
  pub not_shown : k ≢ shown
  pub not_waiting : waiting ≢ Some k
  pub not_back : back ≢ Some k

-- the free buffers are all that have no other part, in order
pub record AreRest (n shown : ℕ) (waiting back low high : Option ℕ) : Type 0 where
  pub low_free : (k : ℕ) → low ≡ Some k → IsRest n shown waiting back k
  pub high_free : (k : ℕ) → high ≡ Some k → IsRest n shown waiting back k
  pub in_order : (j k : ℕ) → low ≡ Some j → high ≡ Some k → j < k
  pub first_first : low ≡ None → high ≡ None
  pub all : (k : ℕ) → IsRest n shown waiting back k → (low ≡ Some k) ⊎ (high ≡ Some k)

-- one buffer is drawn on exactly where drawing was begun, and it is free for the drawer
abbrev pub FitsBack : Drawing → ℕ → Option Back → Type 0
FitsBack d count None = count ≡ 0
FitsBack d count (Some b) =
    (0 < count) × (b.index < d.buffers) × (b.index ≢ d.shown) × (d.waiting ≢ Some b.index)

-- several buffers have the parts that the drawer knows
pub record FitsSeveral (d : Drawing) (count switches : ℕ) (s : Several) : Type 0 where
  pub several : 2 ≤ d.buffers
  pub consistent : IsConsistent d
  pub few : count ≤ 100
  pub shown : s.shown.index ≡ d.shown
  pub waiting : option_map index_of_waiting s.waiting ≡ d.waiting
  pub number : IfSome s.waiting (λ w. w.number ≡ switches)
  pub back : FitsBack d count s.back
  pub rest : AreRest d.buffers d.shown d.waiting (option_map index_of_back s.back)
      (option_map index_of_free s.stock.low) (option_map index_of_free s.stock.high)

-- one buffer alone is the first
pub record FitsOne (d : Drawing) (count : ℕ) (b : Back) : Type 0 where
  pub one : d.buffers ≡ 1
  pub consistent : IsConsistent d
  pub few : count ≤ 100
  pub index : b.index ≡ 0

abbrev pub FitsDrawer : Drawing → ℕ → ℕ → Held → Type 0
FitsDrawer d count switches (One b) = FitsOne d count b
FitsDrawer d count switches (More s) = FitsSeveral d count switches s
