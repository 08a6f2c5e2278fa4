-- What holds of a display's word and of its sides' views between any two steps, and what each
-- step tells the side that makes it.
use Rattle.std.specs.Prelude.{◌≡◌, ℕ, List, [], ◌∷◌, Option}
use Rattle.flip.specs.declared.views.Drawing.{Drawing}
use Rattle.flip.specs.declared.views.View.{View}
use Rattle.flip.specs.declared.views.View.TheVariants.{Draws, Shows}
use Rattle.flip.specs.Indexes.{index_of}
use Rattle.flip.specs.Drawers.{after_look, after_step, after_own_tick}
use Rattle.flip.specs.Controllers.{after_tick}
use Rattle.flip.specs.Display.{ArePartners, IsAlone, IsDisplay}
use Rattle.flip.specs.Views.{drawing_of, showing_of}
use Rattle.atomic_table.specs.Table.{Me, Step}

-- there is one word, and a drawer alone or a drawer and a controller
abbrev pub IsKept : List ℕ → List View → Type 0
IsKept (word ∷ []) (Draws d ∷ []) = IsAlone d (index_of word)
IsKept (word ∷ []) (Draws d ∷ Shows c ∷ []) = ArePartners d c (index_of word)
IsKept words views = ⊥

-- what a step tells: by the view before it, the word that it found, and the view after it
abbrev pub Tells : Type 1
Tells = Me (Unit {0}) View → ℕ → Me (Unit {0}) View → Type 0

-- a drawer's step, after which it knows this, tells that the display was one that it might be
abbrev pub ByDrawer : (Drawing → Option ℕ → Drawing) → Tells
ByDrawer after before found now =
    (now ≡ (Draws (after (drawing_of before.0) (index_of found)), before.1))
    × ((shown : ℕ) × IsDisplay (drawing_of before.0) shown (index_of found))

abbrev pub IsLook : Step (Unit {0}) → Tells
IsLook s = ByDrawer after_look

abbrev pub IsPost : Step (Unit {0}) → Tells
IsPost s = ByDrawer (λ d found. after_step d found (index_of s.first))

abbrev pub IsOwnTick : Step (Unit {0}) → Tells
IsOwnTick s = ByDrawer after_own_tick

-- a controller's tick tells what its drawer knew
abbrev pub IsTick : Step (Unit {0}) → Tells
IsTick s before found now =
    (now ≡ (Shows (after_tick (showing_of before.0) (index_of found)), before.1))
    × ((d : Drawing) × ArePartners d (showing_of before.0) (index_of found))
