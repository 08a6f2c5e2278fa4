-- What of a window is made invalid.
use Rattle.std.specs.Prelude.{ℕ, ℤ, pos, neg_ℤ, ◌≤ℤ◌, Bool, List, is_some}
use Rattle.gfx_base.specs.declared.rect.Rect.{Rect}
use Rattle.gfx_base.specs.Rects.{shift}
use Rattle.scene.specs.declared.win.Win.{Win}
use Rattle.scene.specs.Clips.{corner_in, clip_in}
use Rattle.scene.specs.Damage.{invalidated}

-- whether the window is invalid
abbrev pub is_invalid : Win → Bool
is_invalid w = is_some w.invalid

-- the window with all of its clip invalid
abbrev pub wholly_invalidated : Rect → List Win → Win → Win
wholly_invalidated screen ws w = invalidated (clip_in screen ws w) (clip_in screen ws w) w

-- a rectangle that is told from the window's upper left corner, on the screen
abbrev pub on_screen : List Win → Win → Rect → Rect
on_screen ws w local = shift local (corner_in ws w).x (corner_in ws w).y

-- the number lies from −32,768 to 32,767
abbrev pub IsShort : ℤ → Type 0
IsShort z = (neg_ℤ (pos 32768) ≤ℤ z) × (z ≤ℤ pos 32767)

-- the rectangle's numbers lie from −32,768 to 32,767
abbrev pub IsLocal : Rect → Type 0
IsLocal r = IsShort r.x0 × IsShort r.y0 × IsShort r.x1 × IsShort r.y1

-- the rectangle with these corners
abbrev pub corners : ℕ → ℕ → ℕ → ℕ → Rect
corners x0 y0 x1 y1 = record { x0 = pos x0; y0 = pos y0; x1 = pos x1; y1 = pos y1 }
