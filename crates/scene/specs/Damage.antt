-- Which points of the screen are damaged: those that are still to be painted.
use Rattle.std.specs.Prelude.{ℕ, zero, suc, pos, Bool, false, ◌&&◌, ◌||◌, not, if◌then◌else◌, List, [], ◌∷◌, map, Option, Some, None}
use Rattle.gfx_base.specs.declared.point.Point.{Point}
use Rattle.gfx_base.specs.declared.rect.Rect.{Rect}
use Rattle.gfx_base.specs.Rects.{has, is_empty, meet, cover, point_at}
use Rattle.frame.specs.Pictures.{Picture, changed}
use Rattle.scene.specs.declared.win.Win.{Win}
use Rattle.scene.specs.Painting.{Looks, windows_at, hides_behind, painted}

-- whether there is a rectangle, and it has the point
abbrev pub some_has : Option Rect → Point → Bool
some_has None p = false
some_has (Some r) p = has r p

-- whether the point lies in the window's invalid rectangle
abbrev pub is_invalid_at : Point → Win → Bool
is_invalid_at p w = some_has w.invalid p

-- whether a window sees the point, where these windows are above it: its clip has it, and none of
-- them hides it there
abbrev pub is_seen : Looks → Win → List Win → Point → Bool
is_seen looks w above p =
    has (looks.clip w) p && not (hides_behind looks (windows_at looks above p))

-- the windows that see the point
abbrev pub windows_seeing : Looks → List Win → Point → List Win
windows_seeing looks [] p = []
windows_seeing looks (w ∷ ws) p =
    if is_seen looks w ws p then w ∷ windows_seeing looks ws p else windows_seeing looks ws p

-- whether the point lies in the window's patch: it sees it, and is invalid there
abbrev pub in_patch : Looks → Win → List Win → Point → Bool
in_patch looks w above p = is_seen looks w above p && is_invalid_at p w

-- whether the point is damaged: it lies in the patch of one of the windows
abbrev pub is_damaged : Looks → List Win → Point → Bool
is_damaged looks [] p = false
is_damaged looks (w ∷ ws) p = in_patch looks w ws p || is_damaged looks ws p

-- whether the point lies in the patch of the window that has so many before it
abbrev pub in_patch_at : Looks → List Win → ℕ → Point → Bool
in_patch_at looks [] which p = false
in_patch_at looks (w ∷ ws) zero p = in_patch looks w ws p
in_patch_at looks (w ∷ ws) (suc which) p = in_patch_at looks ws which p

-- the picture after the job of that window: the painter's colours of all windows on its patch, and
-- the old colours elsewhere
abbrev pub repainted : Looks → List Win → ℕ → Picture → Picture
repainted looks ws which p =
    changed p (λ x y. in_patch_at looks ws which (point_at (pos x) (pos y)))
    (λ x y. painted looks ws (point_at (pos x) (pos y)))

-- the smallest rectangle that covers the old one, if there is one, and another
abbrev pub grown : Option Rect → Rect → Rect
grown None r = r
grown (Some old) r = cover old r

-- the window with this invalid rectangle, or with none
abbrev pub with_invalid : Win → Option Rect → Win
with_invalid w r = record w { invalid = r }

-- the window with an area made invalid, as far as it lies in its clip; as it was, where nothing of
-- it does
abbrev pub invalidated : Rect → Rect → Win → Win
invalidated clip area w =
    if is_empty (meet area clip) then w
    else with_invalid w (Some (grown w.invalid (meet area clip)))

-- an area made invalid in each of the windows
abbrev pub area_invalidated : (Win → Rect) → Rect → List Win → List Win
area_invalidated clip area ws = map (λ w. invalidated (clip w) area w) ws

-- areas made invalid in each of the windows, one after the other
abbrev pub areas_invalidated : (Win → Rect) → List Rect → List Win → List Win
areas_invalidated clip [] ws = ws
areas_invalidated clip (area ∷ areas) ws =
    areas_invalidated clip areas (area_invalidated clip area ws)
