-- Areas of the screen that a job paints. No contract of a public function names these.
use Rattle.std.specs.Prelude.{◌≡◌, ℕ, ◌+◌, Bool, true, false, ◌&&◌, not, pos, ◌≤ℤ◌, ◌<ℤ◌, List, drop, slice_index_or}
use Rattle.gfx_base.specs.declared.point.Point.{Point}
use Rattle.gfx_base.specs.declared.rect.Rect.{Rect}
use Rattle.gfx_base.specs.Rects.{has, point_at}
use Rattle.frame.specs.Canvases.{Canvas}
use Rattle.frame.specs.Pictures.{Picture, changed}
use Rattle.scene.specs.declared.win.Win.{Win}
use Rattle.scene.specs.Places.{no_window}
use Rattle.scene.specs.Clips.{clip_in}
use Rattle.scene.specs.Painting.{Looks, windows_at, hides_behind, painted}
use Rattle.exec_paint.specs.Writes.{HaveSameSides, written_once}

-- the area isn't empty, and lies on a screen of these sides
pub record IsOn (width height : ℕ) (area : Rect) : Type 0 where
  pub left : pos 0 ≤ℤ area.x0
  pub right : area.x1 <ℤ pos width
  pub top : pos 0 ≤ℤ area.y0
  pub bottom : area.y1 <ℤ pos height
  pub columns : area.x0 ≤ℤ area.x1
  pub rows : area.y0 ≤ℤ area.y1

-- all points of the area lie in the clip of the window at a place
abbrev pub LiesInWindow : Rect → List Win → ℕ → Rect → Type 0
LiesInWindow screen ws which area =
    (p : Point) → has area p ≡ true
    → has (clip_in screen ws (slice_index_or ws which no_window)) p ≡ true

-- whether the area has the point, and none of the windows above hides it there
abbrev pub is_open : Looks → List Win → Rect → Point → Bool
is_open looks above area p = has area p && not (hides_behind looks (windows_at looks above p))

-- the picture with the painter's colours on those points
abbrev pub painted_in : Looks → List Win → List Win → Rect → Picture → Picture
painted_in looks ws above area p =
    changed p (λ x y. is_open looks above area (point_at (pos x) (pos y)))
    (λ x y. painted looks ws (point_at (pos x) (pos y)))

-- the canvas with the painter's colours on those points, each of them written once
abbrev pub painted_once : Looks → List Win → List Win → Rect → Canvas → Canvas
painted_once looks ws above area f =
    written_once f (λ x y. is_open looks above area (point_at (pos x) (pos y)))
    (λ x y. painted looks ws (point_at (pos x) (pos y)))

-- how an area was painted for the window at a place, by what the device and the target were and now
-- are: a window with a memory device wrote each open point once, and any other one left the device
pub record IsPainted
    (looks : Looks) (ws : List Win) (which : ℕ) (area : Rect)
    (device target new_device new_target : Canvas) : Type 0 where
  pub picture : new_target.picture ≡ painted_in looks ws (drop (which + 1) ws) area target.picture
  pub once : (slice_index_or ws which no_window).memdev ≡ true
      → new_target ≡ painted_once looks ws (drop (which + 1) ws) area target
  pub sides : HaveSameSides new_device.picture device.picture
  pub unused : (slice_index_or ws which no_window).memdev ≡ false → new_device ≡ device
