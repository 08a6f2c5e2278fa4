-- Where the windows of a tree lie: each in its parent, and within its parent's clip.
use Rattle.std.specs.Prelude.{ℕ, zero, suc, ◌*◌, ◌==◌, if◌then◌else◌, ℤ, pos, neg_ℤ, ◌+ℤ◌, ◌-ℤ◌, ◌≤ℤ◌, Bool, true, false, List, Option, Some, None, option_map, unwrap_or, slice_get, ◌≡◌}
use Rattle.gfx_base.specs.declared.point.Point.{Point}
use Rattle.gfx_base.specs.declared.rect.Rect.{Rect}
use Rattle.gfx_base.specs.Rects.{point_at, no_points, meet}
use Rattle.scene.specs.declared.win.Win.{Win}
use Rattle.scene.specs.Places.{Place, place_of, place_at, parent_in}

-- the deepest level of a window; the desktop has level 1
abbrev pub deepest_level : ℕ
deepest_level = 8

-- the upper left corner of a window on the screen, from that of its parent
abbrev pub corner_from : Place → Point → Point
corner_from q outer = point_at (outer.x +ℤ q.x) (outer.y +ℤ q.y)

-- the upper left corner of a window on the screen, if it and its ancestors are so many at most: the
-- sum of their places
abbrev pub corner_of : ℕ → (ℕ → Option Place) → Place → Point
corner_of zero found q = point_at (pos 0) (pos 0)
corner_of (suc levels) found q =
    corner_from q
    (unwrap_or (option_map (corner_of levels found) (parent_in found q)) (point_at (pos 0) (pos 0)))

-- all points that a window takes up whose upper left corner is here
abbrev pub frame_of : Point → Place → Rect
frame_of corner q =
    record {
      x0 = corner.x;
      y0 = corner.y;
      x1 = (corner.x +ℤ pos q.w) -ℤ pos 1;
      y1 = (corner.y +ℤ pos q.h) -ℤ pos 1;
    }

-- the clip of a window whose corner is here, from the clip that it lies in
abbrev pub clip_from : Place → Point → Rect → Rect
clip_from q corner outer = if q.shown then meet (frame_of corner q) outer else no_points

-- the clip that a window lies in: the screen for the desktop, else its parent's, and nothing where
-- the parent isn't found
abbrev pub outer_clip : Rect → Bool → Option Rect → Rect
outer_clip screen true parent = screen
outer_clip screen false (Some clip) = clip
outer_clip screen false None = no_points

-- the clip rectangle of a window: the points common to it, its ancestors and the screen, and none
-- where one of them is hidden
abbrev pub clip_of : ℕ → Rect → (ℕ → Option Place) → Place → Rect
clip_of zero screen found q = no_points
clip_of (suc levels) screen found q =
    clip_from q (corner_of (suc levels) found q)
    (outer_clip screen (q.parent == 0)
    (option_map (clip_of levels screen found) (parent_in found q)))

-- the upper left corner of one of the windows on the screen
abbrev pub corner_in : List Win → Win → Point
corner_in ws w = corner_of deepest_level (place_at ws) (place_of w)

-- the clip rectangle of one of the windows
abbrev pub clip_in : Rect → List Win → Win → Rect
clip_in screen ws w = clip_of deepest_level screen (place_at ws) (place_of w)

-- each window's clip stands in the window's place of a list
abbrev pub AreClips : Rect → List Win → List Rect → Type 0
AreClips screen ws clips =
    (i : ℕ) (w : Win) → slice_get ws i ≡ Some w → slice_get clips i ≡ Some (clip_in screen ws w)

-- so many places can add up to the number
abbrev pub IsSumOf : ℕ → ℤ → Type 0
IsSumOf levels z = (neg_ℤ (pos (32768 * levels)) ≤ℤ z) × (z ≤ℤ pos (32768 * levels))

-- so many places can add up to the point
abbrev pub FitsLevels : ℕ → Point → Type 0
FitsLevels levels p = IsSumOf levels p.x × IsSumOf levels p.y
