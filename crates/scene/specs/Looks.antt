-- How windows look: what the operations of their classes put over their back colours.
use Rattle.std.specs.Prelude.{ℕ, Bool, ◌&&◌, not, if◌then◌else◌, ◌<◌, ◌≤◌, pos, ◌-ℤ◌, List, [], length, Option, None, is_some, slice_index_or, unwrap_or}
use Rattle.gfx_base.specs.declared.point.Point.{Point}
use Rattle.gfx_base.specs.declared.rect.Rect.{Rect}
use Rattle.gfx_base.specs.Rects.{point_at}
use Rattle.frame.specs.Pictures.{Picture, picture_of}
use Rattle.paint_ops.specs.Kinds.{Class, Assets}
use Rattle.paint_ops.specs.Operations.{Inputs, seen_from, or_behind, colour_of_operations}
use Rattle.scene.specs.declared.win.Win.{Win}
use Rattle.scene.specs.Clips.{corner_in, clip_in}
use Rattle.scene.specs.Painting.{Looks, painted}

-- the points of a screen of these sides
abbrev pub screen_with : ℕ → ℕ → Rect
screen_with width height =
    record { x0 = pos 0; y0 = pos 0; x1 = pos width -ℤ pos 1; y1 = pos height -ℤ pos 1 }

abbrev pub no_class : Class
no_class = record { back = None; ops = []; reactions = [] }

abbrev pub class_of : Assets → Win → Class
class_of assets w = slice_index_or assets.classes w.class no_class

-- what of a window its operations depend on
abbrev pub inputs_of : Win → Inputs
inputs_of w = record { values = w.values; width = w.w; height = w.h }

-- whether nothing behind the window can be seen through it: it isn't transparent, and its class has
-- a back colour
abbrev pub is_opaque : Assets → Win → Bool
is_opaque assets w = not w.trans && is_some (class_of assets w).back

-- the colour behind the window's operations, if any
abbrev pub back_of : Assets → Win → Option ℕ
back_of assets w = if is_opaque assets w then (class_of assets w).back else None

-- the colour that a window puts on a point of its own, if any: that of the last of its operations
-- that puts one there, else its back colour
abbrev pub colour_in_window : Assets → Win → Point → Option ℕ
colour_in_window assets w local =
    or_behind (back_of assets w)
    (colour_of_operations assets (inputs_of w) (class_of assets w).ops local)

-- the colour that one of the windows leaves at a point of the screen over the colour behind it
abbrev pub paint : Assets → List Win → Win → Point → ℕ → ℕ
paint assets ws w p behind =
    unwrap_or (colour_in_window assets w (seen_from (corner_in ws w) p)) behind

-- how the windows of a list look on this screen
abbrev pub looks_of : Assets → Rect → List Win → Looks
looks_of assets screen ws =
    record { clip = clip_in screen ws; is_opaque = is_opaque assets; paint = paint assets ws }

-- the painter's picture of windows on a screen of these sides
abbrev pub painter : Assets → ℕ → ℕ → List Win → Picture
painter assets width height ws =
    picture_of width height
    (λ x y. painted (looks_of assets (screen_with width height) ws) ws (point_at (pos x) (pos y)))

-- the window's sides are at most 4,096 points long, and its class exists
pub record IsPaintable (assets : Assets) (w : Win) : Type 0 where
  pub width : w.w ≤ 4096
  pub height : w.h ≤ 4096
  pub class : w.class < length assets.classes
