-- Windows as their operations see them, and their shapes on the screen.
use Rattle.std.specs.Prelude.{◌≤◌, ℤ, pos, neg_ℤ, ◌+ℤ◌, ◌≤ℤ◌}
use Rattle.gfx_base.specs.declared.point.Point.{Point}
use Rattle.gfx_base.specs.declared.rect.Rect.{Rect}
use Rattle.gfx_base.specs.Rects.{point_at}
use Rattle.paint_ops.specs.declared.pane.Pane.{Pane}
use Rattle.paint_ops.specs.Operations.{Inputs}
use Rattle.paint_ops.specs.Rows.{IsOrigin}

abbrev pub inputs_of_pane : Pane → Inputs
inputs_of_pane pane = record { values = pane.values.now; width = pane.width; height = pane.height }

-- the window is at most 4,096 points wide and high, and its corner lies within 65,535 points
pub record IsPane (pane : Pane) : Type 0 where
  pub not_too_wide : pane.width ≤ 4096
  pub not_too_high : pane.height ≤ 4096
  pub x : IsOrigin pane.origin.x
  pub y : IsOrigin pane.origin.y

-- the number lies from −65,536 to 65,535, as each coordinate does
abbrev pub IsCoordinate : ℤ → Type 0
IsCoordinate z = (neg_ℤ (pos 65536) ≤ℤ z) × (z ≤ℤ pos 65535)

-- a window's point as a point of the screen
abbrev pub point_on_screen : Point → Point → Point
point_on_screen origin p = point_at (origin.x +ℤ p.x) (origin.y +ℤ p.y)

-- a window's rectangle as one of the screen
abbrev pub rect_on_screen : Point → Rect → Rect
rect_on_screen origin r =
    record {
      x0 = origin.x +ℤ r.x0;
      y0 = origin.y +ℤ r.y0;
      x1 = origin.x +ℤ r.x1;
      y1 = origin.y +ℤ r.y1;
    }
