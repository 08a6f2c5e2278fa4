-- Strips: some neighbouring columns of one row.
use Rattle.std.specs.Prelude.{ℕ, ◌^◌, ◌≤◌, ◌<◌, Bool, false, ◌&&◌, nat_le, Option, Some, None}
use Rattle.frame.specs.Canvases.{Canvas}
use Rattle.frame.specs.Pictures.{HasShape}
use Rattle.paint_ops.specs.declared.strip.Strip.{Strip}

-- whether the column belongs to the strip
abbrev pub in_strip : Strip → ℕ → Bool
in_strip s u = nat_le s.left u && nat_le u s.right

-- the same, where there may be no strip
abbrev pub in_some_strip : Option Strip → ℕ → Bool
in_some_strip None u = false
in_some_strip (Some s) u = in_strip s u

-- the strip has columns, and they lie in the canvas's row of its number
pub record FitsIn (f : Canvas) (s : Strip) : Type 0 where
  pub shape : HasShape f.picture
  pub count : f.writes < 2 ^ 64
  pub some : s.left ≤ s.right
  pub within : s.right < f.picture.width
  pub row : s.y < f.picture.height
