-- Rows of a picture that are painted on. No contract of a public function names these.
use Rattle.std.specs.Prelude.{ℕ, ◌<◌, ◌≤◌, Bool, false, ◌&&◌, ◌==◌, nat_le, Option, Some, None}
use Rattle.frame.specs.Pictures.{Picture, changed, colour_at}
use Rattle.exec_paint.specs.declared.run.Run.{Run}

-- the picture with other colours on the row at y, in the columns that a test names: those that a
-- function gives for the column and for the colour that was there
abbrev pub row_mapped : Picture → ℕ → (ℕ → Bool) → (ℕ → ℕ → ℕ) → Picture
row_mapped p y here f = changed p (λ u v. v == y && here u) (λ u v. f u (colour_at p u v))

-- whether the column belongs to the run
abbrev pub in_run : Run → ℕ → Bool
in_run run u = nat_le run.left u && nat_le u run.right

-- the same, where there may be no run
abbrev pub in_some_run : Option Run → ℕ → Bool
in_some_run None u = false
in_some_run (Some run) u = in_run run u

-- the run has columns, and they lie in the picture
pub record FitsIn (p : Picture) (run : Run) : Type 0 where
  pub some : run.left ≤ run.right
  pub within : run.right < p.width
  pub row : run.y < p.height
