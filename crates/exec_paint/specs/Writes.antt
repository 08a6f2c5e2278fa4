-- Points of which each is written once. No contract of a public function names these.
use Rattle.std.specs.Prelude.{◌≡◌, ℕ, Bool, ◌&&◌, ◌==◌}
use Rattle.frame.specs.Areas.{points_in}
use Rattle.frame.specs.Canvases.{Canvas, drawn}
use Rattle.frame.specs.Pictures.{Picture}

-- the pictures have the same sides
abbrev pub HaveSameSides : Picture → Picture → Type 0
HaveSameSides p q = (p.width ≡ q.width) × (p.height ≡ q.height)

-- the points of the row at y, in the columns that a test names
abbrev pub in_row : ℕ → (ℕ → Bool) → ℕ → ℕ → Bool
in_row y here u v = v == y && here u

-- the canvas with other colours at the points that a test names, each of them written once
abbrev pub written_once : Canvas → (ℕ → ℕ → Bool) → (ℕ → ℕ → ℕ) → Canvas
written_once f here colour = drawn f here colour (points_in f.picture here)
