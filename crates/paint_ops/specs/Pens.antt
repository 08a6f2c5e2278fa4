-- Points that are put on one row of a frame.
use Rattle.std.specs.Prelude.{ℕ, ℤ, pos, ◌+ℤ◌, ◌<ℤ◌, ◌≤ℤ◌, ◌<◌, ◌≤◌, unsigned_abs}
use Rattle.gfx_base.specs.declared.point.Point.{Point}
use Rattle.frame.specs.Pictures.{Picture}
use Rattle.frame.specs.Areas.{is_at}
use Rattle.frame.specs.Canvases.{Canvas, drawn}

-- the point lies on the row at y of the picture, when it is counted from the origin
pub record IsReady (p : Picture) (origin : ℤ) (y : ℕ) (q : Point) : Type 0 where
  pub row : y < p.height
  pub not_too_wide : p.width ≤ 1024
  pub not_left : pos 0 ≤ℤ (origin +ℤ q.x)
  pub not_right : (origin +ℤ q.x) <ℤ pos p.width

abbrev pub after_point : Canvas → ℤ → ℕ → ℕ → Point → Canvas
after_point f origin y colour q = drawn f (is_at (unsigned_abs (origin +ℤ q.x)) y) (λ u v. colour) 1
