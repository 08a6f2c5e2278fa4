-- Rectangles, to which both corners belong, as sets of points.
use Rattle.std.specs.Prelude.{◌≡◌, ℤ, pos, negsuc, ◌+ℤ◌, Bool, true, ◌&&◌, ◌||◌, if◌then◌else◌, int_lt}
use Rattle.std.specs.Int.{int_max, int_min}
use Rattle.gfx_base.specs.declared.point.Point.{Point}
use Rattle.gfx_base.specs.declared.rect.Rect.{Rect}
use Rattle.gfx_base.specs.Range.{is_within}

-- the point with these numbers
abbrev pub point_at : ℤ → ℤ → Point
point_at x y = record { x = x; y = y }

-- whether the point lies in the rectangle
unfoldable pub has : Rect → Point → Bool
has r p = is_within r.x0 r.x1 p.x && is_within r.y0 r.y1 p.y

-- whether no point lies in it
unfoldable pub is_empty : Rect → Bool
is_empty r = int_lt r.x1 r.x0 || int_lt r.y1 r.y0

-- the one empty rectangle that calls give
abbrev pub no_points : Rect
no_points = record { x0 = pos 0; y0 = pos 0; x1 = negsuc 0; y1 = negsuc 0 }

-- the rectangle as calls give it: itself, and where it is empty the one empty rectangle
unfoldable pub canonical : Rect → Rect
canonical r = if is_empty r then no_points else r

-- the rectangle of the points that both have
unfoldable pub meet : Rect → Rect → Rect
meet a b =
    canonical (record {
      x0 = int_max a.x0 b.x0;
      y0 = int_max a.y0 b.y0;
      x1 = int_min a.x1 b.x1;
      y1 = int_min a.y1 b.y1;
    })

-- the rectangle from the least to the greatest numbers of both
abbrev pub hull : Rect → Rect → Rect
hull a b =
    record {
      x0 = int_min a.x0 b.x0;
      y0 = int_min a.y0 b.y0;
      x1 = int_max a.x1 b.x1;
      y1 = int_max a.y1 b.y1;
    }

-- the smallest rectangle that has all points of both; where one is empty, the other
unfoldable pub cover : Rect → Rect → Rect
cover a b = if is_empty a then canonical b else (if is_empty b then a else hull a b)

-- the rectangle moved to the right and downwards
unfoldable pub shift : Rect → ℤ → ℤ → Rect
shift r dx dy =
    canonical (record { x0 = r.x0 +ℤ dx; y0 = r.y0 +ℤ dy; x1 = r.x1 +ℤ dx; y1 = r.y1 +ℤ dy })

-- all points of the first rectangle lie in the second
abbrev pub LiesIn : Rect → Rect → Type 0
LiesIn inner outer = (p : Point) → has inner p ≡ true → has outer p ≡ true

-- of the rectangles that have all points of both this is the smallest
pub record IsSmallest (a b both : Rect) : Type 0 where
  pub first : LiesIn a both
  pub second : LiesIn b both
  pub least : (other : Rect) → LiesIn a other → LiesIn b other → LiesIn both other
