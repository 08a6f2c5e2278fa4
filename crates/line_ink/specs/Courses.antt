-- How the body walks a line: step by step along its longer axis, with natural numbers.
use Rattle.std.specs.Prelude.{◌≡◌, ℤ, pos, ◌+ℤ◌, ◌-ℤ◌, unsigned_abs, int_lt, ℕ, ◌+◌, ◌-◌, ◌*◌, ◌/◌, ◌<◌, ◌≤◌, Bool, if◌then◌else◌, List, map}
use Rattle.std.specs.List.{range_with_len}
use Rattle.gfx_base.specs.declared.point.Point.{Point}
use Rattle.gfx_base.specs.declared.rect.Rect.{Rect}
use Rattle.gfx_base.specs.Rects.{point_at}
use Rattle.line_ink.specs.declared.course.Course.{Course}
use Rattle.line_ink.specs.Lines.{IsInReach, flipped, left_of, right_of}

-- the first end is in reach, the line has a step, and it isn't higher than wide
pub record IsCourse (c : Course) : Type 0 where
  pub x : IsInReach c.first.x
  pub y : IsInReach c.first.y
  pub some : 0 < c.steps
  pub most : c.steps ≤ 262144
  pub wide : c.rise ≤ c.steps

-- the course from the left end to the right one
abbrev pub course_from : Bool → Point → Point → Course
course_from is_steep l r =
    record {
      is_steep = is_steep;
      first = l;
      steps = unsigned_abs (r.x -ℤ l.x);
      rise = unsigned_abs (r.y -ℤ l.y);
      descends = int_lt r.y l.y;
    }

abbrev pub course_between : Bool → Point → Point → Course
course_between is_steep a b = course_from is_steep (left_of a b) (right_of a b)

-- what makes a quotient that is rounded down the nearest one, and of two that are as near the one
-- that gives the greater coordinate
abbrev pub half : Course → ℕ
half c = if c.descends then c.steps - 1 else c.steps

-- the dividend at a step
unfoldable pub progress : Course → ℕ → ℕ
progress c i = 2 * c.rise * i + half c

-- how far the line has gone across its axis at a step
unfoldable pub offset : Course → ℕ → ℕ
offset c i = progress c i / (2 * c.steps)

-- quotient and remainder at a step
pub record IsAt (c : Course) (i quotient rest : ℕ) : Type 0 where
  pub whole : quotient * (2 * c.steps) + rest ≡ progress c i
  pub below : rest < 2 * c.steps

-- the coordinate across the axis that lies k points from the first end's
abbrev pub across : Course → ℕ → ℤ
across c k = if c.descends then c.first.y -ℤ pos k else c.first.y +ℤ pos k

-- the point with coordinates along the axis and across it
abbrev pub turned : Bool → Point → Point
turned is_steep p = if is_steep then flipped p else p

-- the rectangle with coordinates along the axis and across it
abbrev pub turned_rect : Bool → Rect → Rect
turned_rect is_steep r =
    if is_steep then record { x0 = r.y0; y0 = r.x0; x1 = r.y1; y1 = r.x1 } else r

abbrev pub place_at : Course → ℕ → ℕ → Point
place_at c i k = turned c.is_steep (point_at (c.first.x +ℤ pos i) (across c k))

-- the line's point at a step
unfoldable pub place : Course → ℕ → Point
place c i = place_at c i (offset c i)

unfoldable pub points_of_course : Course → List Point
points_of_course c = map (place c) (range_with_len 0 (c.steps + 1))
