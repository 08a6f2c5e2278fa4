-- The points of a straight line between two points, both of which belong to it.
use Rattle.std.specs.Prelude.{ℤ, pos, neg_ℤ, ◌+ℤ◌, ◌-ℤ◌, ◌*ℤ◌, ◌≤ℤ◌, unsigned_abs, int_le, ℕ, ◌+◌, nat_le, Bool, ◌&&◌, if◌then◌else◌, List, [], ◌∷◌, map, filter}
use Rattle.std.specs.Int.{int_div_euclid}
use Rattle.std.specs.Ordering.{int_eq}
use Rattle.std.specs.List.{range_with_len}
use Rattle.gfx_base.specs.declared.point.Point.{Point}
use Rattle.gfx_base.specs.declared.rect.Rect.{Rect}
use Rattle.gfx_base.specs.Range.{is_within}
use Rattle.gfx_base.specs.Rects.{point_at, has}

-- the number lies from −131,072 to 131,072, so that the products of differences of such numbers fit
-- 64 bits
abbrev pub IsInReach : ℤ → Type 0
IsInReach z = (neg_ℤ (pos 131072) ≤ℤ z) × (z ≤ℤ pos 131072)

-- whether the two points are one
abbrev pub is_same : Point → Point → Bool
is_same a b = int_eq a.x b.x && int_eq a.y b.y

-- the point with x and y exchanged
abbrev pub flipped : Point → Point
flipped p = point_at p.y p.x

-- whether the line is at least as wide as it is high
abbrev pub is_wide : Point → Point → Bool
is_wide a b = nat_le (unsigned_abs (b.y -ℤ a.y)) (unsigned_abs (b.x -ℤ a.x))

-- the one of two points that lies to the left, and the other
abbrev pub left_of : Point → Point → Point
left_of a b = if int_le a.x b.x then a else b

abbrev pub right_of : Point → Point → Point
right_of a b = if int_le a.x b.x then b else a

-- the y at x of the line from l to r, where l lies to the left of r: the true one rounded to the
-- nearest whole number, and to the greater one where two are as near. With the line's width dx,
-- which is positive, and its height dy it is l.y + (2 dy (x − l.x) + dx) / (2 dx), and the quotient
-- is rounded down, also where it is negative
unfoldable pub y_at : Point → Point → ℤ → ℤ
y_at l r x =
    let dx = r.x -ℤ l.x in
    let dy = r.y -ℤ l.y in
    l.y +ℤ int_div_euclid ((pos 2 *ℤ dy) *ℤ (x -ℤ l.x) +ℤ dx) (pos 2 *ℤ dx)

-- whether a point lies on the line from l to r, where l lies to the left of r and the line is at
-- least as wide as high
abbrev pub is_on_wide : Point → Point → Point → Bool
is_on_wide l r p = is_within l.x r.x p.x && int_eq p.y (y_at l r p.x)

-- whether a point lies on the line between a and b: it is the one point, or for an x from the left
-- end's to the right end's it has the line's y; where the line is higher than wide the same holds
-- with x and y exchanged
unfoldable pub is_on_line : Point → Point → Point → Bool
is_on_line a b p =
    let c = flipped a in
    let d = flipped b in
    if is_same a b then is_same p a
    else if is_wide a b then is_on_wide (left_of a b) (right_of a b) p
    else is_on_wide (left_of c d) (right_of c d) (flipped p)

-- the point of the line from l to r that lies i points to the right of l
abbrev pub wide_point : Point → Point → ℕ → Point
wide_point l r i = let x = l.x +ℤ pos i in point_at x (y_at l r x)

-- the points of that line from left to right
abbrev pub wide_points : Point → Point → List Point
wide_points l r = map (wide_point l r) (range_with_len 0 (unsigned_abs (r.x -ℤ l.x) + 1))

-- the points of the line between a and b in order: from left to right, and where it is higher than
-- wide from top to bottom
unfoldable pub points_of_line : Point → Point → List Point
points_of_line a b =
    let c = flipped a in
    let d = flipped b in
    if is_same a b then a ∷ []
    else if is_wide a b then wide_points (left_of a b) (right_of a b)
    else map flipped (wide_points (left_of c d) (right_of c d))

-- those of the points that lie in the rectangle, in their order
abbrev pub clipped : Rect → List Point → List Point
clipped clip points = filter (has clip) points
