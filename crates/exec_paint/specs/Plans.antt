-- What a job paints with: the plan of a row.
use Rattle.std.specs.Prelude.{◌≡◌, ◌≤◌, ℕ, ℤ, pos, Bool, true, false, ◌&&◌, ◌||◌, not, if◌then◌else◌, List}
use Rattle.std.specs.List.{list_any}
use Rattle.gfx_base.specs.declared.point.Point.{Point}
use Rattle.gfx_base.specs.declared.rect.Rect.{Rect}
use Rattle.gfx_base.specs.Range.{is_within}
use Rattle.gfx_base.specs.Rects.{has, point_at}
use Rattle.region.specs.Spans.{in_spans}
use Rattle.scene.specs.declared.win.Win.{Win}
use Rattle.scene.specs.Painting.{Looks, windows_at, hides_behind, painted_over, painted}
use Rattle.exec_paint.specs.declared.plan.Hole.{Hole}
use Rattle.exec_paint.specs.declared.row.RowPlan.{RowPlan}

-- whether one of the holes has the point
abbrev pub is_hidden : List Hole → Point → Bool
is_hidden holes p = list_any (λ (hole : Hole). has hole.clip p) holes

-- on the rows from y to the plan's last, its spans are the columns of the area that no hole has
abbrev pub IsPlanFrom : ℕ → Rect → List Hole → RowPlan → Type 0
IsPlanFrom y area holes plan = (v : ℕ) → y ≤ v → v ≤ plan.last → (x : ℤ)
    → in_spans plan.spans x
    ≡ (is_within area.x0 area.x1 x && not (is_hidden holes (point_at x (pos v))))

-- at the points of the area that no hole has, what these windows leave and then the rest is the
-- painter's colour: over black where the area is bare, and else over any colour
abbrev pub PaintTo : Looks → List Win → Rect → Bool → List Win → List Hole → List Win → Type 0
PaintTo looks ws area bare taken holes rest =
    (p : Point) (old : ℕ) → has area p ≡ true → is_hidden holes p ≡ false
    → painted_over looks p
    (painted_over looks p (if bare then 0 else old) (windows_at looks taken p))
    (windows_at looks rest p) ≡ painted looks ws p

-- at the points of the area the holes and then the rest hide just what all these windows hide
abbrev pub HideTo : Looks → Rect → List Hole → List Win → List Win → Type 0
HideTo looks area holes rest all =
    (p : Point) → has area p ≡ true
    → (is_hidden holes p || hides_behind looks (windows_at looks rest p))
    ≡ hides_behind looks (windows_at looks all p)
