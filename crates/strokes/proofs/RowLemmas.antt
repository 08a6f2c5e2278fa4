-- Rows of an area, and its free points.
use Rattle.std.proofs.Common.{◌≡◌, ℕ, ◌+◌, ◌<◌, ◌≤◌, Bool, true, ◌&&◌, ℤ, pos, ◌≤ℤ◌, ◌<ℤ◌, List, [], ◌∷◌, sym, ap, ◌∙◌, arith}
use Rattle.std.specs.Prelude.{not}
use Rattle.std.specs.List.{AllByRecursion}
use Rattle.std.proofs.lemmas.Bool.{and_parts}
use Rattle.std.proofs.lemmas.Int.{ints}
use Rattle.gfx_base.specs.declared.rect.Rect.{Rect}
use Rattle.gfx_base.specs.Range.{is_within}
use Rattle.gfx_base.specs.Rects.{point_at}
use Rattle.region.specs.declared.span.Span.{Span}
use Rattle.region.specs.Spans.{in_spans}
use Rattle.paint_ops.specs.Rows.{LiesInRow}
use Rattle.paint_ops.proofs.CallerLemmas.{within-parts}
use Rattle.exec_paint.specs.declared.plan.Hole.{Hole}
use Rattle.exec_paint.specs.Areas.{IsOn}
use Rattle.exec_paint.specs.Plans.{is_hidden}
use Rattle.exec_paint.proofs.CallerLemmas.{has-columns}
use Rattle.strokes.specs.Parts.{is_free}
use Rattle.strokes.proofs.InkLemmas.{has-sides}

-- a free point lies in the area's rows
pub free-low : (area : Rect) (holes : List Hole) (top u v : ℕ) → pos top ≡ area.y0 → is_free area holes (point_at (pos u) (pos v)) ≡ true → top ≤ v
free-low area holes top u v e h = let s = has-sides area (pos u) (pos v) (and_parts _ _ h).0 in omega (arith, ints, s.top)

pub free-high : (area : Rect) (holes : List Hole) (last u v : ℕ) → pos last ≡ area.y1 → is_free area holes (point_at (pos u) (pos v)) ≡ true → v < last + 1
free-high area holes last u v e h = let s = has-sides area (pos u) (pos v) (and_parts _ _ h).0 in omega (arith, ints, s.bottom)

-- the columns of a row of the area that no hole has are those of its free points
pub free-columns : (area : Rect) (holes : List Hole) (spans : List Span) (y u : ℕ) → is_within area.y0 area.y1 (pos y) ≡ true
    → ((x : ℤ) → in_spans spans x ≡ (is_within area.x0 area.x1 x && not (is_hidden holes (point_at x (pos y)))))
    → in_spans spans (pos u) ≡ is_free area holes (point_at (pos u) (pos y))
free-columns area holes spans y u row columns =
    columns (pos u) ∙ ap (λ (b : Bool). b && not (is_hidden holes (point_at (pos u) (pos y)))) (sym (has-columns area (pos u) (pos y) row))

all_spans : (width : ℕ) (spans : List Span) → ((x : ℤ) → in_spans spans x ≡ true → (pos 0 ≤ℤ x) × (x <ℤ pos width)) → AllByRecursion (LiesInRow width) spans
all_spans width [] inside = tt
all_spans width (span ∷ spans) inside = (λ x h. inside x (grind (arith, h)), all_spans width spans (λ x h. inside x (grind (arith, h))))

-- a plan's spans lie in the row
pub spans_in_row : (width height : ℕ) (area : Rect) (holes : List Hole) (spans : List Span) (y : ℕ) → IsOn width height area
    → ((x : ℤ) → in_spans spans x ≡ (is_within area.x0 area.x1 x && not (is_hidden holes (point_at x (pos y))))) → AllByRecursion (LiesInRow width) spans
spans_in_row width height area holes spans y on columns =
    all_spans width spans (λ x h.
    let within = within-parts area.x0 area.x1 x (and_parts _ _ (sym (columns x) ∙ h)).0 in
    (omega (arith, ints, on.left, within.0), omega (arith, ints, on.right, within.1)))
