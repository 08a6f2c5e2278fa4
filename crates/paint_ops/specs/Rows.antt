-- Drawing on one row of a picture.
use Rattle.std.specs.Prelude.{ℕ, ◌+◌, ◌%◌, ◌^◌, ℤ, pos, neg_ℤ, ◌≤ℤ◌, ◌<ℤ◌, Bool, ◌&&◌, ◌==◌, List, Option, is_some, unwrap_or, IsTrue}
use Rattle.std.specs.List.{sum_by, count_by, range_with_len}
use Rattle.gfx_base.specs.declared.point.Point.{Point}
use Rattle.gfx_base.specs.Rects.{point_at}
use Rattle.frame.specs.Pictures.{Picture, changed}
use Rattle.frame.specs.Canvases.{Canvas}
use Rattle.region.specs.declared.span.Span.{Span}
use Rattle.region.specs.Spans.{in_span, in_spans}
use Rattle.paint_ops.specs.declared.op.Op.{Op}
use Rattle.paint_ops.specs.Kinds.{Assets}
use Rattle.paint_ops.specs.Operations.{Inputs, seen_from, colour_of_operation}

-- whether a test names the column and a function gives it a colour
abbrev pub is_inked : (ℕ → Bool) → (ℕ → Option ℕ) → ℕ → Bool
is_inked here colour u = here u && is_some (colour u)

-- how many such columns a row of some width has
abbrev pub ink_count : ℕ → (ℕ → Bool) → (ℕ → Option ℕ) → ℕ
ink_count width here colour = count_by (is_inked here colour) (range_with_len 0 width)

-- the picture with the colours of such columns on the row at y
abbrev pub row_drawn : Picture → ℕ → (ℕ → Bool) → (ℕ → Option ℕ) → Picture
row_drawn p y here colour =
    changed p (λ u v. v == y && is_inked here colour u) (λ u v. unwrap_or (colour u) 0)

-- the canvas with that picture, where each such point was written once
abbrev pub row_written : Canvas → ℕ → (ℕ → Bool) → (ℕ → Option ℕ) → Canvas
row_written f y here colour =
    record {
      picture = row_drawn f.picture y here colour;
      writes = (f.writes + ink_count f.picture.width here colour) % 2 ^ 64;
    }

-- the colour that an operation of a window puts on a point of the screen, where the window's upper
-- left corner lies at origin
abbrev pub colour_on_screen : Assets → Inputs → Op → Point → ℕ → ℕ → Option ℕ
colour_on_screen assets inputs op origin u v =
    colour_of_operation assets inputs op (seen_from origin (point_at (pos u) (pos v)))

-- the picture with an operation drawn on the row at y inside the spans
abbrev pub operation_drawn : Assets → Inputs → Op → Point → ℕ → List Span → Picture → Picture
operation_drawn assets inputs op origin y spans p =
    row_drawn p y (λ u. in_spans spans (pos u)) (λ u. colour_on_screen assets inputs op origin u y)

-- how many points an operation writes on the row at y of a picture of some width: those that it
-- covers in each of the spans
abbrev pub operation_count : Assets → Inputs → Op → Point → ℕ → List Span → ℕ → ℕ
operation_count assets inputs op origin y spans width =
    sum_by
    (λ span.
    ink_count width (λ u. in_span span (pos u)) (λ u. colour_on_screen assets inputs op origin u y))
    spans

-- the number lies from −65,535 to 65,535
abbrev pub IsOrigin : ℤ → Type 0
IsOrigin z = (neg_ℤ (pos 65535) ≤ℤ z) × (z ≤ℤ pos 65535)

-- the span's points, if it has any, lie in a row of this width
abbrev pub LiesInRow : ℕ → Span → Type 0
LiesInRow width span = (x : ℤ) → IsTrue (in_span span x) → (pos 0 ≤ℤ x) × (x <ℤ pos width)
