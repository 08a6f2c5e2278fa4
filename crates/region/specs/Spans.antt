-- Spans of a row, as sets of columns.
use Rattle.std.specs.Prelude.{ℤ, ◌≤ℤ◌, ◌<ℤ◌, Bool, List, [], ◌∷◌}
use Rattle.std.specs.List.{list_any, AllByRecursion}
use Rattle.gfx_base.specs.Range.{is_within}
use Rattle.region.specs.declared.span.Span.{Span}

-- whether the column lies in the span
abbrev pub in_span : Span → ℤ → Bool
in_span span x = is_within span.x0 span.x1 x

-- whether it lies in one of the spans
abbrev pub in_spans : List Span → ℤ → Bool
in_spans spans x = list_any (λ span. in_span span x) spans

-- no span is empty, and each ends left of where all later ones begin
abbrev pub AreRising : List Span → Type 0
AreRising [] = Unit {0}
AreRising (span ∷ spans) =
    (span.x0 ≤ℤ span.x1) × AllByRecursion (λ (next : Span). span.x1 <ℤ next.x0) spans
    × AreRising spans
