-- What is left of spans where a range of columns is cut out of them. No contract of a public
-- function names it.
use Rattle.std.specs.Prelude.{ℤ, pos, ◌+ℤ◌, ◌-ℤ◌, if◌then◌else◌, int_lt, List, [], ◌∷◌, ◌++◌}
use Rattle.std.specs.Int.{int_max, int_min}
use Rattle.std.specs.List.{flat_map}
use Rattle.region.specs.declared.span.Span.{Span}

-- the span with these ends
abbrev pub span_of : ℤ → ℤ → Span
span_of x0 x1 = record { x0 = x0; x1 = x1 }

-- the part of a span that lies left of the range, if it isn't empty
abbrev pub left_of : ℤ → Span → List Span
left_of x0 span =
    if int_lt span.x0 x0 then span_of span.x0 (int_min span.x1 (x0 -ℤ pos 1)) ∷ [] else []

-- the part that lies right of it
abbrev pub right_of : ℤ → Span → List Span
right_of x1 span =
    if int_lt x1 span.x1 then span_of (int_max span.x0 (x1 +ℤ pos 1)) span.x1 ∷ [] else []

abbrev pub parts_of : ℤ → ℤ → Span → List Span
parts_of x0 x1 span = left_of x0 span ++ right_of x1 span

-- each span without the range
abbrev pub cut_spans : ℤ → ℤ → List Span → List Span
cut_spans x0 x1 spans = flat_map (parts_of x0 x1) spans
