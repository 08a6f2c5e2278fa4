-- Subrectangles of a tile, and what they paint.
use Rattle.std.specs.Prelude.{ℕ, ◌+◌, ◌/◌, ◌%◌, Bool, ◌&&◌, nat_le, nat_lt, if◌then◌else◌, List, [], ◌∷◌, map}
use Rattle.std.specs.List.{range_with_len}
use Rattle.hextile.specs.declared.sub.Sub.{Sub}

-- whether the subrectangle has the point in this column and row
abbrev pub sub_has : Sub → ℕ → ℕ → Bool
sub_has s u v =
    (nat_le s.x u && nat_lt u (s.x + s.width)) && (nat_le s.y v && nat_lt v (s.y + s.height))

-- a point's value after subrectangles are painted over it, one after the other
abbrev pub value_over : ℕ → ℕ → List Sub → ℕ → ℕ
value_over u v [] before = before
value_over u v (s ∷ ss) before = value_over u v ss (if sub_has s u v then s.value else before)

-- the values of so many points in rows of a width, painted on a background
abbrev pub with_subs : ℕ → ℕ → ℕ → List Sub → List ℕ
with_subs width count background subs =
    map (λ i. value_over (i % width) (i / width) subs background) (range_with_len 0 count)
