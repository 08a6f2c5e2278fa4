-- Painting on one row: two paintings, one after the other, are one, and paintings that leave the same are one.
use Rattle.std.proofs.Common.{◌≡◌, ℕ, ◌<◌, Bool, true, false, cond, ◌&&◌, ◌==◌, nat_le, Option, Some, None, refl, sym, ap, ◌∙◌}
use Rattle.std.specs.Prelude.{is_some, unwrap_or}
use Rattle.frame.specs.Pictures.{Picture, HasShape, colour_at, changed}
use Rattle.frame.specs.Areas.{in_span}
use Rattle.frame.proofs.CallerLemmas.{equal_by_points, colour_at-changed, has_shape-changed}
use Rattle.paint_ops.specs.Rows.{row_drawn}
use Rattle.paint_ops.proofs.CallerLemmas.{colour_at-row_drawn}
use Rattle.exec_paint.specs.Rows.{row_mapped}

-- the colour of a column after a painting
abbrev pub left_by : (ℕ → Bool) → (ℕ → ℕ → ℕ) → ℕ → ℕ → ℕ
left_by here f u old = cond (here u) (f u old) old

on_row : (row test : Bool) (a old : ℕ) → cond (row && test) a old ≡ cond row (cond test a old) old
on_row true test a old = refl
on_row false test a old = refl

pub colour_at-row_mapped : (p : Picture) (y : ℕ) (here : ℕ → Bool) (f : ℕ → ℕ → ℕ) (u v : ℕ) → u < p.width → v < p.height
    → colour_at (row_mapped p y here f) u v ≡ cond (v == y) (left_by here f u (colour_at p u v)) (colour_at p u v)
colour_at-row_mapped p y here f u v u_in v_in = colour_at-changed p _ _ u v u_in v_in ∙ on_row (v == y) (here u) (f u (colour_at p u v)) (colour_at p u v)

pub has_shape-row_mapped : (p : Picture) (y : ℕ) (here : ℕ → Bool) (f : ℕ → ℕ → ℕ) → HasShape p → HasShape (row_mapped p y here f)
has_shape-row_mapped p y here f shape = has_shape-changed p _ _ shape

only_on_row : (row : Bool) (a b old : ℕ) → a ≡ b → cond row a old ≡ cond row b old
only_on_row row a b old e = rw e refl

-- paintings that leave the same colour in each column are one
pub row_mapped-same : (p : Picture) (y : ℕ) (here there : ℕ → Bool) (f g : ℕ → ℕ → ℕ) → HasShape p → ((u old : ℕ) → u < p.width → left_by here f u old ≡ left_by there g u old)
    → row_mapped p y here f ≡ row_mapped p y there g
row_mapped-same p y here there f g shape same =
    equal_by_points (row_mapped p y here f) (row_mapped p y there g) (has_shape-row_mapped p y here f shape) (has_shape-row_mapped p y there g shape) refl refl (λ u v u_in v_in.
    colour_at-row_mapped p y here f u v u_in v_in
    ∙ only_on_row (v == y) _ _ (colour_at p u v) (same u (colour_at p u v) u_in)
    ∙ sym (colour_at-row_mapped p y there g u v u_in v_in))

twice_on_row : (row : Bool) (f g : ℕ → ℕ) (old : ℕ) → cond row (g (cond row (f old) old)) (cond row (f old) old) ≡ cond row (g (f old)) old
twice_on_row true f g old = refl
twice_on_row false f g old = refl

-- two paintings, one after the other, are the one that leaves in each column what they leave
pub row_mapped-twice : (p : Picture) (y : ℕ) (here there both : ℕ → Bool) (f g h : ℕ → ℕ → ℕ) → HasShape p
    → ((u old : ℕ) → u < p.width → left_by there g u (left_by here f u old) ≡ left_by both h u old)
    → row_mapped (row_mapped p y here f) y there g ≡ row_mapped p y both h
row_mapped-twice p y here there both f g h shape same =
    let first = has_shape-row_mapped p y here f shape in
    equal_by_points (row_mapped (row_mapped p y here f) y there g) (row_mapped p y both h) (has_shape-row_mapped (row_mapped p y here f) y there g first) (has_shape-row_mapped p y both h shape) refl refl (λ u v u_in v_in.
    colour_at-row_mapped (row_mapped p y here f) y there g u v u_in v_in
    ∙ ap (λ (old : ℕ). cond (v == y) (left_by there g u old) old) (colour_at-row_mapped p y here f u v u_in v_in)
    ∙ twice_on_row (v == y) (left_by here f u) (left_by there g u) (colour_at p u v)
    ∙ only_on_row (v == y) _ _ (colour_at p u v) (same u (colour_at p u v) u_in)
    ∙ sym (colour_at-row_mapped p y both h u v u_in v_in))

kept_on_row : (row : Bool) (a old : ℕ) → a ≡ old → old ≡ cond row a old
kept_on_row true a old e = sym e
kept_on_row false a old e = refl

-- a painting that leaves each column as it was
pub row_mapped-nothing : (p : Picture) (y : ℕ) (here : ℕ → Bool) (f : ℕ → ℕ → ℕ) → HasShape p → ((u old : ℕ) → u < p.width → left_by here f u old ≡ old) → p ≡ row_mapped p y here f
row_mapped-nothing p y here f shape same =
    equal_by_points p (row_mapped p y here f) shape (has_shape-row_mapped p y here f shape) refl refl (λ u v u_in v_in.
    kept_on_row (v == y) _ (colour_at p u v) (same u (colour_at p u v) u_in) ∙ sym (colour_at-row_mapped p y here f u v u_in v_in))

-- a span of one colour
pub changed-span : (p : Picture) (y x0 x1 c : ℕ) → HasShape p → changed p (in_span y x0 x1) (λ _ _. c) ≡ row_mapped p y (λ u. nat_le x0 u && nat_le u x1) (λ u old. c)
unfolding in_span
changed-span p y x0 x1 c shape = refl

some_or : (here : Bool) (o : Option ℕ) (old : ℕ) → cond (here && is_some o) (unwrap_or o 0) old ≡ cond here (unwrap_or o old) old
some_or true None old = refl
some_or true (Some c) old = refl
some_or false o old = refl

-- a drawing that may give a column a colour
pub drawn-mapped : (p : Picture) (y : ℕ) (here : ℕ → Bool) (colour : ℕ → Option ℕ) → HasShape p → row_drawn p y here colour ≡ row_mapped p y here (λ u old. unwrap_or (colour u) old)
drawn-mapped p y here colour shape =
    equal_by_points (row_drawn p y here colour) (row_mapped p y here (λ u old. unwrap_or (colour u) old)) (has_shape-changed p _ _ shape) (has_shape-row_mapped p y here (λ u old. unwrap_or (colour u) old) shape) refl refl (λ u v u_in v_in.
    colour_at-row_drawn p y here colour u v u_in v_in
    ∙ ap (λ (c : ℕ). cond (v == y) c (colour_at p u v)) (some_or (here u) (colour u) (colour_at p u v))
    ∙ sym (colour_at-row_mapped p y here (λ u old. unwrap_or (colour u) old) u v u_in v_in))

once_more : (here : Bool) (f g : ℕ → ℕ) (old : ℕ) → cond here (g (cond here (f old) old)) (cond here (f old) old) ≡ cond here (g (f old)) old
once_more true f g old = refl
once_more false f g old = refl

-- two paintings of the same columns
pub row_mapped-after : (p : Picture) (y : ℕ) (here : ℕ → Bool) (f g h : ℕ → ℕ → ℕ) → HasShape p → ((u old : ℕ) → u < p.width → g u (f u old) ≡ h u old) → row_mapped (row_mapped p y here f) y here g ≡ row_mapped p y here h
row_mapped-after p y here f g h shape same =
    row_mapped-twice p y here here here f g h shape (λ u old u_in. once_more (here u) (f u) (g u) old ∙ ap (λ (c : ℕ). cond (here u) c old) (same u old u_in))

-- the same columns
pub row_mapped-here : (p : Picture) (y : ℕ) (here : ℕ → Bool) (f g : ℕ → ℕ → ℕ) → HasShape p → ((u old : ℕ) → u < p.width → f u old ≡ g u old) → row_mapped p y here f ≡ row_mapped p y here g
row_mapped-here p y here f g shape same = row_mapped-same p y here here f g shape (λ u old u_in. ap (λ (c : ℕ). cond (here u) c old) (same u old u_in))

-- a painting that keeps each column
no_change : (here : Bool) (a old : ℕ) → a ≡ old → cond here a old ≡ old
no_change true a old e = e
no_change false a old e = refl

pub row_mapped-kept : (p : Picture) (y : ℕ) (here : ℕ → Bool) (f : ℕ → ℕ → ℕ) → HasShape p → ((u old : ℕ) → u < p.width → f u old ≡ old) → p ≡ row_mapped p y here f
row_mapped-kept p y here f shape same = row_mapped-nothing p y here f shape (λ u old u_in. no_change (here u) (f u old) old (same u old u_in))
