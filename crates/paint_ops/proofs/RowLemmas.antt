-- Drawing on one row: two drawings, one after the other, are one, and drawings that show the same are one.
use Rattle.std.proofs.Common.{◌≡◌, ℕ, ◌<◌, Bool, true, false, cond, ◌&&◌, ◌||◌, ◌==◌, nat_le, Option, Some, None, refl, sym, ap, ◌∙◌}
use Rattle.std.specs.Prelude.{is_some, unwrap_or}
use Rattle.frame.specs.Pictures.{Picture, HasShape, colour_at, changed}
use Rattle.frame.specs.Areas.{is_at, in_span}
use Rattle.frame.proofs.CallerLemmas.{equal_by_points, colour_at-changed, has_shape-changed, changed-same}
use Rattle.paint_ops.specs.Operations.{on_points}
use Rattle.paint_ops.specs.Rows.{row_drawn}

-- the colour of a point after a drawing that may give it one
abbrev pub shown : Bool → Option ℕ → ℕ → ℕ
shown here colour old = cond (here && is_some colour) (unwrap_or colour 0) old

on_row : (row test : Bool) (a old : ℕ) → cond (row && test) a old ≡ cond row (cond test a old) old
on_row true test a old = refl
on_row false test a old = refl

pub colour_at-row_drawn : (p : Picture) (y : ℕ) (here : ℕ → Bool) (colour : ℕ → Option ℕ) (u v : ℕ) → u < p.width → v < p.height
    → colour_at (row_drawn p y here colour) u v ≡ cond (v == y) (shown (here u) (colour u) (colour_at p u v)) (colour_at p u v)
colour_at-row_drawn p y here colour u v u_in v_in =
    colour_at-changed p _ _ u v u_in v_in ∙ on_row (v == y) (here u && is_some (colour u)) (unwrap_or (colour u) 0) (colour_at p u v)

pub has_shape-row_drawn : (p : Picture) (y : ℕ) (here : ℕ → Bool) (colour : ℕ → Option ℕ) → HasShape p → HasShape (row_drawn p y here colour)
has_shape-row_drawn p y here colour shape = has_shape-changed p _ _ shape

only_on_row : (row : Bool) (a b old : ℕ) → a ≡ b → cond row a old ≡ cond row b old
only_on_row row a b old e = rw e refl

-- drawings that show the same in each column are one
pub row_drawn-same : (p : Picture) (y : ℕ) (here there : ℕ → Bool) (colour other : ℕ → Option ℕ) → HasShape p
    → ((u old : ℕ) → u < p.width → shown (here u) (colour u) old ≡ shown (there u) (other u) old)
    → row_drawn p y here colour ≡ row_drawn p y there other
row_drawn-same p y here there colour other shape same =
    equal_by_points (row_drawn p y here colour) (row_drawn p y there other) (has_shape-row_drawn p y here colour shape) (has_shape-row_drawn p y there other shape) refl refl (λ u v u_in v_in.
    colour_at-row_drawn p y here colour u v u_in v_in
    ∙ only_on_row (v == y) _ _ (colour_at p u v) (same u (colour_at p u v) u_in)
    ∙ sym (colour_at-row_drawn p y there other u v u_in v_in))

twice_on_row : (row : Bool) (f g : ℕ → ℕ) (old : ℕ) → cond row (g (cond row (f old) old)) (cond row (f old) old) ≡ cond row (g (f old)) old
twice_on_row true f g old = refl
twice_on_row false f g old = refl

-- two drawings, one after the other, are the one that shows in each column what they show
pub row_drawn-twice : (p : Picture) (y : ℕ) (here there both : ℕ → Bool) (colour other all : ℕ → Option ℕ) → HasShape p
    → ((u old : ℕ) → u < p.width → shown (there u) (other u) (shown (here u) (colour u) old) ≡ shown (both u) (all u) old)
    → row_drawn (row_drawn p y here colour) y there other ≡ row_drawn p y both all
row_drawn-twice p y here there both colour other all shape same =
    let first = has_shape-row_drawn p y here colour shape in
    equal_by_points (row_drawn (row_drawn p y here colour) y there other) (row_drawn p y both all) (has_shape-row_drawn (row_drawn p y here colour) y there other first) (has_shape-row_drawn p y both all shape) refl refl (λ u v u_in v_in.
    colour_at-row_drawn (row_drawn p y here colour) y there other u v u_in v_in
    ∙ ap (λ (old : ℕ). cond (v == y) (shown (there u) (other u) old) old) (colour_at-row_drawn p y here colour u v u_in v_in)
    ∙ twice_on_row (v == y) (shown (here u) (colour u)) (shown (there u) (other u)) (colour_at p u v)
    ∙ only_on_row (v == y) _ _ (colour_at p u v) (same u (colour_at p u v) u_in)
    ∙ sym (colour_at-row_drawn p y both all u v u_in v_in))

unchanged_on_row : (row : Bool) (a old : ℕ) → a ≡ old → cond row a old ≡ old
unchanged_on_row true a old e = e
unchanged_on_row false a old e = refl

-- a drawing that shows nothing
pub row_drawn-nothing : (p : Picture) (y : ℕ) (here : ℕ → Bool) (colour : ℕ → Option ℕ) → HasShape p
    → ((u old : ℕ) → u < p.width → shown (here u) (colour u) old ≡ old)
    → row_drawn p y here colour ≡ p
row_drawn-nothing p y here colour shape same =
    equal_by_points (row_drawn p y here colour) p (has_shape-row_drawn p y here colour shape) shape refl refl (λ u v u_in v_in.
    colour_at-row_drawn p y here colour u v u_in v_in ∙ unchanged_on_row (v == y) _ _ (same u (colour_at p u v) u_in))

-- ---- what frames draw

and-true : (a : Bool) → (a && true) ≡ a
and-true true = refl
and-true false = refl

and-turn : (a b : Bool) → (a && b) ≡ (b && (a && true))
and-turn true true = refl
and-turn true false = refl
and-turn false true = refl
and-turn false false = refl

and-last : (a b : Bool) → (a && b) ≡ (a && (b && true))
and-last a b = rw (and-true b) refl

-- one point
pub changed-is_at : (p : Picture) (x y c : ℕ) → HasShape p → changed p (is_at x y) (λ _ _. c) ≡ row_drawn p y (λ u. u == x) (λ _. Some c)
unfolding is_at
changed-is_at p x y c shape = changed-same p _ _ _ _ shape (λ u v _ _. and-turn (u == x) (v == y)) (λ u v _ _ _. refl)

-- a span
pub changed-in_span : (p : Picture) (y x0 x1 c : ℕ) → HasShape p → changed p (in_span y x0 x1) (λ _ _. c) ≡ row_drawn p y (λ u. nat_le x0 u && nat_le u x1) (λ _. Some c)
unfolding in_span
changed-in_span p y x0 x1 c shape = changed-same p _ _ _ _ shape (λ u v _ _. and-last (v == y) (nat_le x0 u && nat_le u x1)) (λ u v _ _ _. refl)

-- ---- what points show

-- what is shown depends on the columns that are drawn alone
pub shown_there : (here : Bool) (a b : Option ℕ) (old : ℕ) → (here ≡ true → a ≡ b) → shown here a old ≡ shown here b old
shown_there true a b old same = rw (same refl) refl
shown_there false a b old same = refl

pub shown-none : (here : Bool) (old : ℕ) → shown here None old ≡ old
shown-none true old = refl
shown-none false old = refl

-- the columns of two tests, drawn one after the other
pub both_shown : (here f g k : Bool) (c old : ℕ) → (here ≡ true → (g || f) ≡ k) → shown here (on_points g c) (shown here (on_points f c) old) ≡ shown here (on_points k c) old
both_shown false f g k c old same = refl
both_shown true true true k c old same = rw (← same refl) refl
both_shown true true false k c old same = rw (← same refl) refl
both_shown true false true k c old same = rw (← same refl) refl
both_shown true false false k c old same = rw (← same refl) refl

-- the same colours, drawn in some columns and then in others
pub shown_again : (here there both : Bool) (c : Option ℕ) (old : ℕ) → both ≡ (here || there) → shown there c (shown here c old) ≡ shown both c old
shown_again true true both (Some c) old e = rw e refl
shown_again true false both (Some c) old e = rw e refl
shown_again false true both (Some c) old e = rw e refl
shown_again false false both (Some c) old e = rw e refl
shown_again here there both None old e = shown-none there _ ∙ shown-none here old ∙ sym (shown-none both old)

pub row_drawn-more : (p : Picture) (y : ℕ) (here there both : ℕ → Bool) (colour : ℕ → Option ℕ) → HasShape p → ((u : ℕ) → u < p.width → both u ≡ (here u || there u))
    → row_drawn (row_drawn p y here colour) y there colour ≡ row_drawn p y both colour
row_drawn-more p y here there both colour shape same = row_drawn-twice p y here there both colour colour colour shape (λ u old u_in. shown_again (here u) (there u) (both u) (colour u) old (same u u_in))

-- a part of some columns, drawn in one colour
pub shown_part : (part here test : Bool) (c old : ℕ) → part ≡ (here && test) → shown part (Some c) old ≡ shown here (on_points test c) old
shown_part part true true c old e = rw e refl
shown_part part true false c old e = rw e refl
shown_part part false test c old e = rw e refl

-- a part of some columns, where the others have no colour
pub shown_rest : (part here : Bool) (c : Option ℕ) (old : ℕ) → (part ≡ true → here ≡ true) → (here ≡ true → part ≡ false → c ≡ None) → shown part c old ≡ shown here c old
shown_rest true here c old f g = rw (f refl) refl
shown_rest false true c old f g = rw (g refl refl) refl
shown_rest false false c old f g = refl
