-- Pictures in which one point after the other is given a colour.
use Rattle.std.proofs.Common.{◌≡◌, ℕ, ◌+◌, ◌<◌, ◌≤◌, Bool, true, false, cond, ◌&&◌, ◌||◌, eqb, ltb, Option, Some, None, List, [], ◌∷◌, length, pos, refl, sym, ap, ◌∙◌, inl, inr, arith}
use Rattle.std.specs.Prelude.{is_some, unwrap_or}
use Rattle.std.proofs.lemmas.Bool.{cases_Bool}
use Rattle.std.proofs.lemmas.Bool.Decides.{nat_tests}
use Rattle.std.proofs.lemmas.Int.{ints}
use Rattle.gfx_base.specs.Range.{is_within}
use Rattle.region.specs.declared.span.Span.{Span}
use Rattle.region.specs.Spans.{in_spans}
use Rattle.frame.specs.Pictures.{Picture, HasShape, colour_at, changed, picture_of}
use Rattle.frame.specs.Areas.{is_at}
use Rattle.frame.proofs.CallerLemmas.{equal_by_points, colour_at-picture_of, has_shape-picture_of, colour_at-changed, has_shape-changed, changed-from_points, changed-same, changed-changed}
use Rattle.paint_ops.specs.Rows.{row_drawn}

-- the picture whose point at x and y has the colour that a function gives for its place and for the colour that it had
abbrev pub dotted : Picture → ℕ → ℕ → (ℕ → ℕ → ℕ → ℕ) → Picture
dotted p x y f = changed p (is_at x y) (λ u v. f u v (colour_at p u v))

pub has_shape-dotted : (p : Picture) (x y : ℕ) (f : ℕ → ℕ → ℕ → ℕ) → HasShape p → HasShape (dotted p x y f)
has_shape-dotted p x y f shape = has_shape-changed p (is_at x y) (λ u v. f u v (colour_at p u v)) shape

twice : (b : Bool) (g : ℕ → ℕ) (first old : ℕ) → cond b (g (cond b first old)) (cond b first old) ≡ cond b (g first) old
twice true g first old = refl
twice false g first old = refl

-- the same point twice
pub dotted-dotted : (p : Picture) (x y : ℕ) (f g : ℕ → ℕ → ℕ → ℕ) → HasShape p → dotted (dotted p x y f) x y g ≡ dotted p x y (λ u v old. g u v (f u v old))
dotted-dotted p x y f g shape =
    let first = has_shape-dotted p x y f shape in
    changed-from_points p (dotted (dotted p x y f) x y g) (is_at x y) (λ u v. g u v (f u v (colour_at p u v))) shape (has_shape-dotted (dotted p x y f) x y g first) refl refl (λ u v u_in v_in.
    colour_at-changed (dotted p x y f) (is_at x y) (λ a b. g a b (colour_at (dotted p x y f) a b)) u v u_in v_in
    ∙ rw (colour_at-changed p (is_at x y) (λ a b. f a b (colour_at p a b)) u v u_in v_in) (twice (is_at x y u v) (g u v) (f u v (colour_at p u v)) (colour_at p u v)))

at_point : (x y u v : ℕ) → is_at x y u v ≡ true → (u ≡ x) × (v ≡ y)
unfolding is_at
at_point x y u v e = (grind (arith, nat_tests), grind (arith, nat_tests))

-- functions that agree at the point
pub dotted-same : (p : Picture) (x y : ℕ) (f g : ℕ → ℕ → ℕ → ℕ) → HasShape p → ((old : ℕ) → f x y old ≡ g x y old) → dotted p x y f ≡ dotted p x y g
dotted-same p x y f g shape same =
    changed-same p (is_at x y) (is_at x y) (λ u v. f u v (colour_at p u v)) (λ u v. g u v (colour_at p u v)) shape (λ u v u_in v_in. refl) (λ u v u_in v_in e.
    let place = at_point x y u v e in
    ap (λ (k : ℕ). f k v (colour_at p u v)) place.0 ∙ ap (λ (k : ℕ). f x k (colour_at p u v)) place.1 ∙ same (colour_at p u v)
    ∙ sym (ap (λ (k : ℕ). g k v (colour_at p u v)) place.0 ∙ ap (λ (k : ℕ). g x k (colour_at p u v)) place.1))

old_colour : (b : Bool) (old : ℕ) → old ≡ cond b old old
old_colour true old = refl
old_colour false old = refl

-- the point keeps its colour
pub dotted-kept : (p : Picture) (x y : ℕ) → HasShape p → p ≡ dotted p x y (λ u v old. old)
dotted-kept p x y shape =
    changed-from_points p p (is_at x y) (λ u v. colour_at p u v) shape shape refl refl (λ u v u_in v_in. old_colour (is_at x y u v) (colour_at p u v))

-- ---- a row's span of one point

some_or : (o : Option ℕ) (old : ℕ) → cond (is_some o) (unwrap_or o 0) old ≡ unwrap_or o old
some_or None old = refl
some_or (Some c) old = refl

abbrev pub one_span : ℕ → List Span
one_span x = record { x0 = pos x; x1 = pos x } ∷ []

within_one : (x u : ℕ) → is_within (pos x) (pos x) (pos u) || false ≡ eqb u x
unfolding is_within
within_one x u = grind (arith, ints, nat_tests)

in_one : (x y u v : ℕ) → is_at x y u v ≡ true → (eqb v y ≡ true) × (in_spans (one_span x) (pos u) ≡ true)
unfolding is_at
in_one x y u v e = (grind (arith, nat_tests), within_one x u ∙ grind (arith, nat_tests))

off_tests : (x y u v : ℕ) (b : Bool) → eqb u x && eqb v y ≡ false → eqb v y && (eqb u x && b) ≡ false
off_tests x y u v b e = grind (arith, nat_tests)

off_one : (x y u v : ℕ) (b : Bool) → is_at x y u v ≡ false → eqb v y && (in_spans (one_span x) (pos u) && b) ≡ false
unfolding is_at
off_one x y u v b e = ap (λ (here : Bool). eqb v y && (here && b)) (within_one x u) ∙ off_tests x y u v b e

-- drawing on a row inside such a span changes the one point
pub row_drawn-one : (p : Picture) (x y : ℕ) (colour : ℕ → Option ℕ) (f : ℕ → ℕ → Option ℕ) → HasShape p → ((u : ℕ) → colour u ≡ f u y) → row_drawn p y (λ u. in_spans (one_span x) (pos u)) colour ≡ dotted p x y (λ u v old. unwrap_or (f u v) old)
row_drawn-one p x y colour f shape same =
    let here : ℕ → ℕ → Bool = λ u v. eqb v y && (in_spans (one_span x) (pos u) && is_some (colour u)) in
    changed-from_points p (row_drawn p y (λ u. in_spans (one_span x) (pos u)) colour) (is_at x y) (λ u v. unwrap_or (f u v) (colour_at p u v)) shape (has_shape-changed p here (λ u v. unwrap_or (colour u) 0) shape) refl refl (λ u v u_in v_in.
    colour_at-changed p here (λ a b. unwrap_or (colour a) 0) u v u_in v_in
    ∙ elim (cases_Bool (is_at x y u v)) [
      | inl e ↦
          let row = in_one x y u v e in
          let place = at_point x y u v e in
          rw (e, row.0, row.1) (some_or (colour u) (colour_at p u v) ∙ ap (λ (o : Option ℕ). unwrap_or o (colour_at p u v)) (same u ∙ ap (f u) (sym place.1)))
      | inr e ↦ rw (e, off_one x y u v (is_some (colour u)) e) refl
    ])

-- ---- all points, row after row

-- the points in the rows above y
abbrev pub above : ℕ → ℕ → ℕ → Bool
above y u v = ltb v y

-- and those of the row at y that lie left of x
abbrev pub before : ℕ → ℕ → ℕ → ℕ → Bool
before x y u v = ltb v y || eqb v y && ltb u x

abbrev pub rows_done : Picture → ℕ → (ℕ → ℕ → ℕ) → Picture
rows_done p y f = changed p (above y) f

abbrev pub dots_done : Picture → ℕ → ℕ → (ℕ → ℕ → ℕ) → Picture
dots_done p x y f = changed p (before x y) f

none_above : (u v : ℕ) → above 0 u v ≡ false
none_above u v = grind (arith, nat_tests)

pub dots-start : (p : Picture) (f : ℕ → ℕ → ℕ) → HasShape p → p ≡ rows_done p 0 f
dots-start p f shape = changed-from_points p p (above 0) f shape shape refl refl (λ u v u_in v_in. rw (none_above u v) refl)

row_begins : (y u v : ℕ) → above y u v ≡ before 0 y u v
row_begins y u v = grind (arith, nat_tests)

pub dots-row : (p : Picture) (y : ℕ) (f : ℕ → ℕ → ℕ) → HasShape p → rows_done p y f ≡ dots_done p 0 y f
dots-row p y f shape = changed-same p (above y) (before 0 y) f f shape (λ u v u_in v_in. row_begins y u v) (λ u v u_in v_in e. refl)

one_more : (x y u v : ℕ) → is_at x y u v || before x y u v ≡ before (x + 1) y u v
unfolding is_at
one_more x y u v = grind (arith, nat_tests)

same_choice : (b : Bool) (c : ℕ) → cond b c c ≡ c
same_choice true c = refl
same_choice false c = refl

pub dots-more : (p : Picture) (x y : ℕ) (f : ℕ → ℕ → ℕ) → HasShape p → changed (dots_done p x y f) (is_at x y) f ≡ dots_done p (x + 1) y f
dots-more p x y f shape =
    changed-changed p (before x y) (is_at x y) f f shape
    ∙ changed-same p (λ u v. is_at x y u v || before x y u v) (before (x + 1) y) (λ u v. cond (is_at x y u v) (f u v) (f u v)) f shape (λ u v u_in v_in. one_more x y u v) (λ u v u_in v_in e. same_choice (is_at x y u v) (f u v))

row_ends : (w y u v : ℕ) → u < w → before w y u v ≡ above (y + 1) u v
row_ends w y u v u_in = grind (arith, nat_tests)

pub dots-row_end : (p : Picture) (x y : ℕ) (f : ℕ → ℕ → ℕ) → HasShape p → p.width ≤ x → dots_done p x y f ≡ rows_done p (y + 1) f
dots-row_end p x y f shape le = changed-same p (before x y) (above (y + 1)) f f shape (λ u v u_in v_in. row_ends x y u v (omega arith)) (λ u v u_in v_in e. refl)

all_above : (y u v : ℕ) → v < y → above y u v ≡ true
all_above y u v lt = grind (arith, nat_tests)

pub dots-end : (p : Picture) (y : ℕ) (f : ℕ → ℕ → ℕ) → HasShape p → p.height ≤ y → rows_done p y f ≡ picture_of p.width p.height f
dots-end p y f shape le =
    equal_by_points (rows_done p y f) (picture_of p.width p.height f) (has_shape-changed p (above y) f shape) (has_shape-picture_of p.width p.height (length p.points) f shape) refl refl (λ u v u_in v_in.
    colour_at-changed p (above y) f u v u_in v_in ∙ rw (all_above y u v (omega arith)) (sym (colour_at-picture_of p.width p.height f u v u_in v_in)))
