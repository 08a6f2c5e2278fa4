-- The rectangles of a picture: each point lies in just one, and has its colour.
use Rattle.std.proofs.Common.{◌≡◌, ℕ, zero, suc, ◌+◌, ◌-◌, ◌<◌, ◌≤◌, Bool, true, ◌⊎◌, ◌&&◌, ◌||◌, ◌==◌, List, [], ◌∷◌, get_or, drop, refl, sym, ap, subst, ◌∙◌, inl, inr, arith}
use Rattle.std.specs.Prelude.{not}
use Rattle.std.specs.List.{prefix_len, filter, flat_map, range_with_len}
use Rattle.std.proofs.lemmas.Bool.{cases_Bool, cases_eq, and_parts, and_from, leb-true, ltb-true, le-leb, lt-ltb, eqb-true, cond-true, cond-false}
use Rattle.std.proofs.lemmas.Bool.Decides.{nat_tests}
use Rattle.std.proofs.lemmas.List.{append-nil}
use Rattle.std.proofs.lemmas.List.Elements.{filter-append}
use Rattle.frame.specs.Pictures.{Picture, HasShape, row_at, rows_of, colour_at}
use Rattle.svg.specs.declared.shapes.Rectangle.{Rectangle}
use Rattle.svg.specs.Rectangles.{begins, run_width, is_same_run, is_top, height_at, rectangle_at, rectangles_at, rectangles_of_row, rectangles, has}
use Rattle.svg.proofs.RunLaws.{AreAlike, begins_at, reach, reach-within, in_reach, one_run, some_run}
use Rattle.svg.proofs.ColumnLemmas.{length-row, rows_of-count, rows_of-at, row_at-point, same_run, rows_alike}

-- ---- lists of which one part has what a test names

none_named : {A : Type 0} (test : A → Bool) (f : ℕ → List A) (from n : ℕ) → ((i : ℕ) → from ≤ i → i < from + n → filter test (f i) ≡ []) → filter test (flat_map f (range_with_len from n)) ≡ []
none_named test f from zero none = refl
none_named test f from (suc n) none =
    filter-append test (f from) (flat_map f (range_with_len (from + 1) n))
    ∙ rw (none from (omega arith) (omega arith)) (none_named test f (from + 1) n (λ i above below. none i (omega arith) (omega arith)))

one_named : {A : Type 0} (test : A → Bool) (f : ℕ → List A) (from n at : ℕ) (only : List A) → from ≤ at → at < from + n → filter test (f at) ≡ only → ((i : ℕ) → from ≤ i → i < from + n → (i ≡ at → ⊥) → filter test (f i) ≡ [])
    → filter test (flat_map f (range_with_len from n)) ≡ only
one_named test f from zero at only above below one none = absurd (omega arith)
one_named test f from (suc n) at only above below one none =
    filter-append test (f from) (flat_map f (range_with_len (from + 1) n))
    ∙ elim (cases_eq from at) [
      | inl here ↦
          let first : filter test (f from) ≡ only = ap (λ (i : ℕ). filter test (f i)) here ∙ one in
          let rest : filter test (flat_map f (range_with_len (from + 1) n)) ≡ [] = none_named test f (from + 1) n (λ i more less. none i (omega arith) (omega arith) (λ same. absurd (omega arith))) in
          rw (first, rest) (append-nil only)
      | inr later ↦
          let first : filter test (f from) ≡ [] = none from (omega arith) (omega arith) later in
          rw first (one_named test f (from + 1) n at only (omega arith) (omega arith) one (λ i more less other. none i (omega arith) (omega arith) other))
    ]

-- ---- rows

numbers_alike : AreAlike (λ a b. a == b)
numbers_alike = record { itself = λ a. grind (arith, nat_tests); back = λ a b same. grind (arith, nat_tests); on = λ a b c same more. grind (arith, nat_tests) }

-- how many points from x on have one colour
abbrev run_reach : List ℕ → ℕ → ℕ
run_reach row x = reach (λ a b. a == b) 0 row x

width_at : (row : List ℕ) (x : ℕ) → begins row x ≡ true → run_width row x ≡ run_reach row x
width_at row x begin = cond-true (begins row x) (run_reach row x) 0 begin

begins_by_width : (row : List ℕ) (x : ℕ) → 0 < run_width row x → begins row x ≡ true
begins_by_width row x some =
    elim (cases_Bool (begins row x)) [
      | inl begin ↦ begin
      | inr other ↦ let none = cond-false (begins row x) (run_reach row x) 0 other in absurd (omega arith)
    ]

-- ---- columns

-- how many rows from y on have what row y has at x
abbrev column_reach : Picture → ℕ → ℕ → ℕ
column_reach p x y = reach (is_same_run x) [] (rows_of p) y

height-reach : (p : Picture) (x y : ℕ) → y < p.height → height_at p x y ≡ column_reach p x y
height-reach p x y inside = ap (λ (row : List ℕ). prefix_len (λ other. is_same_run x other row) (drop y (rows_of p))) (sym (rows_of-at p y inside))

top-begins : (p : Picture) (x y : ℕ) → y < p.height → is_top p x y ≡ begins_at (is_same_run x) [] (rows_of p) y
top-begins p x y inside =
    ap (λ (row : List ℕ). y == 0 || not (is_same_run x row (row_at p y))) (sym (rows_of-at p (y - 1) (omega arith)))
    ∙ ap (λ (row : List ℕ). y == 0 || not (is_same_run x (get_or (rows_of p) (y - 1) []) row)) (sym (rows_of-at p y inside))

-- the rows within a rectangle have its run
same_within : (p : Picture) (x y z : ℕ) → y ≤ z → z < p.height → z < y + height_at p x y → is_same_run x (row_at p z) (row_at p y) ≡ true
same_within p x y z above inside below =
    let high = height-reach p x y (omega arith) in
    subst (λ (row : List ℕ). is_same_run x (row_at p z) row ≡ true) (rows_of-at p y (omega arith))
    (subst (λ (row : List ℕ). is_same_run x row (get_or (rows_of p) y []) ≡ true) (rows_of-at p z inside) (in_reach (is_same_run x) [] (rows_of p) y z above (omega arith)))

-- ---- rectangles

-- a rectangle's upper left point
record IsCorner (p : Picture) (x y : ℕ) : Type 0 where
  pub in_width : x < p.width
  pub in_height : y < p.height
  pub begin : begins (row_at p y) x ≡ true
  pub top : is_top p x y ≡ true

-- it has the point
record Covers (p : Picture) (a b x y : ℕ) : Type 0 where
  pub left : a ≤ x
  pub right : x < a + run_width (row_at p b) a
  pub above : b ≤ y
  pub below : y < b + height_at p a b

covers-has : (p : Picture) (a b x y : ℕ) → Covers p a b x y → has x y (rectangle_at p a b) ≡ true
covers-has p a b x y is = and_from _ _ (and_from _ _ (le-leb _ _ is.left) (lt-ltb _ _ is.right)) (and_from _ _ (le-leb _ _ is.above) (lt-ltb _ _ is.below))

has-covers : (p : Picture) (a b x y : ℕ) → has x y (rectangle_at p a b) ≡ true → Covers p a b x y
has-covers p a b x y is =
    let parts = and_parts _ _ is in
    let across = and_parts _ _ parts.0 in
    let down = and_parts _ _ parts.1 in
    record { left = leb-true _ _ across.0; right = ltb-true _ _ across.1; above = leb-true _ _ down.0; below = ltb-true _ _ down.1 }

-- the run of a rectangle is one of the row in which a point of it lies
record InRow (p : Picture) (a b x y : ℕ) : Type 0 where
  pub begin : begins (row_at p y) a ≡ true
  pub right : x < a + run_reach (row_at p y) a
  pub colour : get_or (row_at p b) a 0 ≡ get_or (row_at p y) x 0

in_row : (p : Picture) (a b x y : ℕ) → y < p.height → Covers p a b x y → InRow p a b x y
in_row p a b x y inside is =
    let left : a ≤ x = is.left in
    let right : x < a + run_width (row_at p b) a = is.right in
    let same = same_run a (row_at p y) (row_at p b) (same_within p a b y is.above inside is.below) in
    let wide : run_width (row_at p y) a ≡ run_width (row_at p b) a = same.1 in
    let begin = begins_by_width (row_at p y) a (omega arith) in
    let reaches = width_at (row_at p y) a begin in
    let within : x < a + run_reach (row_at p y) a = omega arith in
    record {
      begin = begin;
      right = within;
      colour = sym same.0 ∙ sym (eqb-true _ _ (in_reach (λ a b. a == b) 0 (row_at p y) a x left within));
    }

-- two rectangles that have one point are one
one_corner : (p : Picture) (a b u v x y : ℕ) → y < p.height → IsCorner p a b → IsCorner p u v → Covers p a b x y → Covers p u v x y → (a ≡ u) × (b ≡ v)
one_corner p a b u v x y inside at_a at_u has_a has_u =
    let first = in_row p a b x y inside has_a in
    let second = in_row p u v x y inside has_u in
    let same_column : a ≡ u = one_run (λ a b. a == b) 0 (row_at p y) a u x numbers_alike first.begin second.begin has_a.left first.right has_u.left second.right in
    let low = height-reach p a b at_a.in_height in
    let high = height-reach p u v at_u.in_height in
    let below : y < b + height_at p a b = has_a.below in
    let under : y < v + height_at p u v = has_u.below in
    let top_u : begins_at (is_same_run a) [] (rows_of p) v ≡ true = subst (λ (x : ℕ). begins_at (is_same_run x) [] (rows_of p) v ≡ true) (sym same_column) (sym (top-begins p u v at_u.in_height) ∙ at_u.top) in
    let under_a : y < v + column_reach p a v = subst (λ (x : ℕ). y < v + column_reach p x v) (sym same_column) (omega arith) in
    let same_row : b ≡ v = one_run (is_same_run a) [] (rows_of p) b v y (rows_alike a) (sym (top-begins p a b at_a.in_height) ∙ at_a.top) top_u has_a.above (omega arith) has_u.above under_a in
    (same_column, same_row)

-- the rectangle that has a point
record HasPoint (p : Picture) (x y : ℕ) : Type 0 where
  pub left : ℕ
  pub upper : ℕ
  pub corner : IsCorner p left upper
  pub covers : Covers p left upper x y

some_corner : (p : Picture) (x y : ℕ) → HasShape p → x < p.width → y < p.height → HasPoint p x y
some_corner p x y shape in_width in_height =
    let wide = length-row p y shape in_height in
    let high = rows_of-count p in
    let run = some_run (λ a b. a == b) 0 (row_at p y) x numbers_alike (omega arith) in
    let u : ℕ = run.start in
    let from_u : u ≤ x = run.from in
    let below_u : x < u + run_reach (row_at p y) u = run.below in
    let column = some_run (is_same_run u) [] (rows_of p) y (rows_alike u) (omega arith) in
    let v : ℕ = column.start in
    let from_v : v ≤ y = column.from in
    let v_inside : v < p.height = omega arith in
    let down = height-reach p u v v_inside in
    let below_v : y < v + column_reach p u v = column.below in
    let across = width_at (row_at p y) u run.begins in
    let same = same_run u (row_at p y) (row_at p v) (same_within p u v y from_v in_height (omega arith)) in
    let width : run_width (row_at p y) u ≡ run_width (row_at p v) u = same.1 in
    record {
      left = u;
      upper = v;
      corner = record { in_width = omega arith; in_height = v_inside; begin = begins_by_width (row_at p v) u (omega arith); top = top-begins p u v v_inside ∙ column.begins };
      covers = record { left = from_u; right = omega arith; above = from_v; below = omega arith };
    }

-- ---- the rectangles at a point

at_corner : (p : Picture) (a b x y : ℕ) → IsCorner p a b → Covers p a b x y → filter (has x y) (rectangles_at p b a) ≡ rectangle_at p a b ∷ []
at_corner p a b x y is covers =
    rw (cond-true (begins (row_at p b) a && is_top p a b) (rectangle_at p a b ∷ []) [] (and_from _ _ is.begin is.top))
    (cond-true (has x y (rectangle_at p a b)) (rectangle_at p a b ∷ []) [] (covers-has p a b x y covers))

elsewhere : (p : Picture) (a b x y : ℕ) → a < p.width → b < p.height → (IsCorner p a b → Covers p a b x y → ⊥) → filter (has x y) (rectangles_at p b a) ≡ []
elsewhere p a b x y in_width in_height not_here =
    elim (cases_Bool (begins (row_at p b) a && is_top p a b)) [
      | inr none ↦ rw (cond-false (begins (row_at p b) a && is_top p a b) (rectangle_at p a b ∷ []) [] none) refl
      | inl corner ↦
          let parts = and_parts _ _ corner in
          rw (cond-true (begins (row_at p b) a && is_top p a b) (rectangle_at p a b ∷ []) [] corner)
          (elim (cases_Bool (has x y (rectangle_at p a b))) [
            | inl covers ↦ absurd (not_here (record { in_width = in_width; in_height = in_height; begin = parts.0; top = parts.1 }) (has-covers p a b x y covers))
            | inr other ↦ cond-false (has x y (rectangle_at p a b)) (rectangle_at p a b ∷ []) [] other
          ])
    ]

pub one_rectangle : (p : Picture) (x y : ℕ) → HasShape p → x < p.width → y < p.height → (r : Rectangle) × (filter (has x y) (rectangles p) ≡ r ∷ []) × (r.colour ≡ colour_at p x y)
one_rectangle p x y shape in_width in_height =
    let point = some_corner p x y shape in_width in_height in
    let u : ℕ = point.left in
    let v : ℕ = point.upper in
    let only : List Rectangle = rectangle_at p u v ∷ [] in
    let corner = point.corner in
    let u_inside : u < p.width = corner.in_width in
    let v_inside : v < p.height = corner.in_height in
    let here = in_row p u v x y in_height point.covers in
    let row : filter (has x y) (rectangles_of_row p v) ≡ only = one_named (has x y) (rectangles_at p v) 0 p.width u only (omega arith) (omega arith) (at_corner p u v x y corner point.covers)
    (λ a above below other. elsewhere p a v x y (omega arith) v_inside (λ at_a covers. other (one_corner p a v u v x y in_height at_a corner covers point.covers).0)) in
    let all : filter (has x y) (rectangles p) ≡ only = one_named (has x y) (rectangles_of_row p) 0 p.height v only (omega arith) (omega arith) row
    (λ b above below other. none_named (has x y) (rectangles_at p b) 0 p.width (λ a more less. elsewhere p a b x y (omega arith) (omega arith) (λ at_a covers. other (one_corner p a b u v x y in_height at_a corner covers point.covers).1))) in
    (rectangle_at p u v, all, here.colour ∙ row_at-point p x y in_width)

-- ---- no rectangle has a point outside

outside_none : (p : Picture) (a b x y : ℕ) → HasShape p → (p.width ≤ x) ⊎ (p.height ≤ y) → IsCorner p a b → Covers p a b x y → ⊥
outside_none p a b x y shape out is covers =
    let in_width : a < p.width = is.in_width in
    let in_height : b < p.height = is.in_height in
    let wide = length-row p b shape in_height in
    let high = rows_of-count p in
    let across = width_at (row_at p b) a is.begin in
    let down = height-reach p a b in_height in
    let right : x < a + run_width (row_at p b) a = covers.right in
    let below : y < b + height_at p a b = covers.below in
    let width_fits = reach-within (λ c d. c == d) 0 (row_at p b) a (omega arith) in
    let height_fits = reach-within (is_same_run a) [] (rows_of p) b (omega arith) in
    elim out [ inl beside ↦ omega arith | inr under ↦ omega arith ]

pub none_outside : (p : Picture) (x y : ℕ) → HasShape p → (p.width ≤ x) ⊎ (p.height ≤ y) → filter (has x y) (rectangles p) ≡ []
none_outside p x y shape out =
    none_named (has x y) (rectangles_of_row p) 0 p.height (λ b above below. none_named (has x y) (rectangles_at p b) 0 p.width (λ a more less. elsewhere p a b x y (omega arith) (omega arith) (outside_none p a b x y shape out)))
