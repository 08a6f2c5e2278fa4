-- Tiles of tests that are joined, and of points one by one.
use Rattle.std.proofs.Common.{◌≡◌, ℕ, ◌+◌, ◌/◌, ◌<◌, ◌≤◌, nat_lt, Bool, true, false, ◌&&◌, ◌||◌, ◌==◌, List, refl, sym, ap, ◌∙◌, inl, inr, arith}
use Rattle.std.specs.Ordering.{int_eq}
use Rattle.std.proofs.lemmas.Bool.{cases_Bool, and_parts, and_from, or_cases, or_left, or_right, eqb-true, eq-eqb}
use Rattle.std.proofs.lemmas.Bool.Decides.{nat_tests, Decides-int_eq}
use Rattle.std.proofs.lemmas.Int.{ints}
use Rattle.gfx_base.specs.declared.point.Point.{Point}
use Rattle.gfx_base.specs.declared.rect.Rect.{Rect}
use Rattle.gfx_base.specs.Rects.{has}
use Rattle.gfx_base.specs.TileSets.{has_tile, AreTilesOf}
use Rattle.scene.specs.Looks.{screen_with}
use Rattle.exec_paint.specs.declared.plan.Hole.{Hole}
use Rattle.exec_paint.specs.Areas.{IsOn}
use Rattle.exec_paint.proofs.CallerLemmas.{to_row}
use Rattle.paint_ops.specs.Operations.{is_on_edge}
use Rattle.paint_ops.proofs.CallerLemmas.{same_test}
use Rattle.strokes.specs.Parts.{is_free, AddsTilesOf}
use Rattle.strokes.proofs.InkLemmas.{LiesBetween, has-sides, has-between}

-- an area on a screen lies in it
pub on-inside : (width height : ℕ) (area : Rect) (p : Point) → IsOn width height area → has area p ≡ true → has (screen_with width height) p ≡ true
on-inside width height area p on h =
    let s = has-sides area p.x p.y h in
    has-between (screen_with width height) p.x p.y (omega (arith, ints, on.left, s.left)) (omega (arith, ints, on.right, s.right)) (omega (arith, ints, on.top, s.top)) (omega (arith, ints, on.bottom, s.bottom))

-- the tiles of two tests together
pub tiles-join : (width height : ℕ) (first second both : ℕ → ℕ → Bool) (old other new : List ℕ) → AreTilesOf width height first old → AreTilesOf width height second other
    → ((c r : ℕ) → has_tile new c r ≡ (has_tile old c r || has_tile other c r)) → ((x y : ℕ) → both x y ≡ (first x y || second x y)) → AreTilesOf width height both new
tiles-join width height first second both old other new a b step same = record {
  all = λ x y x_in y_in e.
      elim (or_cases (first x y) (second x y) (sym (same x y) ∙ e)) [
        | inl h ↦ step (x / 16) (y / 16) ∙ or_left _ _ (a.all x y x_in y_in h)
        | inr h ↦ step (x / 16) (y / 16) ∙ or_right _ _ (b.all x y x_in y_in h)
      ];
  only = λ c r e.
      elim (or_cases (has_tile old c r) (has_tile other c r) (sym (step c r) ∙ e)) [
        | inl h ↦ let p = a.only c r h in record { x = p.x; y = p.y; inside = p.inside; col_is = p.col_is; row_is = p.row_is; is_here = same p.x p.y ∙ or_left _ _ p.is_here }
        | inr h ↦ let p = b.only c r h in record { x = p.x; y = p.y; inside = p.inside; col_is = p.col_is; row_is = p.row_is; is_here = same p.x p.y ∙ or_right _ _ p.is_here }
      ];
}

-- ---- edges

abbrev pub top_edge : Rect → Rect
top_edge r = record { x0 = r.x0; y0 = r.y0; x1 = r.x1; y1 = r.y0 }

abbrev pub low_edge : Rect → Rect
low_edge r = record { x0 = r.x0; y0 = r.y1; x1 = r.x1; y1 = r.y1 }

abbrev pub left_edge : Rect → Rect
left_edge r = record { x0 = r.x0; y0 = r.y0; x1 = r.x0; y1 = r.y1 }

abbrev pub right_edge : Rect → Rect
right_edge r = record { x0 = r.x1; y0 = r.y0; x1 = r.x1; y1 = r.y1 }

edge_found : (r : Rect) (p : Point) → LiesBetween r p.x p.y → ((int_eq p.x r.x0 || int_eq p.x r.x1) || (int_eq p.y r.y0 || int_eq p.y r.y1)) ≡ true
    → (((has (top_edge r) p || has (low_edge r) p) || has (left_edge r) p) || has (right_edge r) p) ≡ true
edge_found r p s h =
    elim (or_cases (int_eq p.x r.x0 || int_eq p.x r.x1) (int_eq p.y r.y0 || int_eq p.y r.y1) h) [
      | inl sides ↦ elim (or_cases (int_eq p.x r.x0) (int_eq p.x r.x1) sides) [
        | inl e ↦ let at : p.x ≡ r.x0 = (Decides-int_eq p.x r.x0).0 e in or_left _ _ (or_right _ _ (has-between (left_edge r) p.x p.y (omega (arith, ints, at)) (omega (arith, ints, at)) s.top s.bottom))
        | inr e ↦ let at : p.x ≡ r.x1 = (Decides-int_eq p.x r.x1).0 e in or_right _ _ (has-between (right_edge r) p.x p.y (omega (arith, ints, at)) (omega (arith, ints, at)) s.top s.bottom)
      ]
      | inr ends ↦ elim (or_cases (int_eq p.y r.y0) (int_eq p.y r.y1) ends) [
        | inl e ↦ let at : p.y ≡ r.y0 = (Decides-int_eq p.y r.y0).0 e in or_left _ _ (or_left _ _ (or_left _ _ (has-between (top_edge r) p.x p.y s.left s.right (omega (arith, ints, at)) (omega (arith, ints, at)))))
        | inr e ↦ let at : p.y ≡ r.y1 = (Decides-int_eq p.y r.y1).0 e in or_left _ _ (or_left _ _ (or_right _ _ (has-between (low_edge r) p.x p.y s.left s.right (omega (arith, ints, at)) (omega (arith, ints, at)))))
      ]
    ]

edge_told : (r : Rect) (p : Point) → (((has (top_edge r) p || has (low_edge r) p) || has (left_edge r) p) || has (right_edge r) p) ≡ true
    → ((int_eq p.x r.x0 || int_eq p.x r.x1) || (int_eq p.y r.y0 || int_eq p.y r.y1)) ≡ true
edge_told r p h =
    elim (or_cases ((has (top_edge r) p || has (low_edge r) p) || has (left_edge r) p) (has (right_edge r) p) h) [
      | inl rest ↦ elim (or_cases (has (top_edge r) p || has (low_edge r) p) (has (left_edge r) p) rest) [
        | inl ends ↦ elim (or_cases (has (top_edge r) p) (has (low_edge r) p) ends) [
          | inl e ↦ let t : LiesBetween (top_edge r) p.x p.y = has-sides (top_edge r) p.x p.y e in or_right _ _ (or_left _ _ ((Decides-int_eq p.y r.y0).1 (omega (arith, ints, t.top, t.bottom))))
          | inr e ↦ let t : LiesBetween (low_edge r) p.x p.y = has-sides (low_edge r) p.x p.y e in or_right _ _ (or_right _ _ ((Decides-int_eq p.y r.y1).1 (omega (arith, ints, t.top, t.bottom))))
        ]
        | inr e ↦ let t : LiesBetween (left_edge r) p.x p.y = has-sides (left_edge r) p.x p.y e in or_left _ _ (or_left _ _ ((Decides-int_eq p.x r.x0).1 (omega (arith, ints, t.left, t.right))))
      ]
      | inr e ↦ let t : LiesBetween (right_edge r) p.x p.y = has-sides (right_edge r) p.x p.y e in or_left _ _ (or_right _ _ ((Decides-int_eq p.x r.x1).1 (omega (arith, ints, t.left, t.right))))
    ]

-- a point of a rectangle is on its edge where one of the four has it
edges_have : (r : Rect) (p : Point) → has r p ≡ true → is_on_edge r p ≡ (((has (top_edge r) p || has (low_edge r) p) || has (left_edge r) p) || has (right_edge r) p)
edges_have r p here = same_test _ _ (λ h. edge_found r p (has-sides r p.x p.y here) (and_parts (has r p) _ h).1) (λ h. and_from _ _ here (edge_told r p h))

and_true : (b : Bool) → (b && true) ≡ b
and_true true = refl
and_true false = refl

and_false : (b : Bool) → (b && false) ≡ false
and_false true = refl
and_false false = refl

spread : (top low left right edge free : Bool) → (free ≡ true → edge ≡ (((top || low) || left) || right)) → (edge && free) ≡ ((((top && free) || (low && free)) || (left && free)) || (right && free))
spread top low left right edge true e = rw (and_true top, and_true low, and_true left, and_true right, and_true edge) (e refl)
spread top low left right edge false e = rw (and_false top, and_false low, and_false left, and_false right, and_false edge) refl

pub edges-free : (r : Rect) (p : Point) (free : Bool) → (free ≡ true → has r p ≡ true)
    → (is_on_edge r p && free) ≡ ((((has (top_edge r) p && free) || (has (low_edge r) p && free)) || (has (left_edge r) p && free)) || (has (right_edge r) p && free))
edges-free r p free inside = spread (has (top_edge r) p) (has (low_edge r) p) (has (left_edge r) p) (has (right_edge r) p) (is_on_edge r p) free (λ h. edges_have r p (inside h))

-- ---- one point after the other

pub adds-none : (width height : ℕ) (here : ℕ → ℕ → Bool) (tiles : List ℕ) → ((x y : ℕ) → here x y ≡ false) → AddsTilesOf width height here tiles tiles
adds-none width height here tiles none = record { kept = λ c r e. e; all = λ x y x_in y_in e. absurd (cc (none x y)); only = λ c r e. inl e }

-- the tile of one point more, if it counts
pub adds-point : (width height x y : ℕ) (here there : ℕ → ℕ → Bool) (counts : Bool) (old mid new : List ℕ) → x < width → y < height → AddsTilesOf width height here old mid
    → ((c r : ℕ) → has_tile new c r ≡ (has_tile mid c r || ((c == x / 16 && r == y / 16) && counts)))
    → ((u v : ℕ) → there u v ≡ (here u v || ((u == x && v == y) && counts))) → AddsTilesOf width height there old new
adds-point width height x y here there counts old mid new x_in y_in so_far step same = record {
  kept = λ c r e. step c r ∙ or_left _ _ (so_far.kept c r e);
  all = λ u v u_in v_in e.
      elim (or_cases (here u v) ((u == x && v == y) && counts) (sym (same u v) ∙ e)) [
        | inl h ↦ step (u / 16) (v / 16) ∙ or_left _ _ (so_far.all u v u_in v_in h)
        | inr h ↦
            let both = and_parts (u == x && v == y) counts h in
            let at = and_parts (u == x) (v == y) both.0 in
            let u_is : u ≡ x = eqb-true u x at.0 in
            let v_is : v ≡ y = eqb-true v y at.1 in
            step (u / 16) (v / 16) ∙ or_right _ _ (and_from _ _ (and_from _ _ (eq-eqb (u / 16) (x / 16) (ap (λ k. k / 16) u_is)) (eq-eqb (v / 16) (y / 16) (ap (λ k. k / 16) v_is))) both.1)
      ];
  only = λ c r e.
      elim (or_cases (has_tile mid c r) ((c == x / 16 && r == y / 16) && counts) (sym (step c r) ∙ e)) [
        | inl was ↦
            elim (so_far.only c r was) [
              | inl older ↦ inl older
              | inr p ↦ inr (record { x = p.x; y = p.y; inside = p.inside; col_is = p.col_is; row_is = p.row_is; is_here = same p.x p.y ∙ or_left _ _ p.is_here })
            ]
        | inr now ↦
            let both = and_parts (c == x / 16 && r == y / 16) counts now in
            let at = and_parts (c == x / 16) (r == y / 16) both.0 in
            inr (record { x = x; y = y; inside = (x_in, y_in); col_is = sym (eqb-true c (x / 16) at.0); row_is = sym (eqb-true r (y / 16) at.1); is_here = same x y ∙ or_right _ _ (and_from _ _ (and_from _ _ (eq-eqb x x refl) (eq-eqb y y refl)) both.1) })
      ];
}

-- where two sets are added one after the other
pub adds-then : (width height : ℕ) (first second both : ℕ → ℕ → Bool) (old mid new : List ℕ) → AddsTilesOf width height first old mid → AddsTilesOf width height second mid new
    → ((x y : ℕ) → both x y ≡ (first x y || second x y)) → AddsTilesOf width height both old new
adds-then width height first second both old mid new a b same = record {
  kept = λ c r e. b.kept c r (a.kept c r e);
  all = λ x y x_in y_in e.
      elim (or_cases (first x y) (second x y) (sym (same x y) ∙ e)) [
        | inl h ↦ b.kept (x / 16) (y / 16) (a.all x y x_in y_in h)
        | inr h ↦ b.all x y x_in y_in h
      ];
  only = λ c r e.
      elim (b.only c r e) [
        | inl was ↦
            elim (a.only c r was) [
              | inl older ↦ inl older
              | inr p ↦ inr (record { x = p.x; y = p.y; inside = p.inside; col_is = p.col_is; row_is = p.row_is; is_here = same p.x p.y ∙ or_left _ _ p.is_here })
            ]
        | inr p ↦ inr (record { x = p.x; y = p.y; inside = p.inside; col_is = p.col_is; row_is = p.row_is; is_here = same p.x p.y ∙ or_right _ _ p.is_here })
      ];
}

pub adds-same : (width height : ℕ) (here there : ℕ → ℕ → Bool) (old new : List ℕ) → ((x y : ℕ) → x < width → y < height → here x y ≡ there x y) → AddsTilesOf width height here old new → AddsTilesOf width height there old new
adds-same width height here there old new same a = record {
  kept = a.kept;
  all = λ x y x_in y_in e. a.all x y x_in y_in (same x y x_in y_in ∙ e);
  only = λ c r e.
      elim (a.only c r e) [
        | inl was ↦ inl was
        | inr p ↦ inr (record { x = p.x; y = p.y; inside = p.inside; col_is = p.col_is; row_is = p.row_is; is_here = sym (same p.x p.y p.inside.0 p.inside.1) ∙ p.is_here })
      ];
}

-- tiles that are added to none
pub added-tiles : (width height : ℕ) (here : ℕ → ℕ → Bool) (empty new : List ℕ) → ((c r : ℕ) → has_tile empty c r ≡ false) → AddsTilesOf width height here empty new → AreTilesOf width height here new
added-tiles width height here empty new none a = record {
  all = a.all;
  only = λ c r e.
      elim (a.only c r e) [
        | inl was ↦ absurd (cc (none c r))
        | inr p ↦ p
      ];
}

-- ---- rows and columns of points

-- the points of a test in the row at y and the columns before x
abbrev pub to_column : (ℕ → ℕ → Bool) → ℕ → ℕ → ℕ → ℕ → Bool
to_column here y x u v = (v == y && here u v) && nat_lt u x

off : (here test : Bool) → (here ≡ true → test ≡ false) → (here && test) ≡ false
off true test h = h refl
off false test h = refl

on : (here test : Bool) → (here ≡ true → test ≡ true) → (here && test) ≡ here
on true test h = h refl
on false test h = refl

off_row : (a b : Bool) → ((a && false) && b) ≡ false
off_row true b = refl
off_row false b = refl

or_false : (b : Bool) → (b || false) ≡ b
or_false true = refl
or_false false = refl

at_column : (b : Bool) → (b && true) ≡ ((b && false) || b)
at_column true = refl
at_column false = refl

column_step : (here : ℕ → ℕ → Bool) (y x u v : ℕ) → to_column here y (x + 1) u v ≡ (to_column here y x u v || ((u == x && v == y) && here x y))
column_step here y x u v =
    elim (cases_Bool (v == y)) [
      | inr other ↦ rw other (sym (off_row (u == x) (here x y)))
      | inl row ↦
          let v_is : v ≡ y = eqb-true v y row in
          elim (cases_Bool (u == x)) [
            | inl col ↦
                let u_is : u ≡ x = eqb-true u x col in
                let now : nat_lt u (x + 1) ≡ true = grind (arith, nat_tests) in
                let before : nat_lt u x ≡ false = grind (arith, nat_tests) in
                rw (row, col, now, before, u_is, v_is) (at_column (here x y))
            | inr other ↦
                let same : nat_lt u (x + 1) ≡ nat_lt u x = grind (arith, nat_tests) in
                rw (row, other, same) (sym (or_false (here u v && nat_lt u x)))
          ]
    ]

pub column-more : (width height x y : ℕ) (here : ℕ → ℕ → Bool) (old mid new : List ℕ) → x < width → y < height → AddsTilesOf width height (to_column here y x) old mid
    → ((c r : ℕ) → has_tile new c r ≡ (has_tile mid c r || ((c == x / 16 && r == y / 16) && here x y))) → AddsTilesOf width height (to_column here y (x + 1)) old new
column-more width height x y here old mid new x_in y_in so_far step = adds-point width height x y (to_column here y x) (to_column here y (x + 1)) (here x y) old mid new x_in y_in so_far step (λ u v. column_step here y x u v)

pub column-start : (width height x y : ℕ) (here : ℕ → ℕ → Bool) (tiles : List ℕ) → ((u v : ℕ) → here u v ≡ true → x ≤ u) → AddsTilesOf width height (to_column here y x) tiles tiles
column-start width height x y here tiles from =
    adds-none width height (to_column here y x) tiles (λ u v. off ((v == y) && here u v) (nat_lt u x) (λ h. let low = from u v (and_parts (v == y) (here u v) h).1 in grind (arith, nat_tests)))

pub column-end : (width height x y : ℕ) (here : ℕ → ℕ → Bool) (old new : List ℕ) → ((u v : ℕ) → here u v ≡ true → u < x) → AddsTilesOf width height (to_column here y x) old new
    → AddsTilesOf width height (λ u v. v == y && here u v) old new
column-end width height x y here old new to so_far =
    adds-same width height (to_column here y x) (λ u v. v == y && here u v) old new (λ u v _ _. on (v == y && here u v) (nat_lt u x) (λ h. let high = to u v (and_parts (v == y) (here u v) h).1 in grind (arith, nat_tests))) so_far

-- ---- free points of an area

pub on-wide_screen : (width height : ℕ) (area : Rect) (p : Point) → IsOn width height area → width ≤ 1024 → height ≤ 768 → has area p ≡ true → has (screen_with 1024 768) p ≡ true
on-wide_screen width height area p is wide high h =
    let s = has-sides area p.x p.y h in
    has-between (screen_with 1024 768) p.x p.y (omega (arith, ints, is.left, s.left)) (omega (arith, ints, is.right, s.right, wide)) (omega (arith, ints, is.top, s.top)) (omega (arith, ints, is.bottom, s.bottom, high))

pub in-area : (area : Rect) (holes : List Hole) (p : Point) (ink : Bool) → (is_free area holes p && ink) ≡ true → LiesBetween area p.x p.y
in-area area holes p ink h = has-sides area p.x p.y (and_parts (has area p) _ (and_parts (is_free area holes p) ink h).0).0

-- ---- rows

-- tiles that are added to those of a test
are-then : (width height : ℕ) (first second both : ℕ → ℕ → Bool) (old new : List ℕ) → AreTilesOf width height first old → AddsTilesOf width height second old new → ((x y : ℕ) → both x y ≡ (first x y || second x y)) → AreTilesOf width height both new
are-then width height first second both old new a b same = record {
  all = λ x y x_in y_in e.
      elim (or_cases (first x y) (second x y) (sym (same x y) ∙ e)) [
        | inl h ↦ b.kept (x / 16) (y / 16) (a.all x y x_in y_in h)
        | inr h ↦ b.all x y x_in y_in h
      ];
  only = λ c r e.
      elim (b.only c r e) [
        | inl was ↦ let p = a.only c r was in record { x = p.x; y = p.y; inside = p.inside; col_is = p.col_is; row_is = p.row_is; is_here = same p.x p.y ∙ or_left _ _ p.is_here }
        | inr p ↦ record { x = p.x; y = p.y; inside = p.inside; col_is = p.col_is; row_is = p.row_is; is_here = same p.x p.y ∙ or_right _ _ p.is_here }
      ];
}

this_row : (b : Bool) → (b && true) ≡ ((b && false) || (true && b))
this_row true = refl
this_row false = refl

row_step : (here : ℕ → ℕ → Bool) (y u v : ℕ) → to_row here (y + 1) u v ≡ (to_row here y u v || (v == y && here u v))
row_step here y u v =
    elim (cases_Bool (v == y)) [
      | inl row ↦
          let v_is : v ≡ y = eqb-true v y row in
          let now : nat_lt v (y + 1) ≡ true = grind (arith, nat_tests) in
          let before : nat_lt v y ≡ false = grind (arith, nat_tests) in
          rw (row, now, before) (this_row (here u v))
      | inr other ↦
          let same : nat_lt v (y + 1) ≡ nat_lt v y = grind (arith, nat_tests) in
          rw (other, same) (sym (or_false (here u v && nat_lt v y)))
    ]

pub row-more : (width height y : ℕ) (here : ℕ → ℕ → Bool) (old new : List ℕ) → AreTilesOf width height (to_row here y) old → AddsTilesOf width height (λ u v. v == y && here u v) old new → AreTilesOf width height (to_row here (y + 1)) new
row-more width height y here old new so_far step = are-then width height (to_row here y) (λ u v. v == y && here u v) (to_row here (y + 1)) old new so_far step (λ u v. row_step here y u v)

-- ---- a point of a line more

-- the tile of one point more, if it counts, which lies on the picture then
pub are-point : (width height x y : ℕ) (here there : ℕ → ℕ → Bool) (counts : Bool) (old new : List ℕ) → (counts ≡ true → (x < width) × (y < height)) → AreTilesOf width height here old
    → ((c r : ℕ) → has_tile new c r ≡ (has_tile old c r || ((c == x / 16 && r == y / 16) && counts)))
    → ((u v : ℕ) → there u v ≡ (here u v || ((u == x && v == y) && counts))) → AreTilesOf width height there new
are-point width height x y here there true old new inside so_far step same =
    are-then width height here (λ u v. (u == x && v == y) && true) there old new so_far
    (adds-point width height x y (λ u v. false) (λ u v. (u == x && v == y) && true) true old old new (inside refl).0 (inside refl).1 (adds-none width height (λ u v. false) old (λ u v. refl)) step (λ u v. refl)) same
are-point width height x y here there false old new inside so_far step same =
    are-then width height here (λ u v. (u == x && v == y) && false) there old new so_far
    (record {
      kept = λ c r e. step c r ∙ or_left _ _ e;
      all = λ u v u_in v_in e. absurd (cc (sym e ∙ and_false (u == x && v == y)));
      only = λ c r e. inl (sym (or_false (has_tile old c r)) ∙ ap (λ (b : Bool). has_tile old c r || b) (sym (and_false (c == x / 16 && r == y / 16))) ∙ sym (step c r) ∙ e);
    }) same
