-- A copy of a picture: which points it has, and how it is put down point by point, in runs, spans and rows.
use Rattle.std.proofs.Common.{◌≡◌, ℕ, ◌+◌, ◌<◌, ◌≤◌, Bool, true, false, cond, ◌&&◌, ◌||◌, eqb, ltb, ℤ, pos, ◌+ℤ◌, ◌-ℤ◌, ◌≤ℤ◌, ◌<ℤ◌, Option, List, length, get_or, refl, sym, ap, ◌∙◌, inl, inr, w16, w32, SFits, to_z, of_z, arith}
use Rattle.std.specs.Prelude.{is_some, unwrap_or, unsigned_abs, nat_le, nat_lt, ◌==◌}
use Rattle.std.proofs.lemmas.Bool.{cases_Bool, and_parts, false≢true}
use Rattle.std.proofs.lemmas.Bool.Decides.{nat_tests}
use Rattle.std.proofs.lemmas.Int.{ints, to_z-of_z}
use Rattle.std.proofs.lemmas.List.{take_all}
use Rattle.std.proofs.lemmas.List.Folds.{list_any_at, list_any_more}
use Rattle.gfx_base.specs.declared.point.Point.{Point}
use Rattle.gfx_base.specs.declared.rect.Rect.{Rect}
use Rattle.gfx_base.specs.Range.{is_within, IsNear}
use Rattle.gfx_base.specs.Rects.{has, point_at}
use Rattle.gfx_base.specs.TileSets.{AreTilesOf}
use Rattle.gfx_base.proofs.CallerLemmas.{same_point}
use Rattle.frame.specs.Pictures.{Picture, HasShape, colour_at, changed}
use Rattle.frame.specs.Areas.{is_at}
use Rattle.frame.proofs.CallerLemmas.{changed-same, changed-changed}
use Rattle.region.specs.declared.span.Span.{Span}
use Rattle.region.specs.Spans.{in_span, in_spans}
use Rattle.paint_ops.specs.Operations.{seen_from, on_points}
use Rattle.paint_ops.proofs.CallerLemmas.{same_test, within-parts, within-from, in_first}
use Rattle.paint_ops.specs.Rows.{IsOrigin}
use Rattle.scene.specs.Looks.{screen_with}
use Rattle.exec_paint.specs.declared.plan.Hole.{Hole}
use Rattle.exec_paint.specs.Areas.{IsOn}
use Rattle.exec_paint.proofs.CallerLemmas.{to_row, tiles-same, has-columns}
use Rattle.strokes.specs.Strokes.{colour_of_copy}
use Rattle.strokes.specs.Parts.{is_free, LiesWithin, block_of, colour_copied, IsFrom}
use Rattle.strokes.proofs.InkLemmas.{has-sides}

-- ---- the points of a copy

moved : (x z : ℤ) (count : ℕ) → is_within (pos 0) (pos count -ℤ pos 1) (z -ℤ x) ≡ is_within x ((x +ℤ pos count) -ℤ pos 1) z
moved x z count =
    same_test _ _ (λ h. let s = within-parts (pos 0) (pos count -ℤ pos 1) (z -ℤ x) h in within-from x ((x +ℤ pos count) -ℤ pos 1) z (omega (arith, ints, s.0)) (omega (arith, ints, s.1)))
    (λ h. let s = within-parts x ((x +ℤ pos count) -ℤ pos 1) z h in within-from (pos 0) (pos count -ℤ pos 1) (z -ℤ x) (omega (arith, ints, s.0)) (omega (arith, ints, s.1)))

has_moved : (x y : ℤ) (width height : ℕ) (p : Point) → has (screen_with width height) (seen_from (point_at x y) p) ≡ has (block_of x y width height) p
unfolding has
has_moved x y width height p = rw (moved x p.x width, moved y p.y height) refl

some_on : (here : Bool) (colour : ℕ) → is_some (on_points here colour) ≡ here
some_on true colour = refl
some_on false colour = refl

value_on : (here : Bool) (colour : ℕ) → here ≡ true → unwrap_or (on_points here colour) 0 ≡ colour
value_on true colour h = refl
value_on false colour h = absurd (false≢true h)

-- a copy has the points of the picture, moved
pub copy_points : (picture : Picture) (x y : ℤ) (p : Point) → is_some (colour_of_copy picture x y p) ≡ has (block_of x y picture.width picture.height) p
unfolding colour_of_copy
copy_points picture x y p = some_on (has (screen_with picture.width picture.height) (seen_from (point_at x y) p)) _ ∙ has_moved x y picture.width picture.height p

-- seen from where the picture's upper left point comes to they lie in the picture
pub seen_moved : (picture : Picture) (x y : ℤ) (own q : Point) → has (block_of x y picture.width picture.height) (seen_from own q) ≡ true → has (screen_with picture.width picture.height) (seen_from (point_at (own.x +ℤ x) (own.y +ℤ y)) q) ≡ true
seen_moved picture x y own q inside =
    ap (λ (r : Point). has (screen_with picture.width picture.height) r) (same_point (q.x -ℤ (own.x +ℤ x)) (q.y -ℤ (own.y +ℤ y)) ((q.x -ℤ own.x) -ℤ x) ((q.y -ℤ own.y) -ℤ y) (omega (arith, ints)) (omega (arith, ints)))
    ∙ has_moved x y picture.width picture.height (seen_from own q) ∙ inside

same_place : (picture : Picture) (x y u v : ℤ) → x ≡ u → y ≡ v → colour_at picture (unsigned_abs x) (unsigned_abs y) ≡ colour_at picture (unsigned_abs u) (unsigned_abs v)
same_place picture x y u v e f = rw (e, f) refl

-- and their colours
copy_colour : (picture : Picture) (x y : ℤ) (own : Point) (u v : ℕ) → has (block_of x y picture.width picture.height) (seen_from own (point_at (pos u) (pos v))) ≡ true
    → colour_copied picture (point_at (own.x +ℤ x) (own.y +ℤ y)) u v ≡ unwrap_or (colour_of_copy picture x y (seen_from own (point_at (pos u) (pos v)))) 0
unfolding colour_of_copy
copy_colour picture x y own u v inside =
    let q = seen_from (point_at x y) (seen_from own (point_at (pos u) (pos v))) in
    same_place picture (pos u -ℤ (own.x +ℤ x)) (pos v -ℤ (own.y +ℤ y)) q.x q.y (omega (arith, ints)) (omega (arith, ints))
    ∙ sym (value_on (has (screen_with picture.width picture.height) q) (colour_at picture (unsigned_abs q.x) (unsigned_abs q.y)) (has_moved x y picture.width picture.height (seen_from own (point_at (pos u) (pos v))) ∙ inside))

-- ---- one change after another

first_holds : (test : Bool) (a b : ℕ) → (test ≡ true → a ≡ b) → cond test a b ≡ b
first_holds true a b same = same refl
first_holds false a b same = refl

-- a change that goes on with the same colours
pub changed-more : (p q now : Picture) (before here after : ℕ → ℕ → Bool) (given colours : ℕ → ℕ → ℕ) → HasShape p → ((u v : ℕ) → u < p.width → v < p.height → (here u v || before u v) ≡ after u v)
    → ((u v : ℕ) → u < p.width → v < p.height → here u v ≡ true → given u v ≡ colours u v) → q ≡ changed p before colours → now ≡ changed q here given → now ≡ changed p after colours
changed-more p q now before here after given colours shaped both same so_far step =
    step ∙ ap (λ (r : Picture). changed r here given) so_far ∙ changed-changed p before here colours given shaped
    ∙ changed-same p (λ u v. here u v || before u v) after (λ u v. cond (here u v) (given u v) (colours u v)) colours shaped both (λ u v u_in v_in h. first_holds (here u v) (given u v) (colours u v) (same u v u_in v_in))

-- a change that comes to its end
pub changed-whole : (p now : Picture) (before after : ℕ → ℕ → Bool) (colours : ℕ → ℕ → ℕ) → HasShape p → ((u v : ℕ) → u < p.width → v < p.height → before u v ≡ after u v) → now ≡ changed p before colours → now ≡ changed p after colours
changed-whole p now before after colours shaped same e = e ∙ changed-same p before after colours colours shaped same (λ u v u_in v_in h. refl)

-- ---- runs

-- the columns of a run that lie left of x
abbrev pub run_before : ℕ → ℕ → ℕ → ℕ → ℕ → Bool
run_before y left x u v = v == y && (nat_le left u && nat_lt u x)

pub run-start : (y left u v : ℕ) → run_before y left left u v ≡ false
run-start y left u v = grind (arith, nat_tests)

pub run-more : (y left x u v : ℕ) → left ≤ x → (is_at x y u v || run_before y left x u v) ≡ run_before y left (x + 1) u v
unfolding is_at
run-more y left x u v order = grind (arith, nat_tests)

pub run-end : (y left right x u v : ℕ) → x ≡ right + 1 → run_before y left x u v ≡ (v == y && (nat_le left u && nat_le u right))
run-end y left right x u v end = rw end (grind (arith, nat_tests))

pub at-point : (x y u v : ℕ) → is_at x y u v ≡ true → (u ≡ x) × (v ≡ y)
unfolding is_at
at-point x y u v h = (grind (arith, nat_tests), grind (arith, nat_tests))

columns_within : (left right u : ℕ) (x0 x1 : ℤ) → pos left ≡ x0 → pos right ≡ x1 → (nat_le left u && nat_le u right) ≡ is_within x0 x1 (pos u)
unfolding is_within
columns_within left right u x0 x1 e f = grind (arith, ints, nat_tests)

-- the code's column of a point, counted from x
pub column_is : (from x : ℤ) (u : ℕ) → from ≡ pos u → IsNear x → u < 65536 → to_z w32 (of_z w32 (to_z w32 (of_z w32 from) -ℤ to_z w32 (of_z w32 x))) ≡ pos u -ℤ x
column_is from x u e near small =
    let f : SFits w32 from = omega (arith, ints) in
    let g : SFits w32 x = omega (arith, ints) in
    let s : SFits w32 (from -ℤ x) = omega (arith, ints) in
    rw (to_z-of_z w32 from f, to_z-of_z w32 x g, to_z-of_z w32 (from -ℤ x) s, e) refl

-- as a natural number, where it isn't negative
pub column_inside : (c z : ℤ) → c ≡ z → pos 0 ≤ℤ z → pos (unsigned_abs c) ≡ z
column_inside c z e h = omega (arith, ints)

at_place : (picture : Picture) (a b c d : ℕ) → a ≡ c → b ≡ d → colour_at picture a b ≡ colour_at picture c d
at_place picture a b c d e f = rw (e, f) refl

pub copied_at : (picture : Picture) (corner : Point) (u v a b : ℕ) → pos a ≡ (pos u -ℤ corner.x) → pos b ≡ (pos v -ℤ corner.y) → colour_at picture a b ≡ colour_copied picture corner u v
copied_at picture corner u v a b e f = at_place picture a b (unsigned_abs (pos u -ℤ corner.x)) (unsigned_abs (pos v -ℤ corner.y)) (omega (arith, ints, e)) (omega (arith, ints, f))

pub copied-same : (picture : Picture) (corner : Point) (x y u v : ℕ) → u ≡ x → v ≡ y → colour_copied picture corner x y ≡ colour_copied picture corner u v
copied-same picture corner x y u v e f = rw (e, f) refl

-- the code's sum of a corner and a coordinate
pub sum_is : (o n z : ℤ) → IsOrigin o → n ≡ z → SFits w16 z → to_z w32 (of_z w32 (to_z w32 (of_z w32 o) +ℤ to_z w32 (of_z w32 n))) ≡ o +ℤ z
sum_is o n z origin e fits =
    let f : SFits w32 o = omega (arith, ints) in
    let g : SFits w32 n = omega (arith, ints) in
    let s : SFits w32 (o +ℤ n) = omega (arith, ints) in
    rw (to_z-of_z w32 o f, to_z-of_z w32 n g, to_z-of_z w32 (o +ℤ n) s, e) refl

-- ---- spans

and_true : (b : Bool) → (b && true) ≡ b
and_true true = refl
and_true false = refl

and_false : (b : Bool) → (b && false) ≡ false
and_false true = refl
and_false false = refl

or_none : (b : Bool) → (b || false) ≡ b
or_none true = refl
or_none false = refl

pub span-has : (spans : List Span) (k : ℕ) (d : Span) (x : ℤ) → k < length spans → is_within (get_or spans k d).x0 (get_or spans k d).x1 x ≡ true → in_spans spans x ≡ true
span-has spans k d x lt h = list_any_at (λ (span : Span). in_span span x) spans k d lt h

first-more : (spans : List Span) (k : ℕ) (d : Span) (u : ℕ) → k < length spans → in_first spans (k + 1) u ≡ (in_first spans k u || in_span (get_or spans k d) (pos u))
first-more spans k d u lt = list_any_more (λ (span : Span). in_span span (pos u)) spans k d lt

swapped : (row a b : Bool) → ((row && b) || (row && a)) ≡ (row && (a || b))
swapped true true true = refl
swapped true true false = refl
swapped true false true = refl
swapped true false false = refl
swapped false a b = refl

-- the columns of the next span join those before it
pub span-more : (spans : List Span) (k : ℕ) (d : Span) (y u v : ℕ) → k < length spans → ((v == y && in_span (get_or spans k d) (pos u)) || (v == y && in_first spans k u)) ≡ (v == y && in_first spans (k + 1) u)
span-more spans k d y u v lt = swapped (v == y) (in_first spans k u) (in_span (get_or spans k d) (pos u)) ∙ ap (λ (b : Bool). v == y && b) (sym (first-more spans k d u lt))

pub span-start : (spans : List Span) (y u v : ℕ) → (v == y && in_first spans 0 u) ≡ false
span-start spans y u v = and_false (v == y)

-- a span without columns
pub span-none : (span : Span) (y u v : ℕ) → span.x1 <ℤ span.x0 → (v == y && in_span span (pos u)) ≡ false
span-none span y u v none =
    let out : in_span span (pos u) ≡ false = same_test _ _ (λ h. let s = within-parts span.x0 span.x1 (pos u) h in absurd (omega (arith, ints, none, s))) (λ h. absurd (false≢true h)) in
    ap (λ (b : Bool). v == y && b) out ∙ and_false (v == y)

pub spans-end : (spans : List Span) (k : ℕ) (y u v : ℕ) → length spans ≤ k → (v == y && in_first spans k u) ≡ (v == y && in_spans spans (pos u))
spans-end spans k y u v le = ap (λ (ss : List Span). v == y && in_spans ss (pos u)) (take_all k spans le)

pub run-columns : (left right y u v : ℕ) (span : Span) → pos left ≡ span.x0 → pos right ≡ span.x1 → (v == y && (nat_le left u && nat_le u right)) ≡ (v == y && in_span span (pos u))
run-columns left right y u v span e f = ap (λ (b : Bool). v == y && b) (columns_within left right u span.x0 span.x1 e f)

-- a span's ends are columns of it
pub span-ends : (span : Span) → span.x0 ≤ℤ span.x1 → (in_span span span.x0 ≡ true) × (in_span span span.x1 ≡ true)
span-ends span order = (within-from span.x0 span.x1 span.x0 (omega (arith, ints)) order, within-from span.x0 span.x1 span.x1 order (omega (arith, ints)))

-- ---- rows

pub row-more : (here : ℕ → ℕ → Bool) (columns : ℕ → Bool) (y u v : ℕ) → columns u ≡ here u y → ((v == y && columns u) || to_row here y u v) ≡ to_row here (y + 1) u v
row-more here columns y u v same =
    elim (cases_Bool (eqb v y)) [
      | inl e ↦
          let is : v ≡ y = grind (arith, nat_tests) in
          let below : ltb v y ≡ false = grind (arith, nat_tests) in
          let next : ltb v (y + 1) ≡ true = grind (arith, nat_tests) in
          rw (e, below, next) (ap (λ (b : Bool). columns u || b) (and_false (here u v)) ∙ or_none (columns u) ∙ same ∙ ap (here u) (sym is) ∙ sym (and_true (here u v)))
      | inr e ↦
          let same_side : ltb v y ≡ ltb v (y + 1) = grind (arith, nat_tests) in
          rw e (ap (λ (b : Bool). here u v && b) same_side)
    ]

off : (here test : Bool) → (here ≡ true → test ≡ false) → (here && test) ≡ false
off true test h = h refl
off false test h = refl

on : (here test : Bool) → (here ≡ true → test ≡ true) → (here && test) ≡ here
on true test h = h refl
on false test h = refl

pub row-start : (here : ℕ → ℕ → Bool) (top u v : ℕ) → (here u v ≡ true → top ≤ v) → to_row here top u v ≡ false
row-start here top u v low = off (here u v) (ltb v top) (λ h. let below = low h in grind (arith, nat_tests))

pub row-end : (here : ℕ → ℕ → Bool) (bottom u v : ℕ) → (here u v ≡ true → v < bottom) → to_row here bottom u v ≡ here u v
row-end here bottom u v high = on (here u v) (ltb v bottom) (λ h. let above = high h in grind (arith, nat_tests))

-- the columns and rows of an area lie in what is copied
pub area-copied : (picture : Picture) (corner : Point) (area : Rect) (x y : ℤ) → LiesWithin area corner (screen_with picture.width picture.height) → is_within area.x0 area.x1 x ≡ true → is_within area.y0 area.y1 y ≡ true
    → IsFrom corner.x picture.width x × IsFrom corner.y picture.height y
area-copied picture corner area x y inside column row =
    let s = has-sides (screen_with picture.width picture.height) (x -ℤ corner.x) (y -ℤ corner.y) (inside (point_at x y) (has-columns area x y row ∙ column)) in
    ((omega (arith, ints, s.left), omega (arith, ints, s.right)), (omega (arith, ints, s.top), omega (arith, ints, s.bottom)))

pub area-on : (width height : ℕ) (area : Rect) (x : ℤ) → IsOn width height area → is_within area.x0 area.x1 x ≡ true → IsFrom (pos 0) width x
area-on width height area x area_on column = let s = within-parts area.x0 area.x1 x column in (omega (arith, ints, area_on.left, s.0), omega (arith, ints, area_on.right, s.1))

-- ---- the copy on the free points

module _ (picture : Picture) (x y : ℤ) (own : Point) (area : Rect) (holes : List Hole) (inside : LiesWithin area own (block_of x y picture.width picture.height)) where
  abbrev pub here : ℕ → ℕ → Bool
  here u v = is_free area holes (point_at (pos u) (pos v))

  abbrev ink_seen : ℕ → ℕ → Option ℕ
  ink_seen u v = colour_of_copy picture x y (seen_from own (point_at (pos u) (pos v)))

  in_picture : (u v : ℕ) → here u v ≡ true → has (block_of x y picture.width picture.height) (seen_from own (point_at (pos u) (pos v))) ≡ true
  in_picture u v h = inside (point_at (pos u) (pos v)) (and_parts (has area (point_at (pos u) (pos v))) _ h).0

  -- each free point is put down
  each_free : (u v : ℕ) → here u v ≡ (here u v && is_some (ink_seen u v))
  each_free u v = sym (on (here u v) (is_some (ink_seen u v)) (λ h. copy_points picture x y (seen_from own (point_at (pos u) (pos v))) ∙ in_picture u v h))

  pub copied_picture : (p now : Picture) → HasShape p → now ≡ changed p here (colour_copied picture (point_at (own.x +ℤ x) (own.y +ℤ y))) → now ≡ changed p (λ u v. here u v && is_some (ink_seen u v)) (λ u v. unwrap_or (ink_seen u v) 0)
  copied_picture p now shaped e =
      e ∙ changed-same p here (λ u v. here u v && is_some (ink_seen u v)) (colour_copied picture (point_at (own.x +ℤ x) (own.y +ℤ y))) (λ u v. unwrap_or (ink_seen u v) 0) shaped
      (λ u v _ _. each_free u v) (λ u v _ _ h. copy_colour picture x y own u v (in_picture u v (and_parts (here u v) (is_some (ink_seen u v)) h).0))

  pub copied_tiles : (width height : ℕ) (tiles : List ℕ) → AreTilesOf width height here tiles → AreTilesOf width height (λ u v. here u v && is_some (ink_seen u v)) tiles
  copied_tiles width height tiles are = tiles-same width height here (λ u v. here u v && is_some (ink_seen u v)) tiles each_free are
