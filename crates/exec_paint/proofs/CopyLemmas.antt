-- Copying the rows of a job, run by run and span by span: each point is written once.
use Rattle.std.proofs.Common.{◌≡◌, ℕ, zero, suc, ◌+◌, ◌<◌, ◌≤◌, ◌^◌, Bool, true, false, cond, ◌&&◌, ◌||◌, eqb, ltb, ℤ, pos, ◌<ℤ◌, List, [], ◌∷◌, length, get_or, take, refl, sym, ap, ◌∙◌, inl, inr, arith}
use Rattle.std.proofs.lemmas.Bool.{cases_Bool, and_parts, or_cases}
use Rattle.std.proofs.lemmas.Bool.Decides.{nat_tests}
use Rattle.std.proofs.lemmas.Int.{ints}
use Rattle.std.proofs.lemmas.List.{take_all}
use Rattle.gfx_base.specs.Range.{is_within}
use Rattle.frame.specs.Areas.{points_in, in_span, span_count}
use Rattle.frame.specs.Canvases.{Canvas, drawn}
use Rattle.frame.specs.Pictures.{Picture, HasShape, colour_at}
use Rattle.frame.proofs.CallerLemmas.{has_shape-changed}
use Rattle.region.specs.declared.span.Span.{Span}
use Rattle.region.specs.Spans.{in_span as span_has, in_spans, AreRising}
use Rattle.paint_ops.proofs.CallerLemmas.{in_first}
use Rattle.scene.specs.Painting.{painted}
use Rattle.scene.proofs.CallerLemmas.{all-at}
use Rattle.exec_paint.specs.declared.run.Run.{Run}
use Rattle.exec_paint.specs.Rows.{in_run, row_mapped}
use Rattle.exec_paint.specs.Writes.{in_row, written_once}
use Rattle.exec_paint.proofs.RowLemmas.{colour_at-row_mapped}
use Rattle.exec_paint.proofs.LayerLemmas.{spans_more}
use Rattle.exec_paint.proofs.AreaLemmas.{to_row, off, on}
use Rattle.exec_paint.proofs.WriteLemmas.{written-none, written-same, written-more}

-- ---- one run

-- neighbouring columns of a row that are drawn are points that are written once
pub written-run : (f : Canvas) (run : Run) (colour : ℕ → ℕ → ℕ) → points_in f.picture (in_span run.y run.left run.right) ≡ span_count run.left run.right
    → drawn f (in_span run.y run.left run.right) colour (span_count run.left run.right) ≡ written_once f (in_row run.y (in_run run)) colour
unfolding in_span
written-run f run colour count = ap (λ (n : ℕ). drawn f (in_span run.y run.left run.right) colour n) (sym count)

-- ---- the spans of one row

no_and : (a b : Bool) → b ≡ false → (a && b) ≡ false
no_and true b e = e
no_and false b e = refl

or_false : (b : Bool) → (b || false) ≡ b
or_false true = refl
or_false false = refl

joined : (row a b : Bool) → ((row && a) || (row && b)) ≡ (row && (a || b))
joined true a b = refl
joined false a b = refl

beyond : (span next : Span) (z : ℤ) → span_has span z ≡ true → span.x1 <ℤ next.x0 → span_has next z ≡ false
unfolding is_within
beyond span next z here apart = grind (arith, ints)

-- a column in one of the first spans lies in none of the later ones
rising-apart : (spans : List Span) (k : ℕ) (d : Span) (z : ℤ) → AreRising spans → k < length spans → in_spans (take k spans) z ≡ true → span_has (get_or spans k d) z ≡ false
rising-apart [] k d z rising lt h = absurd (omega arith)
rising-apart (s ∷ ss) zero d z rising lt h = absurd cc
rising-apart (s ∷ ss) (suc k) d z rising lt h =
    elim (or_cases (span_has s z) (in_spans (take k ss) z) h) [
      | inl here ↦ beyond s (get_or ss k d) z here (all-at (λ (next : Span). s.x1 <ℤ next.x0) ss k d rising.1 (omega arith))
      | inr later ↦ rising-apart ss k d z rising.2 (omega arith) later
    ]

pub spans-start : (f : Canvas) (y : ℕ) (spans : List Span) (colour : ℕ → ℕ → ℕ) → HasShape f.picture → f.writes < 2 ^ 64 → f ≡ written_once f (in_row y (in_first spans 0)) colour
spans-start f y spans colour shape below = written-none f (in_row y (in_first spans 0)) colour shape below (λ u v u_in v_in. no_and (eqb v y) false refl)

pub spans-some : (f before now : Canvas) (y k : ℕ) (spans : List Span) (d : Span) (run : Run) (colour : ℕ → ℕ → ℕ) → HasShape f.picture → AreRising spans → k < length spans → run.y ≡ y
    → ((u : ℕ) → u < f.picture.width → in_run run u ≡ span_has (get_or spans k d) (pos u))
    → before ≡ written_once f (in_row y (in_first spans k)) colour → now ≡ written_once before (in_row run.y (in_run run)) colour → now ≡ written_once f (in_row y (in_first spans (k + 1))) colour
spans-some f before now y k spans d run colour shape rising lt row columns so_far step =
    written-more f before now (in_row y (in_first spans k)) (in_row y (in_run run)) (in_row y (in_first spans (k + 1))) colour shape
    (λ u v u_in v_in. joined (eqb v y) (in_first spans k u) (in_run run u)
    ∙ ap (λ (b : Bool). eqb v y && b) (ap (λ (b : Bool). in_first spans k u || b) (columns u u_in) ∙ sym (spans_more spans k (get_or spans k d) d (pos u) lt refl)))
    (λ u v u_in v_in h. no_and (eqb v y) (in_run run u) (columns u u_in ∙ rising-apart spans k d (pos u) rising lt (and_parts (eqb v y) (in_first spans k u) h).1))
    so_far (step ∙ ap (λ (v : ℕ). written_once before (in_row v (in_run run)) colour) row)

pub spans-none : (f before : Canvas) (y k : ℕ) (spans : List Span) (d : Span) (colour : ℕ → ℕ → ℕ) → HasShape f.picture → k < length spans
    → ((u : ℕ) → u < f.picture.width → false ≡ span_has (get_or spans k d) (pos u))
    → before ≡ written_once f (in_row y (in_first spans k)) colour → before ≡ written_once f (in_row y (in_first spans (k + 1))) colour
spans-none f before y k spans d colour shape lt columns so_far =
    so_far ∙ written-same f (in_row y (in_first spans k)) (in_row y (in_first spans (k + 1))) colour colour shape
    (λ u v u_in v_in. ap (λ (b : Bool). eqb v y && b) (sym (or_false (in_first spans k u)) ∙ ap (λ (b : Bool). in_first spans k u || b) (columns u u_in) ∙ sym (spans_more spans k (get_or spans k d) d (pos u) lt refl)))
    (λ u v u_in v_in h. refl)

pub spans-end : (f now : Canvas) (y k : ℕ) (spans : List Span) (colour : ℕ → ℕ → ℕ) → length spans ≤ k → now ≡ written_once f (in_row y (in_first spans k)) colour → now ≡ written_once f (in_row y (λ u. in_spans spans (pos u))) colour
spans-end f now y k spans colour le so_far = so_far ∙ ap (λ (ss : List Span). written_once f (in_row y (λ u. in_spans ss (pos u))) colour) (take_all k spans le)

-- ---- the rows of an area

pub copy-start : (f : Canvas) (here : ℕ → ℕ → Bool) (colour : ℕ → ℕ → ℕ) (top : ℕ) → HasShape f.picture → f.writes < 2 ^ 64 → ((u v : ℕ) → here u v ≡ true → top ≤ v) → f ≡ written_once f (to_row here top) colour
copy-start f here colour top shape below low =
    written-none f (to_row here top) colour shape below (λ u v u_in v_in. off (here u v) (ltb v top) (λ h. let from = low u v h in grind (arith, nat_tests)))

-- on the row at y the test of its columns is joined, and on other rows nothing is
this_row : (here columns : Bool) → columns ≡ here → ((here && false) || (true && columns)) ≡ (here && true)
this_row true columns e = e
this_row false columns e = e

other_row : (here above : Bool) → ((here && above) || false) ≡ (here && above)
other_row here above = or_false (here && above)

row_joined : (here : ℕ → ℕ → Bool) (columns : ℕ → Bool) (y u v : ℕ) → columns u ≡ here u y → (to_row here y u v || in_row y columns u v) ≡ to_row here (y + 1) u v
row_joined here columns y u v same =
    elim (cases_Bool (eqb v y)) [
      | inl now ↦
          let is : v ≡ y = grind (arith, nat_tests) in
          let below : ltb v y ≡ false = grind (arith, nat_tests) in
          let next : ltb v (y + 1) ≡ true = grind (arith, nat_tests) in
          rw (now, below, next) (this_row (here u v) (columns u) (same ∙ ap (here u) (sym is)))
      | inr other ↦
          let next : ltb v (y + 1) ≡ ltb v y = grind (arith, nat_tests) in
          rw (other, next) (other_row (here u v) (ltb v y))
    ]

below_row : (v y : ℕ) → ltb v y ≡ true → eqb v y ≡ false
below_row v y h = grind (arith, nat_tests)

no_and_left : (a b : Bool) → a ≡ false → (a && b) ≡ false
no_and_left a b e = rw e refl

pub copy-row : (f before now : Canvas) (here : ℕ → ℕ → Bool) (columns : ℕ → Bool) (colour : ℕ → ℕ → ℕ) (y : ℕ) → HasShape f.picture → ((u : ℕ) → columns u ≡ here u y)
    → before ≡ written_once f (to_row here y) colour → now ≡ written_once before (in_row y columns) colour → now ≡ written_once f (to_row here (y + 1)) colour
copy-row f before now here columns colour y shape same so_far step =
    written-more f before now (to_row here y) (in_row y columns) (to_row here (y + 1)) colour shape (λ u v u_in v_in. row_joined here columns y u v (same u))
    (λ u v u_in v_in h. no_and_left (eqb v y) (columns u) (below_row v y (and_parts (here u v) (ltb v y) h).1)) so_far step

pub copy-end : (f now : Canvas) (here : ℕ → ℕ → Bool) (colour : ℕ → ℕ → ℕ) (bottom : ℕ) → HasShape f.picture → ((u v : ℕ) → here u v ≡ true → v < bottom) → now ≡ written_once f (to_row here bottom) colour → now ≡ written_once f here colour
copy-end f now here colour bottom shape high so_far =
    so_far ∙ written-same f (to_row here bottom) here colour colour shape (λ u v u_in v_in. on (here u v) (ltb v bottom) (λ h. let below = high u v h in grind (arith, nat_tests))) (λ u v u_in v_in h. refl)

-- ---- what was composed

-- one row more: the painter's colours, which were composed over any others, are copied
pub composed-row : (f before now : Canvas) (device made : Picture) (here : ℕ → ℕ → Bool) (columns : ℕ → Bool) (colours g : ℕ → ℕ → ℕ) (y : ℕ) → HasShape f.picture → device.width ≡ f.picture.width → device.height ≡ f.picture.height
    → ((u : ℕ) → columns u ≡ here u y) → ((u old : ℕ) → here u y ≡ true → g u old ≡ colours u y)
    → before ≡ written_once f (to_row here y) colours → made ≡ row_mapped device y columns g → now ≡ written_once before (in_row y columns) (colour_at made) → now ≡ written_once f (to_row here (y + 1)) colours
composed-row f before now device made here columns colours g y shape same_width same_height same painted so_far composed step =
    let after : Canvas = written_once f (to_row here y) colours in
    copy-row f before now here columns colours y shape same so_far
    (step ∙ ap (λ (k : Canvas). written_once k (in_row y columns) (colour_at made)) so_far
    ∙ written-same after (in_row y columns) (in_row y columns) (colour_at made) colours (has_shape-changed f.picture (to_row here y) colours shape) (λ u v u_in v_in. refl)
    (λ u v u_in v_in h.
    let both = and_parts (eqb v y) (columns u) h in
    let is : v ≡ y = grind (arith, nat_tests, both.0) in
    let old = colour_at device u v in
    ap (λ (q : Picture). colour_at q u v) composed ∙ colour_at-row_mapped device y columns g u v (omega (arith, same_width, u_in)) (omega (arith, same_height, v_in))
    ∙ ap (λ (b : Bool). cond b (cond (columns u) (g u old) old) old) both.0 ∙ ap (λ (b : Bool). cond b (g u old) old) both.1 ∙ painted u old (sym (same u) ∙ both.1) ∙ ap (colours u) (sym is))
    ∙ ap (λ (k : Canvas). written_once k (in_row y columns) colours) (sym so_far))
