-- Windows on the visible parts of one row.
use Rattle.std.proofs.Common.{◌≡◌, ℕ, ◌+◌, ◌<◌, ◌≤◌, Bool, true, false, cond, ◌&&◌, ◌||◌, ℤ, pos, Option, Some, None, List, [], ◌∷◌, ◌++◌, length, get_or, take, refl, sym, ap, ◌∙◌, inl, inr, arith}
use Rattle.std.specs.Prelude.{unwrap_or}
use Rattle.std.proofs.lemmas.Bool.{cases_Bool, and_parts}
use Rattle.std.proofs.lemmas.List.{take_more, take_all, map_more}
use Rattle.std.proofs.lemmas.List.Folds.{list_any-append}
use Rattle.gfx_base.specs.declared.point.Point.{Point}
use Rattle.gfx_base.specs.declared.rect.Rect.{Rect}
use Rattle.gfx_base.specs.Range.{is_within}
use Rattle.gfx_base.specs.Rects.{has, point_at}
use Rattle.frame.specs.Pictures.{Picture, HasShape}
use Rattle.region.specs.declared.span.Span.{Span}
use Rattle.region.specs.Spans.{in_span, in_spans}
use Rattle.paint_ops.specs.Operations.{seen_from}
use Rattle.paint_ops.specs.Kinds.{Assets}
use Rattle.paint_ops.specs.Rows.{IsOrigin}
use Rattle.paint_ops.proofs.CallerLemmas.{in_first}
use Rattle.paint_ops.proofs.CallerLemmas.{in-from}
use Rattle.scene.specs.declared.win.Win.{Win}
use Rattle.scene.specs.Clips.{clip_in, corner_in}
use Rattle.scene.specs.Painting.{Looks, windows_at, painted_over}
use Rattle.scene.specs.Looks.{colour_in_window, looks_of}
use Rattle.scene.proofs.CallerLemmas.{windows-here, windows-away, corner_near}
use Rattle.exec_paint.specs.declared.run.Run.{Run}
use Rattle.exec_paint.specs.declared.layer.Layer.{Layer}
use Rattle.exec_paint.specs.Rows.{row_mapped, in_run}
use Rattle.exec_paint.specs.Layers.{window_at, windows_in, over_window}
use Rattle.exec_paint.proofs.RowLemmas.{left_by, row_mapped-same, row_mapped-twice, row_mapped-after, row_mapped-kept, row_mapped-nothing}

-- ---- one window on spans

or_false : (b : Bool) → (b || false) ≡ b
or_false true = refl
or_false false = refl

pub spans_more : (spans : List Span) (k : ℕ) (span d : Span) (z : ℤ) → k < length spans → span ≡ get_or spans k d → in_spans (take (k + 1) spans) z ≡ (in_spans (take k spans) z || in_span span z)
spans_more spans k span d z more is =
    ap (λ (xs : List Span). in_spans xs z) (take_more spans k d more)
    ∙ list_any-append (λ (x : Span). in_span x z) (take k spans) (get_or spans k d ∷ [])
    ∙ ap (λ (b : Bool). in_spans (take k spans) z || b) (or_false (in_span (get_or spans k d) z) ∙ ap (λ (x : Span). in_span x z) (sym is))

and_true : (b : Bool) → (b && true) ≡ b
and_true true = refl
and_true false = refl

pub has-columns : (r : Rect) (x y : ℤ) → is_within r.y0 r.y1 y ≡ true → has r (point_at x y) ≡ is_within r.x0 r.x1 x
unfolding has
has-columns r x y e = rw e (and_true (is_within r.x0 r.x1 x))

pub in-clip : (r : Rect) (span : Span) (x y : ℤ) → is_within r.y0 r.y1 y ≡ true → (in_span span x && is_within r.x0 r.x1 x) ≡ (in_span span x && has r (point_at x y))
in-clip r span x y e = ap (λ (b : Bool). in_span span x && b) (sym (has-columns r x y e))

and_false : (b : Bool) → (b && false) ≡ false
and_false true = refl
and_false false = refl

pub has-off_row : (r : Rect) (x y : ℤ) → is_within r.y0 r.y1 y ≡ false → has r (point_at x y) ≡ false
unfolding has
has-off_row r x y e = rw e (and_false (is_within r.x0 r.x1 x))

pub layer-off_row : (p : Picture) (looks : Looks) (w : Win) (spans : List Span) (y : ℕ) → HasShape p → is_within (looks.clip w).y0 (looks.clip w).y1 (pos y) ≡ false
    → p ≡ row_mapped p y (λ u. in_spans spans (pos u)) (λ u old. over_window looks w (point_at (pos u) (pos y)) old)
layer-off_row p looks w spans y shape off =
    row_mapped-kept p y (λ u. in_spans spans (pos u)) (λ u old. over_window looks w (point_at (pos u) (pos y)) old) shape (λ u old u_in. rw (has-off_row (looks.clip w) (pos u) (pos y) off) refl)

pub layer-start : (p : Picture) (looks : Looks) (w : Win) (spans : List Span) (y : ℕ) → HasShape p → p ≡ row_mapped p y (in_first spans 0) (λ u old. over_window looks w (point_at (pos u) (pos y)) old)
layer-start p looks w spans y shape = row_mapped-nothing p y (in_first spans 0) (λ u old. over_window looks w (point_at (pos u) (pos y)) old) shape (λ u old u_in. refl)

layered : (a s here : Bool) (g : ℕ → ℕ) (old : ℕ) → g (g old) ≡ g old → cond (s && here) (g (cond a (cond here (g old) old) old)) (cond a (cond here (g old) old) old) ≡ cond (a || s) (cond here (g old) old) old
layered true true true g old e = e
layered true false true g old e = refl
layered true true false g old e = refl
layered true false false g old e = refl
layered false true true g old e = refl
layered false false true g old e = refl
layered false true false g old e = refl
layered false false false g old e = refl

unlayered : (a s here : Bool) (c old : ℕ) → false ≡ (s && here) → cond a (cond here c old) old ≡ cond (a || s) (cond here c old) old
unlayered true s here c old e = refl
unlayered false true true c old e = absurd (cc)
unlayered false true false c old e = refl
unlayered false false here c old e = refl

twice : (o : Option ℕ) (old : ℕ) → unwrap_or o (unwrap_or o old) ≡ unwrap_or o old
twice None old = refl
twice (Some c) old = refl

-- one span more: where its part in the clip was painted, and where it has none
pub layer-some : (p before now : Picture) (assets : Assets) (screen : Rect) (ws : List Win) (w : Win) (corner : Point) (y k : ℕ) (spans : List Span) (span d : Span) (run : Run) → HasShape p → k < length spans → span ≡ get_or spans k d
    → corner ≡ corner_in ws w → run.y ≡ y → ((u : ℕ) → u < p.width → in_run run u ≡ (in_span span (pos u) && has (clip_in screen ws w) (point_at (pos u) (pos y))))
    → before ≡ row_mapped p y (in_first spans k) (λ u old. over_window (looks_of assets screen ws) w (point_at (pos u) (pos y)) old)
    → now ≡ row_mapped before run.y (in_run run) (λ u old. unwrap_or (colour_in_window assets w (seen_from corner (point_at (pos u) (pos run.y)))) old)
    → now ≡ row_mapped p y (in_first spans (k + 1)) (λ u old. over_window (looks_of assets screen ws) w (point_at (pos u) (pos y)) old)
layer-some p before now assets screen ws w corner y k spans span d run shape lt is at row columns so_far step =
    let looks = looks_of assets screen ws in
    let f : ℕ → ℕ → ℕ = λ u old. over_window looks w (point_at (pos u) (pos y)) old in
    let g : ℕ → ℕ → ℕ = λ u old. looks.paint w (point_at (pos u) (pos y)) old in
    step
    ∙ ap (λ (v : ℕ). row_mapped before v (in_run run) (λ u old. unwrap_or (colour_in_window assets w (seen_from corner (point_at (pos u) (pos v)))) old)) row
    ∙ ap (λ (c : Point). row_mapped before y (in_run run) (λ u old. unwrap_or (colour_in_window assets w (seen_from c (point_at (pos u) (pos y)))) old)) at
    ∙ ap (λ (q : Picture). row_mapped q y (in_run run) g) so_far
    ∙ row_mapped-twice p y (in_first spans k) (in_run run) (in_first spans (k + 1)) f g f shape (λ u old u_in.
    ap (λ (b : Bool). cond b (g u (left_by (in_first spans k) f u old)) (left_by (in_first spans k) f u old)) (columns u u_in)
    ∙ layered (in_first spans k u) (in_span span (pos u)) (has (clip_in screen ws w) (point_at (pos u) (pos y))) (g u) old (twice (colour_in_window assets w (seen_from (corner_in ws w) (point_at (pos u) (pos y)))) old)
    ∙ ap (λ (b : Bool). cond b (f u old) old) (sym (spans_more spans k span d (pos u) lt is)))

pub layer-none : (p before : Picture) (looks : Looks) (w : Win) (y k : ℕ) (spans : List Span) (span d : Span) → HasShape p → k < length spans → span ≡ get_or spans k d
    → ((u : ℕ) → u < p.width → false ≡ (in_span span (pos u) && has (looks.clip w) (point_at (pos u) (pos y))))
    → before ≡ row_mapped p y (in_first spans k) (λ u old. over_window looks w (point_at (pos u) (pos y)) old)
    → before ≡ row_mapped p y (in_first spans (k + 1)) (λ u old. over_window looks w (point_at (pos u) (pos y)) old)
layer-none p before looks w y k spans span d shape lt is columns so_far =
    let f : ℕ → ℕ → ℕ = λ u old. over_window looks w (point_at (pos u) (pos y)) old in
    so_far ∙ row_mapped-same p y (in_first spans k) (in_first spans (k + 1)) f f shape (λ u old u_in.
    unlayered (in_first spans k u) (in_span span (pos u)) (has (looks.clip w) (point_at (pos u) (pos y))) (looks.paint w (point_at (pos u) (pos y)) old) old (columns u u_in)
    ∙ ap (λ (b : Bool). cond b (f u old) old) (sym (spans_more spans k span d (pos u) lt is)))

pub layer-end : (p q : Picture) (looks : Looks) (w : Win) (y k : ℕ) (spans : List Span) → length spans ≤ k → q ≡ row_mapped p y (in_first spans k) (λ u old. over_window looks w (point_at (pos u) (pos y)) old)
    → q ≡ row_mapped p y (λ u. in_spans spans (pos u)) (λ u old. over_window looks w (point_at (pos u) (pos y)) old)
layer-end p q looks w y k spans le so_far = so_far ∙ ap (λ (ss : List Span). row_mapped p y (λ u. in_spans ss (pos u)) (λ u old. over_window looks w (point_at (pos u) (pos y)) old)) (take_all k spans le)

-- a window of which some columns are painted lies near the screen
pub layer-near : (screen : Rect) (ws : List Win) (w : Win) (y width : ℕ) (span : Span) (run : Run) → w.w ≤ 4096 → w.h ≤ 4096 → width ≤ 1024 → y < 768 → run.left ≤ run.right → run.right < width
    → ((u : ℕ) → u < width → in_run run u ≡ (in_span span (pos u) && has (clip_in screen ws w) (point_at (pos u) (pos y)))) → IsOrigin (corner_in ws w).x × IsOrigin (corner_in ws w).y
layer-near screen ws w y width span run narrow low small y_in some within columns =
    let left_in : run.left < width = omega arith in
    let both = and_parts _ _ (sym (columns run.left left_in) ∙ in-from run.left run.right run.left (omega arith) some) in
    corner_near screen ws w run.left y narrow low (omega arith) (omega arith) both.1

-- ---- windows, one after the other

-- what stands for a layer where there is none
abbrev pub no_layer : Layer
no_layer = record { at = 0; corner = point_at (pos 0) (pos 0); clip = record { x0 = pos 0; y0 = pos 0; x1 = pos 0; y1 = pos 0 } }

-- the windows of the first layers
abbrev pub over_first : Looks → List Win → List Layer → ℕ → ℕ → ℕ → ℕ → ℕ
over_first looks ws layers y k u old = let p = point_at (pos u) (pos y) in painted_over looks p old (windows_at looks (windows_in ws (take k layers)) p)

pub layers-start : (p : Picture) (looks : Looks) (ws : List Win) (layers : List Layer) (here : ℕ → Bool) (y : ℕ) → HasShape p → p ≡ row_mapped p y here (over_first looks ws layers y 0)
layers-start p looks ws layers here y shape = row_mapped-kept p y here (over_first looks ws layers y 0) shape (λ u old u_in. refl)

pub over-more : (looks : Looks) (vs : List Win) (w : Win) (p : Point) (behind : ℕ) → over_window looks w p (painted_over looks p behind (windows_at looks vs p)) ≡ painted_over looks p behind (windows_at looks (vs ++ w ∷ []) p)
over-more looks vs w p behind =
    elim (cases_Bool (has (looks.clip w) p)) [
      | inl e ↦ rw (e, windows-here looks vs w p behind e) refl
      | inr e ↦ rw (e, windows-away looks vs w p behind e) refl
    ]

pub layers-step : (p before now : Picture) (looks : Looks) (ws : List Win) (layers : List Layer) (layer d : Layer) (here : ℕ → Bool) (y k : ℕ) → HasShape p → k < length layers → layer ≡ get_or layers k d
    → before ≡ row_mapped p y here (over_first looks ws layers y k) → now ≡ row_mapped before y here (λ u old. over_window looks (window_at ws layer) (point_at (pos u) (pos y)) old)
    → now ≡ row_mapped p y here (over_first looks ws layers y (k + 1))
layers-step p before now looks ws layers layer d here y k shape lt is so_far step =
    let more : windows_in ws (take (k + 1) layers) ≡ windows_in ws (take k layers) ++ window_at ws layer ∷ [] =
    map_more (window_at ws) layers k d lt ∙ ap (λ (l : Layer). windows_in ws (take k layers) ++ window_at ws l ∷ []) (sym is) in
    step ∙ ap (λ (q : Picture). row_mapped q y here (λ u old. over_window looks (window_at ws layer) (point_at (pos u) (pos y)) old)) so_far
    ∙ row_mapped-after p y here (over_first looks ws layers y k) (λ u old. over_window looks (window_at ws layer) (point_at (pos u) (pos y)) old) (over_first looks ws layers y (k + 1)) shape (λ u old u_in.
    over-more looks (windows_in ws (take k layers)) (window_at ws layer) (point_at (pos u) (pos y)) old
    ∙ ap (λ (vs : List Win). let p = point_at (pos u) (pos y) in painted_over looks p old (windows_at looks vs p)) (sym more))

pub layers-end : (p q : Picture) (looks : Looks) (ws : List Win) (layers : List Layer) (here : ℕ → Bool) (y k : ℕ) → length layers ≤ k → q ≡ row_mapped p y here (over_first looks ws layers y k)
    → q ≡ row_mapped p y here (λ u old. let p = point_at (pos u) (pos y) in painted_over looks p old (windows_at looks (windows_in ws layers) p))
layers-end p q looks ws layers here y k le so_far = so_far ∙ ap (λ (ls : List Layer). row_mapped p y here (λ u old. let p = point_at (pos u) (pos y) in painted_over looks p old (windows_at looks (windows_in ws ls) p))) (take_all k layers le)
