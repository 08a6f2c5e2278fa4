-- One row of a job: its spans, filling them, and their tiles.
use Rattle.std.proofs.Common.{◌≡◌, ℕ, ◌+◌, ◌*◌, ◌/◌, ◌<◌, ◌≤◌, max, Bool, true, false, cond, ◌&&◌, ◌||◌, nat_le, ℤ, pos, List, [], ◌∷◌, length, get_or, take, refl, sym, ap, ◌∙◌, inl, inr, arith}
use Rattle.std.specs.Prelude.{not}
use Rattle.std.proofs.lemmas.Bool.{or_cases}
use Rattle.std.proofs.lemmas.Bool.Decides.{nat_tests}
use Rattle.std.proofs.lemmas.List.{take_more, take_all}
use Rattle.std.proofs.lemmas.List.Folds.{list_any-append}
use Rattle.gfx_base.specs.declared.point.Point.{Point}
use Rattle.gfx_base.specs.declared.rect.Rect.{Rect}
use Rattle.gfx_base.specs.Range.{is_within}
use Rattle.gfx_base.specs.Rects.{has, point_at}
use Rattle.gfx_base.specs.TileSets.{has_tile, is_in_run}
use Rattle.frame.specs.Pictures.{Picture, HasShape}
use Rattle.region.specs.declared.span.Span.{Span}
use Rattle.region.specs.Spans.{in_span, in_spans}
use Rattle.paint_ops.proofs.CallerLemmas.{in_first}
use Rattle.exec_paint.specs.declared.run.Run.{Run}
use Rattle.exec_paint.specs.declared.plan.Hole.{Hole}
use Rattle.exec_paint.specs.Rows.{row_mapped, in_run}
use Rattle.exec_paint.specs.Plans.{is_hidden}
use Rattle.exec_paint.specs.Marks.{HoldsColumn, AddsTiles}
use Rattle.exec_paint.proofs.RowLemmas.{row_mapped-same, row_mapped-twice, row_mapped-nothing}
use Rattle.exec_paint.proofs.LayerLemmas.{spans_more, has-columns, has-off_row}

-- ---- cutting holes

or_false : (b : Bool) → (b || false) ≡ b
or_false true = refl
or_false false = refl

hidden-more : (holes : List Hole) (k : ℕ) (d : Hole) (p : Point) → k < length holes → is_hidden (take (k + 1) holes) p ≡ (is_hidden (take k holes) p || has (get_or holes k d).clip p)
hidden-more holes k d p lt =
    ap (λ (hs : List Hole). is_hidden hs p) (take_more holes k d lt)
    ∙ list_any-append (λ (hole : Hole). has hole.clip p) (take k holes) (get_or holes k d ∷ [])
    ∙ ap (λ (b : Bool). is_hidden (take k holes) p || b) (or_false (has (get_or holes k d).clip p))

without : (a b c : Bool) → ((a && not b) && not c) ≡ (a && not (b || c))
without true true c = refl
without true false c = refl
without false b c = refl

pub hole-cut : (area : Rect) (holes : List Hole) (k y : ℕ) (d : Hole) (old new : List Span) (x : ℤ) → k < length holes → is_within (get_or holes k d).clip.y0 (get_or holes k d).clip.y1 (pos y) ≡ true
    → in_spans old x ≡ (is_within area.x0 area.x1 x && not (is_hidden (take k holes) (point_at x (pos y)))) → in_spans new x ≡ (in_spans old x && not (is_within (get_or holes k d).clip.x0 (get_or holes k d).clip.x1 x))
    → in_spans new x ≡ (is_within area.x0 area.x1 x && not (is_hidden (take (k + 1) holes) (point_at x (pos y))))
hole-cut area holes k y d old new x lt row before cut =
    let p = point_at x (pos y) in
    let clip = (get_or holes k d).clip in
    cut ∙ ap (λ (b : Bool). b && not (is_within clip.x0 clip.x1 x)) before
    ∙ without (is_within area.x0 area.x1 x) (is_hidden (take k holes) p) (is_within clip.x0 clip.x1 x)
    ∙ ap (λ (b : Bool). is_within area.x0 area.x1 x && not (is_hidden (take k holes) p || b)) (sym (has-columns clip x (pos y) row))
    ∙ ap (λ (b : Bool). is_within area.x0 area.x1 x && not b) (sym (hidden-more holes k d p lt))

pub hole-passed : (area : Rect) (holes : List Hole) (k y : ℕ) (d : Hole) (old : List Span) (x : ℤ) → k < length holes → is_within (get_or holes k d).clip.y0 (get_or holes k d).clip.y1 (pos y) ≡ false
    → in_spans old x ≡ (is_within area.x0 area.x1 x && not (is_hidden (take k holes) (point_at x (pos y)))) → in_spans old x ≡ (is_within area.x0 area.x1 x && not (is_hidden (take (k + 1) holes) (point_at x (pos y))))
hole-passed area holes k y d old x lt row before =
    let p = point_at x (pos y) in
    before ∙ ap (λ (b : Bool). is_within area.x0 area.x1 x && not b)
    (sym (hidden-more holes k d p lt ∙ ap (λ (b : Bool). is_hidden (take k holes) p || b) (has-off_row (get_or holes k d).clip x (pos y) row) ∙ or_false (is_hidden (take k holes) p)))

-- ---- filling

filled : (a s : Bool) (c old : ℕ) → cond s c (cond a c old) ≡ cond (a || s) c old
filled true true c old = refl
filled true false c old = refl
filled false s c old = refl

pub fill-start : (p : Picture) (spans : List Span) (y c : ℕ) → HasShape p → p ≡ row_mapped p y (in_first spans 0) (λ u old. c)
fill-start p spans y c shape = row_mapped-nothing p y (in_first spans 0) (λ u old. c) shape (λ u old u_in. refl)

pub fill-some : (p before now : Picture) (y k c : ℕ) (spans : List Span) (d : Span) (run : Run) → HasShape p → k < length spans → run.y ≡ y → ((u : ℕ) → u < p.width → in_run run u ≡ in_span (get_or spans k d) (pos u))
    → before ≡ row_mapped p y (in_first spans k) (λ u old. c) → now ≡ row_mapped before run.y (in_run run) (λ u old. c) → now ≡ row_mapped p y (in_first spans (k + 1)) (λ u old. c)
fill-some p before now y k c spans d run shape lt row columns so_far step =
    step ∙ ap (λ (v : ℕ). row_mapped before v (in_run run) (λ u old. c)) row ∙ ap (λ (q : Picture). row_mapped q y (in_run run) (λ u old. c)) so_far
    ∙ row_mapped-twice p y (in_first spans k) (in_run run) (in_first spans (k + 1)) (λ u old. c) (λ u old. c) (λ u old. c) shape (λ u old u_in.
    filled (in_first spans k u) (in_run run u) c old
    ∙ ap (λ (b : Bool). cond b c old) (ap (λ (b : Bool). in_first spans k u || b) (columns u u_in) ∙ sym (spans_more spans k (get_or spans k d) d (pos u) lt refl)))

pub fill-none : (p before : Picture) (y k c : ℕ) (spans : List Span) (d : Span) → HasShape p → k < length spans → ((u : ℕ) → u < p.width → false ≡ in_span (get_or spans k d) (pos u))
    → before ≡ row_mapped p y (in_first spans k) (λ u old. c) → before ≡ row_mapped p y (in_first spans (k + 1)) (λ u old. c)
fill-none p before y k c spans d shape lt columns so_far =
    so_far ∙ row_mapped-same p y (in_first spans k) (in_first spans (k + 1)) (λ u old. c) (λ u old. c) shape (λ u old u_in.
    ap (λ (b : Bool). cond b c old) (sym (or_false (in_first spans k u)) ∙ ap (λ (b : Bool). in_first spans k u || b) (columns u u_in) ∙ sym (spans_more spans k (get_or spans k d) d (pos u) lt refl)))

pub fill-end : (p q : Picture) (y k c : ℕ) (spans : List Span) → length spans ≤ k → q ≡ row_mapped p y (in_first spans k) (λ u old. c) → q ≡ row_mapped p y (λ u. in_spans spans (pos u)) (λ u old. c)
fill-end p q y k c spans le so_far = so_far ∙ ap (λ (ss : List Span). row_mapped p y (λ u. in_spans ss (pos u)) (λ u old. c)) (take_all k spans le)

-- ---- tiles

first_of : (a b : Bool) → a ≡ true → (a || b) ≡ true
first_of true b e = refl
first_of false b e = absurd cc

second_of : (a b : Bool) → b ≡ true → (a || b) ≡ true
second_of true b e = refl
second_of false b e = e

run-tile : (left right x row : ℕ) → (nat_le left x && nat_le x right) ≡ true → is_in_run row (left / 16) (right / 16) (x / 16) row ≡ true
run-tile left right x row e = grind (arith, nat_tests)

-- the column of a run that lies first in a column of tiles
in_tile-run : (left right col : ℕ) → left ≤ right → left / 16 ≤ col → col ≤ right / 16 → (max left (col * 16) / 16 ≡ col) × ((nat_le left (max left (col * 16)) && nat_le (max left (col * 16)) right) ≡ true) × (max left (col * 16) ≤ right)
in_tile-run left right col some low high = (omega arith, grind (arith, nat_tests), omega arith)

tests : (row first last c r : ℕ) → is_in_run row first last c r ≡ true → (r ≡ row) × (first ≤ c) × (c ≤ last)
tests row first last c r e = (grind (arith, nat_tests), grind (arith, nat_tests), grind (arith, nat_tests))

pub tiles-start : (width y : ℕ) (spans : List Span) (tiles : List ℕ) → AddsTiles width y (in_first spans 0) tiles tiles
tiles-start width y spans tiles = record { kept = λ c r e. e; all = λ x x_in e. absurd cc; only = λ c r e. inl e }

more-column : (width k : ℕ) (spans : List Span) (d : Span) (col : ℕ) → k < length spans → HoldsColumn width (in_first spans k) col → HoldsColumn width (in_first spans (k + 1)) col
more-column width k spans d col lt h = record { x = h.x; inside = h.inside; col_is = h.col_is; is_here = spans_more spans k (get_or spans k d) d (pos h.x) lt refl ∙ first_of (in_first spans k h.x) (in_span (get_or spans k d) (pos h.x)) h.is_here }

pub tiles-some : (width y k row : ℕ) (spans : List Span) (d : Span) (run : Run) (old before new : List ℕ) → k < length spans → row ≡ y / 16 → run.left ≤ run.right → run.right < width
    → ((u : ℕ) → u < width → in_run run u ≡ in_span (get_or spans k d) (pos u)) → AddsTiles width y (in_first spans k) old before
    → ((c r : ℕ) → has_tile new c r ≡ (has_tile before c r || is_in_run row (run.left / 16) (run.right / 16) c r)) → AddsTiles width y (in_first spans (k + 1)) old new
tiles-some width y k row spans d run old before new lt is some within columns so_far step = record {
  kept = λ c r e. step c r ∙ first_of (has_tile before c r) (is_in_run row (run.left / 16) (run.right / 16) c r) (so_far.kept c r e);
  all = λ x x_in e.
      elim (or_cases (in_first spans k x) (in_span (get_or spans k d) (pos x)) (sym (spans_more spans k (get_or spans k d) d (pos x) lt refl) ∙ e)) [
        | inl before_here ↦ step (x / 16) (y / 16) ∙ first_of (has_tile before (x / 16) (y / 16)) (is_in_run row (run.left / 16) (run.right / 16) (x / 16) (y / 16)) (so_far.all x x_in before_here)
        | inr now_here ↦
            step (x / 16) (y / 16) ∙ second_of (has_tile before (x / 16) (y / 16)) (is_in_run row (run.left / 16) (run.right / 16) (x / 16) (y / 16))
            (ap (λ (r : ℕ). is_in_run row (run.left / 16) (run.right / 16) (x / 16) r) (sym is) ∙ run-tile run.left run.right x row (columns x x_in ∙ now_here))
      ];
  only = λ c r e.
      elim (or_cases (has_tile before c r) (is_in_run row (run.left / 16) (run.right / 16) c r) (sym (step c r) ∙ e)) [
        | inl was ↦
            elim (so_far.only c r was) [
              | inl older ↦ inl older
              | inr h ↦ inr (h.0, more-column width k spans d c lt h.1)
            ]
        | inr now ↦
            let t = tests row (run.left / 16) (run.right / 16) c r now in
            let m = in_tile-run run.left run.right c some t.1 t.2 in
            let x : ℕ = max run.left (c * 16) in
            let x_in : x < width = omega (arith, m.2) in
            inr (
              t.0 ∙ is,
              record {
                x = x;
                inside = x_in;
                col_is = m.0;
                is_here = spans_more spans k (get_or spans k d) d (pos x) lt refl ∙ second_of (in_first spans k x) (in_span (get_or spans k d) (pos x)) (sym (columns x x_in) ∙ m.1);
              },
            )
      ];
}

pub tiles-none : (width y k : ℕ) (spans : List Span) (d : Span) (old before : List ℕ) → k < length spans → ((u : ℕ) → u < width → false ≡ in_span (get_or spans k d) (pos u)) → AddsTiles width y (in_first spans k) old before
    → AddsTiles width y (in_first spans (k + 1)) old before
tiles-none width y k spans d old before lt columns so_far = record {
  kept = so_far.kept;
  all = λ x x_in e.
      elim (or_cases (in_first spans k x) (in_span (get_or spans k d) (pos x)) (sym (spans_more spans k (get_or spans k d) d (pos x) lt refl) ∙ e)) [
        | inl before_here ↦ so_far.all x x_in before_here
        | inr now_here ↦ absurd (cc (columns x x_in ∙ now_here))
      ];
  only = λ c r e.
      elim (so_far.only c r e) [
        | inl older ↦ inl older
        | inr h ↦ inr (h.0, more-column width k spans d c lt h.1)
      ];
}

pub tiles-end : (width y k : ℕ) (spans : List Span) (old new : List ℕ) → length spans ≤ k → AddsTiles width y (in_first spans k) old new → AddsTiles width y (λ u. in_spans spans (pos u)) old new
tiles-end width y k spans old new le so_far =
    let same : (u : ℕ) → in_first spans k u ≡ in_spans spans (pos u) = λ u. ap (λ (ss : List Span). in_spans ss (pos u)) (take_all k spans le) in
    record {
      kept = so_far.kept;
      all = λ x x_in e. so_far.all x x_in (same x ∙ e);
      only = λ c r e.
          elim (so_far.only c r e) [
            | inl older ↦ inl older
            | inr h ↦ inr (h.0, record { x = h.1.x; inside = h.1.inside; col_is = h.1.col_is; is_here = sym (same h.1.x) ∙ h.1.is_here })
          ];
    }
