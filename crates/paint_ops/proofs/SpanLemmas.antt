-- Spans that are drawn one after the other.
use Rattle.std.proofs.Common.{◌≡◌, ℕ, ◌+◌, ◌%◌, ◌^◌, ◌<◌, ◌≤◌, Bool, true, false, ◌&&◌, ◌||◌, ℤ, pos, List, [], ◌∷◌, length, get_or, take, Option, refl, sym, ap, ◌∙◌, add-zero}
use Rattle.std.specs.List.{sum_by}
use Rattle.std.specs.Prelude.{is_some}
use Rattle.std.proofs.lemmas.List.{take_more, take_all}
use Rattle.std.proofs.lemmas.List.Folds.{list_any-append}
use Rattle.std.proofs.lemmas.List.Sums.{sum_by_push}
use Rattle.frame.specs.Canvases.{Canvas}
use Rattle.frame.specs.Pictures.{Picture, HasShape}
use Rattle.frame.proofs.CallerLemmas.{count_below-same, count_below-none, no_more, some_more}
use Rattle.region.specs.declared.span.Span.{Span}
use Rattle.region.specs.Spans.{in_span, in_spans}
use Rattle.paint_ops.specs.declared.strip.Strip.{Strip}
use Rattle.paint_ops.specs.Rows.{is_inked, ink_count, row_drawn, row_written}
use Rattle.paint_ops.specs.Strips.{FitsIn, in_strip}
use Rattle.paint_ops.proofs.RowLemmas.{row_drawn-nothing, row_drawn-more, row_drawn-same}
use Rattle.paint_ops.proofs.CanvasLemmas.{fits-counted}

or_false : (b : Bool) → (b || false) ≡ b
or_false true = refl
or_false false = refl

-- one span more
spans_more : (spans : List Span) (k : ℕ) (span d : Span) (z : ℤ) → k < length spans → span ≡ get_or spans k d → in_spans (take (k + 1) spans) z ≡ (in_spans (take k spans) z || in_span span z)
spans_more spans k span d z more is =
    ap (λ (xs : List Span). in_spans xs z) (take_more spans k d more)
    ∙ list_any-append (λ (x : Span). in_span x z) (take k spans) (get_or spans k d ∷ [])
    ∙ ap (λ (b : Bool). in_spans (take k spans) z || b) (or_false (in_span (get_or spans k d) z) ∙ ap (λ (x : Span). in_span x z) (sym is))

-- how many columns of a span are inked, in a row of some width
abbrev pub inked_in_span : ℕ → (ℕ → Option ℕ) → Span → ℕ
inked_in_span width colour span = ink_count width (λ u. in_span span (pos u)) colour

-- the columns of the first spans
abbrev pub in_first : List Span → ℕ → ℕ → Bool
in_first spans k u = in_spans (take k spans) (pos u)

-- an operation's points are drawn in the first k of some spans, each written once for each of them
pub record AreDrawn (before now : Canvas) (y k : ℕ) (spans : List Span) (colour : ℕ → Option ℕ) : Type 0 where
  pub picture : now.picture ≡ row_drawn before.picture y (in_first spans k) colour
  pub writes : now.writes ≡ (before.writes + sum_by (inked_in_span before.picture.width colour) (take k spans)) % 2 ^ 64

pub spans-start : (f : Canvas) (y : ℕ) (spans : List Span) (colour : ℕ → Option ℕ) → HasShape f.picture → f.writes < 2 ^ 64 → AreDrawn f f y 0 spans colour
spans-start f y spans colour shape below =
    record {
      picture = sym (row_drawn-nothing f.picture y (in_first spans 0) colour shape (λ u old _. refl));
      writes = no_more f.writes 0 below refl;
    }

spans_count : (width k : ℕ) (spans : List Span) (span d : Span) (colour : ℕ → Option ℕ) → k < length spans → span ≡ get_or spans k d
    → sum_by (inked_in_span width colour) (take (k + 1) spans) ≡ sum_by (inked_in_span width colour) (take k spans) + inked_in_span width colour span
spans_count width k spans span d colour more is =
    ap (sum_by (inked_in_span width colour)) (take_more spans k d more)
    ∙ sum_by_push (inked_in_span width colour) (take k spans) (get_or spans k d)
    ∙ ap (λ (x : Span). sum_by (inked_in_span width colour) (take k spans) + inked_in_span width colour x) (sym is)

pub spans-some : (f before now : Canvas) (y k : ℕ) (spans : List Span) (span d : Span) (strip : Strip) (colour : ℕ → ℕ → Option ℕ) → HasShape f.picture → k < length spans → span ≡ get_or spans k d
    → ((u : ℕ) → u < f.picture.width → in_strip strip u ≡ in_span span (pos u)) → AreDrawn f before y k spans (colour y) → now ≡ row_written before strip.y (in_strip strip) (colour strip.y) → strip.y ≡ y
    → AreDrawn f now y (k + 1) spans (colour y)
spans-some f before now y k spans span d strip colour shape more is columns drawn draw row =
    let p = f.picture in
    let on_y : now ≡ row_written before y (in_strip strip) (colour y) = draw ∙ ap (λ (v : ℕ). row_written before v (in_strip strip) (colour v)) row in
    let width : before.picture.width ≡ p.width = ap (λ (q : Picture). q.width) drawn.picture in
    record {
      picture =
          ap (λ (g : Canvas). g.picture) on_y
          ∙ ap (λ (q : Picture). row_drawn q y (in_strip strip) (colour y)) drawn.picture
          ∙ row_drawn-more p y (in_first spans k) (in_strip strip) (in_first spans (k + 1)) (colour y) shape (λ u u_in. spans_more spans k span d (pos u) more is ∙ ap (λ (b : Bool). in_first spans k u || b) (sym (columns u u_in)));
      writes =
          ap (λ (g : Canvas). g.writes) on_y
          ∙ ap (λ (w : ℕ). (before.writes + ink_count w (in_strip strip) (colour y)) % 2 ^ 64) width
          ∙ ap (λ (n : ℕ). (before.writes + n) % 2 ^ 64) (count_below-same (is_inked (in_strip strip) (colour y)) (is_inked (λ u. in_span span (pos u)) (colour y)) p.width (λ u u_in. ap (λ (b : Bool). b && is_some (colour y u)) (columns u u_in)))
          ∙ ap (λ (n : ℕ). (n + inked_in_span p.width (colour y) span) % 2 ^ 64) drawn.writes
          ∙ some_more f.writes (sum_by (inked_in_span p.width (colour y)) (take k spans)) (inked_in_span p.width (colour y) span) (sum_by (inked_in_span p.width (colour y)) (take (k + 1) spans)) (spans_count p.width k spans span d (colour y) more is);
    }

pub spans-none : (f before : Canvas) (y k : ℕ) (spans : List Span) (span d : Span) (colour : ℕ → Option ℕ) → HasShape f.picture → k < length spans → span ≡ get_or spans k d
    → ((u : ℕ) → u < f.picture.width → false ≡ in_span span (pos u)) → AreDrawn f before y k spans colour
    → AreDrawn f before y (k + 1) spans colour
spans-none f before y k spans span d colour shape more is columns drawn =
    let p = f.picture in
    let nothing : inked_in_span p.width colour span ≡ 0 = count_below-none (is_inked (λ u. in_span span (pos u)) colour) p.width (λ u u_in. ap (λ (b : Bool). b && is_some (colour u)) (sym (columns u u_in))) in
    let same : sum_by (inked_in_span p.width colour) (take k spans) ≡ sum_by (inked_in_span p.width colour) (take (k + 1) spans) =
    sym (spans_count p.width k spans span d colour more is ∙ ap (λ (n : ℕ). sum_by (inked_in_span p.width colour) (take k spans) + n) nothing ∙ add-zero _) in
    record {
      picture =
          drawn.picture
          ∙ row_drawn-same p y (in_first spans k) (in_first spans (k + 1)) colour colour shape (λ u old u_in.
          let e : in_first spans (k + 1) u ≡ in_first spans k u = spans_more spans k span d (pos u) more is ∙ ap (λ (b : Bool). in_first spans k u || b) (sym (columns u u_in)) ∙ or_false (in_first spans k u) in
          rw e refl);
      writes = drawn.writes ∙ ap (λ (n : ℕ). (f.writes + n) % 2 ^ 64) same;
    }

-- a strip that fits at first fits what is drawn
pub fits-drawn : (f now : Canvas) (y k : ℕ) (spans : List Span) (colour : ℕ → Option ℕ) (s : Strip) → AreDrawn f now y k spans colour → FitsIn f s → FitsIn now s
fits-drawn f now y k spans colour s drawn fits = rw (drawn.picture, drawn.writes) (fits-counted f _ y _ colour s fits)

-- all spans
pub all_spans : (f now : Canvas) (y k : ℕ) (spans : List Span) (colour : ℕ → Option ℕ) → AreDrawn f now y k spans colour → length spans ≤ k
    → (now.picture ≡ row_drawn f.picture y (λ u. in_spans spans (pos u)) colour) × (now.writes ≡ (f.writes + sum_by (inked_in_span f.picture.width colour) spans) % 2 ^ 64)
all_spans f now y k spans colour drawn all =
    let whole : take k spans ≡ spans = take_all k spans all in
    (drawn.picture ∙ ap (λ (ss : List Span). row_drawn f.picture y (λ u. in_spans ss (pos u)) colour) whole, drawn.writes ∙ ap (λ (ss : List Span). (f.writes + sum_by (inked_in_span f.picture.width colour) ss) % 2 ^ 64) whole)
