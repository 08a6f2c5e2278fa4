-- Texts that are drawn cell by cell: what is left to draw makes the whole.
use Rattle.std.proofs.Common.{◌≡◌, ℕ, ◌+◌, ◌*◌, ◌<◌, ◌≤◌, Bool, ℤ, pos, ◌+ℤ◌, ◌-ℤ◌, ◌≤ℤ◌, ◌<ℤ◌, List, [], ◌∷◌, length, get_or, drop, refl, sym, ap, ◌∙◌, add-one, drop-cons, w32, to_z, of_z, arith}
use Rattle.std.proofs.lemmas.Int.{ints, to_z-of_z}
use mir.Val.{SFits}
use Rattle.std.proofs.lemmas.List.{drop_all}
use Rattle.gfx_base.specs.Range.{IsNear}
use Rattle.frame.specs.Canvases.{Canvas}
use Rattle.glyph_font.specs.Fonts.{Font, width_of_code}
use Rattle.paint_ops.specs.declared.strip.Strip.{Strip}
use Rattle.paint_ops.specs.Operations.{is_in_text, on_points}
use Rattle.paint_ops.specs.Rows.{row_written}
use Rattle.paint_ops.specs.Strips.{FitsIn, in_strip}
use Rattle.paint_ops.proofs.CanvasLemmas.{row_written-no_tests, row_written-either, fits-row_written}
use Rattle.paint_ops.proofs.StripLemmas.{in-parts}
use Rattle.paint_ops.proofs.CellLemmas.{text-apart, text-left, text-step, text-nothing}

-- whether a text whose cells begin at x has a set point in a column
abbrev pub text_at : Font → List ℕ → ℕ → ℤ → ℕ → Bool
text_at font text row x u = is_in_text font text (pos u -ℤ x) (pos row)

-- a canvas with a text drawn in a strip
abbrev pub text_written : Canvas → Strip → Font → List ℕ → ℕ → ℕ → ℤ → Canvas
text_written f s font text row colour x = row_written f s.y (in_strip s) (λ u. on_points (text_at font text row x u) colour)

-- The first k cells of a text are drawn: the others, from `left` on, make the whole.
pub record IsBegun (before now : Canvas) (s : Strip) (font : Font) (text : List ℕ) (row colour k : ℕ) (x left : ℤ) : Type 0 where
  pub fits : FitsIn now s
  pub low : x ≤ℤ left
  pub high : left ≤ℤ (x +ℤ pos (255 * k))
  pub rest : text_written now s font (drop k text) row colour left ≡ text_written before s font text row colour x

pub begun-start : (f : Canvas) (s : Strip) (font : Font) (text : List ℕ) (row colour : ℕ) (x : ℤ) → FitsIn f s → IsBegun f f s font text row colour 0 x x
begun-start f s font text row colour x fits = record { fits = fits; low = omega (arith, ints); high = omega (arith, ints); rest = refl }

-- all cells are drawn
pub begun-end : (before now : Canvas) (s : Strip) (font : Font) (text : List ℕ) (row colour k : ℕ) (x left : ℤ) → IsBegun before now s font text row colour k x left → length text ≤ k
    → now ≡ text_written before s font text row colour x
begun-end before now s font text row colour k x left b all =
    sym (row_written-no_tests now s.y colour (in_strip s) (text_at font [] row left) b.fits.shape b.fits.count (λ u _ _. text-nothing font (pos u -ℤ left) row))
    ∙ ap (λ (codes : List ℕ). text_written now s font codes row colour left) (sym (drop_all k text all)) ∙ b.rest

-- the next cells lie to the right of the strip
pub begun-stop : (before now : Canvas) (s : Strip) (font : Font) (text : List ℕ) (row colour k : ℕ) (x left : ℤ) → IsBegun before now s font text row colour k x left → pos s.right <ℤ left
    → now ≡ text_written before s font text row colour x
begun-stop before now s font text row colour k x left b right =
    sym (row_written-no_tests now s.y colour (in_strip s) (text_at font (drop k text) row left) b.fits.shape b.fits.count (λ u _ here.
    let w = in-parts s.left s.right u here in
    text-left font (drop k text) (pos u -ℤ left) (pos row) (omega (arith, ints))))
    ∙ b.rest

-- one cell more
pub begun-step : (before now then : Canvas) (s : Strip) (font : Font) (text : List ℕ) (row colour k code : ℕ) (x left next : ℤ) → IsBegun before now s font text row colour k x left
    → k < length text → code ≡ get_or text k 0 → then ≡ text_written now s font (code ∷ []) row colour left → next ≡ left +ℤ pos (width_of_code font code) → width_of_code font code ≤ 255
    → IsBegun before then s font text row colour (k + 1) x next
begun-step before now then s font text row colour k code x left next b more is written step narrow =
    let cut : drop k text ≡ code ∷ drop (k + 1) text = rw (is, add-one) (drop-cons text k 0 more) in
    record {
      fits = rw written (fits-row_written now s.y (in_strip s) _ s b.fits);
      low = let l = b.low in omega (arith, ints);
      high = let h = b.high in omega (arith, ints);
      rest =
          rw written (row_written-either now s.y colour (in_strip s) (text_at font (code ∷ []) row left) (text_at font (drop (k + 1) text) row next) (text_at font (code ∷ drop (k + 1) text) row left) b.fits.shape (λ u _ _.
          text-apart font code (drop (k + 1) text) (pos u) left next row step) (λ u _ _.
          text-step font code (drop (k + 1) text) (pos u) left next row step))
          ∙ ap (λ (codes : List ℕ). text_written now s font codes row colour left) (sym cut) ∙ b.rest;
    }

-- the code's next left end
pub next_is : (left from x : ℤ) (w k : ℕ) → from ≡ pos w → w ≤ 255 → IsNear x → x ≤ℤ left → left ≤ℤ (x +ℤ pos (255 * k)) → k ≤ 64 → to_z w32 (of_z w32 (left +ℤ to_z w32 (of_z w32 from))) ≡ left +ℤ pos w
next_is left from x w k e small near low high few =
    let f : SFits w32 from = omega (arith, ints) in
    let s : SFits w32 (left +ℤ from) = omega (arith, ints) in
    rw (to_z-of_z w32 from f, to_z-of_z w32 (left +ℤ from) s, e) refl
