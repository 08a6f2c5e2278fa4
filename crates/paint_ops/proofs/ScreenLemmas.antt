-- What operations put on their windows' points, as it is drawn on the screen.
use Rattle.std.proofs.Common.{◌≡◌, ℕ, ◌<◌, Bool, ◌&&◌, ◌||◌, ℤ, pos, ◌+ℤ◌, ◌-ℤ◌, List, length, get_or, refl, ap, ◌∙◌, arith}
use Rattle.std.specs.Ordering.{int_eq}
use Rattle.std.specs.Fmt.{signed_decimal}
use Rattle.std.proofs.lemmas.Bool.Decides.{Decides-int_eq}
use Rattle.std.proofs.lemmas.Int.{ints}
use Rattle.std.proofs.lemmas.List.{get_or_default}
use Rattle.gfx_base.specs.declared.point.Point.{Point}
use Rattle.gfx_base.specs.declared.rect.Rect.{Rect}
use Rattle.gfx_base.specs.Range.{is_within}
use Rattle.gfx_base.specs.Rects.{has, point_at}
use Rattle.gfx_base.proofs.CallerLemmas.{same_point}
use Rattle.line_ink.specs.Lines.{is_on_line}
use Rattle.bitmap.specs.Bitmaps.{Bitmap}
use Rattle.glyph_font.specs.Fonts.{Font}
use Rattle.frame.specs.Canvases.{Canvas}
use Rattle.frame.specs.Pictures.{HasShape}
use Rattle.gfx_base.specs.declared.num.Num.{Num}
use Rattle.paint_ops.specs.declared.op.Op.{Op}
use Rattle.paint_ops.specs.declared.op.Op.TheVariants as op
use Rattle.paint_ops.specs.declared.strip.Strip.{Strip}
use Rattle.paint_ops.specs.Kinds.{Assets, bitmap_at, font_at, string_at}
use Rattle.paint_ops.specs.Operations.{Inputs, number_of, rect_of, point_of_numbers, seen_from, is_on_edge, on_points, bitmap_colour, text_colour, colour_of_operation}
use Rattle.paint_ops.specs.Rows.{row_written, colour_on_screen}
use Rattle.paint_ops.specs.Strips.{in_strip}
use Rattle.paint_ops.specs.Panes.{point_on_screen, rect_on_screen}
use Rattle.paint_ops.proofs.CanvasLemmas.{row_written-same_tests, row_written-same_colours}
use Rattle.paint_ops.proofs.StripLemmas.{same_test}

-- ---- shapes on the screen

is_within-screen : (o a b z : ℤ) → is_within (o +ℤ a) (o +ℤ b) z ≡ is_within a b (z -ℤ o)
unfolding is_within
is_within-screen o a b z = grind (arith, ints)

int_eq-screen : (o a z : ℤ) → int_eq z (o +ℤ a) ≡ int_eq (z -ℤ o) a
int_eq-screen o a z =
    same_test _ _
    (λ h. let e = (Decides-int_eq z (o +ℤ a)).0 h in (Decides-int_eq (z -ℤ o) a).1 (omega (arith, ints)))
    (λ h. let e = (Decides-int_eq (z -ℤ o) a).0 h in (Decides-int_eq z (o +ℤ a)).1 (omega (arith, ints)))

has-screen : (origin : Point) (r : Rect) (p : Point) → has (rect_on_screen origin r) p ≡ has r (seen_from origin p)
unfolding has
has-screen origin r p = rw (is_within-screen origin.x r.x0 r.x1 p.x, is_within-screen origin.y r.y0 r.y1 p.y) refl

same_edge : (h k a b c d e f g i : Bool) → h ≡ k → a ≡ e → b ≡ f → c ≡ g → d ≡ i → (h && ((a || b) || (c || d))) ≡ (k && ((e || f) || (g || i)))
same_edge h k a b c d e f g i p q r s t = rw (p, q, r, s, t) refl

edge-screen : (origin : Point) (r : Rect) (p : Point) → is_on_edge (rect_on_screen origin r) p ≡ is_on_edge r (seen_from origin p)
edge-screen origin r p =
    same_edge _ _ _ _ _ _ _ _ _ _ (has-screen origin r p) (int_eq-screen origin.x r.x0 p.x) (int_eq-screen origin.x r.x1 p.x) (int_eq-screen origin.y r.y0 p.y) (int_eq-screen origin.y r.y1 p.y)

seen-screen : (origin place p : Point) → seen_from (point_on_screen origin place) p ≡ seen_from place (seen_from origin p)
seen-screen origin place p = same_point _ _ _ _ (omega (arith, ints)) (omega (arith, ints))

-- an element that was read
pub element_is : {X : Type 0} (xs ys : List X) (i : ℕ) (x d : X) → xs ≡ ys → i < length ys → x ≡ get_or xs i x → x ≡ get_or ys i d
element_is {X = X} xs ys i x d same lt is = is ∙ ap (λ (zs : List X). get_or zs i x) same ∙ get_or_default ys i x d lt

-- ---- operations

module _ (assets : Assets) (inputs : Inputs) (o : Op) (origin : Point) (f now : Canvas) (s : Strip) (shape : HasShape f.picture) where
  -- the operation's colours are drawn in the strip
  abbrev pub IsPut : Type 0
  IsPut = now ≡ row_written f s.y (in_strip s) (λ u. colour_on_screen assets inputs o origin u s.y)

  abbrev pub AreTests : (ℕ → Bool) → ℕ → Type 0
  AreTests here colour = now ≡ row_written f s.y (in_strip s) (λ u. on_points (here u) colour)

  pub put-fill : (x0 y0 x1 y1 : Num) (colour : ℕ) (r : Rect) → o ≡ op.Fill x0 y0 x1 y1 colour → r ≡ rect_on_screen origin (rect_of inputs x0 y0 x1 y1) → AreTests (λ u. has r (point_at (pos u) (pos s.y))) colour → IsPut
  unfolding colour_of_operation
  put-fill x0 y0 x1 y1 colour r is rect written =
      written ∙ rw (is, rect) (row_written-same_tests f s.y colour (in_strip s) _ _ shape (λ u _ _. has-screen origin (rect_of inputs x0 y0 x1 y1) (point_at (pos u) (pos s.y))))

  pub put-frame : (x0 y0 x1 y1 : Num) (colour : ℕ) (r : Rect) → o ≡ op.Frame x0 y0 x1 y1 colour → r ≡ rect_on_screen origin (rect_of inputs x0 y0 x1 y1) → AreTests (λ u. is_on_edge r (point_at (pos u) (pos s.y))) colour → IsPut
  unfolding colour_of_operation
  put-frame x0 y0 x1 y1 colour r is rect written =
      written ∙ rw (is, rect) (row_written-same_tests f s.y colour (in_strip s) _ _ shape (λ u _ _. edge-screen origin (rect_of inputs x0 y0 x1 y1) (point_at (pos u) (pos s.y))))

  pub put-hline : (x0 x1 y : Num) (colour : ℕ) (r : Rect) → o ≡ op.HLine x0 x1 y colour → r ≡ rect_on_screen origin (rect_of inputs x0 y x1 y) → AreTests (λ u. has r (point_at (pos u) (pos s.y))) colour → IsPut
  unfolding colour_of_operation
  put-hline x0 x1 y colour r is rect written =
      written ∙ rw (is, rect) (row_written-same_tests f s.y colour (in_strip s) _ _ shape (λ u _ _. has-screen origin (rect_of inputs x0 y x1 y) (point_at (pos u) (pos s.y))))

  pub put-vline : (x y0 y1 : Num) (colour : ℕ) (r : Rect) → o ≡ op.VLine x y0 y1 colour → r ≡ rect_on_screen origin (rect_of inputs x y0 x y1) → AreTests (λ u. has r (point_at (pos u) (pos s.y))) colour → IsPut
  unfolding colour_of_operation
  put-vline x y0 y1 colour r is rect written =
      written ∙ rw (is, rect) (row_written-same_tests f s.y colour (in_strip s) _ _ shape (λ u _ _. has-screen origin (rect_of inputs x y0 x y1) (point_at (pos u) (pos s.y))))

  pub put-line : (x0 y0 x1 y1 : Num) (colour : ℕ) (a b : Point) → o ≡ op.Line x0 y0 x1 y1 colour → a ≡ point_of_numbers inputs x0 y0 → b ≡ point_of_numbers inputs x1 y1 → AreTests (λ u. is_on_line a b (seen_from origin (point_at (pos u) (pos s.y)))) colour → IsPut
  unfolding colour_of_operation
  put-line x0 y0 x1 y1 colour a b is first last written = written ∙ rw (is, first, last) refl

  pub put-bitmap : (bitmap : ℕ) (x y : Num) (b : Bitmap) (corner : Point) → o ≡ op.Bitmap bitmap x y → corner ≡ point_on_screen origin (point_of_numbers inputs x y) → b ≡ bitmap_at assets bitmap
      → now ≡ row_written f s.y (in_strip s) (λ u. bitmap_colour b (pos u -ℤ corner.x) (pos s.y -ℤ corner.y)) → IsPut
  unfolding colour_of_operation
  put-bitmap bitmap x y b corner is at same written =
      written ∙ rw (is, at, same) (row_written-same_colours f s.y (in_strip s) _ _ shape (λ u _ _. ap (λ (q : Point). bitmap_colour (bitmap_at assets bitmap) q.x q.y) (seen-screen origin (point_of_numbers inputs x y) (point_at (pos u) (pos s.y)))))

  pub put-text : (font : ℕ) (x y : Num) (colour string : ℕ) (face : Font) (text : List ℕ) (corner : Point) → o ≡ op.Text font x y colour string → corner ≡ point_on_screen origin (point_of_numbers inputs x y) → face ≡ font_at assets font → text ≡ string_at assets string
      → now ≡ row_written f s.y (in_strip s) (λ u. text_colour face text (seen_from corner (point_at (pos u) (pos s.y))) colour) → IsPut
  unfolding colour_of_operation
  put-text font x y colour string face text corner is at same spelled written =
      written ∙ rw (is, at, same, spelled) (row_written-same_colours f s.y (in_strip s) _ _ shape (λ u _ _. ap (λ (q : Point). text_colour (font_at assets font) (string_at assets string) q colour) (seen-screen origin (point_of_numbers inputs x y) (point_at (pos u) (pos s.y)))))

  pub put-number : (font : ℕ) (x y : Num) (colour : ℕ) (num : Num) (face : Font) (z : ℤ) (corner : Point) → o ≡ op.Number font x y colour num → corner ≡ point_on_screen origin (point_of_numbers inputs x y) → face ≡ font_at assets font → z ≡ number_of inputs num
      → now ≡ row_written f s.y (in_strip s) (λ u. text_colour face (signed_decimal z) (seen_from corner (point_at (pos u) (pos s.y))) colour) → IsPut
  unfolding colour_of_operation
  put-number font x y colour num face z corner is at same value written =
      written ∙ rw (is, at, same, value) (row_written-same_colours f s.y (in_strip s) _ _ shape (λ u _ _. ap (λ (q : Point). text_colour (font_at assets font) (signed_decimal (number_of inputs num)) q colour) (seen-screen origin (point_of_numbers inputs x y) (point_at (pos u) (pos s.y)))))
