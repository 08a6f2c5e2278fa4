-- Where shapes have points: in their bounds.
use Rattle.std.proofs.Common.{◌≡◌, ℕ, ◌+◌, ◌-◌, ◌*◌, ◌<◌, ◌≤◌, Bool, true, false, ◌==◌, ℤ, pos, negsuc, ◌-ℤ◌, ◌≤ℤ◌, ◌<ℤ◌, List, [], ◌∷◌, length, get_or, refl, sym, ap, ◌∙◌, inl, inr, w16, w32, SFits, to_z, of_z, arith}
use Rattle.std.specs.Prelude.{is_some}
use Rattle.std.specs.List.{AllByRecursion}
use Rattle.std.proofs.lemmas.Bool.{cases_Bool, cases_lt, and_parts, and_from, lt-ltb, le-ltb, false_from_ne_true}
use Rattle.std.proofs.lemmas.Int.{ints, to_z-of_z}
use Rattle.std.proofs.lemmas.List.{get_or_past}
use Rattle.std.proofs.lemmas.List.Sums.{sum-map, sum_by-cons}
use Rattle.gfx_base.specs.declared.point.Point.{Point}
use Rattle.gfx_base.specs.declared.rect.Rect.{Rect}
use Rattle.gfx_base.specs.Range.{IsNear}
use Rattle.gfx_base.specs.Rects.{has, point_at}
use Rattle.glyph_font.specs.Fonts.{Glyph, Font, IsGlyph, IsFont, glyph_in, has_point, width_of_glyph, width_of_code, width_of_text}
use Rattle.bitmap.specs.Bitmaps.{Bitmap}
use Rattle.paint_ops.specs.Operations.{seen_from, is_in_cells, is_in_text, bitmap_colour}
use Rattle.paint_ops.proofs.CallerLemmas.{within-parts, within-from}
use Rattle.strokes.specs.Strokes.{cells_of}
use Rattle.strokes.specs.Parts.{points_of_image}

-- ---- rectangles

-- the point lies between the sides
pub record LiesBetween (r : Rect) (x y : ℤ) : Type 0 where
  pub left : r.x0 ≤ℤ x
  pub right : x ≤ℤ r.x1
  pub top : r.y0 ≤ℤ y
  pub bottom : y ≤ℤ r.y1

pub has-sides : (r : Rect) (x y : ℤ) → has r (point_at x y) ≡ true → LiesBetween r x y
unfolding has
has-sides r x y h =
    let both = and_parts _ _ h in
    let xs = within-parts r.x0 r.x1 x both.0 in
    let ys = within-parts r.y0 r.y1 y both.1 in
    record { left = xs.0; right = xs.1; top = ys.0; bottom = ys.1 }

pub has-between : (r : Rect) (x y : ℤ) → r.x0 ≤ℤ x → x ≤ℤ r.x1 → r.y0 ≤ℤ y → y ≤ℤ r.y1 → has r (point_at x y) ≡ true
unfolding has
has-between r x y a b c d = and_from _ _ (within-from r.x0 r.x1 x a b) (within-from r.y0 r.y1 y c d)

-- ---- texts

narrow_glyph : (height : ℕ) (glyphs : List Glyph) (code : ℕ) → AllByRecursion (IsGlyph height) glyphs → width_of_glyph (glyph_in glyphs code) ≤ 32
narrow_glyph height [] code all = omega arith
narrow_glyph height (g ∷ glyphs) code all =
    elim (cases_Bool (g.code == code)) [
      | inl e ↦ rw e all.0.not_too_wide
      | inr e ↦ rw e (narrow_glyph height glyphs code all.1)
    ]

text_step : (font : Font) (code : ℕ) (codes : List ℕ) → width_of_text font (code ∷ codes) ≡ width_of_code font code + width_of_text font codes
text_step font code codes = sum-map (width_of_code font) (code ∷ codes) ∙ sum_by-cons (width_of_code font) code codes ∙ ap (λ (n : ℕ). width_of_code font code + n) (sym (sum-map (width_of_code font) codes))

-- a text is at most 32 points wide for each of its codes
pub narrow_text : (font : Font) (text : List ℕ) → IsFont font → width_of_text font text ≤ 32 * length text
narrow_text font [] is = omega arith
narrow_text font (code ∷ codes) is =
    let first = narrow_glyph font.height font.glyphs code is.glyphs in
    let rest = narrow_text font codes is in
    omega (arith, first, rest, text_step font code codes)

row_below : (rows : List (List Bool)) (x y : ℕ) → length rows ≤ y → get_or (get_or rows y []) x false ≡ false
row_below rows x y h = ap (λ (row : List Bool). get_or row x false) (get_or_past rows y [] h)

glyph_below : (height : ℕ) (glyphs : List Glyph) (code x y : ℕ) → AllByRecursion (IsGlyph height) glyphs → height ≤ y → has_point (glyph_in glyphs code) x y ≡ false
glyph_below height [] code x y all h = refl
glyph_below height (g ∷ glyphs) code x y all h =
    elim (cases_Bool (g.code == code)) [
      | inl e ↦ rw e (row_below g.rows x y (omega (arith, all.0.high)))
      | inr e ↦ rw e (glyph_below height glyphs code x y all.1 h)
    ]

-- a text's set points lie in its cells
cells_inside : (font : Font) (text : List ℕ) (x y : ℕ) → IsFont font → is_in_cells font text x y ≡ true → (x < width_of_text font text) × (y < font.height)
cells_inside font [] x y is h = absurd cc
cells_inside font (code ∷ codes) x y is h =
    let w : ℕ = width_of_code font code in
    elim (cases_lt x w) [
      | inl lt ↦
          let here : has_point (glyph_in font.glyphs code) x y ≡ true = rw (lt-ltb x w lt) at h in (
            omega (arith, lt, text_step font code codes),
            elim (cases_lt y font.height) [
              | inl high ↦ high
              | inr low ↦ absurd (cc (sym here ∙ glyph_below font.height font.glyphs code x y is.glyphs low))
            ],
          )
      | inr le ↦
          let rest = cells_inside font codes (x - w) y is (rw (le-ltb x w le) at h) in
          (omega (arith, le, rest.0, text_step font code codes), rest.1)
    ]

text_within : (font : Font) (text : List ℕ) (x y : ℤ) → IsFont font → is_in_text font text x y ≡ true → ((pos 0 ≤ℤ x) × (x <ℤ pos (width_of_text font text))) × ((pos 0 ≤ℤ y) × (y <ℤ pos font.height))
text_within font text (pos x) (pos y) is h =
    let inside = cells_inside font text x y is h in
    ((omega (arith, ints), omega (arith, ints, inside.0)), (omega (arith, ints), omega (arith, ints, inside.1)))
text_within font text (pos x) (negsuc y) is h = absurd cc
text_within font text (negsuc x) y is h = absurd cc

pub text-cells : (font : Font) (text : List ℕ) (x y : ℤ) (p : Point) → IsFont font → is_in_text font text (seen_from (point_at x y) p).x (seen_from (point_at x y) p).y ≡ true → has (cells_of font text x y) p ≡ true
text-cells font text x y p is h =
    let within = text_within font text (p.x -ℤ x) (p.y -ℤ y) is h in
    has-between (cells_of font text x y) p.x p.y (omega (arith, ints, within.0)) (omega (arith, ints, within.0)) (omega (arith, ints, within.1)) (omega (arith, ints, within.1))

-- ---- bitmaps

image_within : (b : Bitmap) (x y : ℤ) → is_some (bitmap_colour b x y) ≡ true → ((pos 0 ≤ℤ x) × (x <ℤ pos b.width)) × ((pos 0 ≤ℤ y) × (y <ℤ pos b.height))
image_within b (pos x) (pos y) h =
    elim (cases_lt x b.width) [
      | inl wide ↦ elim (cases_lt y b.height) [
        | inl high ↦ ((omega (arith, ints), omega (arith, ints, wide)), (omega (arith, ints), omega (arith, ints, high)))
        | inr low ↦ absurd (cc (rw (lt-ltb x b.width wide, le-ltb y b.height low) at h))
      ]
      | inr right ↦ absurd (cc (rw (le-ltb x b.width right) at h))
    ]
image_within b (pos x) (negsuc y) h = absurd cc
image_within b (negsuc x) y h = absurd cc

pub image-points : (b : Bitmap) (x y : ℤ) (p : Point) → is_some (bitmap_colour b (seen_from (point_at x y) p).x (seen_from (point_at x y) p).y) ≡ true → has (points_of_image b x y) p ≡ true
image-points b x y p h =
    let within = image_within b (p.x -ℤ x) (p.y -ℤ y) h in
    has-between (points_of_image b x y) p.x p.y (omega (arith, ints, within.0)) (omega (arith, ints, within.0)) (omega (arith, ints, within.1)) (omega (arith, ints, within.1))

-- below its cells a text has no set point
pub text-off : (font : Font) (text : List ℕ) (x y : ℤ) → IsFont font → pos font.height ≤ℤ y → false ≡ is_in_text font text x y
text-off font text x y is low =
    sym (false_from_ne_true (is_in_text font text x y) (λ h. let within = (text_within font text x y is h).1 in omega (arith, ints, within.1, low)))

-- ---- the code's numbers

-- a coordinate as it is seen from another
pub difference_is : (z from x : ℤ) → IsNear z → from ≡ x → SFits w16 x → to_z w32 (of_z w32 (to_z w32 (of_z w32 z) -ℤ to_z w32 (of_z w32 from))) ≡ z -ℤ x
difference_is z from x near e fits =
    let f : SFits w32 z = omega (arith, ints) in
    let g : SFits w32 from = omega (arith, ints) in
    let d : SFits w32 (z -ℤ from) = omega (arith, ints) in
    rw (to_z-of_z w32 z f, to_z-of_z w32 from g, to_z-of_z w32 (z -ℤ from) d, e) refl
