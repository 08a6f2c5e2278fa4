-- Cells of texts and points of bitmaps, column by column.
use Rattle.std.proofs.Common.{◌≡◌, ℕ, ◌-◌, ◌<◌, ◌≤◌, Bool, true, false, ◌||◌, ◌==◌, nat_lt, ℤ, pos, negsuc, ◌+ℤ◌, ◌-ℤ◌, ◌≤ℤ◌, ◌<ℤ◌, inl, inr, List, [], ◌∷◌, length, get_or, Some, None, refl, sym, ap, ◌∙◌, arith}
use Rattle.std.proofs.lemmas.Bool.{cases_Bool, cases_lt, and_right, lt-ltb, le-ltb, false≢true}
use Rattle.std.proofs.lemmas.Int.{ints}
use Rattle.std.specs.List.{AllByRecursion}
use Rattle.std.proofs.lemmas.List.{get_or_past}
use Rattle.glyph_font.specs.Fonts.{Glyph, Font, IsGlyph, IsFont, glyph_in, has_point, width_of_code, is_set}
use Rattle.paint_ops.specs.Operations.{is_in_cells, is_in_text, on_points, bitmap_colour}
use Rattle.gfx_base.specs.Range.{is_within}
use Rattle.bitmap.specs.Bitmaps.{Bitmap, colour_at}
use Rattle.paint_ops.proofs.StripLemmas.{within-outside}

-- ---- one cell

-- left of it
pub text-left : (font : Font) (text : List ℕ) (z y : ℤ) → z <ℤ pos 0 → is_in_text font text z y ≡ false
text-left font text (pos x) y h = absurd (omega (arith, ints))
text-left font text (negsuc x) y h = refl

-- right of it
cell_right : (font : Font) (code x y : ℕ) → width_of_code font code ≤ x → is_in_cells font (code ∷ []) x y ≡ false
cell_right font code x y h = rw (le-ltb x (width_of_code font code) h) refl

pub cell-right : (font : Font) (code : ℕ) (z : ℤ) (y : ℕ) → pos (width_of_code font code) ≤ℤ z → is_in_text font (code ∷ []) z (pos y) ≡ false
cell-right font code (pos x) y h = cell_right font code x y (omega (arith, ints))
cell-right font code (negsuc x) y h = absurd (omega (arith, ints))

-- in it
pub cell-inside : (font : Font) (code : ℕ) (z : ℤ) (x y : ℕ) → z ≡ pos x → x < width_of_code font code → is_set font code x y ≡ is_in_text font (code ∷ []) z (pos y)
cell-inside font code z x y e h = rw (e, lt-ltb x (width_of_code font code) h) refl

-- ---- a cell and the ones after it

cells_next : (font : Font) (code : ℕ) (codes : List ℕ) (x y : ℕ) → width_of_code font code ≤ x → is_in_cells font (code ∷ codes) x y ≡ is_in_cells font codes (x - width_of_code font code) y
cells_next font code codes x y h = rw (le-ltb x (width_of_code font code) h) refl

cells_first : (font : Font) (code : ℕ) (codes : List ℕ) (x y : ℕ) → x < width_of_code font code → is_in_cells font (code ∷ codes) x y ≡ is_in_cells font (code ∷ []) x y
cells_first font code codes x y h = rw (lt-ltb x (width_of_code font code) h) refl

after_first : (font : Font) (codes : List ℕ) (x w y : ℕ) (z : ℤ) → z ≡ pos x -ℤ pos w → w ≤ x → is_in_text font codes z (pos y) ≡ is_in_cells font codes (x - w) y
after_first font codes x w y z e h =
    let s : z ≡ pos (x - w) = omega (arith, ints) in
    rw s refl

text_step : (font : Font) (code : ℕ) (codes : List ℕ) (y : ℕ) (z : ℤ) → (is_in_text font codes (z -ℤ pos (width_of_code font code)) (pos y) || is_in_text font (code ∷ []) z (pos y)) ≡ is_in_text font (code ∷ codes) z (pos y)
text_step font code codes y (negsuc x) = rw (text-left font codes (negsuc x -ℤ pos (width_of_code font code)) (pos y) (omega (arith, ints))) refl
text_step font code codes y (pos x) =
    elim (cases_lt x (width_of_code font code)) [
      | inl lt ↦ rw (text-left font codes (pos x -ℤ pos (width_of_code font code)) (pos y) (omega (arith, ints)), cells_first font code codes x y lt) refl
      | inr le ↦ rw (after_first font codes x (width_of_code font code) y _ refl le, cell_right font code x y le, cells_next font code codes x y le) (or_false _)
    ]
  where
    or_false : (b : Bool) → (b || false) ≡ b
    or_false true = refl
    or_false false = refl

-- the cells of a text that begins at `at` and goes on at `next`
pub text-step : (font : Font) (code : ℕ) (codes : List ℕ) (u at next : ℤ) (y : ℕ) → next ≡ at +ℤ pos (width_of_code font code)
    → (is_in_text font codes (u -ℤ next) (pos y) || is_in_text font (code ∷ []) (u -ℤ at) (pos y)) ≡ is_in_text font (code ∷ codes) (u -ℤ at) (pos y)
text-step font code codes u at next y e =
    let s : u -ℤ next ≡ (u -ℤ at) -ℤ pos (width_of_code font code) = omega (arith, ints) in
    rw s (text_step font code codes y (u -ℤ at))

text_apart : (font : Font) (code : ℕ) (codes : List ℕ) (y : ℕ) (z : ℤ) → is_in_text font (code ∷ []) z (pos y) ≡ true → is_in_text font codes (z -ℤ pos (width_of_code font code)) (pos y) ≡ false
text_apart font code codes y (negsuc x) set = absurd cc
text_apart font code codes y (pos x) set =
    elim (cases_lt x (width_of_code font code)) [
      | inl lt ↦ text-left font codes (pos x -ℤ pos (width_of_code font code)) (pos y) (omega (arith, ints))
      | inr le ↦ absurd (false≢true (sym (cell_right font code x y le) ∙ set))
    ]

-- where the first cell has a set point the next ones have none
pub text-apart : (font : Font) (code : ℕ) (codes : List ℕ) (u at next : ℤ) (y : ℕ) → next ≡ at +ℤ pos (width_of_code font code) → is_in_text font (code ∷ []) (u -ℤ at) (pos y) ≡ true → is_in_text font codes (u -ℤ next) (pos y) ≡ false
text-apart font code codes u at next y e set =
    let s : u -ℤ next ≡ (u -ℤ at) -ℤ pos (width_of_code font code) = omega (arith, ints) in
    rw s (text_apart font code codes y (u -ℤ at) set)

-- no cell is left
pub text-nothing : (font : Font) (z : ℤ) (y : ℕ) → is_in_text font [] z (pos y) ≡ false
text-nothing font (pos x) y = refl
text-nothing font (negsuc x) y = refl

-- above a text
pub text-above : (font : Font) (text : List ℕ) (z y : ℤ) → y <ℤ pos 0 → is_in_text font text z y ≡ false
text-above font text (pos x) (pos y) h = absurd (omega (arith, ints))
text-above font text (pos x) (negsuc y) h = refl
text-above font text (negsuc x) y h = refl

-- ---- what the code asks

pub cell-set : (font : Font) (code : ℕ) (z : ℤ) (x y c : ℕ) (b : Bool) → z ≡ pos x → x < width_of_code font code → b ≡ is_set font code x y → b ≡ true → on_points (is_in_text font (code ∷ []) z (pos y)) c ≡ Some c
cell-set font code z x y c b e h is set =
    let t : is_in_text font (code ∷ []) z (pos y) ≡ true = sym (cell-inside font code z x y e h) ∙ sym is ∙ set in
    rw t refl

pub cell-clear : (font : Font) (code : ℕ) (z : ℤ) (x y c : ℕ) (b : Bool) → z ≡ pos x → x < width_of_code font code → b ≡ is_set font code x y → b ≡ false → on_points (is_in_text font (code ∷ []) z (pos y)) c ≡ None
cell-clear font code z x y c b e h is clear =
    let t : is_in_text font (code ∷ []) z (pos y) ≡ false = sym (cell-inside font code z x y e h) ∙ sym is ∙ clear in
    rw t refl

-- outside a cell
pub cell-outside : (font : Font) (code : ℕ) (u x last : ℤ) (y : ℕ) → last ≡ x +ℤ pos (width_of_code font code) -ℤ pos 1 → is_within x last u ≡ false → is_in_text font (code ∷ []) (u -ℤ x) (pos y) ≡ false
cell-outside font code u x last y end outside =
    elim (within-outside x last u outside) [
      | inl left ↦ text-left font (code ∷ []) (u -ℤ x) (pos y) (omega (arith, ints))
      | inr right ↦ cell-right font code (u -ℤ x) y (omega (arith, ints))
    ]

-- ---- bitmaps

pub bitmap-inside : (b : Bitmap) (z : ℤ) (x y : ℕ) → z ≡ pos x → x < b.width → y < b.height → bitmap_colour b z (pos y) ≡ colour_at b x y
bitmap-inside b z x y e wide high = rw (e, lt-ltb x b.width wide, lt-ltb y b.height high) refl

bitmap_off : (b : Bitmap) (x y : ℕ) → b.width ≤ x → bitmap_colour b (pos x) (pos y) ≡ None
bitmap_off b x y h = rw (le-ltb x b.width h) refl

pub bitmap-right : (b : Bitmap) (z : ℤ) (y : ℕ) → pos b.width ≤ℤ z → bitmap_colour b z (pos y) ≡ None
bitmap-right b (pos x) y h = bitmap_off b x y (omega (arith, ints))
bitmap-right b (negsuc x) y h = refl

pub bitmap-left : (b : Bitmap) (z y : ℤ) → z <ℤ pos 0 → bitmap_colour b z y ≡ None
bitmap-left b (pos x) y h = absurd (omega (arith, ints))
bitmap-left b (negsuc x) y h = refl

pub bitmap-above : (b : Bitmap) (z y : ℤ) → y <ℤ pos 0 → bitmap_colour b z y ≡ None
bitmap-above b (pos x) (pos y) h = absurd (omega (arith, ints))
bitmap-above b (pos x) (negsuc y) h = refl
bitmap-above b (negsuc x) y h = refl

below : (b : Bitmap) (x y : ℕ) → b.height ≤ y → bitmap_colour b (pos x) (pos y) ≡ None
below b x y h = rw (le-ltb y b.height h, and_right (nat_lt x b.width) false refl) refl

pub bitmap-below : (b : Bitmap) (z y : ℤ) → pos b.height ≤ℤ y → bitmap_colour b z y ≡ None
bitmap-below b (pos x) (pos y) h = below b x y (omega (arith, ints))
bitmap-below b (pos x) (negsuc y) h = refl
bitmap-below b (negsuc x) y h = refl

pub bitmap-outside : (b : Bitmap) (u x last : ℤ) (y : ℕ) → last ≡ x +ℤ pos b.width -ℤ pos 1 → is_within x last u ≡ false → bitmap_colour b (u -ℤ x) (pos y) ≡ None
bitmap-outside b u x last y end outside =
    elim (within-outside x last u outside) [
      | inl left ↦ bitmap-left b (u -ℤ x) (pos y) (omega (arith, ints))
      | inr right ↦ bitmap-right b (u -ℤ x) y (omega (arith, ints))
    ]

-- ---- below a text

row_below : (rows : List (List Bool)) (x y : ℕ) → length rows ≤ y → get_or (get_or rows y []) x false ≡ false
row_below rows x y h = ap (λ (row : List Bool). get_or row x false) (get_or_past rows y [] h)

glyph_below : (height : ℕ) (glyphs : List Glyph) (code x y : ℕ) → AllByRecursion (IsGlyph height) glyphs → height ≤ y → has_point (glyph_in glyphs code) x y ≡ false
glyph_below height [] code x y all h = refl
glyph_below height (g ∷ glyphs) code x y all h =
    elim (cases_Bool (g.code == code)) [
      | inl e ↦ rw e (row_below g.rows x y (omega (arith, all.0.high)))
      | inr e ↦ rw e (glyph_below height glyphs code x y all.1 h)
    ]

cells_below : (font : Font) (text : List ℕ) (x y : ℕ) → IsFont font → font.height ≤ y → is_in_cells font text x y ≡ false
cells_below font [] x y is h = refl
cells_below font (code ∷ codes) x y is h =
    elim (cases_lt x (width_of_code font code)) [
      | inl lt ↦ rw (lt-ltb x (width_of_code font code) lt) (glyph_below font.height font.glyphs code x y is.glyphs h)
      | inr le ↦ rw (le-ltb x (width_of_code font code) le) (cells_below font codes (x - width_of_code font code) y is h)
    ]

pub text-below : (font : Font) (text : List ℕ) (z y : ℤ) → IsFont font → pos font.height ≤ℤ y → is_in_text font text z y ≡ false
text-below font text (pos x) (pos y) is h = cells_below font text x y is (omega (arith, ints))
text-below font text (pos x) (negsuc y) is h = refl
text-below font text (negsuc x) y is h = refl
