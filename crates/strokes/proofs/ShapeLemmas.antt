-- Shapes and the points that strokes put down.
use Rattle.std.proofs.Common.{◌≡◌, ℕ, ◌<◌, length, get_or, Bool, true, false, ◌&&◌, ℤ, pos, negsuc, ◌+ℤ◌, ◌-ℤ◌, Option, Some, None, List, refl, sym, ap, ◌∙◌, inl, inr, arith}
use Rattle.std.specs.Prelude.{is_some, unwrap_or, not}
use Rattle.std.proofs.lemmas.Bool.{cases_Bool, and_parts}
use Rattle.std.proofs.lemmas.Int.{ints}
use Rattle.std.proofs.lemmas.List.{get_or_default}
use Rattle.gfx_base.specs.declared.point.Point.{Point}
use Rattle.gfx_base.specs.declared.rect.Rect.{Rect}
use Rattle.gfx_base.specs.Rects.{has, point_at}
use Rattle.gfx_base.proofs.CallerLemmas.{same_rect, same_point}
use Rattle.gfx_base.specs.declared.num.Base.TheVariants.{Zero, Width, Height}
use Rattle.frame.specs.Pictures.{Picture, HasShape, changed}
use Rattle.frame.proofs.CallerLemmas.{changed-same}
use Rattle.paint_ops.specs.declared.op.Op.{Op}
use Rattle.paint_ops.specs.declared.op.Op.TheVariants as op
use Rattle.paint_ops.specs.Rows.{colour_on_screen}
use Rattle.exec_paint.specs.declared.plan.Hole.{Hole}
use Rattle.exec_paint.specs.Plans.{is_hidden}
use Rattle.glyph_font.specs.Fonts.{IsFont}
use Rattle.line_ink.specs.Lines.{is_on_line}
use Rattle.paint_ops.specs.Kinds.{Assets, font_at, bitmap_at, string_at}
use Rattle.paint_ops.specs.Operations.{Inputs, seen_from, rect_of, point_of_numbers, on_points, or_behind, colour_of_operation, is_on_edge, bitmap_colour, is_in_text}
use Rattle.context.specs.declared.context.Context.{Context}
use Rattle.strokes.specs.declared.shape.Shape.{Shape}
use Rattle.strokes.specs.declared.shape.Shape.TheVariants.{Fill, Frame, Line, Bitmap, Text}
use Rattle.strokes.specs.Strokes.{plain, no_inputs, operation_of, cells_of, colour_behind, colour_of_stroke}
use Rattle.strokes.specs.Parts.{is_free, rect_with, bounds_of}
use Rattle.strokes.proofs.InkLemmas.{has-sides, has-between, text-cells, image-points}
use Rattle.strokes.proofs.LineLemmas.{line-bounds}

-- what stands in an asset's place
pub element_is : {X : Type 0} (xs ys : List X) (i : ℕ) (x d : X) → xs ≡ ys → i < length ys → x ≡ get_or xs i x → x ≡ get_or ys i d
element_is {X = X} xs ys i x d same lt is = is ∙ ap (λ (zs : List X). get_or zs i x) same ∙ get_or_default ys i x d lt

-- ---- plain numbers

plain_is : (z : ℤ) → pos 0 +ℤ z ≡ z
plain_is z = omega (arith, ints)

-- the rectangle and the points that plain numbers make, whatever the window
pub plain_rect : (i : Inputs) (x0 y0 x1 y1 : ℤ) → rect_of i (plain x0) (plain y0) (plain x1) (plain y1) ≡ rect_with x0 y0 x1 y1
plain_rect i x0 y0 x1 y1 = same_rect _ _ _ _ _ _ _ _ (plain_is x0) (plain_is y0) (plain_is x1) (plain_is y1)

pub plain_point : (i : Inputs) (x y : ℤ) → point_of_numbers i (plain x) (plain y) ≡ point_at x y
plain_point i x y = same_point _ _ _ _ (plain_is x) (plain_is y)

-- ---- colours

pub some_points : (b : Bool) (c : ℕ) → is_some (on_points b c) ≡ b
some_points true c = refl
some_points false c = refl

pub no_behind : (o : Option ℕ) → or_behind None o ≡ o
no_behind None = refl
no_behind (Some c) = refl

either_some : (a b : Option ℕ) → is_some (or_behind a b) ≡ true → is_some b ≡ false → is_some a ≡ true
either_some a None h e = h
either_some a (Some c) h e = absurd (cc e)

-- ---- which points have a colour

pub fill_is : (assets : Assets) (c : Context) (x0 y0 x1 y1 : ℤ) (p : Point) → is_some (colour_of_stroke assets c (Fill x0 y0 x1 y1) p) ≡ has (rect_with x0 y0 x1 y1) p
unfolding colour_of_stroke colour_of_operation
fill_is assets c x0 y0 x1 y1 p =
    let r = rect_of no_inputs (plain x0) (plain y0) (plain x1) (plain y1) in
    ap is_some (no_behind (on_points (has r p) c.colour)) ∙ some_points (has r p) c.colour ∙ ap (λ (s : Rect). has s p) (plain_rect no_inputs x0 y0 x1 y1)

pub frame_is : (assets : Assets) (c : Context) (x0 y0 x1 y1 : ℤ) (p : Point) → is_some (colour_of_stroke assets c (Frame x0 y0 x1 y1) p) ≡ is_on_edge (rect_with x0 y0 x1 y1) p
unfolding colour_of_stroke colour_of_operation
frame_is assets c x0 y0 x1 y1 p =
    let r = rect_of no_inputs (plain x0) (plain y0) (plain x1) (plain y1) in
    ap is_some (no_behind (on_points (is_on_edge r p) c.colour)) ∙ some_points (is_on_edge r p) c.colour ∙ ap (λ (s : Rect). is_on_edge s p) (plain_rect no_inputs x0 y0 x1 y1)

pub line_is : (assets : Assets) (c : Context) (x0 y0 x1 y1 : ℤ) (p : Point) → is_some (colour_of_stroke assets c (Line x0 y0 x1 y1) p) ≡ is_on_line (point_at x0 y0) (point_at x1 y1) p
unfolding colour_of_stroke colour_of_operation
line_is assets c x0 y0 x1 y1 p =
    let a = point_of_numbers no_inputs (plain x0) (plain y0) in
    let b = point_of_numbers no_inputs (plain x1) (plain y1) in
    ap is_some (no_behind (on_points (is_on_line a b p) c.colour)) ∙ some_points (is_on_line a b p) c.colour
    ∙ ap (λ (q : Point). is_on_line q b p) (plain_point no_inputs x0 y0) ∙ ap (λ (q : Point). is_on_line (point_at x0 y0) q p) (plain_point no_inputs x1 y1)

-- the colour of a bitmap and of a text's glyphs
pub bitmap_colours : (assets : Assets) (c : Context) (bitmap : ℕ) (x y : ℤ) (p : Point)
    → colour_of_operation assets no_inputs (operation_of c (Bitmap bitmap x y)) p ≡ bitmap_colour (bitmap_at assets bitmap) (seen_from (point_at x y) p).x (seen_from (point_at x y) p).y
unfolding colour_of_operation
bitmap_colours assets c bitmap x y p = ap (λ (q : Point). bitmap_colour (bitmap_at assets bitmap) (seen_from q p).x (seen_from q p).y) (plain_point no_inputs x y)

pub text_colours : (assets : Assets) (c : Context) (x y : ℤ) (string : ℕ) (p : Point)
    → colour_of_operation assets no_inputs (operation_of c (Text x y string)) p
    ≡ on_points (is_in_text (font_at assets c.font) (string_at assets string) (seen_from (point_at x y) p).x (seen_from (point_at x y) p).y) c.colour
unfolding colour_of_operation
text_colours assets c x y string p = ap (λ (q : Point). on_points (is_in_text (font_at assets c.font) (string_at assets string) (seen_from q p).x (seen_from q p).y) c.colour) (plain_point no_inputs x y)

-- where no colour lies behind the shape, a stroke has the operation's
pub operation_alone : (assets : Assets) (c : Context) (shape : Shape) (p : Point) → colour_behind assets c shape p ≡ None → colour_of_stroke assets c shape p ≡ colour_of_operation assets no_inputs (operation_of c shape) p
unfolding colour_of_stroke
operation_alone assets c shape p e = ap (λ (o : Option ℕ). or_behind o (colour_of_operation assets no_inputs (operation_of c shape) p)) e ∙ no_behind (colour_of_operation assets no_inputs (operation_of c shape) p)

pub behind_trans : (assets : Assets) (c : Context) (x y : ℤ) (string : ℕ) (p : Point) → c.trans_text ≡ true → colour_behind assets c (Text x y string) p ≡ None
behind_trans assets c x y string p e = rw e refl

pub behind_others : (assets : Assets) (c : Context) (shape : Shape) (p : Point) → ((x y : ℤ) (string : ℕ) → shape ≡ Text x y string → ⊥) → colour_behind assets c shape p ≡ None
behind_others assets c (Fill x0 y0 x1 y1) p other = refl
behind_others assets c (Frame x0 y0 x1 y1) p other = refl
behind_others assets c (Line x0 y0 x1 y1) p other = refl
behind_others assets c (Bitmap bitmap x y) p other = refl
behind_others assets c (Text x y string) p other = absurd (other x y string refl)

pub behind_normal : (assets : Assets) (c : Context) (x y : ℤ) (string : ℕ) (p : Point) → c.trans_text ≡ false → colour_behind assets c (Text x y string) p ≡ on_points (has (cells_of (font_at assets c.font) (string_at assets string) x y) p) c.bk
behind_normal assets c x y string p e = rw e refl

-- ---- bounds

pub frame-bounds : (assets : Assets) (c : Context) (x0 y0 x1 y1 : ℤ) (p : Point) → is_some (colour_of_stroke assets c (Frame x0 y0 x1 y1) p) ≡ true → has (rect_with x0 y0 x1 y1) p ≡ true
frame-bounds assets c x0 y0 x1 y1 p h = (and_parts (has (rect_with x0 y0 x1 y1) p) _ (sym (frame_is assets c x0 y0 x1 y1 p) ∙ h)).0

pub segment-bounds : (assets : Assets) (c : Context) (x0 y0 x1 y1 : ℤ) (p : Point) → is_some (colour_of_stroke assets c (Line x0 y0 x1 y1) p) ≡ true → has (bounds_of assets c (Line x0 y0 x1 y1)) p ≡ true
segment-bounds assets c x0 y0 x1 y1 p h = line-bounds (point_at x0 y0) (point_at x1 y1) p (sym (line_is assets c x0 y0 x1 y1 p) ∙ h)

pub bitmap-bounds : (assets : Assets) (c : Context) (bitmap : ℕ) (x y : ℤ) (p : Point) → is_some (colour_of_stroke assets c (Bitmap bitmap x y) p) ≡ true → has (bounds_of assets c (Bitmap bitmap x y)) p ≡ true
bitmap-bounds assets c bitmap x y p h =
    image-points (bitmap_at assets bitmap) x y p (sym (ap is_some (operation_alone assets c (Bitmap bitmap x y) p refl ∙ bitmap_colours assets c bitmap x y p)) ∙ h)

glyphs_bounds : (assets : Assets) (c : Context) (x y : ℤ) (string : ℕ) (p : Point) → IsFont (font_at assets c.font)
    → is_some (colour_of_operation assets no_inputs (operation_of c (Text x y string)) p) ≡ true → has (bounds_of assets c (Text x y string)) p ≡ true
glyphs_bounds assets c x y string p font h =
    let b = is_in_text (font_at assets c.font) (string_at assets string) (seen_from (point_at x y) p).x (seen_from (point_at x y) p).y in
    text-cells (font_at assets c.font) (string_at assets string) x y p font (sym (some_points b c.colour) ∙ sym (ap is_some (text_colours assets c x y string p)) ∙ h)

-- a text has a colour in its cells alone, and in normal mode on each point of them
pub text-bounds : (assets : Assets) (c : Context) (x y : ℤ) (string : ℕ) (p : Point) → IsFont (font_at assets c.font) → is_some (colour_of_stroke assets c (Text x y string) p) ≡ true → has (bounds_of assets c (Text x y string)) p ≡ true
unfolding colour_of_stroke
text-bounds assets c x y string p font h =
    let drawn = colour_of_operation assets no_inputs (operation_of c (Text x y string)) p in
    let behind = colour_behind assets c (Text x y string) p in
    elim (cases_Bool (is_some drawn)) [
      | inl e ↦ glyphs_bounds assets c x y string p font e
      | inr e ↦
          let there : is_some behind ≡ true = either_some behind drawn h e in
          elim (cases_Bool c.trans_text) [
            | inl trans ↦ absurd (cc (ap is_some (sym (behind_trans assets c x y string p trans)) ∙ there))
            | inr normal ↦ sym (some_points (has (bounds_of assets c (Text x y string)) p) c.bk) ∙ ap is_some (sym (behind_normal assets c x y string p normal)) ∙ there
          ]
    ]

some_over : (a b : Option ℕ) → is_some a ≡ true → is_some (or_behind a b) ≡ true
some_over a None e = e
some_over a (Some c) e = refl

pub text-full : (assets : Assets) (c : Context) (x y : ℤ) (string : ℕ) (p : Point) → c.trans_text ≡ false → has (bounds_of assets c (Text x y string)) p ≡ true → is_some (colour_of_stroke assets c (Text x y string) p) ≡ true
unfolding colour_of_stroke
text-full assets c x y string p normal h =
    some_over (colour_behind assets c (Text x y string) p) (colour_of_operation assets no_inputs (operation_of c (Text x y string)) p)
    (ap is_some (behind_normal assets c x y string p normal) ∙ some_points (has (bounds_of assets c (Text x y string)) p) c.bk ∙ h)

-- ---- a whole area

-- the operation that fills a window from its first point to its last
abbrev pub whole_fill : ℕ → Op
whole_fill c = op.Fill (record { base = Zero; plus = pos 0 }) (record { base = Zero; plus = pos 0 }) (record { base = Width; plus = negsuc 0 }) (record { base = Height; plus = negsuc 0 }) c

whole_has : (area : Rect) (origin p : Point) (i : Inputs) → pos i.width ≡ area.x1 -ℤ area.x0 +ℤ pos 1 → pos i.height ≡ area.y1 -ℤ area.y0 +ℤ pos 1 → origin.x ≡ area.x0 → origin.y ≡ area.y0 → has area p ≡ true
    → has (rect_of i (record { base = Zero; plus = pos 0 }) (record { base = Zero; plus = pos 0 }) (record { base = Width; plus = negsuc 0 }) (record { base = Height; plus = negsuc 0 })) (seen_from origin p) ≡ true
whole_has area origin p i wide high left top h =
    let s = has-sides area p.x p.y h in
    has-between (rect_of i (record { base = Zero; plus = pos 0 }) (record { base = Zero; plus = pos 0 }) (record { base = Width; plus = negsuc 0 }) (record { base = Height; plus = negsuc 0 })) (p.x -ℤ origin.x) (p.y -ℤ origin.y)
    (omega (arith, ints, left, s.left)) (omega (arith, ints, left, wide, s.right)) (omega (arith, ints, top, s.top)) (omega (arith, ints, top, high, s.bottom))

pub whole_colour : (assets : Assets) (area : Rect) (origin : Point) (i : Inputs) (c u v : ℕ) → pos i.width ≡ area.x1 -ℤ area.x0 +ℤ pos 1 → pos i.height ≡ area.y1 -ℤ area.y0 +ℤ pos 1 → origin.x ≡ area.x0 → origin.y ≡ area.y0
    → has area (point_at (pos u) (pos v)) ≡ true → colour_on_screen assets i (whole_fill c) origin u v ≡ Some c
unfolding colour_of_operation
whole_colour assets area origin i c u v wide high left top h = rw (whole_has area origin (point_at (pos u) (pos v)) i wide high left top h) refl

free_some : (a b : Bool) (o : Option ℕ) (c : ℕ) → (a ≡ true → o ≡ Some c) → ((a && b) && is_some o) ≡ (a && b)
free_some true true o c e = ap is_some (e refl)
free_some true false o c e = refl
free_some false b o c e = refl

pub area_filled : (p now : Picture) (assets : Assets) (area : Rect) (holes : List Hole) (origin : Point) (i : Inputs) (c : ℕ) → HasShape p → pos i.width ≡ area.x1 -ℤ area.x0 +ℤ pos 1 → pos i.height ≡ area.y1 -ℤ area.y0 +ℤ pos 1 → origin.x ≡ area.x0 → origin.y ≡ area.y0
    → now ≡ changed p (λ u v. is_free area holes (point_at (pos u) (pos v)) && is_some (colour_on_screen assets i (whole_fill c) origin u v)) (λ u v. unwrap_or (colour_on_screen assets i (whole_fill c) origin u v) 0)
    → now ≡ changed p (λ u v. is_free area holes (point_at (pos u) (pos v))) (λ u v. c)
area_filled p now assets area holes origin i c shape wide high left top e =
    e ∙ changed-same p _ (λ u v. is_free area holes (point_at (pos u) (pos v))) _ (λ u v. c) shape
    (λ u v _ _. free_some (has area (point_at (pos u) (pos v))) (not (is_hidden holes (point_at (pos u) (pos v)))) (colour_on_screen assets i (whole_fill c) origin u v) c (whole_colour assets area origin i c u v wide high left top))
    (λ u v _ _ h. ap (λ (o : Option ℕ). unwrap_or o 0) (whole_colour assets area origin i c u v wide high left top (and_parts (has area (point_at (pos u) (pos v))) _ h).0))
