use Rattle.std.proofs.Common.{◌≡◌, ℕ, ap, sym, subst, ◌∙◌, List, [], w16, SFits, rules}
use Rattle.std.specs.Int.{int_min, int_max}
use Rattle.std.proofs.lemmas.Int.{to_z-of_z}
use Rattle.gfx_base.proofs.CallerLemmas.{same_rect}
use Rattle.gfx_base.specs.declared.rect.Rect.{Rect}
use Rattle.gfx_base.specs.Rects.{has}
use Rattle.glyph_font.specs.Fonts.{Font, IsFont}
use Rattle.paint_ops.specs.Kinds.{Assets, no_bitmap, no_font, font_at}
use Rattle.bitmap.specs.Bitmaps.{Bitmap as Image}
use Rattle.strokes.specs.Strokes.{cells_of}
use Rattle.strokes.specs.Parts.{rect_with, points_of_image}
use Rattle.strokes.proofs.ShapeLemmas.{element_is, fill_is, frame-bounds, segment-bounds, bitmap-bounds, text-bounds}
use Rattle.strokes.proofs.bounds.bounds.Goals as goal

pub returns-in-Fill-clause-all : goal.returns-in-Fill-clause-all
returns-in-Fill-clause-all c p h =
    let s = c.in-Fill in
    let f0 : SFits w16 s.x0 = search rules in
    let f1 : SFits w16 s.y0 = search rules in
    let f2 : SFits w16 s.x1 = search rules in
    let f3 : SFits w16 s.y1 = search rules in
    let v : c.rect.result ≡ rect_with s.x0 s.y0 s.x1 s.y1 = simp to_z-of_z at c.rect.ensures.value in
    ap (λ (r : Rect). has r p) v ∙ sym (fill_is c.args.assets.now c.args.context.now s.x0 s.y0 s.x1 s.y1 p) ∙ rw s.is at h

pub returns-in-Frame-clause-all : goal.returns-in-Frame-clause-all
returns-in-Frame-clause-all c p h =
    let s = c.in-Frame in
    let f0 : SFits w16 s.x0 = search rules in
    let f1 : SFits w16 s.y0 = search rules in
    let f2 : SFits w16 s.x1 = search rules in
    let f3 : SFits w16 s.y1 = search rules in
    let v : c.rect-in-Frame.result ≡ rect_with s.x0 s.y0 s.x1 s.y1 = simp to_z-of_z at c.rect-in-Frame.ensures.value in
    ap (λ (r : Rect). has r p) v ∙ frame-bounds c.args.assets.now c.args.context.now s.x0 s.y0 s.x1 s.y1 p (rw s.is at h)

pub returns-in-Line-clause-value : goal.returns-in-Line-clause-value
returns-in-Line-clause-value c =
    let s = c.in-Line in
    let f0 : SFits w16 s.x0 = search rules in
    let f1 : SFits w16 s.y0 = search rules in
    let f2 : SFits w16 s.x1 = search rules in
    let f3 : SFits w16 s.y1 = search rules in
    let g0 : c.min.result ≡ int_min s.x0 s.x1 = simp to_z-of_z at c.min.ensures.value in
    let g1 : c.min-in-Line.result ≡ int_min s.y0 s.y1 = simp to_z-of_z at c.min-in-Line.ensures.value in
    let g2 : c.max.result ≡ int_max s.x0 s.x1 = simp to_z-of_z at c.max.ensures.value in
    let g3 : c.max-in-Line.result ≡ int_max s.y0 s.y1 = simp to_z-of_z at c.max-in-Line.ensures.value in
    let e0 : SFits w16 c.min.result = search rules in
    let e1 : SFits w16 c.min-in-Line.result = search rules in
    let e2 : SFits w16 c.max.result = search rules in
    let e3 : SFits w16 c.max-in-Line.result = search rules in
    let v : c.rect-in-Line.result ≡ rect_with c.min.result c.min-in-Line.result c.max.result c.max-in-Line.result = simp to_z-of_z at c.rect-in-Line.ensures.value in
    v ∙ rw s.is (same_rect _ _ _ _ _ _ _ _ g0 g1 g2 g3)

pub returns-in-Line-clause-all : goal.returns-in-Line-clause-all
returns-in-Line-clause-all c p h =
    let s = c.in-Line in
    ap (λ (r : Rect). has r p) (returns-in-Line-clause-value c) ∙ rw s.is (segment-bounds c.args.assets.now c.args.context.now s.x0 s.y0 s.x1 s.y1 p (rw s.is at h))

pub returns-in-Bitmap-clause-all : goal.returns-in-Bitmap-clause-all
returns-in-Bitmap-clause-all c p h =
    let a = c.args in
    let s = c.in-Bitmap in
    let f0 : SFits w16 s.x = search rules in
    let f1 : SFits w16 s.y = search rules in
    let named = rw s.is at c.requires.shape in
    let image = element_is _ a.assets.now.bitmaps s.bitmap c.index.result.now no_bitmap (ap (λ (x : Assets). x.bitmaps) c.assets.view_is) named.0 (rw c.from.ensures at c.index.ensures) in
    let v : c.points_of.result ≡ points_of_image c.index.result.now s.x s.y = simp to_z-of_z at c.points_of.ensures.value in
    ap (λ (r : Rect). has r p) (v ∙ ap (λ (b : Image). points_of_image b s.x s.y) image) ∙ bitmap-bounds a.assets.now a.context.now s.bitmap s.x s.y p (rw s.is at h)

pub returns-in-Text-clause-all : goal.returns-in-Text-clause-all
returns-in-Text-clause-all c p h =
    let a = c.args in
    let s = c.in-Text in
    let f0 : SFits w16 s.x = search rules in
    let f1 : SFits w16 s.y = search rules in
    let named = rw s.is at c.requires.shape in
    let font = element_is _ a.assets.now.fonts a.context.now.font c.index-in-Text-2.result.now no_font (ap (λ (x : Assets). x.fonts) c.assets.view_is) named.0 (rw c.from-in-Text-2.ensures at c.index-in-Text-2.ensures) in
    let string = element_is _ a.assets.now.strings s.string c.index-in-Text.result.now [] (ap (λ (x : Assets). x.strings) c.assets.view_is) named.3 (rw c.from-in-Text.ensures at c.index-in-Text.ensures) in
    let v : c.cells_of.result ≡ cells_of c.index-in-Text-2.result.now c.bytes-text.result.now s.x s.y = simp to_z-of_z at c.cells_of.ensures.value in
    ap (λ (r : Rect). has r p) (v ∙ ap (λ (f : Font). cells_of f c.bytes-text.result.now s.x s.y) font ∙ ap (λ (t : List ℕ). cells_of (font_at a.assets.now a.context.now.font) t s.x s.y) (c.bytes-text.ensures.value ∙ string))
    ∙ text-bounds a.assets.now a.context.now s.x s.y s.string p (subst IsFont font c.cells_of.ensures.font) (rw s.is at h)
