use Rattle.std.proofs.Common.{◌≡◌, ℕ, ap, sym, ◌∙◌, List, [], w16, SFits, rules}
use Rattle.std.specs.Prelude.{is_some}
use Rattle.std.proofs.lemmas.Int.{to_z-of_z}
use Rattle.gfx_base.specs.declared.point.Point.{Point}
use Rattle.gfx_base.specs.Rects.{point_at}
use Rattle.glyph_font.specs.Fonts.{Font}
use Rattle.bitmap.specs.Bitmaps.{Bitmap as Image}
use Rattle.paint_ops.specs.Kinds.{Assets, no_bitmap, no_font, font_at, bitmap_at, string_at}
use Rattle.paint_ops.specs.Operations.{seen_from, bitmap_colour, is_in_text}
use Rattle.strokes.proofs.ShapeLemmas.{element_is, some_points, bitmap_colours, text_colours}
use Rattle.strokes.proofs.points.has_ink.Goals as goal

pub returns-in-Bitmap : goal.returns-in-Bitmap
returns-in-Bitmap c =
    let a = c.args in
    let s = c.in-Bitmap in
    let f0 : SFits w16 s.x = search rules in
    let f1 : SFits w16 s.y = search rules in
    let named = rw s.is at c.requires.shape in
    let image = element_is _ a.assets.now.bitmaps s.bitmap c.index.result.now no_bitmap (ap (λ (x : Assets). x.bitmaps) c.assets.view_is) named.0 (rw c.from.ensures at c.index.ensures) in
    let seen : c.seen_from.result ≡ seen_from (point_at s.x s.y) a.p = simp to_z-of_z at c.seen_from.ensures in
    c.has_colour.ensures ∙ ap (λ (b : Image). is_some (bitmap_colour b c.seen_from.result.x c.seen_from.result.y)) image
    ∙ ap (λ (q : Point). is_some (bitmap_colour (bitmap_at a.assets.now s.bitmap) q.x q.y)) seen
    ∙ rw s.is (sym (ap is_some (bitmap_colours a.assets.now a.context.now s.bitmap s.x s.y a.p)))

pub returns-in-Text : goal.returns-in-Text
returns-in-Text c =
    let a = c.args in
    let s = c.in-Text in
    let f0 : SFits w16 s.x = search rules in
    let f1 : SFits w16 s.y = search rules in
    let named = rw s.is at c.requires.shape in
    let font = element_is _ a.assets.now.fonts a.context.now.font c.index-in-Text-2.result.now no_font (ap (λ (x : Assets). x.fonts) c.assets.view_is) named.0 (rw c.from-in-Text-2.ensures at c.index-in-Text-2.ensures) in
    let string = element_is _ a.assets.now.strings s.string c.index-in-Text.result.now [] (ap (λ (x : Assets). x.strings) c.assets.view_is) named.3 (rw c.from-in-Text.ensures at c.index-in-Text.ensures) in
    let seen : c.seen_from-in-Text.result ≡ seen_from (point_at s.x s.y) a.p = simp to_z-of_z at c.seen_from-in-Text.ensures in
    let at = seen_from (point_at s.x s.y) a.p in
    c.is_in_text.ensures ∙ ap (λ (f : Font). is_in_text f c.bytes-text.result.now c.seen_from-in-Text.result.x c.seen_from-in-Text.result.y) font
    ∙ ap (λ (t : List ℕ). is_in_text (font_at a.assets.now a.context.now.font) t c.seen_from-in-Text.result.x c.seen_from-in-Text.result.y) (c.bytes-text.ensures.value ∙ string)
    ∙ ap (λ (q : Point). is_in_text (font_at a.assets.now a.context.now.font) (string_at a.assets.now s.string) q.x q.y) seen
    ∙ sym (some_points (is_in_text (font_at a.assets.now a.context.now.font) (string_at a.assets.now s.string) at.x at.y) a.context.now.colour)
    ∙ rw s.is (sym (ap is_some (text_colours a.assets.now a.context.now s.x s.y s.string a.p)))
