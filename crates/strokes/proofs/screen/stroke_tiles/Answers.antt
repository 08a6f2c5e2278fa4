use Rattle.std.proofs.Common.{◌≡◌, sym, ap, ◌∙◌, w16, w32, SFits, rules, arith}
use Rattle.std.proofs.lemmas.Int.{ints, to_z-of_z}
use Rattle.gfx_base.specs.declared.rect.Rect.{Rect}
use Rattle.gfx_base.specs.Rects.{has, shift, point_at}
use Rattle.gfx_base.proofs.CallerLemmas.{has-shift}
use Rattle.line_ink.specs.Lines.{is_on_line}
use Rattle.paint_ops.specs.Operations.{seen_from, is_on_edge}
use Rattle.strokes.specs.Parts.{rect_with, bounds_of}
use Rattle.strokes.proofs.ShapeLemmas.{fill_is, frame_is, line_is, text-full, behind_trans, behind_others}
use Rattle.strokes.proofs.ScreenLemmas.{full_tiles, tested_tiles, tested_first, drawn_are_inked, edge-seen}
use Rattle.strokes.proofs.screen.stroke_tiles.Goals as goal
use Rattle.strokes.proofs.screen.stroke_tiles.Goals.{in_default-via-in-Text+else-not-context, in_default-via-in_default}

pub edge_tiles-requires-clause-inside : goal.edge_tiles-requires-clause-inside
edge_tiles-requires-clause-inside c p here =
    let a = c.args in
    let f0 : SFits w32 a.corner.x = omega (arith, ints, c.requires.corner.0) in
    let f1 : SFits w32 a.corner.y = omega (arith, ints, c.requires.corner.1) in
    let seen : has c.shift-rect.result p ≡ has c.bounds.result (seen_from a.corner p) = simp to_z-of_z at (c.shift-rect.ensures.points p) in
    seen ∙ ap (λ (r : Rect). has r (seen_from a.corner p)) c.bounds.ensures.value ∙ c.requires.inside p here

pub returns-in-Fill : goal.returns-in-Fill
returns-in-Fill c =
    let a = c.args in
    let s = c.in-Fill in
    full_tiles a.width a.height a.assets.now a.context.now a.shape.now a.corner a.area.now a.holes.now c.free_tiles.result
    (λ q h. rw s.is (fill_is a.assets.now a.context.now s.field-0 s.field-1 s.field-2 s.field-3 (seen_from a.corner q) ∙ (rw s.is at c.requires.inside) q h)) c.free_tiles.ensures

pub returns-in-Frame : goal.returns-in-Frame
returns-in-Frame c =
    let a = c.args in
    let s = c.in-Frame in
    let f0 : SFits w32 a.corner.x = omega (arith, ints, c.requires.corner.0) in
    let f1 : SFits w32 a.corner.y = omega (arith, ints, c.requires.corner.1) in
    let r = rect_with s.field-0 s.field-1 s.field-2 s.field-3 in
    let bounds : c.bounds.result ≡ r = c.bounds.ensures.value ∙ ap (bounds_of a.assets.now a.context.now) s.is in
    let value : c.shift-rect.result ≡ shift c.bounds.result a.corner.x a.corner.y = simp to_z-of_z at c.shift-rect.ensures.value in
    let rect : c.shift-rect.result ≡ shift r a.corner.x a.corner.y = value ∙ ap (λ (b : Rect). shift b a.corner.x a.corner.y) bounds in
    tested_first a.width a.height a.assets.now a.context.now a.shape.now a.corner a.area.now a.holes.now c.edge_tiles.result (is_on_edge (shift r a.corner.x a.corner.y))
    (λ q h. edge-seen r a.corner q (has-shift r a.corner.x a.corner.y q ∙ (rw s.is at c.requires.inside) q h) ∙ rw s.is (sym (frame_is a.assets.now a.context.now s.field-0 s.field-1 s.field-2 s.field-3 (seen_from a.corner q))))
    (rw rect at c.edge_tiles.ensures)

pub returns-in-Line : goal.returns-in-Line
returns-in-Line c =
    let a = c.args in
    let s = c.in-Line in
    let f0 : SFits w16 s.x0 = search rules in
    let f1 : SFits w16 s.y0 = search rules in
    let f2 : SFits w16 s.x1 = search rules in
    let f3 : SFits w16 s.y1 = search rules in
    let from : c.place.result ≡ point_at s.x0 s.y0 = simp to_z-of_z at c.place.ensures.value in
    let to : c.place-in-Line.result ≡ point_at s.x1 s.y1 = simp to_z-of_z at c.place-in-Line.ensures.value in
    tested_tiles a.width a.height a.assets.now a.context.now a.shape.now a.corner a.area.now a.holes.now c.line_tiles.result (λ q. is_on_line (point_at s.x0 s.y0) (point_at s.x1 s.y1) (seen_from a.corner q))
    (λ q h. rw s.is (sym (line_is a.assets.now a.context.now s.x0 s.y0 s.x1 s.y1 (seen_from a.corner q)))) (rw (from, to) at c.line_tiles.ensures)

pub returns-in-Text : goal.returns-in-Text
returns-in-Text c =
    let a = c.args in
    let s = c.in-Text in
    full_tiles a.width a.height a.assets.now a.context.now a.shape.now a.corner a.area.now a.holes.now c.free_tiles-in-Text.result
    (λ q h. rw s.is (text-full a.assets.now a.context.now s.field-0 s.field-1 s.field-2 (seen_from a.corner q) (search rules) ((rw s.is at c.requires.inside) q h))) c.free_tiles-in-Text.ensures

pub returns-in_default : goal.returns-in_default
returns-in_default c =
    let a = c.args in
    drawn_are_inked a.width a.height a.assets.now a.context.now a.shape.now a.corner a.area.now a.holes.now c.drawn_tiles.result
    (λ q. elim c.in_default.branch [
      | in_default-via-in-Text+else-not-context w ↦ rw w.in-Text.is (behind_trans a.assets.now a.context.now w.in-Text.field-0 w.in-Text.field-1 w.in-Text.field-2 q w.if-not-context.false)
      | in_default-via-in_default w ↦ behind_others a.assets.now a.context.now a.shape.now q w.in_default.not-Text
    ]) c.drawn_tiles.ensures
