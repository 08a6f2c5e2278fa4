use Rattle.std.proofs.Common.{◌≡◌, ℕ, false, refl, sym, ap, ◌∙◌, pos, ◌+ℤ◌, ◌-ℤ◌, ◌&&◌, [], ◌∷◌, rules, w32, arith}
use Rattle.std.proofs.lemmas.Bool.{and_parts}
use Rattle.std.proofs.lemmas.Int.{to_z-of_z}
use mir.Val.{SFits}
use Rattle.gfx_base.specs.Range.{is_within}
use Rattle.glyph_font.specs.Fonts.{width_of_code}
use Rattle.paint_ops.specs.Operations.{is_in_text, on_points}
use Rattle.paint_ops.specs.Strips.{in_strip}
use Rattle.paint_ops.proofs.CanvasLemmas.{row_written-rest, row_written-no_tests}
use Rattle.paint_ops.proofs.StripLemmas.{second_false}
use Rattle.paint_ops.proofs.PaneLemmas.{last_is}
use Rattle.paint_ops.proofs.CellLemmas.{cell-outside}
use Rattle.paint_ops.proofs.glyphs.draw_cell.Goals as goal

pub returns-in-Some : goal.returns-in-Some
returns-in-Some c =
    let a = c.args in
    let f = a.target.now in
    let part = c.in-Some.part in
    let x : SFits w32 a.x = search rules in
    let last = a.x +ℤ pos (width_of_code a.font.now a.code) -ℤ pos 1 in
    let colour = λ (u : ℕ). on_points (is_in_text a.font.now (a.code ∷ []) (pos u -ℤ a.x) (pos a.row)) a.colour in
    let end = last_is c.from.result a.x (width_of_code a.font.now a.code) (c.from.ensures ∙ ap pos c.width.ensures) (omega arith) c.requires.x in
    let columns : (u : ℕ) → in_strip part u ≡ (in_strip a.strip u && is_within a.x last (pos u)) = λ u. rw (end, to_z-of_z w32 a.x x) at (c.in-Some.ensures.columns u) in
    simp to_z-of_z at c.draw_glyph.ensures
    ∙ rw c.in-Some.ensures.row (row_written-rest f a.strip.y (in_strip part) (in_strip a.strip) colour c.requires.strip.shape
    (λ u h. (and_parts (in_strip a.strip u) (is_within a.x last (pos u)) (sym (columns u) ∙ h)).0)
    (λ u h off. rw (cell-outside a.font.now a.code (pos u) a.x last a.row refl (second_false (in_strip a.strip u) (is_within a.x last (pos u)) h (sym off ∙ columns u))) refl))

pub returns-in_default : goal.returns-in_default
returns-in_default c =
    let a = c.args in
    let x : SFits w32 a.x = search rules in
    let last = a.x +ℤ pos (width_of_code a.font.now a.code) -ℤ pos 1 in
    let end = last_is c.from.result a.x (width_of_code a.font.now a.code) (c.from.ensures ∙ ap pos c.width.ensures) (omega arith) c.requires.x in
    let columns : (u : ℕ) → false ≡ (in_strip a.strip u && is_within a.x last (pos u)) = λ u. rw (c.in_default.is, end, to_z-of_z w32 a.x x) at (c.cut.ensures.columns u) in
    sym (row_written-no_tests a.target.now a.strip.y a.colour (in_strip a.strip) (λ u. is_in_text a.font.now (a.code ∷ []) (pos u -ℤ a.x) (pos a.row)) c.requires.strip.shape c.requires.strip.count (λ u _ here.
    cell-outside a.font.now a.code (pos u) a.x last a.row refl (second_false (in_strip a.strip u) (is_within a.x last (pos u)) here (columns u))))
