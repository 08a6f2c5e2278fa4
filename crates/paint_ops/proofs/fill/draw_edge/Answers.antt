use Rattle.std.proofs.Common.{◌≡◌, ◌∙◌, sym, pos, ◌⊎◌, inl, inr, ◌&&◌, ◌||◌, rules, w32}
use Rattle.std.specs.Ordering.{int_eq}
use Rattle.std.proofs.lemmas.Bool.{eqb-true, eqb-false, eq-eqb, true≢false}
use mir.Val.{SFits}
use Rattle.gfx_base.specs.Rects.{has, point_at}
use Rattle.paint_ops.specs.Operations.{is_on_edge}
use Rattle.paint_ops.specs.Strips.{in_strip}
use Rattle.paint_ops.proofs.CanvasLemmas.{row_written-same_tests}
use Rattle.paint_ops.proofs.FillLemmas.{edge-on_end, edge-between}
use Rattle.paint_ops.proofs.PaneLemmas.{same_from_bits, other_from_bits}
use Rattle.paint_ops.proofs.fill.draw_edge.Goals as goal
use Rattle.paint_ops.proofs.fill.draw_edge.Goals.{then-y-rect, else-y-rect}

pub returns-then-y-rect-2 : goal.returns-then-y-rect-2
returns-then-y-rect-2 c =
    let a = c.args in
    let r = a.rect.now in
    let y : SFits w32 c.from-y.result = search rules in
    let end : (pos a.strip.y ≡ r.y0) ⊎ (pos a.strip.y ≡ r.y1) = elim c.if-y-rect.branch [
      | then-y-rect w ↦ let y0 : SFits w32 r.y0 = search rules in inl (sym c.from-y.ensures ∙ same_from_bits c.from-y.result r.y0 y y0 w.if-y-rect.true)
      | else-y-rect w ↦ let y1 : SFits w32 r.y1 = search rules in inr (sym c.from-y.ensures ∙ same_from_bits c.from-y.result r.y1 y y1 (eqb-true _ _ (sym w.value-is ∙ c.if-y-rect-2.true)))
    ] in
    c.fill_rect.ensures
    ∙ row_written-same_tests a.target.now a.strip.y a.colour (in_strip a.strip) (λ u. has r (point_at (pos u) (pos a.strip.y))) (λ u. is_on_edge r (point_at (pos u) (pos a.strip.y))) c.requires.strip.shape (λ u _ _. edge-on_end r (pos u) (pos a.strip.y) end)

pub returns-else-y-rect-2 : goal.returns-else-y-rect-2
returns-else-y-rect-2 c =
    let a = c.args in
    let r = a.rect.now in
    let not_first : pos a.strip.y ≡ r.y0 → ⊥ = elim c.if-y-rect.branch [
      | then-y-rect w ↦ absurd (true≢false (sym (eq-eqb _ _ w.if-y-rect.true) ∙ sym w.value-is ∙ c.if-y-rect-2.false))
      | else-y-rect w ↦ other_from_bits c.from-y.result r.y0 (pos a.strip.y) c.from-y.ensures w.if-y-rect.false
    ] in
    let not_last : pos a.strip.y ≡ r.y1 → ⊥ = elim c.if-y-rect.branch [
      | then-y-rect w ↦ absurd (true≢false (sym (eq-eqb _ _ w.if-y-rect.true) ∙ sym w.value-is ∙ c.if-y-rect-2.false))
      | else-y-rect w ↦ other_from_bits c.from-y.result r.y1 (pos a.strip.y) c.from-y.ensures (eqb-false _ _ (sym w.value-is ∙ c.if-y-rect-2.false))
    ] in
    c.draw_sides.ensures
    ∙ row_written-same_tests a.target.now a.strip.y a.colour (in_strip a.strip) (λ u. has r (point_at (pos u) (pos a.strip.y)) && (int_eq (pos u) r.x0 || int_eq (pos u) r.x1)) (λ u. is_on_edge r (point_at (pos u) (pos a.strip.y))) c.requires.strip.shape (λ u _ _. edge-between r (pos u) (pos a.strip.y) not_first not_last)
