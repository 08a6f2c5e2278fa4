use Rattle.std.proofs.Common.{sym, ◌∙◌, pos, rules, w32}
use Rattle.std.proofs.lemmas.Int.{to_z-of_z}
use mir.Val.{SFits}
use Rattle.gfx_base.specs.Range.{is_within}
use Rattle.paint_ops.specs.Strips.{in_strip}
use Rattle.paint_ops.proofs.CanvasLemmas.{written-in_span, row_written-part, row_written-no_tests}
use Rattle.paint_ops.proofs.StripLemmas.{second_false}
use Rattle.paint_ops.proofs.fill.fill_columns.Goals as goal

pub returns-in-Some : goal.returns-in-Some
returns-in-Some c =
    let a = c.args in
    let f = a.target.now in
    let part = c.in-Some.part in
    let shape = c.requires.strip.shape in
    let within = (c.in-Some.ensures.fits f c.requires.strip).within in
    let x : SFits w32 a.x0 = search rules in
    let y : SFits w32 a.x1 = search rules in
    c.fill_span.ensures
    ∙ written-in_span f part.y part.left part.right a.colour shape within
    ∙ rw c.in-Some.ensures.row (row_written-part f a.strip.y a.colour (in_strip part) (in_strip a.strip) (λ u. is_within a.x0 a.x1 (pos u)) shape (λ u _. simp to_z-of_z at (c.in-Some.ensures.columns u)))

pub returns-in_default : goal.returns-in_default
returns-in_default c =
    let a = c.args in
    let x : SFits w32 a.x0 = search rules in
    let y : SFits w32 a.x1 = search rules in
    sym (row_written-no_tests a.target.now a.strip.y a.colour (in_strip a.strip) (λ u. is_within a.x0 a.x1 (pos u)) c.requires.strip.shape c.requires.strip.count (λ u _ here. second_false _ _ here (simp (c.in_default.is, to_z-of_z) at (c.cut.ensures.columns u))))
