use Rattle.std.proofs.Common.{◌≡◌, ℕ, ℤ, pos, ◌<◌, List, [], ◌∷◌, to_z, of_z, refl, ap, ◌∙◌, arith, rules}
use Rattle.std.specs.Prelude.{FitsSigned, IsTrue, ◌≤ℤ◌, ◌<ℤ◌}
use Rattle.std.specs.Int.{w32}
use Rattle.std.proofs.lemmas.Int.{to_z-of_z, ints}
use Rattle.region.specs.declared.span.Span.{Span}
use Rattle.gfx_base.specs.Rects.{point_at}
use Rattle.gfx_base.specs.Range.{is_within}
use Rattle.paint_ops.specs.Operations.{seen_from, colour_of_operation}
use Rattle.paint_ops.specs.Rows.{operation_drawn}
use Rattle.scene.specs.Looks.{inputs_of}
use Rattle.scene.proofs.DotLemmas.{row_drawn-one}
use Rattle.scene.proofs.painter.draw_dot.Goals as goal

abbrev spans : ℤ → List Span
spans x = record { x0 = x; x1 = x } ∷ []

inside : (width x : ℕ) (z : ℤ) → x < width → IsTrue (is_within (pos x) (pos x) z) → (pos 0 ≤ℤ z) × (z <ℤ pos width)
unfolding is_within
inside width x z lt e = (grind (arith, ints), grind (arith, ints))

pub draw-requires-clause-spans : goal.draw-requires-clause-spans
draw-requires-clause-spans c =
    let fits : FitsSigned w32 c.from-x.result = search rules in
    let same : to_z w32 (of_z w32 c.from-x.result) ≡ pos c.args.dot.x = to_z-of_z w32 c.from-x.result fits ∙ c.from-x.ensures in
    rw same (λ z here. inside c.args.target.now.picture.width c.args.dot.x z c.requires.inside.0 here, tt)

pub returns : goal.returns
returns c =
    let fits : FitsSigned w32 c.from-x.result = search rules in
    let same : to_z w32 (of_z w32 c.from-x.result) ≡ pos c.args.dot.x = to_z-of_z w32 c.from-x.result fits ∙ c.from-x.ensures in
    c.draw.ensures.picture
    ∙ ap (λ z. operation_drawn c.args.assets.now (inputs_of c.args.window.now) c.args.op.now c.args.corner c.args.dot.y (spans z) c.args.target.now.picture) same
    ∙ row_drawn-one c.args.target.now.picture c.args.dot.x c.args.dot.y _ (λ x y. colour_of_operation c.args.assets.now (inputs_of c.args.window.now) c.args.op.now (seen_from c.args.corner (point_at (pos x) (pos y)))) c.requires.shape (λ x. refl)
