use Rattle.std.proofs.Common.{◌≡◌, None, pos, true, false, rules, sym, ap, subst, ◌∙◌}
use Rattle.gfx_base.specs.declared.point.Point.{Point}
use Rattle.gfx_base.specs.Rects.{point_at}
use Rattle.strokes.specs.Strokes.{colour_behind}
use Rattle.frame.specs.Canvases.{Canvas}
use Rattle.frame.specs.Pictures.{Picture, HasShape}
use Rattle.frame.proofs.CallerLemmas.{has_shape-changed}
use Rattle.strokes.specs.Parts.{is_free, inked}
use Rattle.strokes.proofs.ShapeLemmas.{behind_trans, behind_others}
use Rattle.strokes.proofs.DrawLemmas.{with_shape, shape_drawn, stroke_alone, text_over}
use Rattle.strokes.proofs.drawing.draw_stroke.Goals as goal
use Rattle.strokes.proofs.drawing.draw_stroke.Goals.{in-Text+then-hides_all, in-Text+else-hides_all, in_default}

pub draw_rows-requires-clause-shape : goal.draw_rows-requires-clause-shape
draw_rows-requires-clause-shape c =
    let a = c.args in
    let p = a.target.now.picture in
    elim c.match-shape.branch [
      | in-Text+then-hides_all w ↦ subst HasShape (sym (ap (λ (f : Canvas). f.picture) w.target-is ∙ w.fill_area.ensures)) (has_shape-changed p (λ u v. is_free a.area.now a.holes.now (point_at (pos u) (pos v))) (λ u v. a.context.now.bk) c.requires.shape)
      | in-Text+else-hides_all w ↦ subst HasShape (sym (ap (λ (f : Canvas). f.picture) w.target-is)) c.requires.shape
      | in_default w ↦ subst HasShape (sym (ap (λ (f : Canvas). f.picture) w.target-is)) c.requires.shape
    ]

-- the shape is drawn over nothing
alone : (c : goal.After-draw_rows) → c.match-shape.target.picture ≡ c.args.target.now.picture → ((q : Point) → colour_behind c.args.assets.now c.args.context.now c.args.shape.now q ≡ None)
    → c.draw_rows.new.target.picture ≡ inked c.args.assets.now c.args.context.now c.args.shape.now c.args.corner c.args.area.now c.args.holes.now c.args.target.now.picture
alone c same none =
    let a = c.args in
    let drawn = shape_drawn c.match-shape.target.picture c.draw_rows.new.target.picture a.assets.now _ a.context.now a.shape.now c.operation-op.result a.corner a.area.now a.holes.now (subst HasShape (sym same) c.requires.shape) c.operation-op.ensures c.draw_rows.ensures in
    stroke_alone a.target.now.picture c.draw_rows.new.target.picture a.assets.now a.context.now a.shape.now a.corner a.area.now a.holes.now c.requires.shape none
    (drawn ∙ ap (λ (q : Picture). with_shape a.assets.now a.context.now a.shape.now a.corner a.area.now a.holes.now q) same)

pub returns : goal.returns
returns c =
    let a = c.args in
    let p = a.target.now.picture in
    elim c.match-shape.branch [
      | in-Text+then-hides_all w ↦
          let mid = ap (λ (f : Canvas). f.picture) w.target-is ∙ w.fill_area.ensures in
          let normal : a.context.now.trans_text ≡ false = search rules in
          let shaped = subst HasShape (sym mid) (has_shape-changed p (λ u v. is_free a.area.now a.holes.now (point_at (pos u) (pos v))) (λ u v. a.context.now.bk) c.requires.shape) in
          let drawn = shape_drawn c.match-shape.target.picture c.draw_rows.new.target.picture a.assets.now _ a.context.now a.shape.now c.operation-op.result a.corner a.area.now a.holes.now shaped c.operation-op.ensures c.draw_rows.ensures in
          rw w.in-Text.is (text_over p c.match-shape.target.picture c.draw_rows.new.target.picture a.assets.now a.context.now w.in-Text.field-0 w.in-Text.field-1 w.in-Text.field-2 a.corner a.area.now a.holes.now c.requires.shape normal (rw w.in-Text.is at c.requires.inside) mid (rw w.in-Text.is at drawn))
      | in-Text+else-hides_all w ↦
          let trans : a.context.now.trans_text ≡ true = search rules in
          alone c (ap (λ (f : Canvas). f.picture) w.target-is) (λ q. rw w.in-Text.is (behind_trans a.assets.now a.context.now w.in-Text.field-0 w.in-Text.field-1 w.in-Text.field-2 q trans))
      | in_default w ↦ alone c (ap (λ (f : Canvas). f.picture) w.target-is) (λ q. behind_others a.assets.now a.context.now a.shape.now q w.in_default.not-Text)
    ]
