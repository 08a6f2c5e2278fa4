use Rattle.std.proofs.Common.{le_refl, ◌≡◌, ℕ, Bool, ◌+◌, ◌≤◌, ◌&&◌, pos, Option, List, refl, ap, ◌∙◌, w32, SFits, rules, arith}
use Rattle.std.specs.Prelude.{is_some, unwrap_or}
use Rattle.std.proofs.lemmas.Bool.{and_parts}
use Rattle.std.proofs.lemmas.Int.{ints, to_z-of_z}
use Rattle.gfx_base.specs.Rects.{point_at}
use Rattle.frame.specs.Pictures.{Picture, changed}
use Rattle.region.specs.declared.span.Span.{Span}
use Rattle.region.specs.Spans.{in_spans}
use Rattle.paint_ops.specs.Operations.{Inputs}
use Rattle.paint_ops.specs.Rows.{colour_on_screen, operation_drawn}
use Rattle.exec_paint.specs.Plans.{IsPlanFrom}
use Rattle.exec_paint.proofs.CallerLemmas.{to_row, rows-start, rows-more, rows-end, row_within}
use Rattle.strokes.specs.Parts.{is_free}
use Rattle.strokes.proofs.RowLemmas.{free-low, free-high, free-columns, spans_in_row}
use Rattle.strokes.proofs.drawing.draw_rows.Goals as goal
use Rattle.strokes.proofs.drawing.draw_rows.Goals.{then-plan-y, else-plan-y}

pub loop-y-init : goal.loop-y-init
loop-y-init c =
    let a = c.args in
    let p : Picture = a.target.now.picture in
    let inputs : Inputs = record { values = a.values.now; width = a.width; height = a.height } in
    let f : SFits w32 a.area.now.y0 = search rules in
    let top : pos c.unsigned-top.result ≡ a.area.now.y0 = simp to_z-of_z at c.unsigned-top.ensures.value in
    let colour : ℕ → ℕ → Option ℕ = λ u v. colour_on_screen a.assets.now inputs a.op.now a.origin u v in
    record {
      picture = rows-start p (λ u v. is_free a.area.now a.holes.now (point_at (pos u) (pos v)) && is_some (colour u v)) (λ u v. unwrap_or (colour u v) 0) c.unsigned-top.result c.requires.shape
          (λ u v h. free-low a.area.now a.holes.now c.unsigned-top.result u v top (and_parts _ _ h).0);
      plan = c.plan_row-plan.ensures.columns;
    }

pub draw-requires-clause-spans : goal.draw-requires-clause-spans
draw-requires-clause-spans c =
    let a = c.args in
    let area = a.area.now in
    let y = c.loop-y.y in
    let plan = c.if-plan-y.plan in
    let planned : (y ≤ plan.last) × IsPlanFrom y area a.holes.now plan =
    elim c.if-plan-y.branch [
      | then-plan-y w ↦ rw w.plan-is (w.plan_row-plan-then-plan-y.ensures.from, w.plan_row-plan-then-plan-y.ensures.columns)
      | else-plan-y w ↦ rw w.plan-is (omega (arith, w.if-plan-y.false), c.loop-y.invariant.plan)
    ] in
    rw (c.spans.ensures.value, ap (λ (q : Picture). q.width) c.loop-y.invariant.picture) (spans_in_row a.target.now.picture.width a.target.now.picture.height area a.holes.now plan.spans y c.requires.area (planned.1 y (le_refl y) planned.0))

pub loop-y-preserved : goal.loop-y-preserved
loop-y-preserved c =
    let a = c.args in
    let p : Picture = a.target.now.picture in
    let inputs : Inputs = record { values = a.values.now; width = a.width; height = a.height } in
    let area = a.area.now in
    let holes = a.holes.now in
    let y = c.loop-y.y in
    let colour : ℕ → ℕ → Option ℕ = λ u v. colour_on_screen a.assets.now inputs a.op.now a.origin u v in
    let f0 : SFits w32 area.y0 = search rules in
    let f1 : SFits w32 area.y1 = search rules in
    let top : pos c.unsigned-top.result ≡ area.y0 = simp to_z-of_z at c.unsigned-top.ensures.value in
    let last : pos c.unsigned-y-end.result ≡ area.y1 = simp to_z-of_z at c.unsigned-y-end.ensures.value in
    let row = row_within area.y0 area.y1 c.unsigned-top.result c.unsigned-y-end.result y top last c.loop-y.auto.y c.loop-y-test.true in
    let plan = c.if-plan-y.plan in
    let planned : (y ≤ plan.last) × IsPlanFrom y area holes plan =
    elim c.if-plan-y.branch [
      | then-plan-y w ↦ rw w.plan-is (w.plan_row-plan-then-plan-y.ensures.from, w.plan_row-plan-then-plan-y.ensures.columns)
      | else-plan-y w ↦ rw w.plan-is (omega (arith, w.if-plan-y.false), c.loop-y.invariant.plan)
    ] in
    record {
      picture = rows-more p c.loop-y.target.picture c.draw.new.target.picture (λ u v. is_free area holes (point_at (pos u) (pos v)) && is_some (colour u v)) (λ u v. unwrap_or (colour u v) 0) y
          (λ u. in_spans plan.spans (pos u) && is_some (colour u y)) (λ u old. unwrap_or (colour u y) 0) c.requires.shape
          (λ u u_in. ap (λ (b : Bool). b && is_some (colour u y)) (free-columns area holes plan.spans y u row (planned.1 y (le_refl y) planned.0)))
          (λ u old h. refl) c.loop-y.invariant.picture
          (c.draw.ensures.picture ∙ ap (λ (ss : List Span). operation_drawn a.assets.now inputs a.op.now a.origin y ss c.loop-y.target.picture) c.spans.ensures.value);
      plan = λ v from last. planned.1 v (omega (arith, from)) last;
    }

pub returns : goal.returns
returns c =
    let a = c.args in
    let p : Picture = a.target.now.picture in
    let inputs : Inputs = record { values = a.values.now; width = a.width; height = a.height } in
    let colour : ℕ → ℕ → Option ℕ = λ u v. colour_on_screen a.assets.now inputs a.op.now a.origin u v in
    let f1 : SFits w32 a.area.now.y1 = search rules in
    let f0 : SFits w32 a.area.now.y0 = search rules in
    let top : pos c.unsigned-top.result ≡ a.area.now.y0 = simp to_z-of_z at c.unsigned-top.ensures.value in
    let last : pos c.unsigned-y-end.result ≡ a.area.now.y1 = simp to_z-of_z at c.unsigned-y-end.ensures.value in
    let order : c.unsigned-top.result ≤ c.unsigned-y-end.result + 1 = omega (arith, ints, top, last, c.requires.area.rows) in
    let at_end : c.loop-y.y ≡ c.unsigned-y-end.result + 1 = omega (arith, c.loop-y.auto.y-end order, c.loop-y-test.false) in
    c.loop-y.invariant.picture
    ∙ ap (λ (y : ℕ). changed p (to_row (λ u v. is_free a.area.now a.holes.now (point_at (pos u) (pos v)) && is_some (colour u v)) y) (λ u v. unwrap_or (colour u v) 0)) at_end
    ∙ rows-end p (λ u v. is_free a.area.now a.holes.now (point_at (pos u) (pos v)) && is_some (colour u v)) (λ u v. unwrap_or (colour u v) 0) (c.unsigned-y-end.result + 1) c.requires.shape
    (λ u v h. free-high a.area.now a.holes.now c.unsigned-y-end.result u v last (and_parts _ _ h).0)
