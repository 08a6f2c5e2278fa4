use Rattle.std.proofs.Common.{le_refl, ◌≡◌, ◌+◌, ◌≤◌, ◌&&◌, true, pos, List, refl, sym, ap, subst, ◌∙◌, w32, SFits, rules, arith}
use Rattle.std.specs.Prelude.{◌==◌, not}
use Rattle.std.proofs.lemmas.Bool.{and_parts}
use Rattle.std.proofs.lemmas.Int.{ints, to_z-of_z}
use Rattle.gfx_base.specs.Range.{is_within}
use Rattle.gfx_base.specs.Rects.{point_at}
use Rattle.frame.specs.Pictures.{HasShape, changed}
use Rattle.frame.proofs.CallerLemmas.{changed-none, has_shape-changed}
use Rattle.region.specs.declared.span.Span.{Span}
use Rattle.region.specs.Spans.{in_spans}
use Rattle.paint_ops.proofs.CallerLemmas.{within-from}
use Rattle.exec_paint.specs.Plans.{IsPlanFrom, is_hidden}
use Rattle.exec_paint.proofs.CallerLemmas.{to_row, row_within}
use Rattle.strokes.specs.Parts.{is_free, colour_copied}
use Rattle.strokes.proofs.RowLemmas.{free-low, free-high, free-columns}
use Rattle.strokes.proofs.CopyLemmas.{changed-more, changed-whole, row-start, row-more, row-end, area-copied, area-on}
use Rattle.strokes.proofs.copies.copy_free.Goals as goal
use Rattle.strokes.proofs.copies.copy_free.Goals.{then-plan-y, else-plan-y}

pub loop-y-init : goal.loop-y-init
loop-y-init c =
    let a = c.args in
    let f : SFits w32 a.area.now.y0 = search rules in
    let top : pos c.unsigned-top.result ≡ a.area.now.y0 = simp to_z-of_z at c.unsigned-top.ensures.value in
    record {
      picture = sym (changed-none a.target.now.picture (to_row (λ u v. is_free a.area.now a.holes.now (point_at (pos u) (pos v))) c.unsigned-top.result) (colour_copied a.from.now.picture a.corner) c.requires.shape
          (λ u v _ _. row-start (λ u v. is_free a.area.now a.holes.now (point_at (pos u) (pos v))) c.unsigned-top.result u v (λ h. free-low a.area.now a.holes.now c.unsigned-top.result u v top h)));
      plan = c.plan_row-plan.ensures.columns;
    }

pub copy_spans-requires-clause-shape : goal.copy_spans-requires-clause-shape
copy_spans-requires-clause-shape c =
    let a = c.args in
    subst HasShape (sym c.loop-y.invariant.picture) (has_shape-changed a.target.now.picture (to_row (λ u v. is_free a.area.now a.holes.now (point_at (pos u) (pos v))) c.loop-y.y) (colour_copied a.from.now.picture a.corner) c.requires.shape)

pub copy_spans-requires-clause-row : goal.copy_spans-requires-clause-row
copy_spans-requires-clause-row c =
    let a = c.args in
    let area = a.area.now in
    let f0 : SFits w32 area.y0 = search rules in
    let f1 : SFits w32 area.y1 = search rules in
    let top : pos c.unsigned-top.result ≡ area.y0 = simp to_z-of_z at c.unsigned-top.ensures.value in
    let last : pos c.unsigned-y-end.result ≡ area.y1 = simp to_z-of_z at c.unsigned-y-end.ensures.value in
    let row = row_within area.y0 area.y1 c.unsigned-top.result c.unsigned-y-end.result c.loop-y.y top last c.loop-y.auto.y c.loop-y-test.true in
    (area-copied a.from.now.picture a.corner area area.x0 (pos c.loop-y.y) c.requires.inside (within-from area.x0 area.x1 area.x0 (omega (arith, ints)) c.requires.area.columns) row).1

pub copy_spans-requires-clause-columns : goal.copy_spans-requires-clause-columns
copy_spans-requires-clause-columns c x h =
    let a = c.args in
    let area = a.area.now in
    let y = c.loop-y.y in
    let f0 : SFits w32 area.y0 = search rules in
    let f1 : SFits w32 area.y1 = search rules in
    let top : pos c.unsigned-top.result ≡ area.y0 = simp to_z-of_z at c.unsigned-top.ensures.value in
    let last : pos c.unsigned-y-end.result ≡ area.y1 = simp to_z-of_z at c.unsigned-y-end.ensures.value in
    let row = row_within area.y0 area.y1 c.unsigned-top.result c.unsigned-y-end.result y top last c.loop-y.auto.y c.loop-y-test.true in
    let plan = c.if-plan-y.plan in
    let planned : (y ≤ plan.last) × IsPlanFrom y area a.holes.now plan =
    elim c.if-plan-y.branch [
      | then-plan-y w ↦ rw w.plan-is (w.plan_row-plan-then-plan-y.ensures.from, w.plan_row-plan-then-plan-y.ensures.columns)
      | else-plan-y w ↦ rw w.plan-is (omega (arith, w.if-plan-y.false), c.loop-y.invariant.plan)
    ] in
    let here : in_spans plan.spans x ≡ true = rw c.spans.ensures.value at h in
    let column = (and_parts (is_within area.x0 area.x1 x) (not (is_hidden a.holes.now (point_at x (pos y)))) (sym (planned.1 y (le_refl y) planned.0 x) ∙ here)).0 in
    rw c.loop-y.invariant.picture ((area-copied a.from.now.picture a.corner area x (pos y) c.requires.inside column row).0, area-on a.target.now.picture.width a.target.now.picture.height area x c.requires.area column)

pub loop-y-preserved : goal.loop-y-preserved
loop-y-preserved c =
    let a = c.args in
    let area = a.area.now in
    let holes = a.holes.now in
    let y = c.loop-y.y in
    let colours = colour_copied a.from.now.picture a.corner in
    let f0 : SFits w32 area.y0 = search rules in
    let f1 : SFits w32 area.y1 = search rules in
    let top : pos c.unsigned-top.result ≡ area.y0 = simp to_z-of_z at c.unsigned-top.ensures.value in
    let last : pos c.unsigned-y-end.result ≡ area.y1 = simp to_z-of_z at c.unsigned-y-end.ensures.value in
    let row = row_within area.y0 area.y1 c.unsigned-top.result c.unsigned-y-end.result y top last c.loop-y.auto.y c.loop-y-test.true in
    let plan = c.if-plan-y.plan in
    let planned : (y ≤ plan.last) × IsPlanFrom y area holes plan =
    elim c.if-plan-y.branch [
      | then-plan-y w ↦ rw w.plan-is (w.plan_row-plan-then-plan-y.ensures.from, w.plan_row-plan-then-plan-y.ensures.columns)
      | else-plan-y w ↦ rw w.plan-is (omega (arith, w.if-plan-y.false), c.loop-y.invariant.plan)
    ] in
    record {
      picture = changed-more a.target.now.picture c.loop-y.target.picture c.copy_spans.new.target.picture (to_row (λ u v. is_free area holes (point_at (pos u) (pos v))) y) (λ u v. v == y && in_spans plan.spans (pos u)) (to_row (λ u v. is_free area holes (point_at (pos u) (pos v))) (y + 1)) colours colours c.requires.shape
          (λ u v _ _. row-more (λ u v. is_free area holes (point_at (pos u) (pos v))) (λ u. in_spans plan.spans (pos u)) y u v (free-columns area holes plan.spans y u row (planned.1 y (le_refl y) planned.0)))
          (λ u v _ _ _. refl) c.loop-y.invariant.picture
          (c.copy_spans.ensures ∙ ap (λ (ss : List Span). changed c.loop-y.target.picture (λ u v. v == y && in_spans ss (pos u)) colours) c.spans.ensures.value);
      plan = λ v from last. planned.1 v (omega (arith, from)) last;
    }

pub returns : goal.returns
returns c =
    let a = c.args in
    let f1 : SFits w32 a.area.now.y1 = search rules in
    let last : pos c.unsigned-y-end.result ≡ a.area.now.y1 = simp to_z-of_z at c.unsigned-y-end.ensures.value in
    let past : c.unsigned-y-end.result + 1 ≤ c.loop-y.y = c.loop-y-test.false in
    changed-whole a.target.now.picture c.loop-y.target.picture (to_row (λ u v. is_free a.area.now a.holes.now (point_at (pos u) (pos v))) c.loop-y.y) (λ u v. is_free a.area.now a.holes.now (point_at (pos u) (pos v))) (colour_copied a.from.now.picture a.corner) c.requires.shape
    (λ u v _ _. row-end (λ u v. is_free a.area.now a.holes.now (point_at (pos u) (pos v))) c.loop-y.y u v (λ h. let high = free-high a.area.now a.holes.now c.unsigned-y-end.result u v last h in omega arith)) c.loop-y.invariant.picture
