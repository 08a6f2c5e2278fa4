use Rattle.std.proofs.Common.{le_refl, ◌≡◌, ◌+◌, ◌≤◌, pos, w32, SFits, rules, arith}
use Rattle.std.proofs.lemmas.Int.{ints, to_z-of_z}
use Rattle.gfx_base.specs.Rects.{point_at}
use Rattle.region.specs.Spans.{in_spans}
use Rattle.exec_paint.specs.Plans.{IsPlanFrom}
use Rattle.exec_paint.proofs.CallerLemmas.{tiles-none_yet, tiles-row, tiles-all_rows, row_within}
use Rattle.strokes.specs.Parts.{is_free}
use Rattle.strokes.proofs.RowLemmas.{free-low, free-high, free-columns}
use Rattle.strokes.proofs.edges.free_tiles.Goals as goal
use Rattle.strokes.proofs.edges.free_tiles.Goals.{then-plan-y, else-plan-y}

pub loop-y-init : goal.loop-y-init
loop-y-init c =
    let a = c.args in
    let f : SFits w32 a.area.now.y0 = search rules in
    let top : pos c.unsigned-top.result ≡ a.area.now.y0 = simp to_z-of_z at c.unsigned-top.ensures.value in
    record {
      tiles = tiles-none_yet a.width a.height c.unsigned-top.result (λ u v. is_free a.area.now a.holes.now (point_at (pos u) (pos v))) c.empty-tiles.result (λ u v h. free-low a.area.now a.holes.now c.unsigned-top.result u v top h) c.empty-tiles.ensures;
      plan = c.plan_row-plan.ensures.columns;
    }

pub loop-y-preserved : goal.loop-y-preserved
loop-y-preserved c =
    let a = c.args in
    let area = a.area.now in
    let holes = a.holes.now in
    let y = c.loop-y.y in
    let f0 : SFits w32 area.y0 = search rules in
    let f1 : SFits w32 area.y1 = search rules in
    let top : pos c.unsigned-top.result ≡ area.y0 = simp to_z-of_z at c.unsigned-top.ensures.value in
    let last : pos c.unsigned-y-end.result ≡ area.y1 = simp to_z-of_z at c.unsigned-y-end.ensures.value in
    let row = row_within area.y0 area.y1 c.unsigned-top.result c.unsigned-y-end.result y top last c.loop-y.auto.y c.loop-y-test.true in
    let plan = c.if-plan-y.plan in
    let planned : (y ≤ plan.last) × IsPlanFrom y area holes plan =
    elim c.if-plan-y.branch [
      | then-plan-y w ↦ rw w.plan-is (w.plan_row-plan-then-plan-y.ensures.from, w.plan_row-plan-then-plan-y.ensures.columns)
      | else-plan-y w ↦ rw w.plan-is (omega (arith, w.if-plan-y.false), c.loop-y.invariant.plan)
    ] in
    record {
      tiles = tiles-row a.width a.height y (λ u v. is_free area holes (point_at (pos u) (pos v))) (λ u. in_spans plan.spans (pos u)) c.loop-y.tiles c.add_tiles.new.tiles (omega (arith, ints, c.requires.area.bottom, last, c.loop-y-test.true))
          (λ u u_in. free-columns area holes plan.spans y u row (planned.1 y (le_refl y) planned.0)) c.loop-y.invariant.tiles (rw c.spans.ensures.value at c.add_tiles.ensures);
      plan = λ v from last. planned.1 v (omega (arith, from)) last;
    }

pub returns : goal.returns
returns c =
    let a = c.args in
    let f1 : SFits w32 a.area.now.y1 = search rules in
    let last : pos c.unsigned-y-end.result ≡ a.area.now.y1 = simp to_z-of_z at c.unsigned-y-end.ensures.value in
    let past : c.unsigned-y-end.result + 1 ≤ c.loop-y.y = c.loop-y-test.false in
    tiles-all_rows a.width a.height c.loop-y.y (λ u v. is_free a.area.now a.holes.now (point_at (pos u) (pos v))) c.loop-y.tiles
    (λ u v h. let high = free-high a.area.now a.holes.now c.unsigned-y-end.result u v last h in omega arith) c.loop-y.invariant.tiles
