use Rattle.std.proofs.Common.{ℕ, ◌^◌, ◌<◌, refl, rules}
use Rattle.paint_ops.specs.Rows.{colour_on_screen}
use Rattle.paint_ops.proofs.SpanLemmas.{fits-drawn, spans-start, spans-some, spans-none, all_spans}
use Rattle.paint_ops.proofs.drawing.draw.Goals as goal
use Rattle.paint_ops.proofs.drawing.draw.Goals.{in-Some, in_default}

pub loop-span-init : goal.loop-span-init
loop-span-init c =
    let a = c.args in
    let colour = λ (u : ℕ). colour_on_screen a.assets.now (record { values = a.values.now; width = a.w; height = a.h }) a.op.now a.origin u a.y in
    let below : a.target.now.writes < 2 ^ 64 = rw (← c.writes-writes.ensures) (search rules) in
    spans-start a.target.now a.y a.spans.now colour c.width-width.ensures.shape below

pub draw_in-requires-clause-strip : goal.draw_in-requires-clause-strip
draw_in-requires-clause-strip c =
    let f = c.args.target.now in
    let w = c.width-width.ensures in
    let below : f.writes < 2 ^ 64 = rw (← c.writes-writes.ensures) (search rules) in
    fits-drawn f c.loop-span.target _ _ _ _ c.in-Some.strip c.loop-span.invariant (c.in-Some.ensures.fits f w.shape below w.value c.requires.row)

pub loop-span-preserved : goal.loop-span-preserved
loop-span-preserved c =
    let a = c.args in
    let f = a.target.now in
    let k = c.loop-span.span-index in
    let shape = c.width-width.ensures.shape in
    let more = c.loop-span-test.true in
    let colour = λ (v u : ℕ). colour_on_screen a.assets.now (record { values = a.values.now; width = a.w; height = a.h }) a.op.now a.origin u v in
    let columns = rw c.width-width.ensures.value at c.of.ensures.columns in
    elim c.match-of.branch [
      | in-Some w ↦
          rw w.target-is (spans-some f c.loop-span.target w.draw_in.new.target a.y k a.spans.now _ _ w.in-Some.strip colour shape more refl (rw w.in-Some.is at columns) c.loop-span.invariant w.draw_in.ensures w.in-Some.ensures.row)
      | in_default w ↦
          rw w.target-is (spans-none f c.loop-span.target a.y k a.spans.now _ _ (colour a.y) shape more refl (rw w.in_default.is at columns) c.loop-span.invariant)
    ]

pub returns : goal.returns
returns c =
    let a = c.args in
    let colour = λ (u : ℕ). colour_on_screen a.assets.now (record { values = a.values.now; width = a.w; height = a.h }) a.op.now a.origin u a.y in
    let all = all_spans a.target.now c.loop-span.target a.y c.loop-span.span-index a.spans.now colour c.loop-span.invariant c.loop-span-test.false in
    record { picture = all.0; writes = all.1 }
