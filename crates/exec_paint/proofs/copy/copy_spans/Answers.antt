use Rattle.std.proofs.Common.{◌<◌, pos, sym, subst, ◌∙◌, arith}
use Rattle.frame.specs.Canvases.{Canvas}
use Rattle.frame.specs.Pictures.{HasShape, colour_at}
use Rattle.frame.proofs.CallerLemmas.{has_shape-changed}
use Rattle.region.specs.declared.span.Span.{Span}
use Rattle.paint_ops.proofs.CallerLemmas.{in_first}
use Rattle.exec_paint.specs.Rows.{FitsIn}
use Rattle.exec_paint.specs.Writes.{HaveSameSides, in_row}
use Rattle.exec_paint.proofs.CopyLemmas.{spans-start, spans-some, spans-none, spans-end}
use Rattle.exec_paint.proofs.copy.copy_spans.Goals as goal
use Rattle.exec_paint.proofs.copy.copy_spans.Goals.{in-Some, in_default}

abbrev no_span : Span
no_span = record { x0 = pos 0; x1 = pos 0 }

pub loop-span-init : goal.loop-span-init
loop-span-init c = spans-start c.args.target.now c.args.y c.args.spans.now (colour_at c.args.device.now.picture) c.width-width.ensures.shape c.frame_is_sound.ensures.count

pub copy_run-requires-clause-sides : goal.copy_run-requires-clause-sides
copy_run-requires-clause-sides c = subst (λ (f : Canvas). HaveSameSides c.args.device.now.picture f.picture) (sym c.loop-span.invariant) c.requires.sides

pub copy_run-requires-clause-shape : goal.copy_run-requires-clause-shape
copy_run-requires-clause-shape c =
    subst (λ (f : Canvas). HasShape f.picture) (sym c.loop-span.invariant) (has_shape-changed c.args.target.now.picture (in_row c.args.y (in_first c.args.spans.now c.loop-span.span-index)) (colour_at c.args.device.now.picture) c.width-width.ensures.shape)

pub copy_run-requires-clause-run : goal.copy_run-requires-clause-run
copy_run-requires-clause-run c =
    let p = c.args.target.now.picture in
    let run = c.in-Some.run' in
    let within : run.right < p.width = omega (arith, c.in-Some.ensures.within, c.width-width.ensures.value) in
    let row : run.y < p.height = omega (arith, c.in-Some.ensures.row, c.requires.row) in
    subst (λ (f : Canvas). FitsIn f.picture run) (sym c.loop-span.invariant) (record { some = c.in-Some.ensures.some; within = within; row = row })

pub loop-span-preserved : goal.loop-span-preserved
loop-span-preserved c =
    let a = c.args in
    let f = a.target.now in
    let k = c.loop-span.span-index in
    let colour = colour_at a.device.now.picture in
    let shape = c.width-width.ensures.shape in
    let columns = rw c.width-width.ensures.value at c.run_of_span.ensures.columns in
    elim c.match-run_of_span.branch [
      | in-Some w ↦
          w.target-is ∙ spans-some f c.loop-span.target w.copy_run.new.target a.y k a.spans.now no_span w.in-Some.run' colour shape c.requires.rising c.loop-span-test.true w.in-Some.ensures.row (rw w.in-Some.is at columns) c.loop-span.invariant w.copy_run.ensures
      | in_default w ↦ w.target-is ∙ spans-none f c.loop-span.target a.y k a.spans.now no_span colour shape c.loop-span-test.true (rw w.in_default.is at columns) c.loop-span.invariant
    ]

pub returns : goal.returns
returns c = spans-end c.args.target.now c.loop-span.target c.args.y c.loop-span.span-index c.args.spans.now (colour_at c.args.device.now.picture) c.loop-span-test.false c.loop-span.invariant
