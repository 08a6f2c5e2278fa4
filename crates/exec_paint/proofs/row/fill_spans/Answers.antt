use Rattle.std.proofs.Common.{pos, sym, ap, subst, ◌∙◌}
use Rattle.frame.specs.Canvases.{Canvas}
use Rattle.frame.specs.Pictures.{HasShape}
use Rattle.region.specs.declared.span.Span.{Span}
use Rattle.paint_ops.proofs.CallerLemmas.{in_first}
use Rattle.exec_paint.proofs.RowLemmas.{has_shape-row_mapped}
use Rattle.exec_paint.proofs.SpansLemmas.{fill-start, fill-some, fill-none, fill-end}
use Rattle.exec_paint.proofs.row.fill_spans.Goals as goal
use Rattle.exec_paint.proofs.row.fill_spans.Goals.{in-Some, in_default}

abbrev no_span : Span
no_span = record { x0 = pos 0; x1 = pos 0 }

pub loop-span-init : goal.loop-span-init
loop-span-init c = fill-start c.args.target.now.picture c.args.spans.now c.args.y c.args.colour c.requires.shape

pub fill_run-requires-clause-shape : goal.fill_run-requires-clause-shape
fill_run-requires-clause-shape c = subst HasShape (sym c.loop-span.invariant) (has_shape-row_mapped c.args.target.now.picture c.args.y (in_first c.args.spans.now c.loop-span.span-index) (λ u old. c.args.colour) c.requires.shape)

pub loop-span-preserved : goal.loop-span-preserved
loop-span-preserved c =
    let a = c.args in
    let p = a.target.now.picture in
    let k = c.loop-span.span-index in
    let columns = rw c.width-width.ensures.value at c.run_of_span.ensures.columns in
    elim c.match-run_of_span.branch [
      | in-Some w ↦
          ap (λ (f : Canvas). f.picture) w.target-is
          ∙ fill-some p c.loop-span.target.picture w.fill_run.new.target.picture a.y k a.colour a.spans.now no_span w.in-Some.run' c.requires.shape c.loop-span-test.true w.in-Some.ensures.row (rw w.in-Some.is at columns)
          c.loop-span.invariant w.fill_run.ensures
      | in_default w ↦
          ap (λ (f : Canvas). f.picture) w.target-is
          ∙ fill-none p c.loop-span.target.picture a.y k a.colour a.spans.now no_span c.requires.shape c.loop-span-test.true (rw w.in_default.is at columns) c.loop-span.invariant
    ]

pub returns : goal.returns
returns c = fill-end c.args.target.now.picture c.loop-span.target.picture c.args.y c.loop-span.span-index c.args.colour c.args.spans.now c.loop-span-test.false c.loop-span.invariant
