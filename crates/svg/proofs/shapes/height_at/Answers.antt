use Rattle.std.proofs.Common.{true, false, arith}
use Rattle.frame.specs.Pictures.{row_at}
use Rattle.svg.proofs.ColumnLemmas.{same_at, rows_with-more, rows_with-other, rows_with-end, height_at-first}
use Rattle.svg.proofs.shapes.height_at.Goals.{then-loop-end-test+else-is_same_run, else-loop-end-test}
use Rattle.svg.proofs.shapes.height_at.Goals as goal

pub loop-end-init : goal.loop-end-init
loop-end-init c =
    let inside = c.requires.inside in
    let first = height_at-first c.args.image.now c.args.x c.args.y inside.1 in
    record { after = omega arith; within = omega arith; rest = omega arith }

pub loop-end-preserved : goal.loop-end-preserved
loop-end-preserved c =
    let p = c.args.image.now in
    let end = c.loop-end.end in
    let kept = c.loop-end.invariant in
    let below = c.loop-end-test.true in
    let same = same_at p c.args.x c.args.y end _ _ _ true c.row.ensures.value c.row-row.ensures.value c.is_same_run.ensures c.if-is_same_run.true in
    let more = rows_with-more p c.args.x end (row_at p c.args.y) (omega arith) same in
    record { after = omega arith; within = omega arith; rest = omega arith }

pub returns : goal.returns
returns c =
    let p = c.args.image.now in
    let end = c.loop-end.end in
    let kept = c.loop-end.invariant in
    elim c.loop-end-test.branch [
      | then-loop-end-test+else-is_same_run w ↦
          let below = w.loop-end-test.true in
          let other = same_at p c.args.x c.args.y end _ _ _ false w.row.ensures.value c.row-row.ensures.value w.is_same_run.ensures w.if-is_same_run.false in
          let none = rows_with-other p c.args.x end (row_at p c.args.y) (omega arith) other in
          omega arith
      | else-loop-end-test w ↦
          let above = w.loop-end-test.false in
          let none = rows_with-end p c.args.x end (row_at p c.args.y) (omega arith) in
          omega arith
    ]
