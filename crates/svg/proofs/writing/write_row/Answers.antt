use Rattle.std.proofs.Common.{arith}
use Rattle.std.specs.List.{flat_map}
use Rattle.std.proofs.lemmas.Result.{err_from_is_err_and}
use Rattle.outside.proofs.CallerLemmas.{Partly-start, Partly-left, Partly-step, Partly-broken, Partly-done}
use Rattle.svg.specs.Rectangles.{rectangles_of_row}
use Rattle.svg.specs.Texts.{rectangle_text}
use Rattle.svg.proofs.TextLemmas.{row_from-first, row_from-more, row_from-end}
use Rattle.svg.proofs.writing.write_row.Goals as goal

pub loop-x-init : goal.loop-x-init
loop-x-init g c =
    Partly-left _ _ _ _ _ (Partly-start (g.K.Sink.log c.args.out.now) (flat_map rectangle_text (rectangles_of_row c.args.image.now c.args.y))) (row_from-first c.args.image.now c.args.y)

pub returns-in_err-write_at : goal.returns-in_err-write_at
returns-in_err-write_at g c =
    let p = err_from_is_err_and c.from_residual.result c.from_residual.ensures.1 in
    rw p.1 (Partly-broken _ _ _ _ _ _ _ c.loop-x.invariant (row_from-more c.args.image.now c.args.y c.loop-x.x (omega arith)) c.in_err-write_at.ensures)

pub loop-x-preserved : goal.loop-x-preserved
loop-x-preserved g c =
    Partly-step _ _ _ _ _ _ _ c.loop-x.invariant (row_from-more c.args.image.now c.args.y c.loop-x.x (omega arith)) c.in_ok-write_at.ensures

pub returns : goal.returns
returns g c = Partly-done _ _ _ _ c.loop-x.invariant (row_from-end c.args.image.now c.args.y c.loop-x.x (omega arith))
