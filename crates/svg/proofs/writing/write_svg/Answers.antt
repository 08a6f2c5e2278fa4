use Rattle.std.proofs.Common.{arith}
use Rattle.std.proofs.lemmas.Result.{err_from_is_err_and}
use Rattle.outside.proofs.CallerLemmas.{Partly-start, Partly-step, Partly-broken, Partly-left, Partly-last}
use Rattle.svg.specs.Texts.{svg_text}
use Rattle.svg.proofs.TextLemmas.{svg_text-parts, rest_from-more, rest_from-end}
use Rattle.svg.proofs.writing.write_svg.Goals as goal

pub returns-in_err-write_head : goal.returns-in_err-write_head
returns-in_err-write_head g c =
    let p = err_from_is_err_and c.from_residual.result c.from_residual.ensures.1 in
    rw p.1 (Partly-broken _ _ _ _ _ _ _ (Partly-start (g.K.Sink.log c.args.out.now) (svg_text c.args.image.now)) (svg_text-parts c.args.image.now) (rw (c.width.ensures.value, c.height.ensures.value) at c.in_err-write_head.ensures))

pub loop-y-init : goal.loop-y-init
loop-y-init g c =
    Partly-step _ _ _ _ _ _ _ (Partly-start (g.K.Sink.log c.args.out.now) (svg_text c.args.image.now)) (svg_text-parts c.args.image.now) (rw (c.width.ensures.value, c.height.ensures.value) at c.in_ok-write_head.ensures)

pub returns-in_err-write_row : goal.returns-in_err-write_row
returns-in_err-write_row g c =
    let p = err_from_is_err_and c.from_residual-in_err-write_row.result c.from_residual-in_err-write_row.ensures.1 in
    rw p.1 (Partly-broken _ _ _ _ _ _ _ c.loop-y.invariant (rest_from-more c.args.image.now c.loop-y.y (omega arith)) c.in_err-write_row.ensures)

pub loop-y-preserved : goal.loop-y-preserved
loop-y-preserved g c =
    Partly-step _ _ _ _ _ _ _ c.loop-y.invariant (rest_from-more c.args.image.now c.loop-y.y (omega arith)) c.in_ok-write_row.ensures

pub returns : goal.returns
returns g c = Partly-last c.write.result _ _ _ _ _ (Partly-left _ _ _ _ _ c.loop-y.invariant (rest_from-end c.args.image.now c.loop-y.y (omega arith))) c.write.ensures
