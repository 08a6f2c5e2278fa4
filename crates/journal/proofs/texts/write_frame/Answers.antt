use Rattle.std.proofs.Common.{arith}
use Rattle.std.proofs.lemmas.Result.{err_from_is_err_and}
use Rattle.journal.specs.Texts.{frame_text}
use Rattle.journal.proofs.FrameLemmas.{lines_from-more, lines_from-end, frame_text-parts}
use Rattle.outside.proofs.CallerLemmas.{Partly-start, Partly-step, Partly-broken, Partly-done}
use Rattle.journal.proofs.texts.write_frame.Goals as goal

pub returns-in_err-write_header : goal.returns-in_err-write_header
returns-in_err-write_header g c =
    let p = err_from_is_err_and c.from_residual.result c.from_residual.ensures.1 in
    rw p.1 (Partly-broken _ _ _ _ _ _ _ (Partly-start (g.K.Sink.log c.args.out.now) (frame_text c.args.f.now.picture)) (frame_text-parts c.args.f.now.picture) c.in_err-write_header.ensures)

pub loop-y-init : goal.loop-y-init
loop-y-init g c =
    Partly-step _ _ _ _ _ _ _ (Partly-start (g.K.Sink.log c.args.out.now) (frame_text c.args.f.now.picture)) (frame_text-parts c.args.f.now.picture) c.in_ok-write_header.ensures

pub returns-in_err-write_row : goal.returns-in_err-write_row
returns-in_err-write_row g c =
    let p = err_from_is_err_and c.from_residual-in_err-write_row.result c.from_residual-in_err-write_row.ensures.1 in
    rw p.1 (Partly-broken _ _ _ _ _ _ _ c.loop-y.invariant (lines_from-more c.args.f.now.picture c.loop-y.y (omega arith)) c.in_err-write_row.ensures)

pub loop-y-preserved : goal.loop-y-preserved
loop-y-preserved g c =
    Partly-step _ _ _ _ _ _ _ c.loop-y.invariant (lines_from-more c.args.f.now.picture c.loop-y.y (omega arith)) c.in_ok-write_row.ensures

pub returns : goal.returns
returns g c = Partly-done _ _ _ _ c.loop-y.invariant (lines_from-end c.args.f.now.picture c.loop-y.y (omega arith))
