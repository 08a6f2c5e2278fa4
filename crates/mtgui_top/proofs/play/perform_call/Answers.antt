use Rattle.std.proofs.Common.{Err, sym, subst, ◌∙◌}
use Rattle.std.proofs.lemmas.Result.{err_from_is_err_and}
use Rattle.outside.specs.Logs.{Whole, Broken}
use Rattle.calls.specs.declared.line.Act.TheVariants as act
use Rattle.calls.specs.declared.line.Line.TheVariants.{Task}
use Rattle.mtgui_top.specs.declared.play.Stop.{Stop}
use Rattle.mtgui_top.specs.Outcome.{LineEnds}
use Rattle.mtgui_top.proofs.PlayLemmas.{call_ends}
use Rattle.mtgui_top.proofs.play.perform_call.Goals as goal

pub returns-in_err-write_reply : goal.returns-in_err-write_reply
returns-in_err-write_reply g c =
    let old = c.args.gui.now in
    let new = c.apply-reply.new.self in
    let ends = call_ends old new c.args.task c.args.call.now c.apply-reply.result c.shown.result.now.picture c.requires.room c.apply-reply.ensures.full (sym c.is_want_of_memory.ensures ∙ c.if-is_want_of_memory.false) c.apply-reply.ensures.answers c.shown.ensures in
    let broken = subst (Broken (g.K.Sink.log c.args.out.now) (g.K.Sink.log c.write_reply.new.out)) ends.1 c.in_err-write_reply.ensures in
    let p = err_from_is_err_and c.from_residual.result c.from_residual.ensures.1 in
    rw p.1 (subst (λ (e : Stop). LineEnds (Err e) old (Task c.args.task (act.Call c.args.call.now)) new (g.K.Sink.log c.args.out.now) (g.K.Sink.log c.write_reply.new.out)) (sym p.2) (ends.0, broken))

pub returns : goal.returns
returns g c =
    let ends = call_ends c.args.gui.now c.apply-reply.new.self c.args.task c.args.call.now c.apply-reply.result c.shown.result.now.picture c.requires.room c.apply-reply.ensures.full (sym c.is_want_of_memory.ensures ∙ c.if-is_want_of_memory.false) c.apply-reply.ensures.answers c.shown.ensures in
    (ends.0, subst (Whole (g.K.Sink.log c.args.out.now) (g.K.Sink.log c.write_reply.new.out)) ends.1 c.in_ok-write_reply.ensures)
