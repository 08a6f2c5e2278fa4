use Rattle.std.proofs.Common.{Err, sym, subst}
use Rattle.std.proofs.lemmas.Result.{err_from_is_err_and}
use Rattle.outside.specs.Logs.{Whole, Broken}
use Rattle.calls.specs.declared.line.Line.TheVariants.{Tick}
use Rattle.mtgui_top.specs.declared.play.Stop.{Stop}
use Rattle.mtgui_top.specs.Outcome.{LineEnds}
use Rattle.mtgui_top.proofs.PlayLemmas.{tick_ends}
use Rattle.mtgui_top.proofs.play.tick.Goals as goal

pub returns-in_err-write_tick : goal.returns-in_err-write_tick
returns-in_err-write_tick g c =
    let ends = tick_ends c.args.gui.now c.tick.new.self c.tick.result c.tick.ensures.entered c.tick.ensures.waited in
    let broken = subst (Broken (g.K.Sink.log c.args.out.now) (g.K.Sink.log c.write_tick.new.out)) ends.1 c.in_err-write_tick.ensures in
    let p = err_from_is_err_and c.from_residual.result c.from_residual.ensures.1 in
    rw p.1 (subst (λ (e : Stop). LineEnds (Err e) c.args.gui.now Tick c.tick.new.self (g.K.Sink.log c.args.out.now) (g.K.Sink.log c.write_tick.new.out)) (sym p.2) (ends.0, broken))

pub returns : goal.returns
returns g c =
    let ends = tick_ends c.args.gui.now c.tick.new.self c.tick.result c.tick.ensures.entered c.tick.ensures.waited in
    (ends.0, subst (Whole (g.K.Sink.log c.args.out.now) (g.K.Sink.log c.write_tick.new.out)) ends.1 c.in_ok-write_tick.ensures)
