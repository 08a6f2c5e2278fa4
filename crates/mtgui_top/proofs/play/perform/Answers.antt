use Rattle.std.proofs.Common.{◌≡◌, List, ℕ, length, Result, Ok, Err, sym, subst, ap, ◌∙◌}
use Rattle.std.proofs.lemmas.Result.{err_from_is_err_and}
use Rattle.calls.specs.declared.line.Line.{Line}
use Rattle.outside.specs.Logs.{SinkLog, Wrote}
use Rattle.outside.proofs.CallerLemmas.{Partly-step, Partly-left, Partly-last}
use Rattle.mtgui_top.specs.declared.play.Stop.{Stop}
use Rattle.gui_core.specs.Histories.{state_of, refused_of}
use Rattle.mtgui_top.specs.Histories.{LineDone}
use Rattle.mtgui_top.specs.Outcome.{LinesEnd}
use Rattle.mtgui_top.proofs.PlayLemmas.{stepped, all-made, history-more, replies-step, counted-more, after_lines-more, replies-all, summary-last, line_left}
use Rattle.mtgui_top.proofs.play.perform.Goals as goal

wrote_is : {T E : Type 0} (r : Result T E) (a b : SinkLog) (t u : List ℕ) → t ≡ u → Wrote r a b t → Wrote r a b u
wrote_is r a b t u e h = subst (Wrote r a b) e h

pub loop-line-preserved : goal.loop-line-preserved
loop-line-preserved g c =
    let setup = c.args.gui.now.setup in
    let old = c.loop-line.gui in
    let new = c.perform_line.new.gui in
    let line = c.line-item.result in
    let ended = c.in_ok-perform_line.ensures in
    let done = subst (λ (l : Line). LineDone old l new) c.line-item.is ended.0 in
    let lines = c.args.lines.now in
    let i = c.loop-line.line-index in
    let kept = c.loop-line.invariant in
    record {
      setup = done.setup ∙ kept.setup;
      made = all-made old new lines i line _ c.loop-line-test.true done kept.made;
      refused = counted-more setup old new lines i line _ c.loop-line-test.true kept.setup done kept.refused;
      history = history-more setup old new lines i line _ c.loop-line-test.true kept.setup done kept.history;
      last = sym (after_lines-more setup (state_of old) (state_of new) lines i line c.loop-line-test.true (stepped setup old new _ kept.setup done)) ∙ kept.last;
      wrote = Partly-step _ _ _ _ _ _ _ kept.wrote (replies-step setup old new lines i line _ c.line-item.is c.loop-line-test.true kept.setup ended.0) ended.1;
    }

pub returns-in_err-perform_line : goal.returns-in_err-perform_line
returns-in_err-perform_line g c =
    let p = err_from_is_err_and c.from_residual.result c.from_residual.ensures.1 in
    let setup = c.args.gui.now.setup in
    let s = state_of c.args.gui.now in
    let lines = c.args.lines.now in
    let kept = c.loop-line.invariant in
    let left = line_left c.in_err-perform_line.field-0.0 setup s lines c.loop-line.line-index c.line-item.result c.loop-line.gui c.perform_line.new.gui (g.K.Sink.log c.args.out.now) (g.K.Sink.log c.loop-line.out) (g.K.Sink.log c.perform_line.new.out) c.line-item.is c.loop-line-test.true kept.setup kept.wrote c.in_err-perform_line.ensures in
    rw p.1 (subst (λ (e : Stop). LinesEnd (Err e) setup s lines (g.K.Sink.log c.args.out.now) (g.K.Sink.log c.perform_line.new.out)) (sym p.2) left)

pub returns-in_err-write_summary : goal.returns-in_err-write_summary
returns-in_err-write_summary g c =
    let p = err_from_is_err_and c.from_residual-in_err-write_summary.result c.from_residual-in_err-write_summary.ensures.1 in
    let setup = c.args.gui.now.setup in
    let s = state_of c.args.gui.now in
    let now = state_of c.loop-line.gui in
    let lines = c.args.lines.now in
    let i = c.loop-line.line-index in
    let kept = c.loop-line.invariant in
    let r : Result (Unit {0}) _ = Err c.in_err-write_summary.field-0.0 in
    let last = summary-last setup s now lines i (refused_of c.loop-line.gui) _ c.loop-line.gui.history c.loop-line-test.false kept.refused kept.last kept.history (c.len.ensures.value ∙ ap length c.windows.ensures) in
    let broken = Partly-last r _ _ _ _ _ (Partly-left _ _ _ _ _ kept.wrote (replies-all setup now lines i _ c.loop-line-test.false)) (wrote_is r _ _ _ _ last (rw (c.refused-refused.ensures, c.mark_count-shown.ensures, c.history.ensures.entries, c.call_count.ensures.value) at c.in_err-write_summary.ensures)) in
    rw p.1 (subst (λ (e : Stop). LinesEnd (Err e) setup s lines (g.K.Sink.log c.args.out.now) (g.K.Sink.log c.write_summary.new.out)) (sym p.2) broken)

pub returns : goal.returns
returns g c =
    let setup = c.args.gui.now.setup in
    let s = state_of c.args.gui.now in
    let now = state_of c.loop-line.gui in
    let lines = c.args.lines.now in
    let i = c.loop-line.line-index in
    let kept = c.loop-line.invariant in
    let r : Result (Unit {0}) (Unit {0}) = Ok tt in
    let last = summary-last setup s now lines i (refused_of c.loop-line.gui) _ c.loop-line.gui.history c.loop-line-test.false kept.refused kept.last kept.history (c.len.ensures.value ∙ ap length c.windows.ensures) in
    Partly-last r _ _ _ _ _ (Partly-left _ _ _ _ _ kept.wrote (replies-all setup now lines i _ c.loop-line-test.false)) (wrote_is r _ _ _ _ last (rw (c.refused-refused.ensures, c.mark_count-shown.ensures, c.history.ensures.entries, c.call_count.ensures.value) at c.in_ok-write_summary.ensures))
