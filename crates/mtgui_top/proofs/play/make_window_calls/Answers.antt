use Rattle.std.proofs.Common.{◌+◌, ◌≤◌, drop, ap, sym, subst, ◌∙◌}
use Rattle.calls.specs.declared.line.Line.{Line}
use Rattle.calls.specs.Lines.{call_count}
use Rattle.gui_core.specs.Histories.{Chronicle, state_of, calls_in}
use Rattle.mtgui_top.specs.Changes.{may_change}
use Rattle.mtgui_top.specs.Histories.{LineDone, HasRoom}
use Rattle.mtgui_top.proofs.PlayLemmas.{stepped, room-more, made-more, skipped-more, window_call-more, other_call-more, after_window_calls}
use Rattle.mtgui_top.proofs.play.make_window_calls.Goals.{then-changes_windows, else-changes_windows}
use Rattle.mtgui_top.proofs.play.make_window_calls.Goals as goal

pub make_call-requires-clause-room : goal.make_call-requires-clause-room
make_call-requires-clause-room c =
    let kept = c.loop-line.invariant in
    subst (HasRoom c.loop-line.gui) (sym c.line-item.is)
    (room-more c.loop-line.gui c.args.lines.now c.loop-line.line-index c.line-item.result _ c.loop-line-test.true kept.made c.requires.fresh.room (ap (λ setup. setup.config.calls) kept.setup))

pub loop-line-preserved : goal.loop-line-preserved
loop-line-preserved c =
    let kept = c.loop-line.invariant in
    let setup = c.args.gui.now.setup in
    let old = c.loop-line.gui in
    let lines = c.args.lines.now in
    let i = c.loop-line.line-index in
    let lt = c.loop-line-test.true in
    let line = c.line-item.result in
    let may = ap may_change (sym c.line-item.is) ∙ sym c.changes_windows.ensures in
    elim c.if-changes_windows.branch [
      | then-changes_windows w ↦
          let new = w.make_call.new.gui in
          let done = subst (λ (l : Line). LineDone old l new) c.line-item.is w.make_call.ensures in
          record {
            setup = ap (λ (m : Chronicle). m.setup) w.gui-is ∙ done.setup ∙ kept.setup;
            made = subst (λ (m : Chronicle). calls_in m.history + call_count (drop (i + 1) lines) ≤ call_count lines) (sym w.gui-is) (made-more old new lines i line _ lt done kept.made);
            last = ap (λ (m : Chronicle). after_window_calls setup (state_of m) (drop (i + 1) lines)) w.gui-is ∙ sym (window_call-more setup (state_of old) (state_of new) lines i line lt (may ∙ w.if-changes_windows.true) (stepped setup old new _ kept.setup done)) ∙ kept.last;
          }
      | else-changes_windows w ↦ record {
        setup = ap (λ (m : Chronicle). m.setup) w.gui-is ∙ kept.setup;
        made = subst (λ (m : Chronicle). calls_in m.history + call_count (drop (i + 1) lines) ≤ call_count lines) (sym w.gui-is) (skipped-more old lines i _ lt kept.made);
        last = ap (λ (m : Chronicle). after_window_calls setup (state_of m) (drop (i + 1) lines)) w.gui-is ∙ sym (other_call-more setup (state_of old) lines i line lt (may ∙ w.if-changes_windows.false)) ∙ kept.last;
      }
    ]
