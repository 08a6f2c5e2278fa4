use Rattle.std.proofs.Common.{◌≡◌, ◌+◌, ◌≤◌, drop}
use Rattle.calls.specs.Lines.{call_count}
use Rattle.gui_core.specs.Histories.{state_of, calls_in}
use Rattle.mtgui_top.proofs.PlayLemmas.{after_window_calls}
use Rattle.mtgui_top.proofs.play.make_window_calls.Given as goal

abbrev pub invariant-loop-line : goal.invariant-loop-line
invariant-loop-line l = record {
  setup : l.gui.setup ≡ l.fn.gui.setup;
  made : calls_in l.gui.history + call_count (drop l.line-index l.lines) ≤ call_count l.lines;
  last : after_window_calls l.fn.gui.setup (state_of l.gui) (drop l.line-index l.lines) ≡ after_window_calls l.fn.gui.setup (state_of l.fn.gui) l.lines;
}
