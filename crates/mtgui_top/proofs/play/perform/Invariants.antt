use Rattle.std.proofs.Common.{◌≡◌, ◌+◌, ◌++◌, drop}
use Rattle.calls.specs.Lines.{call_count}
use Rattle.gui_core.specs.Histories.{state_of, refused_of, calls_in}
use Rattle.mtgui_top.specs.Playing.{played, replies, refused_count, after_lines, summary_of}
use Rattle.outside.proofs.CallerLemmas.{Partly}
use Rattle.mtgui_top.proofs.play.perform.Given as goal

abbrev pub invariant-loop-line : goal.invariant-loop-line
invariant-loop-line g l = record {
  setup : l.gui.setup ≡ l.fn.gui.setup;
  made : calls_in l.gui.history + call_count (drop l.line-index l.lines) ≡ call_count l.lines;
  refused : refused_of l.gui + refused_count l.fn.gui.setup (state_of l.gui) (drop l.line-index l.lines) ≡ refused_count l.fn.gui.setup (state_of l.fn.gui) l.lines;
  history : l.gui.history ++ played l.fn.gui.setup (state_of l.gui) (drop l.line-index l.lines) ≡ played l.fn.gui.setup (state_of l.fn.gui) l.lines;
  last : after_lines l.fn.gui.setup (state_of l.gui) (drop l.line-index l.lines) ≡ after_lines l.fn.gui.setup (state_of l.fn.gui) l.lines;
  wrote : Partly (g.K.Sink.log l.fn.out) (g.K.Sink.log l.out)
      (replies l.fn.gui.setup (state_of l.gui) (drop l.line-index l.lines) ++ summary_of l.fn.gui.setup (state_of l.fn.gui) l.lines)
      (replies l.fn.gui.setup (state_of l.fn.gui) l.lines ++ summary_of l.fn.gui.setup (state_of l.fn.gui) l.lines);
}
