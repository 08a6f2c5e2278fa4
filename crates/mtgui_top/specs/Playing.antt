-- What is written for a script, and for a file that is none.
use Rattle.std.specs.Prelude.{ℕ, ◌+◌, if◌then◌else◌, is_some, List, [], ◌∷◌, ◌++◌, length, codes}
use Rattle.calls.specs.declared.line.Line.{Line}
use Rattle.calls.specs.declared.entry.Entry.{Entry}
use Rattle.calls.specs.declared.entry.Entry.TheVariants as entry
use Rattle.calls.specs.declared.line.Act.TheVariants as act
use Rattle.calls.specs.declared.line.Line.TheVariants.{Task, Tick}
use Rattle.calls.specs.Lines.{call_count, entries_of_act}
use Rattle.script.specs.declared.fault.Reason.{Reason}
use Rattle.script.specs.declared.fault.Reason.TheVariants as reason
use Rattle.script.specs.declared.fault.ScriptFault.{ScriptFault}
use Rattle.script.specs.Scripts.{Script}
use Rattle.journal.specs.Texts.{frame_text, reply_text, tick_text, summary_text, fault_text}
use Rattle.desk.specs.Setups.{Setup, setup_for, painter}
use Rattle.multibuf.specs.Screens.{number_waiting}
use Rattle.desk.specs.Desks.{is_refused}
use Rattle.engine.specs.States.{State, opening, step, state_after}
use Rattle.gui_core.specs.Histories.{Chronicle, mark_of, marks_in}
use Rattle.mtgui_top.specs.declared.command.Verb.{Verb}
use Rattle.mtgui_top.specs.declared.command.Verb.TheVariants.{Play, Paint}

-- ---- a line: a call; a line on the lock, which has no answer and changes nothing; or a tick

-- what the line adds to the history: its call, or the mark of what a tick shows
abbrev pub entries_at : State → Line → List Entry
entries_at s (Task task a) = entries_of_act task a
entries_at s Tick = mark_of (number_waiting s.screen)

abbrev pub state_past : Setup → State → Line → State
state_past setup s line = state_after setup s (entries_at s line)

-- what the line is answered
abbrev pub answer_text : Setup → State → Line → List ℕ
answer_text setup s (Task task (act.Call call)) =
    let now = step setup s (entry.Call task call) in
    reply_text call now.reply now.state.screen.shown
answer_text setup s (Task task act.Lock) = []
answer_text setup s (Task task act.Unlock) = []
answer_text setup s Tick = tick_text (is_some (number_waiting s.screen))

-- how many calls of the line are refused: one at most
abbrev pub refused_at : Setup → State → Line → ℕ
refused_at setup s (Task task (act.Call call)) =
    if is_refused (step setup s (entry.Call task call)).reply then 1 else 0
refused_at setup s (Task task act.Lock) = 0
refused_at setup s (Task task act.Unlock) = 0
refused_at setup s Tick = 0

-- ---- lines

-- the history of lines: each call, and each mark
abbrev pub played : Setup → State → List Line → List Entry
played setup s [] = []
played setup s (line ∷ lines) =
    entries_at s line ++ played setup (state_past setup s line) lines

-- what lines are answered, one after the other
abbrev pub replies : Setup → State → List Line → List ℕ
replies setup s [] = []
replies setup s (line ∷ lines) =
    answer_text setup s line ++ replies setup (state_past setup s line) lines

-- how many of the calls are refused
abbrev pub refused_count : Setup → State → List Line → ℕ
refused_count setup s [] = 0
refused_count setup s (line ∷ lines) =
    refused_at setup s line + refused_count setup (state_past setup s line) lines

-- the state after lines
abbrev pub after_lines : Setup → State → List Line → State
after_lines setup s lines = state_after setup s (played setup s lines)

-- the last line
unfoldable pub summary_of : Setup → State → List Line → List ℕ
summary_of setup s lines =
    summary_text (call_count lines) (refused_count setup s lines) (marks_in (played setup s lines))
    (length (after_lines setup s lines).windows)

-- what the core is opened with for a script
abbrev pub setup_of : Script → Setup
setup_of script = setup_for script.assets script.config

-- the history of a script that is played
abbrev pub chronicle_of : Script → Chronicle
chronicle_of script =
    let setup = setup_of script in
    record { setup = setup; history = played setup (opening setup) script.lines }

-- the play text of a script: the answers to its lines, and the summary
abbrev pub play_text : Script → List ℕ
play_text script =
    let setup = setup_of script in
    replies setup (opening setup) script.lines ++ summary_of setup (opening setup) script.lines

-- the paint text of a script: the painter's picture of the windows after its lines
abbrev pub paint_text : Script → List ℕ
paint_text script =
    let setup = setup_of script in
    frame_text (painter setup (after_lines setup (opening setup) script.lines).windows)

-- what is written for a script
abbrev pub text_for : Verb → Script → List ℕ
text_for Play script = play_text script
text_for Paint script = paint_text script

abbrev pub reason_text : Reason → List ℕ
reason_text reason.TooLarge = codes "too-large"
reason_text reason.Ascii = codes "ascii"
reason_text reason.Later = codes "later"
reason_text reason.Header = codes "header"
reason_text reason.Block = codes "block"
reason_text reason.Late = codes "late"
reason_text reason.Asset = codes "asset"
reason_text reason.Call = codes "call"
reason_text reason.Lock = codes "lock"
reason_text reason.Many = codes "many"
reason_text reason.End = codes "end"

-- the line for a file that is no script
abbrev pub fault_line : ScriptFault → List ℕ
fault_line fault = fault_text fault.line (reason_text fault.why)
