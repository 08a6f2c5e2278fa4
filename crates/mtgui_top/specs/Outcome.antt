-- What a command ended with, and why.
use Rattle.std.specs.Prelude.{◌≡◌, ◌⊎◌, ℕ, true, List, [], ◌++◌, Option, Some, Result, Ok, Err, String}
use Rattle.std.specs.List.{list_any}
use Rattle.std.specs.declared.alloc.Global.{Global}
use Rattle.outside.specs.declared.store.ReadRefused.{ReadRefused}
use Rattle.outside.specs.declared.store.ReadRefused.TheVariants as refused
use Rattle.outside.specs.Files.{File, IsFile, file_of}
use Rattle.outside.specs.Logs.{SinkLog, StoreLog, Rose, FailedAt, Whole, Broken}
use Rattle.script.specs.declared.fault.ScriptFault.{ScriptFault}
use Rattle.script.specs.Scripts.{Script, IsScript, IsNoScript}
use Rattle.script.specs.Faults.{IsFault}
use Rattle.calls.specs.declared.line.Line.{Line}
use Rattle.desk.specs.Setups.{Setup}
use Rattle.engine.specs.States.{State}
use Rattle.gui_core.specs.Histories.{Chronicle, state_of}
use Rattle.mtgui_top.specs.declared.command.Verb.{Verb}
use Rattle.mtgui_top.specs.declared.command.Verb.TheVariants.{Play, Paint}
use Rattle.mtgui_top.specs.declared.play.Stop.{Stop}
use Rattle.mtgui_top.specs.declared.play.Stop.TheVariants as stop
use Rattle.mtgui_top.specs.declared.play.Finding.{Finding}
use Rattle.mtgui_top.specs.declared.play.Finding.TheVariants as finding
use Rattle.mtgui_top.specs.Changes.{asks_for_device}
use Rattle.mtgui_top.specs.Histories.{LineDone}
use Rattle.mtgui_top.specs.Playing.{answer_text, replies, summary_of, play_text, text_for, fault_line}
use Rattle.mtgui_top.specs.Words.{IsCommand}

abbrev pub stop_of : ReadRefused → Stop
stop_of refused.Failed = stop.Store
stop_of refused.Memory = stop.Memory

-- what is to be written for a file: the text of its script, or the line of its fault
abbrev pub IsTextOf : Verb → List ℕ → List ℕ → Type 0
IsTextOf verb file text =
    ((script : Script) × IsScript file script × (text ≡ text_for verb script))
    ⊎ ((fault : ScriptFault) × IsFault file fault × (text ≡ fault_line fault))

-- a prefix of the text was written, and no write failed
pub record Left (old new : SinkLog) (text : List ℕ) : Type 0 where
  pub prefix : List ℕ
  pub rest : List ℕ
  pub parts : text ≡ prefix ++ rest
  pub written : Whole old new prefix

-- Where memory ran out for a script, nothing was written; or it was played, it makes devices, and a
-- prefix of its text was written.
abbrev pub LeavesScript : Verb → Script → SinkLog → SinkLog → Type 0
LeavesScript Play script old new =
    Whole old new []
    ⊎ ((list_any asks_for_device script.lines ≡ true) × Left old new (play_text script))
LeavesScript Paint script old new = Whole old new []

-- the same for a file
abbrev pub LeavesFile : Verb → List ℕ → SinkLog → SinkLog → Type 0
LeavesFile verb file old new =
    Whole old new []
    ⊎ ((script : Script) × IsScript file script × LeavesScript verb script old new)

-- what was written for a file, by how the command ended
abbrev pub Shows : Verb → Result Finding Stop → List ℕ → SinkLog → SinkLog → Type 0
Shows verb (Ok finding.Script) file old new =
    (script : Script) × IsScript file script × Whole old new (text_for verb script)
Shows verb (Ok finding.NoScript) file old new =
    (fault : ScriptFault) × IsNoScript file × IsFault file fault × Whole old new (fault_line fault)
Shows verb (Err stop.Store) file old new = ⊥
Shows verb (Err stop.Sink) file old new =
    (text : List ℕ) × IsTextOf verb file text × Broken old new text
Shows verb (Err stop.Memory) file old new = LeavesFile verb file old new

-- the same for the file of that name
abbrev pub ShowsFile : Verb → Result Finding Stop → Option (List File) → List ℕ → SinkLog → SinkLog
    → Type 0
ShowsFile verb result files name old new =
    (file : List ℕ) × IsFile files name file × Shows verb result file old new

-- how a command on a file ended, and what was written
abbrev pub CommandEnds : Verb → Result Finding Stop → List ℕ → StoreLog → StoreLog → SinkLog
    → SinkLog → Type 0
CommandEnds verb (Ok what) name before after old new =
    ShowsFile verb (Ok what) before.files name old new
CommandEnds verb (Err stop.Store) name before after old new =
    FailedAt before after name × Whole old new []
CommandEnds verb (Err stop.Sink) name before after old new =
    ShowsFile verb (Err stop.Sink) before.files name old new
CommandEnds verb (Err stop.Memory) name before after old new =
    Whole old new [] ⊎ ShowsFile verb (Err stop.Memory) before.files name old new

-- no other number is answered
abbrev pub IsStatus : ℕ → Type 0
IsStatus status =
    (status ≡ 0) ⊎ (status ≡ 2) ⊎ (status ≡ 3) ⊎ (status ≡ 4) ⊎ (status ≡ 5) ⊎ (status ≡ 9)

-- what became of a script
abbrev pub WritesScript : Verb → Result (Unit {0}) Stop → SinkLog → SinkLog → Script → Type 0
WritesScript verb (Ok done) old new script = Whole old new (text_for verb script)
WritesScript verb (Err stop.Store) old new script = ⊥
WritesScript verb (Err stop.Sink) old new script = Broken old new (text_for verb script)
WritesScript verb (Err stop.Memory) old new script = LeavesScript verb script old new

-- what became of a line: it was done and answered; the sink failed at the answer; or there was no
-- memory for a device, and nothing was written
abbrev pub LineEnds :
    Result (Unit {0}) Stop → Chronicle → Line → Chronicle → SinkLog → SinkLog → Type 0
LineEnds (Ok done) c line d old new =
    LineDone c line d × Whole old new (answer_text c.setup (state_of c) line)
LineEnds (Err stop.Store) c line d old new = ⊥
LineEnds (Err stop.Sink) c line d old new =
    LineDone c line d × Broken old new (answer_text c.setup (state_of c) line)
LineEnds (Err stop.Memory) c line d old new =
    (asks_for_device line ≡ true) × Whole old new []

-- what became of lines, and the summary after them
abbrev pub LinesEnd :
    Result (Unit {0}) Stop → Setup → State → List Line → SinkLog → SinkLog → Type 0
LinesEnd (Ok done) setup s lines old new =
    Whole old new (replies setup s lines ++ summary_of setup s lines)
LinesEnd (Err stop.Store) setup s lines old new = ⊥
LinesEnd (Err stop.Sink) setup s lines old new =
    Broken old new (replies setup s lines ++ summary_of setup s lines)
LinesEnd (Err stop.Memory) setup s lines old new =
    (list_any asks_for_device lines ≡ true)
    × Left old new (replies setup s lines ++ summary_of setup s lines)

-- Where the store tells the file that the words name, and no count rose, the answer is the file's,
-- unless memory ran out.
abbrev pub IsComplete : ℕ → List (String Global) → StoreLog → StoreLog → SinkLog → SinkLog → Type 0
IsComplete status words before after old new =
    (files : List File) (verb : Verb) (name file : List ℕ) → before.files ≡ Some files
    → IsCommand verb words name → file_of files name ≡ Some file
    → (Rose before.faults after.faults → ⊥) → (Rose old.faults new.faults → ⊥)
    → ((script : Script) → IsScript file script → (status ≡ 0) ⊎ (status ≡ 9))
    × (IsNoScript file → (status ≡ 3) ⊎ (status ≡ 9))
