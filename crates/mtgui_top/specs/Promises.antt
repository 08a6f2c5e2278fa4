-- What holds of a script's play text.
use Rattle.std.specs.Prelude.{◌≡◌, ℕ, Bool, false, List, ◌∷◌, ◌++◌}
use Rattle.std.specs.List.{list_any}
use Rattle.calls.specs.declared.call.Call.TheVariants.{Scan}
use Rattle.calls.specs.declared.line.Line.{Line}
use Rattle.calls.specs.declared.line.Act.TheVariants as act
use Rattle.calls.specs.declared.line.Line.TheVariants.{Task}
use Rattle.script.specs.Scripts.{Script}
use Rattle.journal.specs.Texts.{frame_text}
use Rattle.desk.specs.Setups.{painter}
use Rattle.engine.specs.States.{State, opening}
use Rattle.desk.specs.Stains.{Stain, no_stain}
use Rattle.gui_core.specs.Stains.{stain_after, draws}
use Rattle.desk.specs.Promises.{IsPainterOutside}
use Rattle.gui_core.specs.Promises.{IsQuiet}
use Rattle.mtgui_top.specs.Playing.{setup_of, played, replies, summary_of, after_lines, play_text}

-- the state after the first lines of a script
abbrev pub state_at : Script → List Line → State
state_at script prefix = after_lines (setup_of script) (opening (setup_of script)) prefix

-- the points that tasks drew on directly in these lines, and that no job has painted since
abbrev pub stain_at : Script → List Line → Stain
stain_at script prefix =
    let setup = setup_of script in
    stain_after setup (opening setup) (played setup (opening setup) prefix) no_stain

-- whether a task may draw on the screen in these lines
abbrev pub draws_in : Script → List Line → Bool
draws_in script prefix =
    let setup = setup_of script in list_any draws (played setup (opening setup) prefix)

-- At a scan the play text has the picture that is shown there, between the answers to the lines
-- before and what follows. Wherever no window is invalid, no begin is open and no switch waits, the
-- picture that is shown is the painter's of the windows at each point that isn't stained, and all
-- of it where no task drew.
pub record ScansShowPainter (script : Script) : Type 0 where
  pub text : (prefix rest : List Line) (task : ℕ)
      → script.lines ≡ prefix ++ Task task (act.Call Scan) ∷ rest
      → play_text script
      ≡ replies (setup_of script) (opening (setup_of script)) prefix
      ++ (frame_text (state_at script prefix).screen.shown
      ++ (replies (setup_of script) (state_at script prefix) rest
      ++ summary_of (setup_of script) (opening (setup_of script)) script.lines))
  pub picture : (prefix : List Line) → IsQuiet (state_at script prefix)
      → IsPainterOutside (setup_of script) (state_at script prefix).windows
      (state_at script prefix).screen.shown (stain_at script prefix)
  pub undrawn : (prefix : List Line) → draws_in script prefix ≡ false
      → IsQuiet (state_at script prefix)
      → (state_at script prefix).screen.shown
      ≡ painter (setup_of script) (state_at script prefix).windows
