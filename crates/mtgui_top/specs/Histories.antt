-- The core while a script is played.
use Rattle.std.specs.Prelude.{◌≡◌, ℕ, ◌+◌, ◌≤◌, if◌then◌else◌, [], ◌++◌}
use Rattle.calls.specs.declared.line.Line.{Line}
use Rattle.calls.specs.Lines.{is_call}
use Rattle.gui_core.specs.Histories.{Chronicle, state_of, calls_in}
use Rattle.mtgui_top.specs.Playing.{entries_at}

-- how many calls a line asks for
abbrev pub calls_at : Line → ℕ
calls_at line = if is_call line then 1 else 0

-- what the line asks for was done: its call came into the history, or the mark of its tick
pub record LineDone (old : Chronicle) (line : Line) (new : Chronicle) : Type 0 where
  pub setup : new.setup ≡ old.setup
  pub history : new.history ≡ old.history ++ entries_at (state_of old) line

-- there is room for what the line asks for
abbrev pub HasRoom : Chronicle → Line → Type 0
HasRoom c line = calls_in c.history + calls_at line ≤ c.setup.config.calls

-- no call was made so far, and there is room for so many
pub record IsFresh (c : Chronicle) (calls : ℕ) : Type 0 where
  pub history : c.history ≡ []
  pub room : calls ≤ c.setup.config.calls
