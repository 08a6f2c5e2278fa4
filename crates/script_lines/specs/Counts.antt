-- How many call lines there are of each kind: ticks, or what tasks do.
use Rattle.std.specs.Prelude.{◌≡◌, ℕ, ◌+◌, ◌≤◌, Bool, not, List, length, filter}
use Rattle.calls.specs.declared.line.Line.{Line}
use Rattle.calls.specs.declared.line.Line.TheVariants.{Task, Tick}
use Rattle.calls.specs.Lines.{is_tick, tick_count}

-- both lines are ticks, or neither is
abbrev pub are_alike : Line → Line → Bool
are_alike Tick line = is_tick line
are_alike (Task task a) line = not (is_tick line)

-- how many of the lines are of this line's kind
abbrev pub count_alike : Line → List Line → ℕ
count_alike line lines = length (filter (are_alike line) lines)

-- so many of the lines are ticks, and of each kind there are at most 400,000
pub record AreCounted (lines : List Line) (ticks : ℕ) : Type 0 where
  pub counted : ticks ≡ tick_count lines
  pub few_ticks : ticks ≤ 400000
  pub few_others : length lines ≤ ticks + 400000
