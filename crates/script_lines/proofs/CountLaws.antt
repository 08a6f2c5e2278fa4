-- How many call lines there are of each kind.
use Rattle.std.proofs.Common.{◌≡◌, ℕ, ◌+◌, ◌-◌, ◌<◌, ◌≤◌, cond, List, [], ◌∷◌, ◌++◌, length, refl, ap, ◌∙◌, inl, inr, length-append, arith}
use Rattle.std.specs.List.{filter}
use Rattle.std.proofs.lemmas.Bool.{cases_Bool}
use Rattle.std.proofs.lemmas.List.Elements.{filter-append}
use Rattle.std.proofs.lemmas.List.Filters.{length-filter_both}
use Rattle.calls.specs.declared.line.Act.{Act}
use Rattle.calls.specs.declared.line.Act.TheVariants as act
use Rattle.calls.specs.declared.line.Line.{Line}
use Rattle.calls.specs.declared.line.Line.TheVariants.{Task, Tick}
use Rattle.calls.specs.Lines.{is_tick, call_count, tick_count}
use Rattle.script_lines.specs.Counts.{are_alike, count_alike, AreCounted}

one_alike : (l line : Line) → count_alike l (line ∷ []) ≡ cond (are_alike l line) 1 0
one_alike l line =
    elim (cases_Bool (are_alike l line)) [
      | inl same ↦ rw same refl
      | inr other ↦ rw other refl
    ]

-- with a line more
pub alike_more : (l line : Line) (lines : List Line) → count_alike l (lines ++ line ∷ []) ≡ count_alike l lines + cond (are_alike l line) 1 0
alike_more l line lines =
    ap length (filter-append (are_alike l) lines (line ∷ []))
    ∙ length-append (filter (are_alike l) lines) (filter (are_alike l) (line ∷ []))
    ∙ ap (λ (n : ℕ). count_alike l lines + n) (one_alike l line)

pub ticks_more : (line : Line) (lines : List Line) → tick_count (lines ++ line ∷ []) ≡ cond (is_tick line) (tick_count lines + 1) (tick_count lines)
ticks_more Tick lines = alike_more Tick Tick lines
ticks_more (Task task a) lines = let more = alike_more Tick (Task task a) lines in omega arith

-- each line is a tick, or what a task does
pub all_lines : (task : ℕ) (a : Act) (lines : List Line) → tick_count lines + count_alike (Task task a) lines ≡ length lines
all_lines task a lines = length-filter_both is_tick (are_alike (Task task a)) (λ l. refl) lines

-- no tick asks for a call
pub calls_and_ticks : (lines : List Line) → call_count lines + tick_count lines ≤ length lines
calls_and_ticks [] = omega arith
calls_and_ticks (Tick ∷ lines) = let more = calls_and_ticks lines in omega arith
calls_and_ticks (Task task act.Lock ∷ lines) = let more = calls_and_ticks lines in omega arith
calls_and_ticks (Task task act.Unlock ∷ lines) = let more = calls_and_ticks lines in omega arith
calls_and_ticks (Task task (act.Call call) ∷ lines) = let more = calls_and_ticks lines in omega arith

-- there are no more ticks than lines
pub ticks_fit : (lines : List Line) (ticks : ℕ) → AreCounted lines ticks → ticks ≤ length lines
ticks_fit lines ticks are = let all = calls_and_ticks lines in let is = are.counted in omega arith

-- the other lines are what tasks do
pub tasks_are : (lines : List Line) (ticks task : ℕ) (a : Act) → AreCounted lines ticks → length lines - ticks ≡ count_alike (Task task a) lines
tasks_are lines ticks task a are = let all = all_lines task a lines in let is = are.counted in omega arith

-- with a line more, of whose kind there is room
pub counted_tick : (lines : List Line) (ticks : ℕ) → AreCounted lines ticks → count_alike Tick lines < 400000 → AreCounted (lines ++ Tick ∷ []) (ticks + 1)
counted_tick lines ticks are room =
    let more = alike_more Tick Tick lines in
    let count = length-append lines (Tick ∷ []) in
    let is = are.counted in
    let few = are.few_others in
    record { counted = omega arith; few_ticks = omega arith; few_others = omega arith }

pub counted_task : (lines : List Line) (ticks task : ℕ) (a : Act) → AreCounted lines ticks → count_alike (Task task a) lines < 400000 → AreCounted (lines ++ Task task a ∷ []) ticks
counted_task lines ticks task a are room =
    let more = alike_more Tick (Task task a) lines in
    let count = length-append lines (Task task a ∷ []) in
    let all = all_lines task a lines in
    let is = are.counted in
    let few = are.few_ticks in
    record { counted = omega arith; few_ticks = omega arith; few_others = omega arith }

pub counted_more : (lines : List Line) (ticks : ℕ) (line : Line) → AreCounted lines ticks → count_alike line lines < 400000 → AreCounted (lines ++ line ∷ []) (cond (is_tick line) (ticks + 1) ticks)
counted_more lines ticks Tick are room = counted_tick lines ticks are room
counted_more lines ticks (Task task a) are room = counted_task lines ticks task a are room
