-- The history of a script is a legal one.
use Rattle.std.proofs.Common.{◌≡◌, ℕ, ◌+◌, List, [], ◌∷◌, ◌++◌, Option, Some, None, refl, sym, ap, ◌∙◌, arith}
use Rattle.std.specs.List.{AllByRecursion}
use Rattle.multibuf.specs.Screens.{number_waiting}
use Rattle.calls.specs.declared.entry.Entry.{Entry}
use Rattle.calls.specs.declared.line.Line.{Line}
use Rattle.calls.specs.declared.line.Act.TheVariants as act
use Rattle.calls.specs.declared.line.Line.TheVariants.{Task, Tick}
use Rattle.calls.specs.Lines.{call_count, FitsItsTask}
use Rattle.script.specs.Scripts.{Script, IsReady}
use Rattle.desk.specs.Setups.{Setup}
use Rattle.engine.specs.States.{State, opening}
use Rattle.gui_core.specs.Histories.{calls_in, mark_of, FitsItsActor, MarksStand, IsLegal}
use Rattle.gui_core.proofs.CallerLemmas.{calls-append, stand-append}
use Rattle.mtgui_top.specs.Histories.{calls_at}
use Rattle.mtgui_top.specs.Playing.{entries_at, state_past, played, setup_of, chronicle_of}
use Rattle.mtgui_top.proofs.PlayLemmas.{count_is, count_first}

fit-append : (es fs : List Entry) → AllByRecursion FitsItsActor es → AllByRecursion FitsItsActor fs → AllByRecursion FitsItsActor (es ++ fs)
fit-append [] fs all more = more
fit-append (e ∷ es) fs all more = (all.0, fit-append es fs all.1 more)

line_fits : (s : State) (line : Line) → FitsItsTask line → AllByRecursion FitsItsActor (entries_at s line)
line_fits s (Task task (act.Call call)) fits = (fits, tt)
line_fits s (Task task act.Lock) fits = tt
line_fits s (Task task act.Unlock) fits = tt
line_fits s Tick fits = by_waiting (number_waiting s.screen)
  where
    by_waiting : (o : Option ℕ) → AllByRecursion FitsItsActor (mark_of o)
    by_waiting None = tt
    by_waiting (Some k) = (tt, tt)

lines_fit : (setup : Setup) (s : State) (lines : List Line) → AllByRecursion FitsItsTask lines → AllByRecursion FitsItsActor (played setup s lines)
lines_fit setup s [] fit = tt
lines_fit setup s (line ∷ lines) fit = fit-append (entries_at s line) (played setup (state_past setup s line) lines) (line_fits s line fit.0) (lines_fit setup (state_past setup s line) lines fit.1)

line_stands : (setup : Setup) (s : State) (line : Line) → MarksStand setup s (entries_at s line)
line_stands setup s (Task task (act.Call call)) = (tt, tt)
line_stands setup s (Task task act.Lock) = tt
line_stands setup s (Task task act.Unlock) = tt
line_stands setup s Tick = by_waiting (number_waiting s.screen) refl
  where
    by_waiting : (o : Option ℕ) → number_waiting s.screen ≡ o → MarksStand setup s (mark_of o)
    by_waiting None is = tt
    by_waiting (Some k) is = (is, tt)

lines_stand : (setup : Setup) (s : State) (lines : List Line) → MarksStand setup s (played setup s lines)
lines_stand setup s [] = tt
lines_stand setup s (line ∷ lines) = stand-append setup s (entries_at s line) (played setup (state_past setup s line) lines) (line_stands setup s line) (lines_stand setup (state_past setup s line) lines)

calls_played : (setup : Setup) (s : State) (lines : List Line) → calls_in (played setup s lines) ≡ call_count lines
calls_played setup s [] = refl
calls_played setup s (line ∷ lines) =
    let now = state_past setup s line in
    calls-append (entries_at s line) (played setup now lines)
    ∙ ap (λ (n : ℕ). n + calls_in (played setup now lines)) (count_is s line)
    ∙ ap (λ (n : ℕ). calls_at line + n) (calls_played setup now lines)
    ∙ sym (count_first line lines)

pub plays_legally : (script : Script) → IsReady script → IsLegal (chronicle_of script)
plays_legally script ready =
    let setup = setup_of script in
    record {
      fit = lines_fit setup (opening setup) script.lines ready.lines;
      marks = lines_stand setup (opening setup) script.lines;
      few = let all = calls_played setup (opening setup) script.lines in let calls = ready.calls in omega (arith, all, calls);
    }
