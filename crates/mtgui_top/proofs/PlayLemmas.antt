-- The calls of lines, one after the other.
use Rattle.std.proofs.Common.{◌≡◌, ℕ, ◌+◌, ◌<◌, ◌≤◌, Bool, true, false, List, [], ◌∷◌, ◌++◌, length, get_or, drop, Option, Some, None, refl, sym, ap, ◌∙◌, append_assoc, add-zero, Err, subst, arith}
use Rattle.std.proofs.Math.Nat.{zero-add}
use Rattle.std.proofs.lemmas.List.{at_drop_more, at_drop_all, append-nil}
use Rattle.std.proofs.lemmas.Bool.{lt-leb}
use Rattle.std.specs.Prelude.{is_some, not, ◌&&◌}
use Rattle.std.proofs.lemmas.List.Folds.{list_any_at}
use Rattle.std.proofs.lemmas.List.Elements.{filter-append}
use Rattle.outside.specs.Logs.{SinkLog, Whole}
use Rattle.outside.proofs.CallerLemmas.{Partly, Partly-broken, Whole-then}
use Rattle.calls.specs.declared.call.Call.{Call}
use Rattle.calls.specs.declared.entry.Entry.{Entry}
use Rattle.calls.specs.declared.entry.Entry.TheVariants as entry
use Rattle.calls.specs.declared.reply.Reply.{Reply}
use Rattle.calls.specs.declared.line.Line.{Line}
use Rattle.calls.specs.declared.line.Act.TheVariants as act
use Rattle.calls.specs.declared.line.Line.TheVariants.{Task, Tick}
use Rattle.calls.specs.Lines.{is_call, call_count, entries_of_line, entries_of}
use Rattle.calls.specs.declared.config.Config.{Config}
use Rattle.frame.specs.Pictures.{Picture}
use Rattle.paint_ops.specs.Kinds.{Assets}
use Rattle.script.specs.Scripts.{Script}
use Rattle.journal.specs.Texts.{frame_text, reply_text, tick_text, summary_text}
use Rattle.desk.specs.Setups.{Setup, setup_for, painter}
use Rattle.multibuf.specs.Screens.{number_waiting}
use Rattle.desk.specs.Desks.{is_want_of_memory}
use Rattle.engine.specs.States.{State, opening, step, state_after}
use Rattle.gui_core.proofs.CallerLemmas.{painting_moves_nothing, state-append, refusals-append, calls-append, enters-state, entered}
use Rattle.gui_core.specs.Promises.{changes_windows, window_calls}
use Rattle.gui_core.specs.Histories.{Chronicle, unwritten, state_of, refusals, refused_of, calls_in, marks_in, mark_of, ticked, is_full, says_full, is_entered, Enters}
use Rattle.mtgui_top.specs.declared.play.Stop.{Stop}
use Rattle.mtgui_top.specs.declared.play.Stop.TheVariants as stop
use Rattle.mtgui_top.specs.Outcome.{LineEnds, LinesEnd}
use Rattle.mtgui_top.specs.Changes.{may_change, asks_for_device}
use Rattle.mtgui_top.specs.Histories.{calls_at, LineDone, HasRoom}
use Rattle.mtgui_top.specs.Playing.{entries_at, state_past, played, answer_text, refused_at, replies, refused_count, after_lines, summary_of, paint_text}

-- ---- one line

refused_is : (setup : Setup) (s : State) (line : Line) → refusals setup s (entries_at s line) ≡ refused_at setup s line
unfolding step
refused_is setup s (Task task (act.Call call)) = add-zero (refused_at setup s (Task task (act.Call call)))
refused_is setup s (Task task act.Lock) = refl
refused_is setup s (Task task act.Unlock) = refl
refused_is setup s Tick = by_waiting (number_waiting s.screen)
  where
    by_waiting : (o : Option ℕ) → refusals setup s (mark_of o) ≡ 0
    by_waiting None = refl
    by_waiting (Some k) = refl

pub count_is : (s : State) (line : Line) → calls_in (entries_at s line) ≡ calls_at line
count_is s (Task task (act.Call call)) = refl
count_is s (Task task act.Lock) = refl
count_is s (Task task act.Unlock) = refl
count_is s Tick = by_waiting (number_waiting s.screen)
  where
    by_waiting : (o : Option ℕ) → calls_in (mark_of o) ≡ 0
    by_waiting None = refl
    by_waiting (Some k) = refl

done-state : (old new : Chronicle) (line : Line) → LineDone old line new → state_of new ≡ state_past old.setup (state_of old) line
done-state old new line done =
    ap (λ (setup : Setup). state_after setup (opening setup) new.history) done.setup
    ∙ ap (state_after old.setup (opening old.setup)) done.history
    ∙ state-append old.setup (opening old.setup) old.history (entries_at (state_of old) line)

done-refused : (old new : Chronicle) (line : Line) → LineDone old line new → refused_of new ≡ refused_of old + refused_at old.setup (state_of old) line
done-refused old new line done =
    ap (λ (setup : Setup). refusals setup (opening setup) new.history) done.setup
    ∙ ap (refusals old.setup (opening old.setup)) done.history
    ∙ refusals-append old.setup (opening old.setup) old.history (entries_at (state_of old) line)
    ∙ ap (λ (n : ℕ). refused_of old + n) (refused_is old.setup (state_of old) line)

done-made : (old new : Chronicle) (line : Line) → LineDone old line new → calls_in new.history ≡ calls_in old.history + calls_at line
done-made old new line done = ap calls_in done.history ∙ calls-append old.history (entries_at (state_of old) line) ∙ ap (λ (n : ℕ). calls_in old.history + n) (count_is (state_of old) line)

-- the state after a line, with the setup that the core has from the start
pub stepped : (setup : Setup) (old new : Chronicle) (line : Line) → old.setup ≡ setup → LineDone old line new → state_of new ≡ state_past setup (state_of old) line
stepped setup old new line same done = done-state old new line done ∙ ap (λ (k : Setup). state_past k (state_of old) line) same

-- the first line, and then the others
pub after_first : (setup : Setup) (s : State) (line : Line) (lines : List Line) → after_lines setup s (line ∷ lines) ≡ after_lines setup (state_past setup s line) lines
after_first setup s line lines = state-append setup s (entries_at s line) (played setup (state_past setup s line) lines)

pub count_first : (line : Line) (lines : List Line) → call_count (line ∷ lines) ≡ calls_at line + call_count lines
count_first line lines = by_test (is_call line) refl where
  by_test : (b : Bool) → is_call line ≡ b → call_count (line ∷ lines) ≡ calls_at line + call_count lines
  by_test true is = rw is (omega arith)
  by_test false is = rw is (sym (zero-add (call_count lines)))

-- a call for which there is room, and memory, came into the history, and what is written for it is its line's answer
pub call_ends : (old new : Chronicle) (task : ℕ) (call : Call) (reply : Reply) (shown : Picture) → HasRoom old (Task task (act.Call call)) → says_full reply ≡ is_full old → is_want_of_memory reply ≡ false → (is_entered reply ≡ true → Enters old task call new reply) → shown ≡ (state_of new).screen.shown
    → LineDone old (Task task (act.Call call)) new × (reply_text call reply shown ≡ answer_text old.setup (state_of old) (Task task (act.Call call)))
call_ends old new task call reply shown room full memory answers is =
    let a = answers (entered reply (full ∙ lt-leb old.setup.config.calls (calls_in old.history) (omega (arith, room))) memory) in
    let now = step old.setup (state_of old) (entry.Call task call) in (
      record { setup = a.setup; history = a.history },
      ap (λ (p : Picture). reply_text call reply p) (is ∙ ap (λ (s : State). s.screen.shown) (enters-state old new task call reply a)) ∙ ap (λ (r : Reply). reply_text call r now.state.screen.shown) a.reply_is,
    )

-- a call without memory is left out
pub left_without_memory : (reply : Reply) → is_want_of_memory reply ≡ true → is_entered reply ≡ false
left_without_memory reply want = by_full (says_full reply) (is_want_of_memory reply) want
  where
    by_full : (full memory : Bool) → memory ≡ true → (not full && not memory) ≡ false
    by_full true memory is = refl
    by_full false true is = refl
    by_full false false is = absurd cc

-- a tick that was made
pub tick_ends : (old new : Chronicle) (shown : Bool) → new ≡ ticked old → shown ≡ is_some (number_waiting (state_of old).screen) → LineDone old Tick new × (tick_text shown ≡ answer_text old.setup (state_of old) Tick)
tick_ends old new shown is said = (record { setup = ap (λ (c : Chronicle). c.setup) is; history = ap (λ (c : Chronicle). c.history) is }, ap tick_text said)

-- ---- all lines

replies-more : (setup : Setup) (s new : State) (lines : List Line) (i : ℕ) (d : Line) (last : List ℕ) → i < length lines → new ≡ state_past setup s (get_or lines i d)
    → replies setup s (drop i lines) ++ last ≡ answer_text setup s (get_or lines i d) ++ (replies setup new (drop (i + 1) lines) ++ last)
replies-more setup s new lines i d last lt e =
    let line = get_or lines i d in
    ap (λ (text : List ℕ). text ++ last)
    (at_drop_more (replies setup s) lines i d lt ∙ ap (λ (now : State). answer_text setup s line ++ replies setup now (drop (i + 1) lines)) (sym e))
    ∙ append_assoc (answer_text setup s line) (replies setup new (drop (i + 1) lines)) last

-- the answer to the next line, and those that are left
pub replies-step : (setup : Setup) (old new : Chronicle) (lines : List Line) (i : ℕ) (line : Line) (last : List ℕ) → line ≡ get_or lines i line → i < length lines → old.setup ≡ setup → LineDone old line new
    → replies setup (state_of old) (drop i lines) ++ last ≡ answer_text old.setup (state_of old) line ++ (replies setup (state_of new) (drop (i + 1) lines) ++ last)
replies-step setup old new lines i line last at lt same done =
    let rest = replies setup (state_of new) (drop (i + 1) lines) ++ last in
    replies-more setup (state_of old) (state_of new) lines i line last lt (stepped setup old new line same done ∙ ap (state_past setup (state_of old)) at)
    ∙ ap (λ (l : Line). answer_text setup (state_of old) l ++ rest) (sym at)
    ∙ ap (λ (k : Setup). answer_text k (state_of old) line ++ rest) (sym same)

refused_count-more : (setup : Setup) (s new : State) (lines : List Line) (i : ℕ) (d : Line) → i < length lines → new ≡ state_past setup s (get_or lines i d)
    → refused_count setup s (drop i lines) ≡ refused_at setup s (get_or lines i d) + refused_count setup new (drop (i + 1) lines)
refused_count-more setup s new lines i d lt e =
    at_drop_more (refused_count setup s) lines i d lt
    ∙ ap (λ (now : State). refused_at setup s (get_or lines i d) + refused_count setup now (drop (i + 1) lines)) (sym e)

pub after_lines-more : (setup : Setup) (s new : State) (lines : List Line) (i : ℕ) (d : Line) → i < length lines → new ≡ state_past setup s (get_or lines i d)
    → after_lines setup s (drop i lines) ≡ after_lines setup new (drop (i + 1) lines)
after_lines-more setup s new lines i d lt e =
    at_drop_more (after_lines setup s) lines i d lt ∙ after_first setup s (get_or lines i d) (drop (i + 1) lines) ∙ ap (λ (now : State). after_lines setup now (drop (i + 1) lines)) (sym e)

-- how many calls are left
pub calls-more : (lines : List Line) (i : ℕ) (d : Line) → i < length lines → call_count (drop i lines) ≡ calls_at (get_or lines i d) + call_count (drop (i + 1) lines)
calls-more lines i d lt = at_drop_more call_count lines i d lt ∙ count_first (get_or lines i d) (drop (i + 1) lines)

-- there is room for the next line, and for those that are left after it
pub room-more : (m : Chronicle) (lines : List Line) (i : ℕ) (d : Line) (most : ℕ) → i < length lines → calls_in m.history + call_count (drop i lines) ≤ call_count lines → call_count lines ≤ most → m.setup.config.calls ≡ most → HasRoom m (get_or lines i d)
room-more m lines i d most lt few room same = let left = calls-more lines i d lt in omega (arith, left, few, room, same)

pub made-more : (old new : Chronicle) (lines : List Line) (i : ℕ) (d : Line) (total : ℕ) → i < length lines → LineDone old (get_or lines i d) new → calls_in old.history + call_count (drop i lines) ≤ total → calls_in new.history + call_count (drop (i + 1) lines) ≤ total
made-more old new lines i d total lt done few = let left = calls-more lines i d lt in let made = done-made old new (get_or lines i d) done in omega (arith, left, made, few)

pub skipped-more : (m : Chronicle) (lines : List Line) (i total : ℕ) → i < length lines → calls_in m.history + call_count (drop i lines) ≤ total → calls_in m.history + call_count (drop (i + 1) lines) ≤ total
skipped-more m lines i total lt few = let left = calls-more lines i (Task 0 act.Lock) lt in omega (arith, left, few)

pub all-made : (old new : Chronicle) (lines : List Line) (i : ℕ) (d : Line) (total : ℕ) → i < length lines → LineDone old (get_or lines i d) new → calls_in old.history + call_count (drop i lines) ≡ total → calls_in new.history + call_count (drop (i + 1) lines) ≡ total
all-made old new lines i d total lt done all = let left = calls-more lines i d lt in let made = done-made old new (get_or lines i d) done in omega (arith, left, made, all)

pub replies-all : (setup : Setup) (s : State) (lines : List Line) (i : ℕ) (last : List ℕ) → length lines ≤ i → replies setup s (drop i lines) ++ last ≡ last
replies-all setup s lines i last le = ap (λ (text : List ℕ). text ++ last) (at_drop_all (replies setup s) lines i le)

-- the number of refused calls, one line further
pub counted-more : (setup : Setup) (old new : Chronicle) (lines : List Line) (i : ℕ) (d : Line) (total : ℕ) → i < length lines → old.setup ≡ setup → LineDone old (get_or lines i d) new
    → refused_of old + refused_count setup (state_of old) (drop i lines) ≡ total → refused_of new + refused_count setup (state_of new) (drop (i + 1) lines) ≡ total
counted-more setup old new lines i d total lt same done so_far =
    let line = get_or lines i d in
    let more = refused_count-more setup (state_of old) (state_of new) lines i d lt (stepped setup old new line same done) in
    let one : refused_of new ≡ refused_of old + refused_at setup (state_of old) line = done-refused old new line done ∙ ap (λ (k : Setup). refused_of old + refused_at k (state_of old) line) same in
    omega (arith, so_far, more, one)

-- the history, one line further
pub history-more : (setup : Setup) (old new : Chronicle) (lines : List Line) (i : ℕ) (d : Line) (total : List Entry) → i < length lines → old.setup ≡ setup → LineDone old (get_or lines i d) new
    → old.history ++ played setup (state_of old) (drop i lines) ≡ total → new.history ++ played setup (state_of new) (drop (i + 1) lines) ≡ total
history-more setup old new lines i d total lt same done so_far =
    let line = get_or lines i d in
    let rest = played setup (state_of new) (drop (i + 1) lines) in
    ap (λ (es : List Entry). es ++ rest) done.history
    ∙ append_assoc old.history (entries_at (state_of old) line) rest
    ∙ ap (λ (now : State). old.history ++ (entries_at (state_of old) line ++ played setup now (drop (i + 1) lines))) (stepped setup old new line same done)
    ∙ ap (λ (es : List Entry). old.history ++ es) (sym (at_drop_more (played setup (state_of old)) lines i d lt))
    ∙ so_far

-- the summary after the last line
pub summary-last : (setup : Setup) (s now : State) (lines : List Line) (i refused windows : ℕ) (history : List Entry) → length lines ≤ i → refused + refused_count setup now (drop i lines) ≡ refused_count setup s lines → after_lines setup now (drop i lines) ≡ after_lines setup s lines
    → history ++ played setup now (drop i lines) ≡ played setup s lines → windows ≡ length now.windows → summary_text (call_count lines) refused (marks_in history) windows ≡ summary_of setup s lines
unfolding summary_of
summary-last setup s now lines i refused windows history le counted last entered is =
    let none : refused_count setup now (drop i lines) ≡ 0 = at_drop_all (refused_count setup now) lines i le in
    let all : refused ≡ refused_count setup s lines = omega (arith, counted, none) in
    let end : now ≡ after_lines setup s lines = sym (at_drop_all (after_lines setup now) lines i le) ∙ last in
    let entries : history ≡ played setup s lines = sym (append-nil history) ∙ ap (λ (es : List Entry). history ++ es) (sym (at_drop_all (played setup now) lines i le)) ∙ entered in
    rw (all, is, end, entries) refl

-- ---- lines that aren't done to their end

-- where the sink failed at a line, or there was no memory for a device
pub line_left : (e : Stop) (setup : Setup) (s : State) (lines : List Line) (i : ℕ) (line : Line) (m n : Chronicle) (a b c : SinkLog) → line ≡ get_or lines i line → i < length lines → m.setup ≡ setup
    → Partly a b (replies setup (state_of m) (drop i lines) ++ summary_of setup s lines) (replies setup s lines ++ summary_of setup s lines) → LineEnds (Err e) m line n b c → LinesEnd (Err e) setup s lines a c
line_left stop.Store setup s lines i line m n a b c at lt same so_far ended = absurd ended
line_left stop.Sink setup s lines i line m n a b c at lt same so_far ended =
    Partly-broken a b c _ _ _ _ so_far (replies-step setup m n lines i line (summary_of setup s lines) at lt same ended.0) ended.1
line_left stop.Memory setup s lines i line m n a b c at lt same so_far ended = (
  list_any_at asks_for_device lines i line lt (ap asks_for_device (sym at) ∙ ended.0),
  record {
    prefix = so_far.prefix;
    rest = replies setup (state_of m) (drop i lines) ++ summary_of setup s lines;
    parts = sym so_far.joined;
    written = subst (Whole a c) (append-nil so_far.prefix) (Whole-then a b c so_far.prefix [] so_far.written ended.1);
  },
)

-- ---- the calls that may change windows

-- the state after those of the lines that are left
abbrev pub after_window_calls : Setup → State → List Line → State
after_window_calls setup s lines = state_after setup s (window_calls (entries_of lines))

kept_call : (setup : Setup) (s : State) (line : Line) (lines : List Line) → may_change line ≡ true → after_window_calls setup s (line ∷ lines) ≡ after_window_calls setup (state_past setup s line) lines
kept_call setup s (Task task (act.Call call)) lines e = rw e refl
kept_call setup s (Task task act.Lock) lines e = absurd cc
kept_call setup s (Task task act.Unlock) lines e = absurd cc
kept_call setup s Tick lines e = absurd cc

left_out : (setup : Setup) (s : State) (line : Line) (lines : List Line) → may_change line ≡ false → after_window_calls setup s (line ∷ lines) ≡ after_window_calls setup s lines
left_out setup s (Task task (act.Call call)) lines e = rw e refl
left_out setup s (Task task act.Lock) lines e = refl
left_out setup s (Task task act.Unlock) lines e = refl
left_out setup s Tick lines e = refl

pub window_call-more : (setup : Setup) (s new : State) (lines : List Line) (i : ℕ) (d : Line) → i < length lines → may_change (get_or lines i d) ≡ true → new ≡ state_past setup s (get_or lines i d)
    → after_window_calls setup s (drop i lines) ≡ after_window_calls setup new (drop (i + 1) lines)
window_call-more setup s new lines i d lt test e =
    at_drop_more (after_window_calls setup s) lines i d lt ∙ kept_call setup s (get_or lines i d) (drop (i + 1) lines) test ∙ ap (λ (now : State). after_window_calls setup now (drop (i + 1) lines)) (sym e)

pub other_call-more : (setup : Setup) (s : State) (lines : List Line) (i : ℕ) (d : Line) → i < length lines → may_change (get_or lines i d) ≡ false
    → after_window_calls setup s (drop i lines) ≡ after_window_calls setup s (drop (i + 1) lines)
other_call-more setup s lines i d lt test =
    at_drop_more (after_window_calls setup s) lines i d lt ∙ left_out setup s (get_or lines i d) (drop (i + 1) lines) test

-- the calls of lines that may change windows are those of the lines' history
window_calls-played : (setup : Setup) (s : State) (lines : List Line) → window_calls (entries_of lines) ≡ window_calls (played setup s lines)
window_calls-played setup s [] = refl
window_calls-played setup s (line ∷ lines) =
    let rest = played setup (state_past setup s line) lines in
    filter-append changes_windows (entries_of_line line) (entries_of lines)
    ∙ ap (λ (es : List Entry). window_calls (entries_of_line line) ++ es) (window_calls-played setup (state_past setup s line) lines)
    ∙ ap (λ (es : List Entry). es ++ window_calls rest) (first s line)
    ∙ sym (filter-append changes_windows (entries_at s line) rest)
  where
    by_waiting : (o : Option ℕ) → [] ≡ window_calls (mark_of o)
    by_waiting None = refl
    by_waiting (Some k) = refl

    first : (s : State) (line : Line) → window_calls (entries_of_line line) ≡ window_calls (entries_at s line)
    first s (Task task a) = refl
    first s Tick = by_waiting (number_waiting s.screen)

-- the painter's picture that is written for a script
pub painted_text : (script : Script) (assets : Assets) (config : Config) (lines lent : List Line) (m n : Chronicle) (p : Picture) → assets ≡ script.assets → config ≡ script.config → lines ≡ script.lines → lent ≡ lines → m ≡ unwritten assets config
    → n.setup ≡ m.setup → state_of n ≡ after_window_calls m.setup (state_of m) lent → p ≡ painter n.setup (state_of n).windows → frame_text p ≡ paint_text script
painted_text script assets config lines lent m n p a k l same opened setup state is =
    let s = setup_for assets config in
    ap frame_text
    (is ∙ ap (λ (q : Setup). painter q (state_of n).windows) setup
    ∙ ap (λ (t : State). painter m.setup t.windows) state
    ∙ ap (λ (q : Chronicle). painter q.setup (after_window_calls q.setup (state_of q) lent).windows) opened
    ∙ ap (λ (es : List Entry). painter s (state_after s (opening s) es).windows) (window_calls-played s (opening s) lent)
    ∙ painting_moves_nothing s (played s (opening s) lent)
    ∙ ap (λ (ls : List Line). painter s (after_lines s (opening s) ls).windows) (same ∙ l)
    ∙ ap (λ (b : Assets). painter (setup_for b config) (after_lines (setup_for b config) (opening (setup_for b config)) script.lines).windows) a
    ∙ ap (λ (c : Config). painter (setup_for script.assets c) (after_lines (setup_for script.assets c) (opening (setup_for script.assets c)) script.lines).windows) k)
