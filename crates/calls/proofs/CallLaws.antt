-- The laws of call lines, the same for each word of the table.
use Rattle.std.proofs.Common.{◌≡◌, ℕ, ◌<◌, ◌≤◌, get_or, Bool, true, false, ◌&&◌, List, [], ◌∷◌, ◌++◌, Some, None, refl, sym, ap, subst, ◌∙◌, inl, inr, arith, lit<}
use Rattle.std.specs.Prelude.{bytes_eq, codes}
use Rattle.std.specs.Fmt.{decimal}
use Rattle.std.specs.List.{AllByRecursion, find}
use Rattle.std.proofs.lemmas.Bool.{and_parts, cases_Bool}
use Rattle.std.proofs.lemmas.List.{append-nil}
use Rattle.spelling.specs.Words.{words_of, first_word, natural_in, natural_at}
use Rattle.std.proofs.lemmas.Option.{none-some, same_Some}
use Rattle.spelling.proofs.CallerLemmas.{IsWhole, parts-join, bind_some, chosen, onto, word_takes, named, same_name, nothing_left, natural_in_again, no_natural_in, no_natural, natural_at_takes, natural_at_again, line_from_words, whole_by_test, natural_whole, fields_take, fields_again, fields_whole}
use Rattle.calls.specs.declared.word.Word.{Word}
use Rattle.calls.specs.declared.word.Word.TheVariants as word
use Rattle.calls.specs.declared.call.Call.{Call}
use Rattle.calls.specs.declared.call.Call.TheVariants as call
use Rattle.calls.specs.declared.line.Line.{Line}
use Rattle.calls.specs.declared.line.Line.TheVariants.{Task, Tick}
use Rattle.calls.specs.declared.line.Act.{Act}
use Rattle.calls.specs.declared.line.Act.TheVariants as act
use Rattle.spelling.specs.Fields.{Field, Values, texts_of, AreIn, is_word, are_fields, made, read_fields}
use Rattle.calls.specs.Words.{Said, said_by, SaidFits, Row, row, name_of_word, fields_of, make_of, call_by, row_of, all_words, said, words_of_said, words_of_call, CallFits, words_of_act, ActFits, word_of, call_with, act_named, act_at, are_tick, task_line_of, line_of, line_words, text_of_line, LineFits}

-- ---- the table: each clause is checked for each word

word_again : (w : Word) → word_of (name_of_word w) ≡ Some w
unfolding word_of name_of_word
word_again word.Exec = refl
word_again w = refl

row_is_right : (w : Word) → is_word (name_of_word w) && are_fields (fields_of (row_of w)) ≡ true
unfolding name_of_word
row_is_right word.Exec = refl
row_is_right w = refl

abbrev made_of : Said → Call
made_of (said_by w vs) = made (fields_of (row_of w)) (make_of (row_of w)) vs

said_again : (c : Call) → made_of (said c) ≡ c
said_again call.Exec = refl
said_again c = refl

said_made : (w : Word) (vs : Values (fields_of (row_of w))) → AreIn (fields_of (row_of w)) vs → said (made_of (said_by w vs)) ≡ said_by w vs
said_made word.Exec vs are = refl
said_made w vs are = refl

by_row : (r : Row) (words : List (List ℕ)) → call_by r words ≡ read_fields (fields_of r) (make_of r) words
by_row (row name fields make) words = refl

-- ---- the lock

-- no word of the table is one on the lock
word_is_no_lock : (w : Word) → bytes_eq (name_of_word w) (codes "lock") ≡ false
unfolding name_of_word
word_is_no_lock word.Exec = refl
word_is_no_lock w = refl

word_is_no_unlock : (w : Word) → bytes_eq (name_of_word w) (codes "unlock") ≡ false
unfolding name_of_word
word_is_no_unlock word.Exec = refl
word_is_no_unlock w = refl

-- ---- calls

found_passes : {A : Type 0} (p : A → Bool) (xs : List A) (x : A) → find p xs ≡ Some x → p x ≡ true
found_passes p [] x e = absurd cc
found_passes {A} p (y ∷ xs) x e =
    elim (chosen (p y) (Some y) (find p xs) (Some x) e) [
      | inl this ↦ subst (λ (z : A). p z ≡ true) (same_Some y x this.1) this.0
      | inr later ↦ found_passes p xs x later.1
    ]

word_taken : (name : List ℕ) (w : Word) → word_of name ≡ Some w → name ≡ name_of_word w
unfolding word_of
word_taken name w e = named name (name_of_word w) (found_passes (λ w. bytes_eq name (name_of_word w)) all_words w e)

abbrev SpellsSaid : List (List ℕ) → Said → List (List ℕ) → Type 0
SpellsSaid words s rest = (words ≡ words_of_said s ++ rest) × SaidFits s

abbrev Spells : List (List ℕ) → Call × List (List ℕ) → Type 0
Spells words x = SpellsSaid words (said x.0) x.1

call_takes : (name : List ℕ) (words : List (List ℕ)) (w : Word) (x : Call × List (List ℕ)) → word_of name ≡ Some w → call_with w words ≡ Some x → Spells (name ∷ words) x
call_takes name words w x found e =
    let r = fields_take (fields_of (row_of w)) (make_of (row_of w)) words x (sym (by_row (row_of w) words) ∙ e) in
    let same : said_by w r.0 ≡ said x.0 = sym (said_made w r.0 r.2) ∙ ap said r.3 in
    subst (λ (t : Said). SpellsSaid (name ∷ words) t x.1) same
    (ap (λ (v : List ℕ). v ∷ words) (word_taken name w found) ∙ onto (name_of_word w) _ _ r.1, r.2)

said_read : (s : Said) → SaidFits s → act_at (words_of_said s) ≡ Some (act.Call (made_of s), [])
unfolding act_at
said_read (said_by w vs) fits =
    let right = and_parts (is_word (name_of_word w)) _ (row_is_right w) in
    let fields : List Field = fields_of (row_of w) in
    let read : call_with w (texts_of fields vs) ≡ Some (made_of (said_by w vs), []) = by_row (row_of w) _ ∙ ap (read_fields fields (make_of (row_of w))) (sym (append-nil (texts_of fields vs))) ∙ fields_again fields (make_of (row_of w)) vs [] right.1 fits in
    rw (word_is_no_lock w, word_is_no_unlock w, word_again w, read) refl

call_again : (c : Call) → CallFits c → act_at (words_of_call c) ≡ Some (act.Call c, [])
call_again c fits = said_read (said c) fits ∙ ap (λ (d : Call). Some (act.Call d, [])) (said_again c)

said_whole : (s : Said) → SaidFits s → AllByRecursion (IsWhole 32) (words_of_said s)
said_whole (said_by w vs) fits =
    let right = and_parts (is_word (name_of_word w)) _ (row_is_right w) in
    (whole_by_test (name_of_word w) right.0, fields_whole (fields_of (row_of w)) vs right.1 fits)

-- ---- call lines

abbrev SpellsAct : List (List ℕ) → Act × List (List ℕ) → Type 0
SpellsAct words x = (words ≡ words_of_act x.0 ++ x.1) × ActFits x.0

act_spelled : (name : List ℕ) (words : List (List ℕ)) (x : Act × List (List ℕ)) → act_named name words ≡ Some x → SpellsAct (name ∷ words) x
act_spelled name words x e =
    elim (chosen (bytes_eq name (codes "lock")) (Some (act.Lock, words)) _ (Some x) e) [
      | inl lock ↦ subst (SpellsAct (name ∷ words)) (same_Some (act.Lock, words) x lock.1) (ap (λ (n : List ℕ). n ∷ words) (named name (codes "lock") lock.0), tt)
      | inr other ↦
          elim (chosen (bytes_eq name (codes "unlock")) (Some (act.Unlock, words)) _ (Some x) other.1) [
            | inl unlock ↦ subst (SpellsAct (name ∷ words)) (same_Some (act.Unlock, words) x unlock.1) (ap (λ (n : List ℕ). n ∷ words) (named name (codes "unlock") unlock.0), tt)
            | inr call ↦
                let w = bind_some (word_of name) _ x call.1 in
                let c = bind_some (call_with w.0 words) _ x w.2 in
                let taken = call_takes name words w.0 c.0 w.1 c.1 in
                subst (SpellsAct (name ∷ words)) (same_Some (act.Call c.0.0, c.0.1) x c.2) taken
          ]
    ]

act_takes : (words : List (List ℕ)) (x : Act × List (List ℕ)) → act_at words ≡ Some x → SpellsAct words x
unfolding act_at
act_takes words x e =
    let n = bind_some (first_word words) _ x e in
    subst (λ (ws : List (List ℕ)). SpellsAct ws x) (sym (word_takes words n.0 n.1)) (act_spelled n.0.0 n.0.1 x n.2)

act_again : (a : Act) → ActFits a → act_at (words_of_act a) ≡ Some (a, [])
unfolding act_at
act_again act.Lock fits = refl
act_again act.Unlock fits = refl
act_again (act.Call c) fits = call_again c fits

act_whole : (a : Act) → ActFits a → AllByRecursion (IsWhole 32) (words_of_act a)
act_whole act.Lock fits = (whole_by_test (codes "lock") refl, tt)
act_whole act.Unlock fits = (whole_by_test (codes "unlock") refl, tt)
act_whole (act.Call c) fits = said_whole (said c) fits

-- ---- ticks

-- the words of a tick
tick_takes : (words : List (List ℕ)) → are_tick words ≡ true → words ≡ line_words Tick
tick_takes [] e = absurd cc
tick_takes (first ∷ []) e = absurd cc
tick_takes (first ∷ second ∷ []) e =
    let both = and_parts (bytes_eq first (codes "display")) _ e in
    rw (named first (codes "display") both.0, named second (codes "tick") both.1) refl
tick_takes (first ∷ second ∷ third ∷ words) e = absurd cc

-- the line of a tick, told by its bytes
pub tick_line : (text : List ℕ) → are_tick (words_of text) ≡ bytes_eq text (codes "display tick")
tick_line text =
    elim (cases_Bool (are_tick (words_of text))) [
      | inl tick ↦
          let is : text ≡ codes "display tick" = line_from_words text (line_words Tick) (tick_takes (words_of text) tick) in
          tick ∙ sym (ap (λ (t : List ℕ). bytes_eq t (codes "display tick")) is ∙ same_name (codes "display tick"))
      | inr other ↦
          elim (cases_Bool (bytes_eq text (codes "display tick"))) [
            | inl same ↦ absurd (cc (sym (ap (λ (t : List ℕ). are_tick (words_of t)) (named text (codes "display tick") same)) ∙ other))
            | inr differs ↦ other ∙ sym differs
          ]
    ]

-- a line that begins with another word isn't one
no_tick : (name : List ℕ) (words : List (List ℕ)) → bytes_eq name (codes "display") ≡ false → are_tick (name ∷ words) ≡ false
no_tick name [] other = refl
no_tick name (second ∷ []) other = rw other refl
no_tick name (second ∷ third ∷ words) other = refl

-- a line that begins with no task and not with `display` is no call line
pub no_line : (name : List ℕ) (words : List (List ℕ)) → 57 < get_or name 0 0 → bytes_eq name (codes "display") ≡ false → line_of (name ∷ words) ≡ None
unfolding line_of task_line_of
no_line name words first other = rw (no_tick name words other, no_natural 1 16 name words first) refl

-- a task is a number, so its line's first word isn't `display`
task_is_no_tick : (task : ℕ) (words : List (List ℕ)) → 1 ≤ task → task ≤ 16 → are_tick (decimal task ∷ words) ≡ false
task_is_no_tick task words above below =
    elim (cases_Bool (bytes_eq (decimal task) (codes "display"))) [
      | inl same ↦ absurd (none-some task (sym (no_natural_in 1 16 (codes "display") (lit< tt)) ∙ ap (natural_in 1 16) (sym (named (decimal task) (codes "display") same)) ∙ natural_in_again 1 16 task above below (lit< tt)))
      | inr other ↦ no_tick (decimal task) words other
    ]

-- ---- lines

task_line_takes : (words : List (List ℕ)) (line : Line) → task_line_of words ≡ Some line → (words ≡ line_words line) × LineFits line
unfolding task_line_of
task_line_takes words line e =
    let t = bind_some (natural_at 1 16 words) _ line e in
    let a = bind_some (act_at t.0.1) _ line t.2 in
    let task = natural_at_takes 1 16 words t.0 t.1 in
    let spelled = act_takes t.0.1 a.0 a.1 in
    let whole = nothing_left a.0.1 (Task t.0.0 a.0.0) line a.2 in
    subst (λ (l : Line). (words ≡ line_words l) × LineFits l) whole.1
    (task.0 ∙ onto (decimal t.0.0) _ _ (spelled.0 ∙ ap (λ (ws : List (List ℕ)). words_of_act a.0.0 ++ ws) whole.0 ∙ append-nil (words_of_act a.0.0)), (task.1, task.2, spelled.1))

task_line_again : (task : ℕ) (a : Act) → LineFits (Task task a) → task_line_of (line_words (Task task a)) ≡ Some (Task task a)
unfolding task_line_of
task_line_again task a fits = rw (natural_at_again 1 16 task (words_of_act a) fits.0 fits.1 (lit< tt), act_again a fits.2) refl

pub line_takes : (words : List (List ℕ)) (line : Line) → line_of words ≡ Some line → (words ≡ line_words line) × LineFits line
unfolding line_of
line_takes words line e =
    elim (chosen (are_tick words) (Some Tick) (task_line_of words) (Some line) e) [
      | inl tick ↦ subst (λ (l : Line). (words ≡ line_words l) × LineFits l) (same_Some Tick line tick.1) (tick_takes words tick.0, tt)
      | inr task ↦ task_line_takes words line task.1
    ]

pub line_again : (line : Line) → LineFits line → line_of (line_words line) ≡ Some line
unfolding line_of
line_again (Task task a) fits = rw (task_is_no_tick task (words_of_act a) fits.0 fits.1) (task_line_again task a fits)
line_again Tick fits = refl

pub line_words_whole : (line : Line) → LineFits line → words_of (text_of_line line) ≡ line_words line
line_words_whole (Task task a) fits =
    let below : task ≤ 16 = fits.1 in
    parts-join 32 (decimal task) (words_of_act a) (natural_whole task (omega arith), act_whole a fits.2)
line_words_whole Tick fits =
    parts-join 32 (codes "display") (codes "tick" ∷ []) (whole_by_test (codes "display") refl, (whole_by_test (codes "tick") refl, tt))

pub line_read : (text : List ℕ) (line : Line) → line_of (words_of text) ≡ Some line → (text ≡ text_of_line line) × LineFits line
line_read text line e = let t = line_takes (words_of text) line e in (line_from_words text (line_words line) t.0, t.1)

pub line_spelled : (text : List ℕ) (line : Line) → text ≡ text_of_line line → LineFits line → line_of (words_of text) ≡ Some line
line_spelled text line e fits = ap (λ (t : List ℕ). line_of (words_of t)) e ∙ ap line_of (line_words_whole line fits) ∙ line_again line fits
