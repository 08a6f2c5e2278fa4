-- Entries that come into the history, one after the other.
use Rattle.std.proofs.Common.{◌≡◌, ℕ, ◌+◌, ◌<◌, ◌≤◌, true, false, cond, eqb, List, [], ◌∷◌, ◌++◌, length, filter, Option, None, Some, leb, refl, sym, ap, subst, ◌∙◌, inl, inr, add-zero, append-nil, arith}
use Rattle.std.specs.List.{AllByRecursion}
use Rattle.std.specs.Option.{option_map_or}
use Rattle.std.proofs.Math.Nat.{zero-add}
use Rattle.std.proofs.lemmas.Bool.{leb-false, eq-eqb}
use Rattle.std.proofs.lemmas.List.{length_push, length-append}
use Rattle.std.proofs.lemmas.List.Elements.{filter-append}
use Rattle.calls.specs.Actors.{fits}
use Rattle.calls.specs.declared.call.Call.{Call}
use Rattle.calls.specs.declared.entry.Entry.{Entry}
use Rattle.calls.specs.declared.entry.Entry.TheVariants as entry
use Rattle.calls.specs.declared.reply.Reply.{Reply}
use Rattle.desk.specs.Setups.{Setup}
use Rattle.desk.specs.Desks.{Step, is_refused, is_want_of_memory}
use Rattle.surfaces.specs.Turns.{waits as waits_for, marked, waiting_count}
use Rattle.engine.specs.States.{State, opening, step, state_after}
use Rattle.engine.proofs.CallerLemmas.{owes-call}
use Rattle.std.specs.Prelude.{◌⊎◌, IsTrue}
use Rattle.flip.specs.declared.views.Drawing.{Drawing}
use Rattle.flip.specs.Indexes.{confirmed_by}
use Rattle.multibuf.specs.Screens.{Screen, number_waiting, number_confirmed, after_mark, IsOfWaiting}
use Rattle.surfaces.specs.Panes.{Panes, Finds, LooksAt}
use Rattle.surfaces.proofs.CallerLemmas.{finds_alone}
use Rattle.engine.specs.Machines.{Machine, Counts, panes_of, with_panes, with_mark}
use Rattle.gui_core.specs.Histories.{Chronicle, Core, state_of, refused_in, refusals, is_call_entry, calls_in, says_full, is_entered, is_full, FitsItsActor, MarksStand, IsLegal, mark_of, with_mark_of, number_seen, Looked, Enters, RecordsCall, Answers, IsRecorded, IsCore}

-- ---- entries after others

pub state-append : (setup : Setup) (s : State) (es fs : List Entry) → state_after setup s (es ++ fs) ≡ state_after setup (state_after setup s es) fs
state-append setup s [] fs = refl
state-append setup s (e ∷ es) fs = state-append setup (step setup s e).state es fs

pub refusals-append : (setup : Setup) (s : State) (es fs : List Entry) → refusals setup s (es ++ fs) ≡ refusals setup s es + refusals setup (state_after setup s es) fs
refusals-append setup s [] fs = sym (zero-add (refusals setup s fs))
refusals-append setup s (e ∷ es) fs = let rest = refusals-append setup (step setup s e).state es fs in omega (arith, rest)

fit-more : (es : List Entry) (e : Entry) → AllByRecursion FitsItsActor es → FitsItsActor e → AllByRecursion FitsItsActor (es ++ e ∷ [])
fit-more [] e all one = (one, tt)
fit-more (f ∷ es) e all one = (all.0, fit-more es e all.1 one)

pub stand-append : (setup : Setup) (s : State) (es fs : List Entry) → MarksStand setup s es → MarksStand setup (state_after setup s es) fs → MarksStand setup s (es ++ fs)
stand-append setup s [] fs all more = more
stand-append setup s (e ∷ es) fs all more = (all.0, stand-append setup (step setup s e).state es fs all.1 more)

one_more : (setup : Setup) (s : State) (es : List Entry) (e : Entry) → refusals setup s (es ++ e ∷ []) ≡ refusals setup s es + refused_in setup (state_after setup s es) e
one_more setup s es e = refusals-append setup s es (e ∷ []) ∙ ap (λ (n : ℕ). refusals setup s es + n) (add-zero (refused_in setup (state_after setup s es) e))

pub calls-append : (es fs : List Entry) → calls_in (es ++ fs) ≡ calls_in es + calls_in fs
calls-append es fs = ap length (filter-append is_call_entry es fs) ∙ length-append (filter is_call_entry es) (filter is_call_entry fs)

-- a call more, and a mark more
pub call-more : (es : List Entry) (actor : ℕ) (call : Call) → calls_in (es ++ entry.Call actor call ∷ []) ≡ calls_in es + 1
call-more es actor call = ap length (filter-append is_call_entry es (entry.Call actor call ∷ [])) ∙ length_push (filter is_call_entry es) (entry.Call actor call)

pub mark-more : (es : List Entry) (k : ℕ) → calls_in (es ++ entry.Shown k ∷ []) ≡ calls_in es
mark-more es k = ap length (filter-append is_call_entry es (entry.Shown k ∷ []) ∙ append-nil (filter is_call_entry es))

-- a history that isn't full
pub has_room : (c : Chronicle) → is_full c ≡ false → calls_in c.history < c.setup.config.calls
has_room c not_full = omega (arith, leb-false c.setup.config.calls (calls_in c.history) not_full)

-- ---- the machine

-- a call that was counted is one entry more
pub recorded-more : (m new : Machine) (history : List Entry) (room : ℕ) (actor : ℕ) (call : Call) (reply : Reply) → IsRecorded m history room → calls_in history < m.setup.config.calls → fits call actor ≡ true → Counts m actor call new reply
    → IsRecorded new (history ++ entry.Call actor call ∷ []) room
recorded-more m new history room actor call reply is few fit counts =
    let e = entry.Call actor call in
    let setup = m.setup in
    let longer : length (history ++ e ∷ []) ≡ length history + 1 = length_push history e in
    let more = call-more history actor call in
    let made = counts.made in
    let was = is.made in
    let state : new.state ≡ (step setup m.state e).state = ap (λ (t : Step State). t.state) counts.step in
    let owes = owes-call setup m.state actor call in
    let waiting : waiting_count (number_waiting new.state.screen) + m.state.screen.switches ≤ waiting_count (number_waiting m.state.screen) + new.state.screen.switches = rw state owes.waiting in
    let switches : new.state.screen.switches ≤ m.state.screen.switches + 1 = rw state owes.switches in
    rw counts.setup (record {
      state = state ∙ ap (λ (s : State). (step setup s e).state) is.state ∙ sym (state-append setup (opening setup) history (e ∷ []));
      made = omega (arith, made, was, more);
      refused =
          counts.refused
          ∙ ap (λ (k : ℕ). k + cond (is_refused reply) 1 0) is.refused
          ∙ ap (λ (t : Step State). refusals setup (opening setup) history + cond (is_refused t.reply) 1 0) counts.step
          ∙ ap (λ (s : State). refusals setup (opening setup) history + refused_in setup s e) is.state
          ∙ sym (one_more setup (opening setup) history e);
      legal = record { fit = fit-more history e is.legal.fit fit; marks = stand-append setup (opening setup) history (e ∷ []) is.legal.marks (tt, tt); few = omega (arith, more, few) };
      marks = let marks = is.marks in omega (arith, marks, made, longer, waiting);
      switches = let asked = is.switches in omega (arith, asked, made, switches);
      room = is.room;
    })

marked_here : (k : ℕ) (s : Screen) → number_waiting s ≡ Some k → marked k s ≡ after_mark (Some k) s
marked_here k s waits = let here : waits_for k s ≡ true = ap (λ (o : Option ℕ). option_map_or (λ j. eqb j k) o false) waits ∙ eq-eqb k k refl in rw here refl

-- a mark is one entry more, which is no refusal
pub recorded-mark : (m new : Machine) (history : List Entry) (room k : ℕ) → IsRecorded m history room → number_waiting m.state.screen ≡ Some k → new ≡ record m { state = record m.state { screen = after_mark (Some k) m.state.screen } } → IsRecorded new (history ++ entry.Shown k ∷ []) room
unfolding step
recorded-mark m new history room k is waits is_new =
    let e = entry.Shown k in
    let setup = m.setup in
    let longer : length (history ++ e ∷ []) ≡ length history + 1 = length_push history e in
    let calls = mark-more history k in
    let shown : State = record m.state { screen = after_mark (Some k) m.state.screen } in
    let here : marked k m.state.screen ≡ after_mark (Some k) m.state.screen = marked_here k m.state.screen waits in
    let stepped : shown ≡ (step setup m.state e).state = ap (λ (s : Screen). record m.state { screen = s }) (sym here) in
    rw is_new (record {
      state = stepped ∙ ap (λ (s : State). (step setup s e).state) is.state ∙ sym (state-append setup (opening setup) history (e ∷ []));
      made = is.made ∙ sym calls;
      refused = is.refused ∙ sym (one_more setup (opening setup) history e ∙ add-zero (refusals setup (opening setup) history));
      legal = record {
        fit = fit-more history e is.legal.fit tt;
        marks = stand-append setup (opening setup) history (e ∷ []) is.legal.marks (subst (λ (s : State). number_waiting s.screen ≡ Some k) is.state waits, tt);
        few = let few = is.legal.few in omega (arith, calls, few);
      };
      marks = let marks = is.marks in let one : waiting_count (number_waiting m.state.screen) ≡ 1 = ap waiting_count waits in omega (arith, marks, longer, one);
      switches = is.switches;
      room = is.room;
    })

-- there is room for one entry more
pub fits_call : (m : Machine) (history : List Entry) (room : ℕ) → IsRecorded m history room → calls_in history < m.setup.config.calls → length history < room
fits_call m history room is few =
    let marks = is.marks in
    let asked = is.switches in
    let made = is.made in
    let most = is.room in
    omega (arith, marks, asked, made, most, few)

pub fits_mark : (m : Machine) (history : List Entry) (room k : ℕ) → IsRecorded m history room → number_waiting m.state.screen ≡ Some k → length history < room
fits_mark m history room k is waits =
    let one : waiting_count (number_waiting m.state.screen) ≡ 1 = ap waiting_count waits in
    let marks = is.marks in
    let asked = is.switches in
    let made = is.made in
    let few = is.legal.few in
    let most = is.room in
    omega (arith, one, marks, asked, made, few, most)

-- ---- marks, if there are any

-- what is recorded of a machine is recorded of one that has the same
recorded-as : (m n : Machine) (history : List Entry) (room : ℕ) → n.setup ≡ m.setup → n.state ≡ m.state → n.made ≡ m.made → n.refused ≡ m.refused → IsRecorded m history room → IsRecorded n history room
recorded-as m n history room setup state made refused is = record {
  state = state ∙ is.state ∙ sym (ap (λ (k : Setup). state_after k (opening k) history) setup);
  made = made ∙ is.made;
  refused = refused ∙ is.refused ∙ sym (ap (λ (k : Setup). refusals k (opening k) history) setup);
  legal = subst (λ (k : Setup). IsLegal (record { setup = k; history = history })) (sym setup) is.legal;
  marks = rw (state, made) is.marks;
  switches = rw (state, made) is.switches;
  room = rw setup is.room;
}

-- the machine after the mark of a switch, if there is one
abbrev pub shown_by : Option ℕ → Machine → Machine
shown_by mark m = record m { state = record m.state { screen = after_mark mark m.state.screen } }

pub recorded-shown : (m : Machine) (history : List Entry) (room : ℕ) (mark : Option ℕ) → IsRecorded m history room → IsOfWaiting mark m.state.screen → IsRecorded (shown_by mark m) (history ++ mark_of mark) room
recorded-shown m history room None is waits = subst (λ (es : List Entry). IsRecorded m es room) (sym (append-nil history)) is
recorded-shown m history room (Some k) is waits = recorded-mark m (shown_by (Some k) m) history room k is waits refl

-- there is room for it
pub fits_shown : (m : Machine) (history : List Entry) (room : ℕ) (mark : Option ℕ) → IsRecorded m history room → IsOfWaiting mark m.state.screen → length history + waiting_count mark ≤ room
fits_shown m history room None is waits =
    let marks = is.marks in
    let asked = is.switches in
    let made = is.made in
    let few = is.legal.few in
    let most = is.room in
    omega (arith, marks, asked, made, few, most)
fits_shown m history room (Some k) is waits = let fits = fits_mark m history room k is waits in omega (arith, fits)

calls-marked : (history : List Entry) (mark : Option ℕ) → calls_in (history ++ mark_of mark) ≡ calls_in history
calls-marked history None = ap calls_in (append-nil history)
calls-marked history (Some k) = mark-more history k

-- ---- a look, and a tick

-- the switch that waits, if one does
pub waiting_waits : (s : Screen) → IsOfWaiting (number_waiting s) s
waiting_waits s = by_number (number_waiting s) refl
  where
    by_number : (o : Option ℕ) → number_waiting s ≡ o → IsOfWaiting o s
    by_number None is = tt
    by_number (Some k) is = is

pub tick_fits : (m : Machine) (history : List Entry) (room : ℕ) (mark : Option ℕ) → IsCore m history room → mark ≡ number_waiting m.state.screen → length history + waiting_count mark ≤ room
tick_fits m history room mark is waits = fits_shown m history room mark is.recorded (subst (λ (k : Option ℕ). IsOfWaiting k m.state.screen) (sym waits) (waiting_waits m.state.screen))

pub look_recorded : (m new : Machine) (history : List Entry) (room : ℕ) (mark : Option ℕ) → IsCore m history room → LooksAt (panes_of m) (panes_of new) mark → new ≡ with_panes m (panes_of new) → IsCore new (history ++ mark_of mark) room
look_recorded m new history room mark is looks rest =
    let panes = looks.rest in
    record {
      recorded =
          recorded-as (shown_by mark m) new (history ++ mark_of mark) room
          (ap (λ (k : Machine). k.setup) rest)
          (ap (λ (k : Machine). k.state) rest ∙ ap (λ (p : Panes). record m.state { screen = p.screen; devices = p.devices }) panes)
          (ap (λ (k : Machine). k.made) rest)
          (ap (λ (k : Machine). k.refused) rest)
          (recorded-shown m history room mark is.recorded looks.waits);
      fresh = ap (λ (p : Panes). p.marked) panes ∙ is.fresh;
    }

pub tick_recorded : (m new : Machine) (history : List Entry) (room : ℕ) (mark : Option ℕ) → IsCore m history room → mark ≡ number_waiting m.state.screen → new ≡ record m { drawer = new.drawer; state = record m.state { screen = after_mark mark m.state.screen } } → IsCore new (history ++ mark_of mark) room
tick_recorded m new history room mark is waits rest = record {
  recorded =
      recorded-as (shown_by mark m) new (history ++ mark_of mark) room
      (ap (λ (k : Machine). k.setup) rest)
      (ap (λ (k : Machine). k.state) rest)
      (ap (λ (k : Machine). k.made) rest)
      (ap (λ (k : Machine). k.refused) rest)
      (recorded-shown m history room mark is.recorded (subst (λ (k : Option ℕ). IsOfWaiting k m.state.screen) (sym waits) (waiting_waits m.state.screen)));
  fresh = ap (λ (k : Machine). k.marked) rest ∙ is.fresh;
}

-- the core as callers see it
abbrev pub core_of : Machine → List Entry → Core
core_of m history = record { chronicle = record { setup = m.setup; history = history }; drawer = m.drawer }

pub look_looked : (m new : Machine) (history : List Entry) (room : ℕ) (mark : Option ℕ) → IsCore m history room → LooksAt (panes_of m) (panes_of new) mark → new ≡ with_panes m (panes_of new) → Looked (core_of m history) (core_of new (history ++ mark_of mark))
look_looked m new history room mark is looks rest =
    let number : mark ≡ number_seen (core_of m history) new.drawer = looks.number ∙ ap (λ (s : State). number_confirmed (confirmed_by m.drawer.waiting new.drawer.found) s.screen) is.recorded.state in
    record {
      drawer = looks.drawer;
      display = looks.display;
      chronicle =
          ap (λ (k : Machine). record { setup = k.setup; history = history ++ mark_of mark }) rest
          ∙ ap (λ (k : Option ℕ). with_mark_of k (core_of m history).chronicle) number;
      alone = λ own. sym number ∙ looks.alone own;
    }

-- ---- a call, behind the mark of what it found

-- its counts are those of the machine after the mark
counts_as : (m found new last : Machine) (actor : ℕ) (call : Call) (reply : Reply) → found.setup ≡ m.setup → found.state ≡ m.state → found.made ≡ m.made → found.refused ≡ m.refused → last ≡ record new { marked = None } → Counts found actor call new reply → Counts m actor call last reply
counts_as m found new last actor call reply setup state made refused is counts = rw is (record {
  setup = counts.setup ∙ setup;
  step = counts.step ∙ ap (λ (k : Setup). step k found.state (entry.Call actor call)) setup ∙ ap (λ (s : State). step m.setup s (entry.Call actor call)) state;
  made = counts.made ∙ ap (λ (n : ℕ). n + 1) made;
  refused = counts.refused ∙ ap (λ (n : ℕ). n + cond (is_refused reply) 1 0) refused;
})

-- what holds where a call was made of a core that isn't full
pub record MadeIn (m : Machine) (history : List Entry) (room actor : ℕ) (call : Call) (new last : Machine) (reply : Reply) : Type 0 where
  pub core : IsCore m history room
  pub few : calls_in history < m.setup.config.calls
  pub fit : fits call actor ≡ true
  pub finds : Finds m.drawer m.state.screen new.drawer new.marked
  pub counts : Counts (with_mark new m) actor call new reply
  pub taken : last ≡ record new { marked = None }

pub make_fits_mark : (m : Machine) (history : List Entry) (room actor : ℕ) (call : Call) (new last : Machine) (reply : Reply) → MadeIn m history room actor call new last reply → length history + waiting_count new.marked ≤ room
make_fits_mark m history room actor call new last reply is = fits_shown m history room new.marked is.core.recorded is.finds.waits

few_marked : (m : Machine) (history : List Entry) (mark : Option ℕ) → calls_in history < m.setup.config.calls → calls_in (history ++ mark_of mark) < m.setup.config.calls
few_marked m history mark few = let same = calls-marked history mark in omega (arith, same, few)

pub make_fits : (m : Machine) (history : List Entry) (room actor : ℕ) (call : Call) (new last : Machine) (reply : Reply) → MadeIn m history room actor call new last reply → length (history ++ mark_of new.marked) < room
make_fits m history room actor call new last reply is =
    fits_call (shown_by new.marked m) (history ++ mark_of new.marked) room (recorded-shown m history room new.marked is.core.recorded is.finds.waits) (few_marked m history new.marked is.few)

pub make_recorded : (m : Machine) (history : List Entry) (room actor : ℕ) (call : Call) (new last : Machine) (reply : Reply) → MadeIn m history room actor call new last reply → IsCore last ((history ++ mark_of new.marked) ++ entry.Call actor call ∷ []) room
make_recorded m history room actor call new last reply is = record {
  recorded =
      recorded-more (shown_by new.marked m) last (history ++ mark_of new.marked) room actor call reply (recorded-shown m history room new.marked is.core.recorded is.finds.waits) (few_marked m history new.marked is.few) is.fit
      (counts_as (shown_by new.marked m) (with_mark new m) new last actor call reply refl refl refl refl is.taken is.counts);
  fresh = ap (λ (k : Machine). k.marked) is.taken;
}

-- the state that the history comes to with the mark
state_shown : (m : Machine) (history : List Entry) (room : ℕ) (mark : Option ℕ) → IsRecorded m history room → IsOfWaiting mark m.state.screen → (shown_by mark m).state ≡ state_of (with_mark_of mark (core_of m history).chronicle)
state_shown m history room mark is waits = let shown = recorded-shown m history room mark is waits in shown.state

pub make_records : (m : Machine) (history : List Entry) (room actor : ℕ) (call : Call) (new last : Machine) (reply : Reply) → MadeIn m history room actor call new last reply → RecordsCall (core_of m history) actor call (core_of last ((history ++ mark_of new.marked) ++ entry.Call actor call ∷ [])) reply
make_records m history room actor call new last reply is =
    let counts = is.counts in
    record {
      mark = new.marked;
      finds = subst (λ (e : Drawing). Finds m.drawer (state_of (core_of m history).chronicle).screen e new.marked) (sym (ap (λ (k : Machine). k.drawer) is.taken)) (subst (λ (s : State). Finds m.drawer s.screen new.drawer new.marked) is.core.recorded.state is.finds);
      enters = record {
        setup = ap (λ (k : Machine). k.setup) is.taken ∙ counts.setup;
        history = refl;
        reply_is =
            ap (λ (t : Step State). t.reply) counts.step
            ∙ ap (λ (s : State). (step m.setup s (entry.Call actor call)).reply) (state_shown m history room new.marked is.core.recorded is.finds.waits);
      };
    }

-- ---- one mark at most

-- where a switch was made none waits
nothing_left : (setup : Setup) (s : State) (k : ℕ) → number_waiting s.screen ≡ Some k → number_waiting (step setup s (entry.Shown k)).state.screen ≡ None
unfolding step
nothing_left setup s k waits = ap number_waiting (marked_here k s.screen waits)

confirmed_waits : (found : Option ℕ) (s : Screen) (k : ℕ) → number_confirmed found s ≡ Some k → number_waiting s ≡ Some k
confirmed_waits None s k is = absurd cc
confirmed_waits (Some j) s k is = is

none_of : (mark : Option ℕ) (s : Screen) → number_waiting s ≡ None → IsOfWaiting mark s → mark ≡ None
none_of None s none waits = refl
none_of (Some k) s none waits = absurd cc

pub one_mark : (old looked new : Core) (actor : ℕ) (call : Call) (reply : Reply) → Looked old looked → (r : RecordsCall looked actor call new reply) → (number_seen old looked.drawer ≡ None) ⊎ (r.mark ≡ None)
one_mark old looked new actor call reply look r = by_seen (number_seen old looked.drawer) refl
  where
    by_seen : (o : Option ℕ) → number_seen old looked.drawer ≡ o → (number_seen old looked.drawer ≡ None) ⊎ (r.mark ≡ None)
    by_seen None is = inl is
    by_seen (Some k) is =
        let c = old.chronicle in
        let waits = confirmed_waits (confirmed_by old.drawer.waiting looked.drawer.found) (state_of c).screen k is in
        let after : state_of looked.chronicle ≡ (step c.setup (state_of c) (entry.Shown k)).state =
        ap state_of (look.chronicle ∙ ap (λ (o : Option ℕ). with_mark_of o c) is) ∙ state-append c.setup (opening c.setup) c.history (entry.Shown k ∷ []) in
        inr (none_of r.mark (state_of looked.chronicle).screen (ap (λ (s : State). number_waiting s.screen) after ∙ nothing_left c.setup (state_of c) k waits) r.finds.waits)

-- ---- for callers

-- what an entered call comes to
pub enters-state : (old new : Chronicle) (actor : ℕ) (call : Call) (reply : Reply) → Enters old actor call new reply → state_of new ≡ (step old.setup (state_of old) (entry.Call actor call)).state
enters-state old new actor call reply a =
    ap (λ (setup : Setup). state_after setup (opening setup) new.history) a.setup
    ∙ ap (λ (es : List Entry). state_after old.setup (opening old.setup) es) a.history
    ∙ state-append old.setup (opening old.setup) old.history (entry.Call actor call ∷ [])

-- a look that found nothing changes nothing of the chronicle
unlooked : (c : Chronicle) (mark : Option ℕ) → mark ≡ None → with_mark_of mark c ≡ c
unlooked c mark none = ap (λ (k : Option ℕ). with_mark_of k c) none ∙ ap (λ (es : List Entry). record c { history = es }) (append-nil c.history)

pub look-alone : (old new : Core) → Looked old new → IsTrue old.drawer.alone → new.chronicle ≡ old.chronicle
look-alone old new looked alone = looked.chronicle ∙ unlooked old.chronicle (number_seen old new.drawer) (looked.alone alone)

pub look-stays_alone : (old new : Core) → Looked old new → new.drawer.alone ≡ old.drawer.alone
look-stays_alone old new looked = ap (λ (d : Drawing). d.alone) looked.drawer

-- a core that is its own display finds no mark
pub answers-alone : (old new : Core) (actor : ℕ) (call : Call) (reply : Reply) → Answers old actor call new reply → IsTrue old.drawer.alone → Enters old.chronicle actor call new.chronicle reply
answers-alone old new actor call reply a alone =
    let still : IsTrue a.looked.drawer.alone = subst IsTrue (sym (look-stays_alone old a.looked a.look)) alone in
    let same : with_mark_of a.records.mark a.looked.chronicle ≡ old.chronicle = unlooked a.looked.chronicle a.records.mark (a.records.finds.alone still) ∙ look-alone old a.looked a.look alone in
    subst (λ (c : Chronicle). Enters c actor call new.chronicle reply) same a.records.enters

pub records-stays_alone : (old new : Core) (actor : ℕ) (call : Call) (reply : Reply) → RecordsCall old actor call new reply → new.drawer.alone ≡ old.drawer.alone
records-stays_alone old new actor call reply is = finds_alone old.drawer new.drawer (state_of old.chronicle).screen is.mark is.finds

-- as many calls are in the history after a look
pub look-full : (old new : Core) → Looked old new → is_full new.chronicle ≡ is_full old.chronicle
look-full old new looked =
    ap is_full looked.chronicle
    ∙ ap (λ (n : ℕ). leb old.chronicle.setup.config.calls n) (calls-marked old.chronicle.history (number_seen old new.drawer))

-- where there is room and memory a call is entered
pub entered : (reply : Reply) → says_full reply ≡ false → is_want_of_memory reply ≡ false → is_entered reply ≡ true
entered reply room memory = rw (room, memory) refl
