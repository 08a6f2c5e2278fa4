-- What a call finds out of its display: the mark of the switch that its end found confirmed, told before the call.
use Rattle.std.proofs.Common.{◌≡◌, ℕ, ◌+◌, Bool, true, false, ◌&&◌, cond, eqb, leb, Option, Some, None, refl, sym, ap, ◌∙◌, inl, inr}
use Rattle.std.specs.Prelude.{option_map}
use Rattle.std.proofs.lemmas.Bool.{cases_Bool}
use Rattle.frame.specs.Pictures.{Picture}
use Rattle.flip.specs.declared.views.Drawing.{Drawing}
use Rattle.multibuf.specs.Buffering.{drawer_posted}
use Rattle.multibuf.specs.Screens.{Screen, number_of_switch, number_waiting, number_confirmed, picture_confirmed, switch_left, after_begin, after_mark, after_draw, IsOfWaiting}
use Rattle.surfaces.specs.Turns.{after_turn, IsScreen}
use Rattle.surfaces.specs.Panes.{Panes, begun, ended, switched, Finds}
use Rattle.surfaces.proofs.TurnLemmas.{latest-mark, screen-begun, turn_is}

-- ---- what waits

-- the switch that waits on one screen waits on another with the same
pub of_same : (k : Option ℕ) (s t : Screen) → t.waiting ≡ s.waiting → IsOfWaiting k t → IsOfWaiting k s
of_same None s t same waits = tt
of_same (Some k) s t same waits = sym (ap (option_map number_of_switch) same) ∙ waits

pub waiting-begun : (n : ℕ) (s : Screen) → (begun n s).waiting ≡ s.waiting
waiting-begun n s = by_first (eqb s.count 0)
  where
    by_first : (b : Bool) → (cond b (after_begin n s) s).waiting ≡ s.waiting
    by_first true = refl
    by_first false = refl

confirmed_same : (found : Option ℕ) (s t : Screen) → t.waiting ≡ s.waiting → number_confirmed found t ≡ number_confirmed found s
confirmed_same None s t same = refl
confirmed_same (Some k) s t same = ap (option_map number_of_switch) same

-- nothing is found where nothing is posted
pub finds_nothing : (d : Drawing) (s : Screen) → Finds d s d None
finds_nothing d s = record { posted = None; drawer = refl; display = tt; number = refl; waits = tt; alone = λ is. refl }

-- what is found depends on what waits alone
pub finds_same : (d e : Drawing) (s t : Screen) (mark : Option ℕ) → t.waiting ≡ s.waiting → Finds d t e mark → Finds d s e mark
finds_same d e s t mark same finds = record {
  posted = finds.posted;
  drawer = finds.drawer;
  display = finds.display;
  number = finds.number ∙ confirmed_same _ s t same;
  waits = of_same mark s t same finds.waits;
  alone = finds.alone;
}

posted_buffers : (d : Drawing) (posted found : Option ℕ) → (drawer_posted d posted found).buffers ≡ d.buffers
posted_buffers d None found = refl
posted_buffers d (Some k) found = refl

posted_alone : (d : Drawing) (posted found : Option ℕ) → (drawer_posted d posted found).alone ≡ d.alone
posted_alone d None found = refl
posted_alone d (Some k) found = refl

-- the display has as many buffers as before
pub finds_buffers : (d e : Drawing) (s : Screen) (mark : Option ℕ) → Finds d s e mark → e.buffers ≡ d.buffers
finds_buffers d e s mark finds = ap (λ (v : Drawing). v.buffers) finds.drawer ∙ posted_buffers d finds.posted e.found

-- and is alone where it was
pub finds_alone : (d e : Drawing) (s : Screen) (mark : Option ℕ) → Finds d s e mark → e.alone ≡ d.alone
finds_alone d e s mark finds = ap (λ (v : Drawing). v.alone) finds.drawer ∙ posted_alone d finds.posted e.found

-- ---- the mark comes first

not_waiting : (k : ℕ) (s : Screen) → s.waiting ≡ None → IsOfWaiting (Some k) s → ⊥
not_waiting k s none waits = let gone : number_waiting s ≡ None = ap (option_map number_of_switch) none in cc

mark_draw : (n : ℕ) (k : Option ℕ) (p : Picture) (s : Screen) → IsScreen n s → IsOfWaiting k s → after_mark k (after_draw n p s) ≡ after_draw n p (after_mark k s)
mark_draw n None p s is waits = refl
mark_draw n (Some k) p s is waits =
    elim (cases_Bool (leb 2 n)) [
      | inl several ↦ rw several refl
      | inr one ↦ absurd (not_waiting k s (is.alone one).0 waits)
    ]

mark_begin : (n : ℕ) (k : Option ℕ) (s : Screen) → after_mark k (after_begin n s) ≡ after_begin n (after_mark k s)
mark_begin n k s =
    ap (λ (p : Picture). record s {
      shown = picture_confirmed k s.waiting s.shown;
      waiting = switch_left k s.waiting;
      back = cond (eqb s.count 0 && leb 2 n) (Some p) s.back;
      count = s.count + 1;
    }) (sym (latest-mark k s))

mark_begun : (n : ℕ) (k : Option ℕ) (s : Screen) → after_mark k (begun n s) ≡ begun n (after_mark k s)
mark_begun n k s = by_first (eqb s.count 0)
  where
    by_first : (b : Bool) → after_mark k (cond b (after_begin n s) s) ≡ cond b (after_begin n (after_mark k s)) (after_mark k s)
    by_first true = mark_begin n k s
    by_first false = refl

-- a call that begins, draws, finds a switch confirmed and ends is one that draws after that switch was made
pub mark_turn : (n : ℕ) (k : Option ℕ) (p : Picture) (s : Screen) → IsScreen n s → IsOfWaiting k s → ended (eqb s.count 0) (after_mark k (after_draw n p (begun n s))) ≡ after_turn n p (after_mark k s)
mark_turn n k p s is waits =
    ap (ended (eqb s.count 0)) (mark_draw n k p (begun n s) (screen-begun n s is) (of_same k (begun n s) s (sym (waiting-begun n s)) waits) ∙ ap (after_draw n p) (mark_begun n k s))
    ∙ turn_is n p (after_mark k s)

-- ---- the panes

-- where nothing is found and the display isn't stepped, the panes are as they were
pub unswitched : (old new : Panes) → new.drawer ≡ old.drawer → new.marked ≡ old.marked → old.marked ≡ None → switched new old ≡ old
unswitched old new drawer same none =
    ap (λ (k : Option ℕ). record old { drawer = new.drawer; screen = after_mark k old.screen; marked = k }) (same ∙ none)
    ∙ ap (λ (d : Drawing). record old { drawer = d; marked = None }) drawer
    ∙ ap (λ (k : Option ℕ). record old { marked = k }) (sym none)

pub finds_as_before : (old new : Panes) → new.drawer ≡ old.drawer → new.marked ≡ old.marked → old.marked ≡ None → Finds old.drawer old.screen new.drawer new.marked
finds_as_before old new drawer same none = rw (drawer, same, none) (finds_nothing old.drawer old.screen)
