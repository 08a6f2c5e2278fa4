-- What beginning, ending, drawing and marks do to the pictures of buffers.
use Rattle.std.proofs.Common.{◌≡◌, ◌≢◌, ℕ, ◌+◌, ◌-◌, ◌≤◌, Bool, true, false, ◌&&◌, cond, eqb, leb, Option, Some, None, refl, sym, ap, subst, ◌∙◌, inl, inr, arith}
use Rattle.std.proofs.lemmas.Bool.{cases_Bool}
use Rattle.frame.specs.Pictures.{Picture}
use Rattle.multibuf.specs.Screens.{Screen, first_of, latest, number_waiting, after_begin, after_end, after_mark, after_draw, switch_asked, switches_asked, picture_confirmed, switch_left}
use Rattle.surfaces.specs.Turns.{showing, after_turn, waits, marked, IsScreen, waiting_count}
use Rattle.surfaces.specs.Panes.{IsBegun, begun, ended}

-- ---- the picture that is drawn on

pub latest-begin : (n : ℕ) (s : Screen) → latest (after_begin n s) ≡ latest s
latest-begin n s =
    elim (cases_Bool (eqb s.count 0 && leb 2 n)) [
      | inl copies ↦ rw copies refl
      | inr counts ↦ rw counts refl
    ]

asked_first : (s : Screen) (o : Option Picture) → first_of None (switch_asked o s) s.shown ≡ first_of o s.waiting s.shown
asked_first s None = refl
asked_first s (Some p) = refl

pub latest-end : (s : Screen) → latest (after_end s) ≡ latest s
latest-end s =
    elim (cases_Bool (eqb s.count 1)) [
      | inl last ↦ rw last (asked_first s s.back)
      | inr more ↦ rw more refl
    ]

confirmed_first : (k : ℕ) (b : Option Picture) (w : Option (ℕ × Picture)) (p : Picture) → first_of b (switch_left (Some k) w) (picture_confirmed (Some k) w p) ≡ first_of b w p
confirmed_first k (Some b) w p = refl
confirmed_first k None None p = refl
confirmed_first k None (Some w) p = refl

pub latest-mark : (k : Option ℕ) (s : Screen) → latest (after_mark k s) ≡ latest s
latest-mark None s = refl
latest-mark (Some k) s = confirmed_first k s.back s.waiting s.shown

pub latest-marked : (k : ℕ) (s : Screen) → latest (marked k s) ≡ latest s
latest-marked k s =
    elim (cases_Bool (waits k s)) [
      | inl here ↦ rw here (latest-mark (Some k) s)
      | inr other ↦ rw other refl
    ]

pub latest-draw : (n : ℕ) (p : Picture) (s : Screen) → IsScreen n s → latest (after_draw n p s) ≡ p
latest-draw n p s is =
    elim (cases_Bool (leb 2 n)) [
      | inl several ↦ rw several refl
      | inr one ↦ rw (one, (is.alone one).0, (is.alone one).1) refl
    ]

pub latest-begun : (n : ℕ) (s : Screen) → latest (begun n s) ≡ latest s
latest-begun n s = by_first (eqb s.count 0)
  where
    by_first : (b : Bool) → latest (cond b (after_begin n s) s) ≡ latest s
    by_first true = latest-begin n s
    by_first false = refl

pub latest-ended : (own : Bool) (s : Screen) → latest (ended own s) ≡ latest s
latest-ended true s = latest-end s
latest-ended false s = refl

-- ---- what is true of the pictures

pub screen-showing : (n : ℕ) (p : Picture) → IsScreen n (showing p)
screen-showing n p = record { alone = λ one. (refl, refl); ended = λ none. refl }

not_several : (b : Bool) (n : ℕ) (x : Option Picture) (back : Option Picture) → leb 2 n ≡ false → back ≡ None → cond (b && leb 2 n) x back ≡ None
not_several true n x back one none = rw one none
not_several false n x back one none = none

pub screen-begin : (n : ℕ) (s : Screen) → IsScreen n s → IsScreen n (after_begin n s)
screen-begin n s is = record {
  alone = λ one. ((is.alone one).0, not_several (eqb s.count 0) n (Some (latest s)) s.back one (is.alone one).1);
  ended = λ none. absurd (omega (arith, none));
}

asked_none : (b : Bool) (s : Screen) → s.back ≡ None → s.waiting ≡ None → switch_asked (cond b s.back None) s ≡ None
asked_none true s none nothing = rw none nothing
asked_none false s none nothing = nothing

no_back : (b : Bool) (s : Screen) → s.back ≡ None → cond b None s.back ≡ None
no_back true s none = refl
no_back false s none = none

pub screen-end : (n : ℕ) (s : Screen) → IsScreen n s → IsScreen n (after_end s)
screen-end n s is = record {
  alone = λ one. (asked_none (eqb s.count 1) s (is.alone one).1 (is.alone one).0, no_back (eqb s.count 1) s (is.alone one).1);
  ended = λ none.
      elim (cases_Bool (eqb s.count 1)) [
        | inl last ↦ rw last refl
        | inr more ↦
            let other : s.count ≢ 1 = λ one. absurd (at_odds s.count one more) in
            rw more (is.ended (zero_left s.count other none))
      ];
}
  where
    at_odds : (k : ℕ) → k ≡ 1 → eqb k 1 ≡ false → ⊥
    at_odds k one more = let test : true ≡ false = ap (λ (j : ℕ). eqb j 1) (sym one) ∙ more in absurd cc

    zero_left : (k : ℕ) → k ≢ 1 → k - 1 ≡ 0 → k ≡ 0
    zero_left k other none = omega (arith, other, none)

pub screen-draw : (n : ℕ) (p : Picture) (s : Screen) → IsBegun n s → IsScreen n s → IsScreen n (after_draw n p s)
screen-draw n p s begun is = record {
  alone = λ one. ((is.alone one).0, rw one (is.alone one).1);
  ended = λ none.
      elim begun [
        | inl counted ↦ absurd (counted none)
        | inr one ↦ rw one (is.ended none)
      ];
}

counts_more : (k : ℕ) → k + 1 ≢ 0
counts_more k none = absurd (omega (arith, none))

pub begun-begin : (n : ℕ) (s : Screen) → IsBegun n (after_begin n s)
begun-begin n s = inl (counts_more s.count)

open_counts : (k : ℕ) → eqb k 0 ≡ false → k ≢ 0
open_counts k other none = let test : true ≡ false = ap (λ (j : ℕ). eqb j 0) (sym none) ∙ other in absurd cc

pub count-begun : (n : ℕ) (s : Screen) → (begun n s).count ≢ 0
count-begun n s = by_first (eqb s.count 0) refl
  where
    by_first : (b : Bool) → eqb s.count 0 ≡ b → (cond b (after_begin n s) s).count ≢ 0
    by_first true first = counts_more s.count
    by_first false later = open_counts s.count later

pub screen-begun : (n : ℕ) (s : Screen) → IsScreen n s → IsScreen n (begun n s)
screen-begun n s is = by_first (eqb s.count 0)
  where
    by_first : (b : Bool) → IsScreen n (cond b (after_begin n s) s)
    by_first true = screen-begin n s is
    by_first false = is

pub screen-ended : (n : ℕ) (own : Bool) (s : Screen) → IsScreen n s → IsScreen n (ended own s)
screen-ended n true s is = screen-end n s is
screen-ended n false s is = is

pub screen-mark : (n : ℕ) (k : Option ℕ) (s : Screen) → IsScreen n s → IsScreen n (after_mark k s)
screen-mark n None s is = is
screen-mark n (Some k) s is = record { alone = λ one. (refl, (is.alone one).1); ended = is.ended }

pub screen-marked : (n k : ℕ) (s : Screen) → IsScreen n s → IsScreen n (marked k s)
screen-marked n k s is =
    elim (cases_Bool (waits k s)) [
      | inl here ↦ rw here (screen-mark n (Some k) s is)
      | inr other ↦ rw other is
    ]

-- ---- a turn is a begin and an end of its own, where nothing was begun

pub turn_is : (n : ℕ) (p : Picture) (s : Screen) → ended (eqb s.count 0) (after_draw n p (begun n s)) ≡ after_turn n p s
turn_is n p s = by_first (eqb s.count 0)
  where
    by_first : (b : Bool) → ended b (after_draw n p (cond b (after_begin n s) s)) ≡ cond b (after_end (after_draw n p (after_begin n s))) (after_draw n p s)
    by_first true = refl
    by_first false = refl

pub latest-turn : (n : ℕ) (p : Picture) (s : Screen) → IsScreen n s → latest (after_turn n p s) ≡ p
latest-turn n p s is =
    ap latest (sym (turn_is n p s))
    ∙ latest-ended (eqb s.count 0) (after_draw n p (begun n s))
    ∙ latest-draw n p (begun n s) (screen-begun n s is)

pub screen-turn : (n : ℕ) (p : Picture) (s : Screen) → IsScreen n s → IsScreen n (after_turn n p s)
screen-turn n p s is =
    subst (IsScreen n) (turn_is n p s) (screen-ended n (eqb s.count 0) (after_draw n p (begun n s)) (screen-draw n p (begun n s) (inl (count-begun n s)) (screen-begun n s is)))

-- a picture that is drawn after another takes its place
pub drawn_twice : (n : ℕ) (p q : Picture) (s : Screen) → after_draw n p (after_draw n q s) ≡ after_draw n p s
drawn_twice n p q s =
    elim (cases_Bool (leb 2 n)) [
      | inl several ↦ rw several refl
      | inr one ↦ rw one refl
    ]

-- ---- switches: each call asks for one at most, and what waits was asked for

pub record Owes (s t : Screen) : Type 0 where
  pub waiting : waiting_count (number_waiting t) + s.switches ≤ waiting_count (number_waiting s) + t.switches
  pub switches : t.switches ≤ s.switches + 1

pub owes_nothing : (s t : Screen) → t.waiting ≡ s.waiting → t.switches ≡ s.switches → Owes s t
owes_nothing s t waiting switches = record { waiting = rw (waiting, switches) (omega arith); switches = rw switches (omega arith) }

one_waits : (o : Option ℕ) → waiting_count o ≤ 1
one_waits None = omega arith
one_waits (Some k) = omega arith

owes_asked : (s t : Screen) (o : Option Picture) → t.waiting ≡ switch_asked o s → t.switches ≡ switches_asked o s.switches → Owes s t
owes_asked s t None waiting switches = owes_nothing s t waiting switches
owes_asked s t (Some p) waiting switches = record { waiting = rw (waiting, switches) (omega arith); switches = rw switches (omega arith) }

pub owes-end : (s : Screen) → Owes s (after_end s)
owes-end s =
    elim (cases_Bool (eqb s.count 1)) [
      | inl last ↦ owes_asked s (after_end s) s.back (rw last refl) (rw last refl)
      | inr more ↦ owes_nothing s (after_end s) (rw more refl) (rw more refl)
    ]

pub owes-turn : (n : ℕ) (p : Picture) (s : Screen) → Owes s (after_turn n p s)
owes-turn n p s = by_first (eqb s.count 0)
  where
    begun_owes : Owes (after_draw n p (after_begin n s)) (after_end (after_draw n p (after_begin n s))) → Owes s (after_end (after_draw n p (after_begin n s)))
    begun_owes owes = record { waiting = owes.waiting; switches = owes.switches }

    by_first : (b : Bool) → Owes s (cond b (after_end (after_draw n p (after_begin n s))) (after_draw n p s))
    by_first true = begun_owes (owes-end (after_draw n p (after_begin n s)))
    by_first false = owes_nothing s (after_draw n p s) refl refl
