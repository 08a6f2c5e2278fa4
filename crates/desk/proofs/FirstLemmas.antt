-- The first window that passes a test, and the window that a handle finds.
use Rattle.std.proofs.Common.{◌≡◌, ℕ, ◌+◌, ◌<◌, Bool, true, false, cond, eqb, List, [], ◌∷◌, ◌++◌, length, get_or, ltb, take, drop, Option, Some, None, refl, sym, ap, ◌∙◌, arith}
use Rattle.std.specs.Prelude.{position, find, slice_get, is_some}
use Rattle.std.specs.List.{AllByRecursion, position_or_len}
use Rattle.std.proofs.lemmas.Bool.{ltb-false}
use Rattle.std.proofs.lemmas.List.{take-append-drop, drop_more, get_or-take, get_or_default, length-take}
use Rattle.std.proofs.lemmas.List.Sums.{fails_before_first}
use Rattle.std.proofs.lemmas.List.Elements.{recursion_from_All}
use Rattle.std.proofs.lemmas.List.Quantifiers.{position-Some}
use Rattle.std.proofs.lemmas.Option.{slice_get-get_or}
use Rattle.scene.specs.declared.win.Win.{Win}
use Rattle.scene.specs.Places.{window_of, no_window}

-- the first window that passes, with those before and after it
pub record Splits (test : Win → Bool) (ws before : List Win) (w : Win) (after : List Win) : Type 0 where
  pub parts : ws ≡ before ++ w ∷ after
  pub others : AllByRecursion (λ v. test v ≡ false) before
  pub passes : test w ≡ true

pub splits : (test : Win → Bool) (ws : List Win) (which : ℕ) → position test ws ≡ Some which → Splits test ws (take which ws) (get_or ws which no_window) (drop (which + 1) ws)
splits test ws which e =
    let p = position-Some test ws which no_window e in
    record {
      parts = sym (take-append-drop which ws) ∙ ap (λ (rest : List Win). take which ws ++ rest) (drop_more ws which no_window p.0);
      others = recursion_from_All (λ v. test v ≡ false) (take which ws) (λ k d lt.
          let short = length-take which ws in
          rw (get_or-take which ws k d (omega arith), get_or_default ws k d no_window (omega arith)) (p.2 k (omega arith)));
      passes = p.1;
    }

test_false : {A : Type 0} (b : Bool) (x : A) → cond b (Some x) None ≡ None → b ≡ false
test_false true x e = absurd cc
test_false false x e = refl

pub none_pass : (test : Win → Bool) (ws : List Win) → position test ws ≡ None → AllByRecursion (λ v. test v ≡ false) ws
none_pass test ws e =
    let past = ltb-false _ _ (test_false (ltb (position_or_len test ws) (length ws)) (position_or_len test ws) e) in
    recursion_from_All (λ v. test v ≡ false) ws (λ k d lt. fails_before_first test ws k d (omega arith))

-- ---- windows by their handles

find_at : (test : Win → Bool) (before : List Win) (w : Win) (after : List Win) → AllByRecursion (λ v. test v ≡ false) before → test w ≡ true → find test (before ++ w ∷ after) ≡ Some w
find_at test [] w after others passes = rw passes refl
find_at test (v ∷ before) w after others passes = rw others.0 (find_at test before w after others.1 passes)

find_none : (test : Win → Bool) (ws : List Win) → AllByRecursion (λ v. test v ≡ false) ws → find test ws ≡ None
find_none test [] none = refl
find_none test (w ∷ ws) none = rw none.0 (find_none test ws none.1)

abbrev pub has_the : ℕ → Win → Bool
has_the h w = eqb w.handle h

-- the window at the place of its handle
pub record IsAt (ws : List Win) (h at : ℕ) (w : Win) : Type 0 where
  pub there : at < length ws
  pub place : slice_get ws at ≡ Some w
  pub live : window_of ws h ≡ Some w

pub found_at : (ws : List Win) (h at : ℕ) → position (has_the h) ws ≡ Some at → IsAt ws h at (get_or ws at no_window)
found_at ws h at e =
    let s = splits (has_the h) ws at e in
    let lt = (position-Some (has_the h) ws at no_window e).0 in
    record {
      there = lt;
      place = slice_get-get_or ws at no_window lt;
      live = ap (find (has_the h)) s.parts ∙ find_at (has_the h) (take at ws) (get_or ws at no_window) (drop (at + 1) ws) s.others s.passes;
    }

pub none_found : (ws : List Win) (h : ℕ) → position (has_the h) ws ≡ None → window_of ws h ≡ None
none_found ws h e = find_none (has_the h) ws (none_pass (has_the h) ws e)

-- a handle finds a place where it finds a window
pub found_alike : (ws : List Win) (h : ℕ) → is_some (position (has_the h) ws) ≡ is_some (window_of ws h)
found_alike ws h = by_place (position (has_the h) ws) refl
  where
    by_place : (o : Option ℕ) → position (has_the h) ws ≡ o → is_some o ≡ is_some (window_of ws h)
    by_place None e = sym (ap is_some (none_found ws h e))
    by_place (Some at) e = sym (ap is_some (found_at ws h at e).live)
