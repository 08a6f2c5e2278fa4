-- Where a text is cut.
use Rattle.std.proofs.Common.{◌≡◌, ℕ, suc, ◌+◌, ◌-◌, ◌<◌, ◌≤◌, Bool, true, false, cond, eqb, ltb, List, [], ◌∷◌, length, take, drop, Some, None, refl, ap, subst, ◌∙◌, arith}
use Rattle.std.specs.Prelude.{position, not}
use Rattle.std.specs.List.{slice_split, position_or_len, onto_first}
use Rattle.std.proofs.lemmas.Option.{cond_some}
use Rattle.std.proofs.lemmas.Bool.{ltb-true, ltb-false}
use Rattle.std.proofs.lemmas.Bool.Decides.{Decides-eqb, nat_tests}
use Rattle.std.proofs.lemmas.List.Splits.{slice_split_first}
use Rattle.std.proofs.lemmas.List.{take_all, length-drop}
use Rattle.std.proofs.lemmas.List.Splits.{slice_split_at, slice_split_none, length-slice_split}
use Rattle.std.proofs.lemmas.List.Elements.{All-from_recursion}
use Rattle.std.specs.List.{join_with_byte, AllByRecursion}
use Rattle.spelling.specs.Parts.{parts, lines_of, closed}

test_false : {A : Type 0} (b : Bool) (x : A) → cond b (Some x) None ≡ None → b ≡ false
test_false true x e = absurd cc
test_false false x e = refl

one_more : (p : ℕ → Bool) (x : ℕ) (xs : List ℕ) (b : Bool) → suc (length xs) ≤ cond (not b) (1 + position_or_len p xs) 0
    → (length xs ≤ position_or_len p xs → slice_split p xs ≡ xs ∷ []) → cond b ([] ∷ slice_split p xs) (onto_first x (slice_split p xs)) ≡ (x ∷ xs) ∷ []
one_more p x xs true le rest = absurd (omega arith)
one_more p x xs false le rest = rw (rest (omega arith)) refl

parts_past : (p : ℕ → Bool) (xs : List ℕ) → length xs ≤ position_or_len p xs → slice_split p xs ≡ xs ∷ []
parts_past p [] le = refl
parts_past p (x ∷ xs) le = one_more p x xs (p x) le (λ h. parts_past p xs h)

pub parts_none : (p : ℕ → Bool) (xs : List ℕ) → position p xs ≡ None → slice_split p xs ≡ xs ∷ []
parts_none p xs e = parts_past p xs (ltb-false _ _ (test_false (ltb (position_or_len p xs) (length xs)) (position_or_len p xs) e))

pub parts_some : (p : ℕ → Bool) (xs : List ℕ) (i : ℕ) → position p xs ≡ Some i → (i < length xs) × (slice_split p xs ≡ take i xs ∷ slice_split p (drop (i + 1) xs))
parts_some p xs i e =
    let t = cond_some (ltb (position_or_len p xs) (length xs)) (position_or_len p xs) i e in
    let lt : position_or_len p xs < length xs = ltb-true _ _ t.0 in
    subst (λ (k : ℕ). (k < length xs) × (slice_split p xs ≡ take k xs ∷ slice_split p (drop (k + 1) xs))) t.1 (lt, slice_split_first p xs 0 lt)

pub to_end : (xs : List ℕ) (k : ℕ) → take (length xs - k) (drop k xs) ≡ drop k xs
to_end xs k = take_all (length xs - k) (drop k xs) (omega (arith, length-drop k xs))

-- ---- joined and cut again

-- the mark stands nowhere in the part
abbrev pub IsWhole : ℕ → List ℕ → Type 0
IsWhole mark part = AllByRecursion (λ b. eqb b mark ≡ false) part

pub parts-join : (mark : ℕ) (part : List ℕ) (others : List (List ℕ)) → AllByRecursion (IsWhole mark) (part ∷ others) → parts mark (join_with_byte mark (part ∷ others)) ≡ part ∷ others
parts-join mark part [] whole = slice_split_none (λ b. eqb b mark) part (All-from_recursion _ part whole.0)
parts-join mark part (next ∷ others) whole =
    let same : eqb mark mark ≡ true = (Decides-eqb mark mark).1 refl in
    slice_split_at (λ b. eqb b mark) part mark (join_with_byte mark (next ∷ others)) (All-from_recursion _ part whole.0) same
    ∙ ap (λ (ps : List (List ℕ)). part ∷ ps) (parts-join mark next others whole.1)

-- ---- lines

parts_some_part : (text : List ℕ) → 0 < length (parts 10 text)
parts_some_part text = omega (arith, length-slice_split (λ b. eqb b 10) text)

closed-more : (line : List ℕ) (lines : List (List ℕ)) → 0 < length lines → closed (line ∷ lines) ≡ line ∷ closed lines
closed-more line [] some = absurd (omega arith)
closed-more line (next ∷ lines) some = refl

closed-one : (line : List ℕ) → 0 < length line → closed (line ∷ []) ≡ line ∷ []
closed-one line some =
    let long : eqb (length line) 0 ≡ false = grind (arith, nat_tests) in
    rw long refl

-- the first line, with a line after it or without
pub first_of_more : (text line rest : List ℕ) → parts 10 text ≡ line ∷ parts 10 rest → lines_of text ≡ line ∷ lines_of rest
first_of_more text line rest e = ap closed e ∙ closed-more line (parts 10 rest) (parts_some_part rest)

pub first_of_one : (text line : List ℕ) → parts 10 text ≡ line ∷ [] → 0 < length text → line ≡ text → lines_of text ≡ line ∷ []
first_of_one text line e some same = ap closed e ∙ closed-one line (omega (arith, ap length same))
