-- The runs of a row as a frame text tells them: they are read as the row.
use Rattle.std.proofs.Common.{◌≡◌, ℕ, suc, ◌+◌, ◌-◌, ◌^◌, ◌<◌, ◌≤◌, true, false, ◌==◌, List, [], ◌∷◌, ◌++◌, length, map, replicate, Some, None, refl, sym, ap, ◌∙◌, inl, inr, arith, append_assoc, length-append, lit<}
use Rattle.std.specs.Prelude.{bytes_eq, codes, decimal}
use Rattle.std.specs.List.{AllByRecursion, flat_map, join_with_byte}
use Rattle.std.specs.Str.Parse.{AllDigits}
use Rattle.std.proofs.lemmas.Bool.{cases_Bool, cond_both, eqb-true, le-leb, false_from_ne_true}
use Rattle.std.proofs.lemmas.Bool.Decides.{nat_tests}
use Rattle.std.proofs.lemmas.Fmt.{decimal_is_IsNumeral}
use Rattle.std.proofs.lemmas.List.{length-replicate}
use Rattle.std.proofs.lemmas.List.Elements.{All-from_recursion}
use Rattle.std.proofs.lemmas.List.Splits.{slice_split_at, slice_split_none}
use Rattle.std.proofs.lemmas.Str.Parse.{digit_from_value}
use Rattle.spelling.specs.Digits.{hex_digit, hex_colour}
use Rattle.spelling.specs.Words.{words_of, text_of_words, colour_of}
use Rattle.spelling.proofs.CallerLemmas.{IsWhole, parts-join, named, natural_in_again, colour_again}
use Rattle.journal.specs.Texts.{add_point, runs, run_text}
use Rattle.svg.specs.declared.row.Run.{Run}
use Rattle.svg.specs.Reading.{run_of, points_of, runs_row}
use Rattle.svg.proofs.RowLemmas.{count_of_parts}

abbrev pub IsColour : ℕ → Type 0
IsColour c = c < 2 ^ 24

-- ---- runs

-- a colour, and how many points
record IsRun (run : ℕ × ℕ) : Type 0 where
  pub colour : IsColour run.0
  pub some : 1 ≤ run.1

abbrev run_points : ℕ × ℕ → List ℕ
run_points run = replicate run.1 run.0

abbrev all_points : List (ℕ × ℕ) → List ℕ
all_points rs = flat_map run_points rs

add_point-points : (c : ℕ) (rs : List (ℕ × ℕ)) → all_points (add_point c rs) ≡ c ∷ all_points rs
add_point-points c [] = refl
add_point-points c (run ∷ rest) =
    elim (cases_Bool (run.0 == c)) [
      | inl same ↦
          let more : run.1 + 1 ≡ suc run.1 = omega arith in
          rw (same, more) (ap (λ (d : ℕ). c ∷ (replicate run.1 d ++ all_points rest)) (sym (eqb-true run.0 c same)))
      | inr other ↦ rw other refl
    ]

runs-points : (row : List ℕ) → all_points (runs row) ≡ row
runs-points [] = refl
runs-points (c ∷ cs) = add_point-points c (runs cs) ∙ ap (λ (rest : List ℕ). c ∷ rest) (runs-points cs)

add_point-are : (c : ℕ) (rs : List (ℕ × ℕ)) → IsColour c → AllByRecursion IsRun rs → AllByRecursion IsRun (add_point c rs)
add_point-are c [] small each = (record { colour = small; some = omega arith }, tt)
add_point-are c (run ∷ rest) small each =
    cond_both (run.0 == c) ((c, run.1 + 1) ∷ rest) ((c, 1) ∷ run ∷ rest) (AllByRecursion IsRun)
    (λ same. (record { colour = small; some = omega arith }, each.1))
    (λ other. (record { colour = small; some = omega arith }, each))

runs-are : (row : List ℕ) → AllByRecursion IsColour row → AllByRecursion IsRun (runs row)
runs-are [] each = tt
runs-are (c ∷ cs) each = add_point-are c (runs cs) each.0 (runs-are cs each.1)

-- ---- the bytes of a run: none of them is a mark below the star

digit_no_mark : (mark d : ℕ) → mark < 42 → (hex_digit d == mark) ≡ false
digit_no_mark mark d low = grind (arith, nat_tests)

colour_whole : (mark c : ℕ) → mark < 42 → IsWhole mark (hex_colour c)
unfolding hex_colour
colour_whole mark c low = (digit_no_mark mark _ low, (digit_no_mark mark _ low, (digit_no_mark mark _ low, (digit_no_mark mark _ low, (digit_no_mark mark _ low, (digit_no_mark mark _ low, tt))))))

digits_whole : (mark : ℕ) (ds : List ℕ) → mark < 42 → AllDigits 10 ds → IsWhole mark ds
digits_whole mark [] low h = tt
digits_whole mark (c ∷ cs) low h =
    let r = digit_from_value c h.0 in
    (grind (arith, nat_tests), digits_whole mark cs low h.1)

pub decimal_whole : (mark n : ℕ) → mark < 42 → n < 2 ^ 32 → IsWhole mark (decimal n)
decimal_whole mark n low small = digits_whole mark (decimal n) low (decimal_is_IsNumeral n (omega arith)).0.1

pub whole-append : (mark : ℕ) (xs ys : List ℕ) → IsWhole mark xs → IsWhole mark ys → IsWhole mark (xs ++ ys)
whole-append mark [] ys one other = other
whole-append mark (x ∷ xs) ys one other = (one.0, whole-append mark xs ys one.1 other)

run_whole : (mark : ℕ) (run : ℕ × ℕ) → mark < 42 → run.1 ≤ 1024 → IsWhole mark (run_text run)
unfolding run_text
run_whole mark run low few =
    let colour = colour_whole mark run.0 low in
    let star : (42 == mark) ≡ false = grind (arith, nat_tests) in
    cond_both (run.1 == 1) (hex_colour run.0) (hex_colour run.0 ++ codes "*" ++ decimal run.1) (IsWhole mark)
    (λ one. colour)
    (λ more. whole-append mark (hex_colour run.0 ++ codes "*") (decimal run.1) (whole-append mark (hex_colour run.0) (codes "*") colour (star, tt)) (decimal_whole mark run.1 low (omega arith)))

-- ---- runs are read

abbrev run_with : ℕ → ℕ → Run
run_with colour count = record { colour = colour; count = count }

digit_no_star : (d : ℕ) → (hex_digit d == 42) ≡ false
digit_no_star d = grind (arith, nat_tests)

colour_no_star : (c : ℕ) → IsWhole 42 (hex_colour c)
unfolding hex_colour
colour_no_star c = (digit_no_star _, (digit_no_star _, (digit_no_star _, (digit_no_star _, (digit_no_star _, (digit_no_star _, tt))))))

one_again : (c : ℕ) → IsColour c → run_of (hex_colour c) ≡ Some (run_with c 1)
unfolding run_of
one_again c small = rw (slice_split_none (λ b. b == 42) (hex_colour c) (All-from_recursion _ (hex_colour c) (colour_no_star c)), colour_again c small) refl

more_again : (c n : ℕ) → IsColour c → 2 ≤ n → n ≤ 1024 → run_of (hex_colour c ++ 42 ∷ decimal n) ≡ Some (run_with c n)
unfolding run_of
more_again c n small above below =
    let cut = slice_split_at (λ b. b == 42) (hex_colour c) 42 (decimal n) (All-from_recursion _ (hex_colour c) (colour_no_star c)) refl in
    rw (cut, colour_again c small, count_of_parts (decimal n), natural_in_again 2 1024 n above below (lit< tt)) refl

run_again : (run : ℕ × ℕ) → IsRun run → run.1 ≤ 1024 → run_of (run_text run) ≡ Some (run_with run.0 run.1)
unfolding run_text
run_again run is few =
    let some : 1 ≤ run.1 = is.some in
    elim (cases_Bool (run.1 == 1)) [
      | inl single ↦
          rw single (one_again run.0 is.colour ∙ ap (λ (n : ℕ). Some (run_with run.0 n)) (sym (eqb-true run.1 1 single)))
      | inr other ↦
          let above : 2 ≤ run.1 = grind (arith, nat_tests) in
          rw other (ap run_of (append_assoc (hex_colour run.0) (codes "*") (decimal run.1)) ∙ more_again run.0 run.1 is.colour above few)
    ]

runs_again : (rs : List (ℕ × ℕ)) (room : ℕ) → AllByRecursion IsRun rs → length (all_points rs) ≡ room → room ≤ 1024 → points_of room (map run_text rs) ≡ Some (all_points rs)
runs_again [] room each count few =
    let none : (room == 0) ≡ true = grind (arith, nat_tests) in
    rw none refl
runs_again (run ∷ rs) room each count few =
    let one = length-replicate run.1 run.0 in
    let both = length-append (run_points run) (all_points rs) in
    let fits : run.1 ≤ room = omega arith in
    let more = runs_again rs (room - run.1) each.1 (omega arith) (omega arith) in
    rw (run_again run each.0 (omega arith), le-leb run.1 room fits, more) refl

-- ---- a row's line

-- the text of a row's runs
abbrev pub row_text : List ℕ → List ℕ
row_text row = text_of_words (map run_text (runs row))

texts_whole : (mark : ℕ) (rs : List (ℕ × ℕ)) → mark < 42 → length (all_points rs) ≤ 1024 → AllByRecursion (IsWhole mark) (map run_text rs)
texts_whole mark [] low few = tt
texts_whole mark (run ∷ rs) low few =
    let one = length-replicate run.1 run.0 in
    let both = length-append (run_points run) (all_points rs) in
    (run_whole mark run low (omega arith), texts_whole mark rs low (omega arith))

words_again : (rs : List (ℕ × ℕ)) → 1 ≤ length (all_points rs) → length (all_points rs) ≤ 1024 → words_of (text_of_words (map run_text rs)) ≡ map run_text rs
words_again [] some few = absurd (omega arith)
words_again (run ∷ rs) some few = parts-join 32 (run_text run) (map run_text rs) (texts_whole 32 (run ∷ rs) (lit< tt) few)

pub row_again : (width : ℕ) (row : List ℕ) → length row ≡ width → 1 ≤ width → width ≤ 1024 → AllByRecursion IsColour row → runs_row width (row_text row) ≡ Some row
unfolding runs_row
row_again width row count some few each =
    let points = runs-points row in
    let long : length (all_points (runs row)) ≡ width = ap length points ∙ count in
    ap (points_of width) (words_again (runs row) (omega arith) (omega arith)) ∙ runs_again (runs row) width (runs-are row each) long few ∙ ap (λ (ps : List ℕ). Some ps) points

-- a line `=` has no runs
no_runs : (width : ℕ) → runs_row width (codes "=") ≡ None
unfolding runs_row run_of colour_of
no_runs width = refl

pub not_above : (width : ℕ) (line row : List ℕ) → runs_row width line ≡ Some row → bytes_eq line (codes "=") ≡ false
not_above width line row is = false_from_ne_true (bytes_eq line (codes "=")) (λ same. let none = sym is ∙ ap (runs_row width) (named line (codes "=") same) ∙ no_runs width in absurd cc)

joined_whole : (mark : ℕ) (words : List (List ℕ)) → (32 == mark) ≡ false → AllByRecursion (IsWhole mark) words → IsWhole mark (join_with_byte 32 words)
joined_whole mark [] space each = tt
joined_whole mark (word ∷ []) space each = each.0
joined_whole mark (word ∷ next ∷ words) space each = whole-append mark word (32 ∷ join_with_byte 32 (next ∷ words)) each.0 (space, joined_whole mark (next ∷ words) space each.1)

pub row_text-whole : (row : List ℕ) → length row ≤ 1024 → IsWhole 10 (row_text row)
row_text-whole row few =
    let points = ap length (runs-points row) in
    joined_whole 10 (map run_text (runs row)) refl (texts_whole 10 (runs row) (lit< tt) (omega arith))
