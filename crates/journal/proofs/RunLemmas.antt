-- The runs of a row, one after the other.
use Rattle.std.proofs.Common.{◌≡◌, ℕ, ◌+◌, ◌*◌, ◌<◌, ◌≤◌, zero, suc, false, ◌==◌, if◌then◌else◌, List, [], ◌∷◌, ◌++◌, length, map, drop, decimal, refl, sym, ap, ◌∙◌, inl, inr, append_assoc, length-append, length-drop, arith}
use Rattle.std.specs.List.{join_with_byte, prefix_len}
use Rattle.std.proofs.lemmas.Bool.{cases_Bool}
use Rattle.std.proofs.lemmas.Bool.Decides.{Decides-eqb, nat_tests}
use Rattle.std.proofs.lemmas.Fmt.{length-decimal-le}
use Rattle.std.proofs.lemmas.List.{append-nil}
use Rattle.std.proofs.lemmas.List.Sums.{prefix_len-le-length}
use Rattle.spelling.specs.Digits.{hex_colour}
use Rattle.journal.specs.Texts.{runs, run_text, points_line}

-- the text of what is left of a row: nothing is written after the last point
abbrev pub rest_line : List ℕ → List ℕ
rest_line [] = []
rest_line (c ∷ cs) = points_line (c ∷ cs)

-- the byte after a run: a line feed after the last
abbrev pub end_byte : List ℕ → ℕ
end_byte rest = if length rest == 0 then 10 else 32

-- how many points from the left have that colour
abbrev pub same_len : ℕ → List ℕ → ℕ
same_len c cs = prefix_len (λ point. point == c) cs

-- the first run, and the runs of the points after it
runs-cons : (c : ℕ) (cs : List ℕ) → runs (c ∷ cs) ≡ (c, same_len c cs + 1) ∷ runs (drop (same_len c cs) cs)
runs-cons c [] = refl
runs-cons c (d ∷ ds) =
    elim (cases_Bool (d == c)) [
      | inl same ↦
          let e : d ≡ c = (Decides-eqb d c).0 same in
          let one : (n : ℕ) → 1 + n ≡ suc n = λ n. omega arith in
          let more : (n : ℕ) → n + 1 + 1 ≡ suc n + 1 = λ n. omega arith in
          rw (same, one, runs-cons d ds, same, e) (ap (λ n. (c, n) ∷ runs (drop (same_len c ds) ds)) (more (same_len c ds)))
      | inr other ↦ rw (other, runs-cons d ds, other) refl
    ]

-- a run's text and the byte after it, and the text of the points after them
line_after : (text rest : List ℕ) → join_with_byte 32 (text ∷ map run_text (runs rest)) ++ 10 ∷ [] ≡ (text ++ end_byte rest ∷ []) ++ rest_line rest
unfolding points_line
line_after text [] = sym (append-nil (text ++ 10 ∷ []))
line_after text (d ∷ ds) =
    let more : length (d ∷ ds) == 0 ≡ false = grind (arith, nat_tests) in
    rw (runs-cons d ds, more) (simp append_assoc)

points_line-cons : (c : ℕ) (cs : List ℕ) → points_line (c ∷ cs) ≡ (run_text (c, same_len c cs + 1) ++ end_byte (drop (same_len c cs) cs) ∷ []) ++ rest_line (drop (same_len c cs) cs)
unfolding points_line
points_line-cons c cs = rw (runs-cons c cs) (line_after (run_text (c, same_len c cs + 1)) (drop (same_len c cs) cs))

-- one run more was written
pub line_more : (old pushed new all : List ℕ) (c : ℕ) (cs rest : List ℕ) (n end : ℕ)
    → old ++ rest_line (c ∷ cs) ≡ all → n ≡ same_len c cs → rest ≡ drop n cs → pushed ≡ old ++ run_text (c, n + 1) → end ≡ end_byte rest → new ≡ pushed ++ end ∷ [] → new ++ rest_line rest ≡ all
line_more old pushed new all c cs rest n end before count_is rest_is pushed_is end_is new_is =
    let whole = ap (λ text. old ++ text) (points_line-cons c cs) in
    rw (new_is, pushed_is, end_is, rest_is, count_is) (simp append_assoc (sym (simp append_assoc at whole) ∙ before))

-- a run has fewer than 7 bytes a point
pub decimal_short : (n : ℕ) → n ≤ 1024 → length (decimal n) ≤ 4
decimal_short n few = length-decimal-le 4 n (omega arith) (omega arith) (omega arith)

length-run_text : (c n : ℕ) → 1 ≤ n → n ≤ 1024 → length (run_text (c, n)) + 1 ≤ 7 * n
unfolding hex_colour run_text
length-run_text c n some few =
    let short = decimal_short n few in
    elim (cases_Bool (n == 1)) [
      | inl one ↦ rw one (omega arith)
      | inr more ↦
          let two : 1 < n = grind (arith, nat_tests) in
          rw more (omega arith)
    ]

-- a row's line has at most 7 bytes a point
length-rest_line : (most : ℕ) (row : List ℕ) → length row ≤ most → length row ≤ 1024 → length (rest_line row) ≤ 7 * length row
length-rest_line most [] within few = omega arith
length-rest_line zero (c ∷ cs) within few = absurd (omega arith)
length-rest_line (suc most) (c ∷ cs) within few =
    let n = same_len c cs in
    let rest = drop n cs in
    let fits = prefix_len-le-length (λ point. point == c) cs in
    let count = length-drop n cs in
    let run = length-run_text c (n + 1) (omega arith) (omega arith) in
    let after = length-rest_line most rest (omega arith) (omega arith) in
    rw (points_line-cons c cs) (simp length-append (omega arith))

pub row_fits : (row : List ℕ) → 1 ≤ length row → length row ≤ 1024 → length (points_line row) ≤ 7 * length row
row_fits [] some few = absurd (omega arith)
row_fits (c ∷ cs) some few = length-rest_line (length (c ∷ cs)) (c ∷ cs) (omega arith) few
