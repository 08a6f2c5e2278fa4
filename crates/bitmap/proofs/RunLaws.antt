-- The laws of a row's words: what is read is spelled so, and what is spelled so is read.
use Rattle.std.proofs.Common.{◌≡◌, ℕ, ◌^◌, ◌<◌, ◌≤◌, Bool, true, false, cond, eqb, List, [], ◌∷◌, ◌++◌, length, Option, Some, None, refl, sym, ap, subst, ◌∙◌, inl, inr, arith, lit<}
use Rattle.std.specs.Prelude.{bytes_eq, codes, IfSome}
use Rattle.std.specs.List.{join_with_byte}
use Rattle.std.specs.Fmt.{decimal}
use Rattle.std.proofs.lemmas.Bool.{cases_eq}
use Rattle.std.proofs.lemmas.Bool.Decides.{nat_tests}
use Rattle.std.proofs.lemmas.List.Elements.{All-from_recursion}
use Rattle.std.proofs.lemmas.List.Splits.{join_with_byte-slice_split, length-slice_split, slice_split_at, slice_split_none}
use Rattle.spelling.specs.Digits.{hex_digit, hex_colour}
use Rattle.spelling.specs.Parts.{parts}
use Rattle.spelling.specs.Words.{◌>>=◌, natural_in, colour_of}
use Rattle.spelling.proofs.CallerLemmas.{IsWhole}
use Rattle.spelling.proofs.CallerLemmas.{bind_some, chosen, named, natural_in_takes, natural_in_again, colour_takes, colour_again, colour_no_dash, colour_whole, natural_whole}
use Rattle.std.proofs.lemmas.Option.{same_Some}
use Rattle.bitmap.specs.Texts.{Run, IsRun, text_of_point, text_of_run}
use Rattle.bitmap.specs.Reading.{point_of, count_of, run_of_parts, run_of}

-- ---- points

abbrev IsColour : Option ℕ → Type 0
IsColour point = IfSome point (λ c. c < 2 ^ 24)

pub point_takes : (word : List ℕ) (p : Option ℕ) → point_of word ≡ Some p → (word ≡ text_of_point p) × IfSome p (λ c. c < 2 ^ 24)
unfolding point_of
point_takes word p e =
    elim (chosen (bytes_eq word (codes "-")) (Some None) (colour_of word >>= λ c. Some (Some c)) (Some p) e) [
      | inl dash ↦ subst (λ (q : Option ℕ). (word ≡ text_of_point q) × IsColour q) (same_Some None p dash.1) (named word (codes "-") dash.0, tt)
      | inr other ↦
          let b = bind_some (colour_of word) (λ c. Some (Some c)) p other.1 in
          subst (λ (q : Option ℕ). (word ≡ text_of_point q) × IsColour q) (same_Some (Some b.0) p b.2) (colour_takes word b.0 b.1)
    ]

pub point_again : (p : Option ℕ) → IfSome p (λ c. c < 2 ^ 24) → point_of (text_of_point p) ≡ Some p
unfolding point_of
point_again None small = refl
point_again (Some c) small = rw (colour_no_dash c, colour_again c small) refl

digit_no_star : (d : ℕ) → eqb (hex_digit d) 42 ≡ false
digit_no_star d = grind (arith, nat_tests)

point_no_star : (p : Option ℕ) → IsWhole 42 (text_of_point p)
unfolding hex_colour
point_no_star None = (refl, tt)
point_no_star (Some c) = (digit_no_star _, (digit_no_star _, (digit_no_star _, (digit_no_star _, (digit_no_star _, (digit_no_star _, tt))))))

-- ---- runs

counts : (ps : List (List ℕ)) (word : List ℕ) → join_with_byte 42 ps ≡ word → 0 < length ps → count_of ps ≡ natural_in 2 256 word
counts [] word is some = absurd (omega arith)
counts (part ∷ more) word is some = ap (natural_in 2 256) is

pub count_of_parts : (word : List ℕ) → count_of (parts 42 word) ≡ natural_in 2 256 word
count_of_parts word = counts (parts 42 word) word (join_with_byte-slice_split 42 word) (omega (arith, length-slice_split (λ b. eqb b 42) word))

abbrev run_with : Option ℕ → ℕ → Run
run_with colour count = record { colour = colour; count = count }

count_takes : (text : List ℕ) (p : Option ℕ) (times : List (List ℕ)) (n : ℕ) → text ≡ text_of_point p → count_of times ≡ Some n → (join_with_byte 42 (text ∷ times) ≡ text_of_run (run_with p n)) × (1 ≤ n) × (n ≤ 256)
count_takes text p [] n is e = subst (λ (m : ℕ). (text ≡ text_of_run (run_with p m)) × (1 ≤ m) × (m ≤ 256)) (same_Some 1 n e) (is, omega arith, omega arith)
count_takes text p (part ∷ more) n is e =
    let rest : List ℕ = join_with_byte 42 (part ∷ more) in
    let t = natural_in_takes 2 256 rest n e in
    let low : 2 ≤ n = t.1 in
    let test : eqb n 1 ≡ false = grind (arith, nat_tests) in
    (rw test (ap (λ (w : List ℕ). w ++ 42 ∷ rest) is ∙ ap (λ (w : List ℕ). text_of_point p ++ 42 ∷ w) t.0), omega arith, t.2)

parts_take : (ps : List (List ℕ)) (run : Run) → run_of_parts ps ≡ Some run → (join_with_byte 42 ps ≡ text_of_run run) × IsRun run
parts_take [] run e = absurd cc
parts_take (text ∷ times) run e =
    let p = bind_some (point_of text) _ run e in
    let n = bind_some (count_of times) _ run p.2 in
    let point = point_takes text p.0 p.1 in
    let count = count_takes text p.0 times n.0 point.0 n.1 in
    subst (λ (r : Run). (join_with_byte 42 (text ∷ times) ≡ text_of_run r) × IsRun r) (same_Some (run_with p.0 n.0) run n.2) (count.0, record { colour = point.1; some = count.1; few = count.2 })

pub run_takes : (word : List ℕ) (run : Run) → run_of word ≡ Some run → (word ≡ text_of_run run) × IsRun run
unfolding run_of
run_takes word run e =
    let t = parts_take (parts 42 word) run e in
    (sym (join_with_byte-slice_split 42 word) ∙ t.0, t.1)

one_again : (p : Option ℕ) → IsColour p → run_of (text_of_point p) ≡ Some (run_with p 1)
unfolding run_of
one_again p small = rw (slice_split_none (λ b. eqb b 42) (text_of_point p) (All-from_recursion _ (text_of_point p) (point_no_star p)), point_again p small) refl

more_again : (p : Option ℕ) (n : ℕ) → IsColour p → 2 ≤ n → n ≤ 256 → run_of (text_of_point p ++ 42 ∷ decimal n) ≡ Some (run_with p n)
unfolding run_of
more_again p n small above below =
    let cut = slice_split_at (λ b. eqb b 42) (text_of_point p) 42 (decimal n) (All-from_recursion _ (text_of_point p) (point_no_star p)) refl in
    rw (cut, point_again p small, count_of_parts (decimal n), natural_in_again 2 256 n above below (lit< tt)) refl

pub run_again : (run : Run) → IsRun run → run_of (text_of_run run) ≡ Some run
run_again run is =
    let some = is.some in
    elim (cases_eq run.count 1) [
      | inl single ↦
          let test : eqb run.count 1 ≡ true = grind (arith, nat_tests) in
          rw test (one_again run.colour is.colour ∙ ap (λ (n : ℕ). Some (run_with run.colour n)) (sym single))
      | inr other ↦
          let above : 2 ≤ run.count = omega arith in
          let test : eqb run.count 1 ≡ false = grind (arith, nat_tests) in
          rw test (more_again run.colour run.count is.colour above is.few)
    ]

-- ---- no space stands in a run

whole-append : (xs ys : List ℕ) → IsWhole 32 xs → IsWhole 32 ys → IsWhole 32 (xs ++ ys)
whole-append [] ys one other = other
whole-append (x ∷ xs) ys one other = (one.0, whole-append xs ys one.1 other)

whole_either : (b : Bool) (xs ys : List ℕ) → IsWhole 32 xs → IsWhole 32 ys → IsWhole 32 (cond b xs ys)
whole_either true xs ys one other = one
whole_either false xs ys one other = other

point_whole : (p : Option ℕ) → IsWhole 32 (text_of_point p)
point_whole None = (refl, tt)
point_whole (Some c) = colour_whole c

pub run_whole : (run : Run) → IsRun run → IsWhole 32 (text_of_run run)
run_whole run is =
    let few = is.few in
    let point = point_whole run.colour in
    whole_either (eqb run.count 1) (text_of_point run.colour) (text_of_point run.colour ++ 42 ∷ decimal run.count) point (whole-append (text_of_point run.colour) (42 ∷ decimal run.count) point (refl, natural_whole run.count (omega arith)))
