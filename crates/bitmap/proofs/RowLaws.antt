-- The laws of rows: what is read is spelled so, and what is spelled so is read.
use Rattle.std.proofs.Common.{◌≡◌, ℕ, ◌-◌, ◌≤◌, true, eqb, leb, List, [], ◌∷◌, ◌++◌, length, map, Option, Some, None, refl, sym, ap, ◌∙◌, inl, inr, arith, append_assoc}
use Rattle.std.specs.List.{AllByRecursion, flat_map}
use Rattle.std.proofs.lemmas.Bool.{eqb-true, leb-true, le-leb}
use Rattle.std.proofs.lemmas.Bool.Decides.{nat_tests}
use Rattle.std.proofs.lemmas.Option.{cond_some}
use Rattle.std.proofs.lemmas.List.{length-append, length-map, length-replicate}
use Rattle.std.proofs.lemmas.List.Splits.{length-slice_split}
use Rattle.spelling.specs.Words.{words_of, text_of_words}
use Rattle.spelling.proofs.CallerLemmas.{IsWhole, parts-join}
use Rattle.spelling.proofs.CallerLemmas.{bind_some, chosen, line_from_words}
use Rattle.std.proofs.lemmas.Option.{same_Some}
use Rattle.bitmap.specs.Texts.{Run, IsRun, text_of_run, points_of_run, SpellsRow, AreRows}
use Rattle.bitmap.specs.Reading.{run_of, onto, points_of, row_of}
use Rattle.bitmap.proofs.RunLaws.{run_takes, run_again, run_whole}

-- ---- runs

-- the words are runs of these points, which are so many
record HasRuns (room : ℕ) (words : List (List ℕ)) (points : List (Option ℕ)) : Type 0 where
  pub runs : List Run
  pub each : AllByRecursion IsRun runs
  pub spelled : words ≡ map text_of_run runs
  pub shown : points ≡ flat_map points_of_run runs
  pub count : length points ≡ room

onto_some : (first : List (Option ℕ)) (o : Option (List (Option ℕ))) (points : List (Option ℕ)) → onto first o ≡ Some points → (more : List (Option ℕ)) × (o ≡ Some more) × (first ++ more ≡ points)
onto_some first None points e = absurd cc
onto_some first (Some more) points e = (more, refl, same_Some (first ++ more) points e)

words_take : (words : List (List ℕ)) (room : ℕ) (points : List (Option ℕ)) → points_of room words ≡ Some points → HasRuns room words points
words_take [] room points e =
    let t = cond_some (eqb room 0) [] points e in
    let none : room ≡ 0 = eqb-true _ _ t.0 in
    record { runs = []; each = tt; spelled = refl; shown = sym t.1; count = sym (ap length t.1) ∙ sym none }
words_take (word ∷ words) room points e =
    let r = bind_some (run_of word) _ points e in
    let run : Run = r.0 in
    let t = run_takes word run r.1 in
    elim (chosen (leb run.count room) (onto (points_of_run run) (points_of (room - run.count) words)) None (Some points) r.2) [
      | inl fits ↦
          let o = onto_some (points_of_run run) (points_of (room - run.count) words) points fits.1 in
          let more = words_take words (room - run.count) o.0 o.1 in
          let count = more.count in
          let within : run.count ≤ room = leb-true _ _ fits.0 in
          let one = length-replicate run.count run.colour in
          let both = length-append (points_of_run run) o.0 in
          record {
            runs = run ∷ more.runs;
            each = (t.1, more.each);
            spelled = ap (λ (w : List ℕ). w ∷ words) t.0 ∙ ap (λ (ws : List (List ℕ)). text_of_run run ∷ ws) more.spelled;
            shown = sym o.2 ∙ ap (λ (ps : List (Option ℕ)). points_of_run run ++ ps) more.shown;
            count = sym (ap length o.2) ∙ omega arith;
          }
      | inr over ↦ absurd (cc over.1)
    ]

words_again : (runs : List Run) (room : ℕ) → AllByRecursion IsRun runs → length (flat_map points_of_run runs) ≡ room → points_of room (map text_of_run runs) ≡ Some (flat_map points_of_run runs)
words_again [] room each count =
    let test : eqb room 0 ≡ true = grind (arith, nat_tests) in
    rw test refl
words_again (run ∷ runs) room each count =
    let one = length-replicate run.count run.colour in
    let both = length-append (points_of_run run) (flat_map points_of_run runs) in
    let fits : run.count ≤ room = omega arith in
    let more = words_again runs (room - run.count) each.1 (omega arith) in
    rw (run_again run each.0, le-leb _ _ fits, more) refl

words_whole : (runs : List Run) → 1 ≤ length runs → AllByRecursion IsRun runs → words_of (text_of_words (map text_of_run runs)) ≡ map text_of_run runs
words_whole [] some each = absurd (omega arith)
words_whole (run ∷ runs) some each = parts-join 32 (text_of_run run) (map text_of_run runs) (all_whole (run ∷ runs) each)
  where
    all_whole : (runs : List Run) → AllByRecursion IsRun runs → AllByRecursion (IsWhole 32) (map text_of_run runs)
    all_whole [] each = tt
    all_whole (run ∷ runs) each = (run_whole run each.0, all_whole runs each.1)

-- ---- words one by one

onto-onto : (xs ys : List (Option ℕ)) (o : Option (List (Option ℕ))) → onto xs (onto ys o) ≡ onto (xs ++ ys) o
onto-onto xs ys None = refl
onto-onto xs ys (Some more) = ap (λ (ps : List (Option ℕ)). Some ps) (sym (append_assoc xs ys more))

pub word_fits : (room : ℕ) (word : List ℕ) (words : List (List ℕ)) (run : Run) → run_of word ≡ Some run → run.count ≤ room → points_of room (word ∷ words) ≡ onto (points_of_run run) (points_of (room - run.count) words)
word_fits room word words run is fits = rw (is, le-leb _ _ fits) refl

-- the points that were read before a word, and after it
pub word_on : (read : Option (List (Option ℕ))) (done : List (Option ℕ)) (room : ℕ) (word : List ℕ) (words : List (List ℕ)) (run : Run) → read ≡ onto done (points_of room (word ∷ words)) → run_of word ≡ Some run → run.count ≤ room
    → read ≡ onto (done ++ points_of_run run) (points_of (room - run.count) words)
word_on read done room word words run so is fits = so ∙ ap (onto done) (word_fits room word words run is fits) ∙ onto-onto done (points_of_run run) (points_of (room - run.count) words)

-- ---- rows

pub row_takes : (width : ℕ) (line : List ℕ) (row : List (Option ℕ)) → row_of width line ≡ Some row → SpellsRow line row × (length row ≡ width)
unfolding row_of
row_takes width line row e =
    let t = words_take (words_of line) width row e in
    let many = length-slice_split (λ b. eqb b 32) line in
    let same = ap length t.spelled in
    let count = length-map t.runs text_of_run in
    (record { runs = t.runs; some = omega arith; each = t.each; spelled = line_from_words line (map text_of_run t.runs) t.spelled; shown = t.shown }, t.count)

pub row_again : (width : ℕ) (line : List ℕ) (row : List (Option ℕ)) → SpellsRow line row → length row ≡ width → row_of width line ≡ Some row
unfolding row_of
row_again width line row is wide =
    ap (λ (l : List ℕ). points_of width (words_of l)) is.spelled ∙ ap (points_of width) (words_whole is.runs is.some is.each)
    ∙ words_again is.runs width is.each (sym (ap length is.shown) ∙ wide) ∙ ap (λ (r : List (Option ℕ)). Some r) (sym is.shown)

-- ---- several rows

pub as_many : (width : ℕ) (lines : List (List ℕ)) (rows : List (List (Option ℕ))) → AreRows width lines rows → length lines ≡ length rows
as_many width [] [] is = refl
as_many width [] (row ∷ rows) is = absurd is
as_many width (line ∷ lines) [] is = absurd is
as_many width (line ∷ lines) (row ∷ rows) is = let more = as_many width lines rows is.2 in omega arith

pub one_more : (width : ℕ) (lines : List (List ℕ)) (rows : List (List (Option ℕ))) (line : List ℕ) (row : List (Option ℕ)) → AreRows width lines rows → SpellsRow line row → length row ≡ width → AreRows width (lines ++ line ∷ []) (rows ++ row ∷ [])
one_more width [] [] line row is spelled wide = (spelled, wide, tt)
one_more width [] (other ∷ rows) line row is spelled wide = absurd is
one_more width (first ∷ lines) [] line row is spelled wide = absurd is
one_more width (first ∷ lines) (other ∷ rows) line row is spelled wide = (is.0, is.1, one_more width lines rows line row is.2 spelled wide)
