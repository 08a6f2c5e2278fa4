-- The words of a row one by one.
use Rattle.std.proofs.Common.{◌≡◌, ℕ, ◌+◌, ◌-◌, ◌<◌, ◌≤◌, Bool, true, false, cond, ◌==◌, List, [], ◌∷◌, ◌++◌, length, take, replicate, Option, Some, None, Result, Ok, Err, refl, sym, ap, ◌∙◌, arith, append_assoc}
use Rattle.std.specs.Prelude.{is_ok, is_err}
use Rattle.std.proofs.lemmas.Bool.{le-leb}
use Rattle.std.specs.List.{join_with_byte}
use Rattle.std.proofs.lemmas.List.{take_all}
use Rattle.std.proofs.lemmas.List.Splits.{join_with_byte-slice_split, length-slice_split}
use Rattle.spelling.specs.Parts.{parts}
use Rattle.spelling.specs.Words.{natural_in}
use Rattle.svg.specs.declared.row.Run.{Run}
use Rattle.svg.specs.Reading.{count_of, run_of, onto, points_of}

counts : (ps : List (List ℕ)) (word : List ℕ) → join_with_byte 42 ps ≡ word → 0 < length ps → count_of ps ≡ natural_in 2 1024 word
counts [] word is some = absurd (omega arith)
counts (part ∷ more) word is some = ap (natural_in 2 1024) is

pub count_of_parts : (word : List ℕ) → count_of (parts 42 word) ≡ natural_in 2 1024 word
count_of_parts word = counts (parts 42 word) word (join_with_byte-slice_split 42 word) (omega (arith, length-slice_split (λ b. b == 42) word))

no_error : {T E : Type 0} (r : Result T E) → is_err r ≡ false → is_ok r ≡ true
no_error (Ok x) e = refl
no_error (Err x) e = absurd cc

grown : (old new : List ℕ) (colour len count many : ℕ) (ok : Bool) → new ≡ cond ok (take many old ++ replicate (many - len) colour) old → ok ≡ true → len ≡ length old → many ≡ length old + count → new ≡ old ++ replicate count colour
grown old new colour len count many ok e is long more =
    let rest : many - len ≡ count = omega arith in
    e ∙ ap (λ (b : Bool). cond b (take many old ++ replicate (many - len) colour) old) is ∙ ap (λ (xs : List ℕ). xs ++ replicate (many - len) colour) (take_all many old (omega arith)) ∙ ap (λ (n : ℕ). old ++ replicate n colour) rest

-- the points of a run more were added
pub run_more : {T E : Type 0} (first old new done : List ℕ) (colour len count many : ℕ) (r : Result T E) → new ≡ cond (is_ok r) (take many old ++ replicate (many - len) colour) old → is_err r ≡ false → len ≡ length old → many ≡ length old + count
    → old ≡ first ++ done → new ≡ first ++ (done ++ replicate count colour)
run_more first old new done colour len count many r e fine long more so =
    grown old new colour len count many (is_ok r) e (no_error r fine) long more ∙ ap (λ (ps : List ℕ). ps ++ replicate count colour) so ∙ append_assoc first done (replicate count colour)

onto-onto : (xs ys : List ℕ) (o : Option (List ℕ)) → onto xs (onto ys o) ≡ onto (xs ++ ys) o
onto-onto xs ys None = refl
onto-onto xs ys (Some more) = ap (λ (ps : List ℕ). Some ps) (sym (append_assoc xs ys more))

word_fits : (room : ℕ) (word : List ℕ) (words : List (List ℕ)) (run : Run) → run_of word ≡ Some run → run.count ≤ room → points_of room (word ∷ words) ≡ onto (replicate run.count run.colour) (points_of (room - run.count) words)
word_fits room word words run is fits = rw (is, le-leb _ _ fits) refl

-- the points that were read before a word, and after it
pub word_on : (read : Option (List ℕ)) (done : List ℕ) (room : ℕ) (word : List ℕ) (words : List (List ℕ)) (run : Run) → read ≡ onto done (points_of room (word ∷ words)) → run_of word ≡ Some run → run.count ≤ room
    → read ≡ onto (done ++ replicate run.count run.colour) (points_of (room - run.count) words)
word_on read done room word words run so is fits = so ∙ ap (onto done) (word_fits room word words run is fits) ∙ onto-onto done (replicate run.count run.colour) (points_of (room - run.count) words)
