-- What a run more leaves.
use Rattle.std.proofs.Common.{◌≡◌, ℕ, zero, suc, ◌+◌, ◌-◌, Bool, true, false, cond, List, ◌∷◌, ◌++◌, length, take, replicate, Option, Result, Ok, Err, refl, ap, ◌∙◌, arith, append_assoc}
use Rattle.std.specs.Prelude.{is_ok, is_err}
use Rattle.std.proofs.lemmas.List.{take_all, map-append}
use Rattle.bitmap.specs.Reading.{point_from, points_from}

no_error : {T E : Type 0} (r : Result T E) → is_err r ≡ false → is_ok r ≡ true
no_error (Ok x) e = refl
no_error (Err x) e = absurd cc

points-replicate : (n value : ℕ) → points_from (replicate n value) ≡ replicate n (point_from value)
points-replicate zero value = refl
points-replicate (suc n) value = ap (λ (ps : List (Option ℕ)). point_from value ∷ ps) (points-replicate n value)

grown : (old new : List ℕ) (value len count many : ℕ) (ok : Bool) → new ≡ cond ok (take many old ++ replicate (many - len) value) old → ok ≡ true → len ≡ length old → many ≡ length old + count → new ≡ old ++ replicate count value
grown old new value len count many ok e is long more =
    let rest : many - len ≡ count = omega arith in
    e ∙ ap (λ (b : Bool). cond b (take many old ++ replicate (many - len) value) old) is ∙ ap (λ (xs : List ℕ). xs ++ replicate (many - len) value) (take_all many old (omega arith)) ∙ ap (λ (n : ℕ). old ++ replicate n value) rest

pub run_more : {T E : Type 0} (start old new : List ℕ) (done : List (Option ℕ)) (value len count many : ℕ) (r : Result T E) → new ≡ cond (is_ok r) (take many old ++ replicate (many - len) value) old → is_err r ≡ false → len ≡ length old → many ≡ length old + count
    → points_from old ≡ points_from start ++ done → points_from new ≡ points_from start ++ (done ++ replicate count (point_from value))
run_more start old new done value len count many r e fine long more so =
    ap points_from (grown old new value len count many (is_ok r) e (no_error r fine) long more) ∙ map-append point_from old (replicate count value) ∙ ap (λ (ps : List (Option ℕ)). ps ++ points_from (replicate count value)) so
    ∙ append_assoc (points_from start) done (points_from (replicate count value)) ∙ ap (λ (ps : List (Option ℕ)). points_from start ++ (done ++ ps)) (points-replicate count value)
