use Rattle.std.proofs.Common.{◌≡◌, ℕ, eqb, true, false, Bool, length, List, Some, None, Option, refl, arith}
use Rattle.std.specs.Prelude.{is_some, not}
use Rattle.std.proofs.lemmas.List.Splits.{length-slice_split}
use Rattle.std.proofs.lemmas.Bool.Decides.{nat_tests}
use denote.Ref.{Bor}
use Rattle.spelling.specs.Words.{left}
use Rattle.spelling.proofs.words.is_done.Goals as goal

done : (rest : Option (Bor (List ℕ))) (b : Bool) → is_some rest ≡ not b → b ≡ eqb (length (left rest)) 0
done None true e = refl
done None false e = absurd cc
done (Some r) true e = absurd cc
done (Some r) false e = let l = length-slice_split (λ b. eqb b 32) r.now in grind (arith, nat_tests)

pub returns : goal.returns
returns c = done c.args.rest c.is_none.result c.is_none.ensures
