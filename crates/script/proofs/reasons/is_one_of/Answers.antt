use Rattle.std.proofs.Common.{ℕ, List, eqb, rules, tests}
use Rattle.std.specs.Prelude.{bytes_eq}
use Rattle.std.proofs.lemmas.Iterator.Search.{any_from_yields_List}
use Rattle.std.proofs.lemmas.Iterator.Splits.{YieldsList-from_slice_split}
use Rattle.script.specs.Later.{is_one_of}
use Rattle.script.proofs.reasons.is_one_of.Goals as goal

pub returns : goal.returns
unfolding is_one_of
returns c =
    any_from_yields_List (λ (name : List ℕ). bytes_eq name c.args.word.now) _ _ _ c.any.ensures.ran
    (YieldsList-from_slice_split _ (λ (b : ℕ). eqb b 32) c.args.names.now c.split.ensures.rest c.split.ensures.done c.split.ensures.closure (λ x b q k. search (rules, tests)))
    (λ x b q k. search (rules, tests))
