use Rattle.std.proofs.Common.{◌≡◌, Bool, false, true, cond, nat_lt, length, refl, sym, ap, arith}
use Rattle.std.proofs.lemmas.Bool.{lt-ltb, le-ltb, le-leb}
use Rattle.std.proofs.lemmas.Grind.{common_steps}
use Rattle.gui_lock.proofs.CallerLemmas.{applied_added, applied_nothing}
use Rattle.lock_tests.specs.declared.pairs.Answer.TheVariants.{Added, Full}
use Rattle.lock_tests.proofs.pairs.PairsKept.apply.Goals as goal

pub returns-then-call-ge-WANTING-clause-outcome : goal.returns-then-call-ge-WANTING-clause-outcome
returns-then-call-ge-WANTING-clause-outcome c = applied_nothing _ _ _ _ _ _ _ _ (λ e. le-leb _ _ (grind (arith, common_steps))) (λ e. absurd cc)

pub returns-then-len-ge-MOST-clause-outcome : goal.returns-then-len-ge-MOST-clause-outcome
returns-then-len-ge-MOST-clause-outcome c =
    let full : nat_lt (length c.args.self.now.entries.items) 4096 ≡ false = le-ltb _ _ (grind (arith, common_steps)) in
    applied_nothing _ _ _ _ _ _ _ _ (λ e. absurd cc) (λ e. (sym full, ap (λ (b : Bool). cond b Added Full) (sym full), refl))

pub returns-clause-outcome : goal.returns-clause-outcome
returns-clause-outcome c =
    let room : nat_lt (length c.args.self.now.entries.items) 4096 ≡ true = lt-ltb _ _ (grind (arith, common_steps)) in
    applied_added _ _ _ _ _ _ _ _ _ _ c.push_reserved.ensures.items refl (sym room, ap (λ (b : Bool). cond b Added Full) (sym room), refl)
