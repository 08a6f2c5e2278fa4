use Rattle.std.proofs.Common.{◌≡◌, false, true, nat_lt, length, refl, sym, arith}
use Rattle.std.proofs.lemmas.Bool.{lt-ltb, le-ltb}
use Rattle.std.proofs.lemmas.Grind.{common_steps}
use Rattle.gui_lock.proofs.CallerLemmas.{applied_added, applied_nothing}
use Rattle.lock_tests.proofs.counter.CounterKept.apply.Goals as goal

pub returns-then-len-ge-MOST-clause-outcome : goal.returns-then-len-ge-MOST-clause-outcome
returns-then-len-ge-MOST-clause-outcome c =
    let full : nat_lt (length c.args.self.now.entries.items) 100 ≡ false = le-ltb _ _ (grind (arith, common_steps)) in
    applied_nothing _ _ _ _ _ _ _ _ (λ e. absurd cc) (λ e. (sym full, sym full, refl))

pub returns-clause-outcome : goal.returns-clause-outcome
returns-clause-outcome c =
    let room : nat_lt (length c.args.self.now.entries.items) 100 ≡ true = lt-ltb _ _ (grind (arith, common_steps)) in
    applied_added _ _ _ _ _ _ _ _ _ _ c.push_reserved.ensures.items refl (sym room, sym room, refl)
