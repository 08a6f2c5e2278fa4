use Rattle.std.proofs.Common.{◌≡◌, ◌≤◌, ℕ, ◌+◌, [], vec_capacity}
use Rattle.gui_lock.specs.Rule.{dealing}
use Rattle.gui_lock.specs.Passes.{terms_of, new_passes}
use Rattle.gui_lock.proofs.open.deal.Given as goal

abbrev pub invariant-loop-number : goal.invariant-loop-number
invariant-loop-number g l =
    (n : ℕ) × (m : ℕ) × (n + l.number ≡ l.passes + 1) × (m + 1 ≡ l.number) × (l.seat.table_id ≡ l.fn.lock.table) × (l.seat.me ≡ (dealing (terms_of l.fn.lock) l.number n, []))
    × (l.all.items ≡ new_passes l.fn.lock 1 m) × (l.passes ≤ vec_capacity l.all)
