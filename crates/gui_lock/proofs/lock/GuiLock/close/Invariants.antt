use Rattle.std.proofs.Common.{◌≡◌, List, [], ◌++◌, vec_len}
use Rattle.gui_lock.specs.Passes.{Held}
use Rattle.gui_lock.specs.Seats.{Gathered}
use Rattle.gui_lock.proofs.lock.GuiLock.close.Given as goal

abbrev pub invariant-loop-pass : goal.invariant-loop-pass
invariant-loop-pass g l =
    (popped : List (Held g.row.V-Call.Denot g.row.V-Kind.Denot)) × (l.fn.passes.items ≡ l.passes.items ++ popped) × Gathered popped l.seat.me.0 × (l.seat.me.0.turns ≡ 0) × (l.seat.me.1 ≡ [])
    × (l.seat.table_id ≡ l.fn.self.table)

abbrev pub decreases-loop-pass : goal.decreases-loop-pass
decreases-loop-pass g l = vec_len l.passes
