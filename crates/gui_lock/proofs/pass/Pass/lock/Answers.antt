use Rattle.gui_lock.proofs.PassesAfterCalls.{acts_for, locks_first, locks_again}
use Rattle.gui_lock.proofs.pass.Pass.lock.Goals as goal
use Rattle.gui_lock.proofs.pass.Pass.lock.Goals.{then-self-eq0+in-None, else-self-eq0}

pub acquire-value-requires-clause-named : goal.acquire-value-requires-clause-named
acquire-value-requires-clause-named g c = (c.self.inside.number, acts_for c.self.inside.number _ c.self.inside.seat.me.0.mine c.self.invariant.mine)

pub returns-clause-sees : goal.returns-clause-sees
returns-clause-sees g c = rw (← c.self.view_is) (elim c.if-self-eq0.branch [
  | then-self-eq0+in-None w ↦ rw w.self-inside-is (
      locks_first g.V.Kept.entries g.V.Kept.kind c.self.inside.seat.table_id _ _ _ _ c.self.inside.seat.me _ c.self.inside.value c.self.inside.len w.acquire-value.result _ c.self.invariant w.if-self-eq0.true w.acquire-value.ensures.table w.acquire-value.ensures.taken w.acquire-value.ensures.seen w.acquire-value.ensures.calls w.acquire-value.ensures.within
      )
  | else-self-eq0 w ↦ rw w.self-inside-is (locks_again g.V.Kept.entries g.V.Kept.kind _ _ _ _ _ c.self.inside.seat.me c.self.inside.value c.self.inside.len c.self.invariant)
])
