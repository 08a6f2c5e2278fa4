use Rattle.std.proofs.Common.{ap, ◌∙◌, arith}
use Rattle.gui_lock.proofs.PassesAfterCalls.{acts}
use Rattle.gui_lock.proofs.pass.Pass.apply.Goals as goal

pub returns-clause-acts : goal.returns-clause-acts
returns-clause-acts g c = rw (← c.self.view_is) (acts g.V.Kept.entries g.V.Kept.kind (λ k. g.V.Kept.gives k c.self.inside.number c.args.call.now c.args.room.now) _ _ _ _ _ _ _ _ c.self.inside.seat.me _ c.self.inside.value _ c.self.inside.len _ _ _ _ _ c.self.invariant (omega arith) (ap (λ p. p.terms) c.self.view_is ∙ c.requires.made.1) c.apply_out-reply.ensures.table c.apply_out-reply.ensures.applied)
