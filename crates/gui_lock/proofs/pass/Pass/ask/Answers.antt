use Rattle.std.proofs.Common.{ap, ◌∙◌, sym, subst, ◌<◌}
use Rattle.gui_lock.proofs.PassesAfterCalls.{asks}
use Rattle.gui_lock.proofs.pass.Pass.ask.Goals as goal

pub returns : goal.returns
returns g c = rw (← c.self.view_is) (asks g.V.Kept.entries g.V.Kept.kind (λ k. g.V.Kept.answers k c.args.ask) _ _ _ _ _ c.self.inside.seat.me _ c.self.inside.value _ c.self.inside.len _ _ c.self.invariant (subst (λ p. 0 < p.depth) (sym c.self.view_is) c.requires.deep) (ap (λ p. p.terms) c.self.view_is ∙ c.requires.made.1) c.ask_out-answer.ensures.table c.ask_out-answer.ensures.asked)
