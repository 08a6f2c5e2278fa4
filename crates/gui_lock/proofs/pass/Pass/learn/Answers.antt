use Rattle.std.proofs.Common.{ap, ◌∙◌}
use Rattle.gui_lock.proofs.PassesAfterCalls.{learns}
use Rattle.gui_lock.proofs.pass.Pass.learn.Goals as goal

pub invariant_of-self : goal.invariant_of-self
invariant_of-self g c =
    let h = c.hear.ensures in
    let l = c.larger-len.ensures in
    learns g.V.Kept.entries g.V.Kept.kind _ _ _ c.other.inside.len c.larger-len.result c.self.inside.seat.me _ c.self.inside.value c.other.inside.seat.me.0 c.self.invariant (ap (λ p. p.depth) c.self.view_is ∙ c.requires.free) h.both h.begins h.calls c.other.invariant.long l.above l.below

pub returns-clause-counted : goal.returns-clause-counted
returns-clause-counted g c =
    let h = c.hear.ensures in
    let l = c.larger-len.ensures in
    (learns g.V.Kept.entries g.V.Kept.kind _ _ _ c.other.inside.len c.larger-len.result c.self.inside.seat.me _ c.self.inside.value c.other.inside.seat.me.0 c.self.invariant (ap (λ p. p.depth) c.self.view_is ∙ c.requires.free) h.both h.begins h.calls c.other.invariant.long l.above l.below).counted
