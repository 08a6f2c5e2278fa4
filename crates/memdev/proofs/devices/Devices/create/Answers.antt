use Rattle.std.proofs.Common.{refl}
use Rattle.memdev.proofs.SlotLemmas.{AreKept-push, live_in-append}
use Rattle.memdev.proofs.devices.Devices.create.Goals as goal

pub invariant_of-self : goal.invariant_of-self
invariant_of-self c = rw c.push.ensures.items (AreKept-push c.self.inside.slots.items c.self.inside.handles _ c.self.invariant refl)

pub returns-clause-created : goal.returns-clause-created
returns-clause-created c = rw (c.push.ensures.items, ← c.self.view_is, live_in-append c.self.inside.slots.items _, c.in-Ok.ensures) refl
