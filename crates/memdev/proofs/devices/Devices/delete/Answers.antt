use Rattle.std.proofs.Common.{◌≡◌, ap, ◌∙◌, refl}
use Rattle.memdev.specs.Devices.{Table, frame_of}
use Rattle.memdev.specs.Slots.{live_in, IsPlaceOf}
use Rattle.memdev.proofs.SlotLemmas.{AreKept-remove, live_in-without, is_live}
use Rattle.memdev.proofs.devices.Devices.delete.Goals as goal

pub invariant_of-self : goal.invariant_of-self
invariant_of-self c =
    let place : IsPlaceOf c.self.inside.slots.items c.args.d c.in-Some.at = rw c.deref.ensures.0 at c.in-Some.ensures.found in
    rw c.remove.ensures.items (AreKept-remove c.self.inside.slots.items c.self.inside.handles c.args.d c.in-Some.at c.self.invariant place)

pub returns-clause-refused : goal.returns-clause-refused
returns-clause-refused c =
    let place : IsPlaceOf c.self.inside.slots.items c.args.d c.in-Some.at = rw c.deref.ensures.0 at c.in-Some.ensures.found in
    let live : frame_of (live_in c.self.inside.slots.items) c.args.d ≡ frame_of c.args.self.now.live c.args.d = ap (λ (t : Table). frame_of t.live c.args.d) c.self.view_is in
    (λ same. absurd (let bad = same in cc), λ none. absurd (is_live c.self.inside.slots.items c.self.inside.handles c.args.d c.in-Some.at c.self.invariant place (live ∙ none)))

pub returns-clause-deleted : goal.returns-clause-deleted
returns-clause-deleted c =
    let place : IsPlaceOf c.self.inside.slots.items c.args.d c.in-Some.at = rw c.deref.ensures.0 at c.in-Some.ensures.found in
    rw (c.remove.ensures.items, ← c.self.view_is, live_in-without c.self.inside.slots.items c.self.inside.handles c.args.d c.in-Some.at c.self.invariant place) refl
