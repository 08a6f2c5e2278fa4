use Rattle.std.proofs.Common.{◌≡◌, ap, ◌∙◌, get_or}
use Rattle.memdev.specs.Devices.{Table, frame_of}
use Rattle.memdev.specs.Slots.{live_in, IsPlaceOf}
use Rattle.memdev.proofs.SlotLemmas.{frame_of-place}
use Rattle.memdev.proofs.devices.Devices.get.Goals as goal

pub returns-clause-frame : goal.returns-clause-frame
returns-clause-frame c =
    let slots = c.self.inside.slots.items in
    let place : IsPlaceOf slots c.args.d c.in_ok-at.at = rw c.deref.ensures.0 at c.in_ok-at.ensures.found in
    let read : c.index-deref-at.result ≡ get_or slots c.in_ok-at.at c.index-deref-at.result = rw c.deref-2.ensures.0 at c.index-deref-at.is in
    let live : frame_of (live_in slots) c.args.d ≡ frame_of c.args.self.now.live c.args.d = ap (λ (t : Table). frame_of t.live c.args.d) c.self.view_is in
    c.frame_in.ensures
    ∙ frame_of-place slots c.self.inside.handles c.args.d c.in_ok-at.at c.index-deref-at.result c.self.invariant place read
    ∙ live
