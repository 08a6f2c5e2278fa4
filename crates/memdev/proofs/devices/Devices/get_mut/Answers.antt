use Rattle.std.proofs.Common.{◌≡◌, ap, sym, ◌∙◌, inl, rules}
use Rattle.frame.specs.Canvases.{Canvas}
use Rattle.memdev.specs.Devices.{Table, frame_of}
use Rattle.memdev.specs.Slots.{live_in, IsPlaceOf}
use Rattle.memdev.proofs.SlotLemmas.{AreKept-drawn, live_in-drawn, frame_of-place}
use Rattle.memdev.proofs.devices.Devices.get_mut.Goals as goal

pub invariant_of-self-lent : goal.invariant_of-self-lent
invariant_of-self-lent c =
    let slots = c.self.inside.slots.items in
    let place : IsPlaceOf slots c.args.d c.in_ok-at.at = rw c.deref.ensures.0 at c.in_ok-at.ensures.found in
    λ frame. AreKept-drawn slots c.self.inside.handles c.args.d c.in_ok-at.at c.in-Some.slot.now frame c.self.invariant place c.in-Some.ensures.value

pub returns : goal.returns
returns c =
    let slots = c.self.inside.slots.items in
    let handles = c.self.inside.handles in
    let place : IsPlaceOf slots c.args.d c.in_ok-at.at = rw c.deref.ensures.0 at c.in_ok-at.ensures.found in
    let live : frame_of (live_in slots) c.args.d ≡ frame_of c.args.self.now.live c.args.d = ap (λ (t : Table). frame_of t.live c.args.d) c.self.view_is in
    let drawn = λ (frame : Canvas). live_in-drawn slots handles c.args.d c.in_ok-at.at c.in-Some.slot.now frame c.self.invariant place c.in-Some.ensures.value in (
      rw (← c.self.view_is) (λ i. inl (c.frame_in_mut.result.ghost_name, λ (frame : Canvas). record { handles = handles; live = drawn frame i })),
      record {
        written = tt;
        frame = sym c.frame_in_mut.ensures.value
            ∙ frame_of-place slots handles c.args.d c.in_ok-at.at c.in-Some.slot.now c.self.invariant place c.in-Some.ensures.value
            ∙ live;
        given = search rules;
      },
    )
