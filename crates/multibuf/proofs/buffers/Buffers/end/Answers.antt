use Rattle.std.proofs.Common.{◌≡◌, Some, ap, ◌∙◌}
use Rattle.multibuf.specs.Buffering.{Buffering}
use Rattle.multibuf.specs.Held.{held_back_index}
use Rattle.multibuf.specs.Frames.{frame_at}
use Rattle.multibuf.proofs.KeptFrames.{ask_keeps, confirm_ask_keeps}
use Rattle.multibuf.proofs.FitLemmas.{asked_fits, confirmed_fits}
use Rattle.multibuf.proofs.buffers.Buffers.end.Goals as goal
use Rattle.multibuf.proofs.buffers.Buffers.end.Goals.{then-is_some, else-is_some}

pub invariant_of-self-2 : goal.invariant_of-self-2
invariant_of-self-2 c =
    let posted = c.post-posted.ensures in
    let back : held_back_index c.self.inside.held ≡ Some c.in-Some.back = cc in
    elim c.if-is_some.branch [
      | then-is_some w ↦ rw (c.ask.ensures, w.self-inside-is, w.confirm-confirmed.ensures.held) (confirmed_fits _ _ _ _ _ _ _ _ c.self.invariant back (cc) posted.drawer posted.consistent)
      | else-is_some w ↦ rw (c.ask.ensures, w.self-inside-is) (asked_fits _ _ _ _ _ _ _ _ c.self.invariant back (cc) posted.drawer posted.consistent)
    ]

pub returns-clause-frames : goal.returns-clause-frames
returns-clause-frames c = λ k.
    let back = ap (λ (b : Buffering). frame_at b k) c.self.view_is in
    elim c.if-is_some.branch [
      | then-is_some w ↦ rw (c.ask.ensures, w.self-inside-is, w.confirm-confirmed.ensures.held) (confirm_ask_keeps _ _ _ _ _ c.self.invariant k ∙ back)
      | else-is_some w ↦ rw (c.ask.ensures, w.self-inside-is) (ask_keeps _ _ _ _ _ c.self.invariant k ∙ back)
    ]
