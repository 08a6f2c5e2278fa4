use Rattle.std.proofs.Common.{ap, ◌∙◌}
use Rattle.multibuf.specs.Buffering.{Buffering}
use Rattle.multibuf.specs.Frames.{frame_at}
use Rattle.multibuf.proofs.KeptFrames.{confirm_keeps}
use Rattle.multibuf.proofs.buffers.Buffers.see.Goals as goal

pub returns-clause-frames : goal.returns-clause-frames
returns-clause-frames c = λ k.
    let back = ap (λ (b : Buffering). frame_at b k) c.self.view_is in
    rw c.confirm.ensures.held (confirm_keeps _ _ _ _ c.self.invariant k ∙ back)
