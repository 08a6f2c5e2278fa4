use Rattle.std.proofs.Common.{rules, subst}
use Rattle.multibuf.specs.Buffering.{Buffering, with_target}
use Rattle.multibuf.specs.Frames.{KeepsKnown}
use Rattle.multibuf.proofs.KeptFrames.{target_keeps}
use Rattle.multibuf.proofs.buffers.Buffers.target.Goals as goal

pub returns : goal.returns
returns c = (
  search rules,
  record {
    written = tt;
    value = search rules;
    picture = search rules;
    sides = search rules;
    screen = search rules;
    target = search rules;
    known = λ canvas. subst (λ (b : Buffering). KeepsKnown b (with_target b canvas)) c.self.view_is (target_keeps _ _ _ _ c.self.invariant canvas);
    even = search rules;
  },
)
