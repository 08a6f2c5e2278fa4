use Rattle.std.proofs.Common.{refl, arith}
use Rattle.std.proofs.lemmas.List.{length-set}
use Rattle.std.proofs.lemmas.Option.{slice_get_within}
use Rattle.scene.specs.Clips.{clip_in}
use Rattle.scene.proofs.PainterLemmas.{one_more_place}
use Rattle.scene.proofs.painter.clips_by_place.Goals as goal

pub loop-i-init : goal.loop-i-init
loop-i-init c = record { long = refl; clips = λ j w less at. absurd (omega arith) }

pub loop-i-preserved : goal.loop-i-preserved
loop-i-preserved c =
    let long = length-set c.loop-i.clips c.loop-i.i c.ground.result in
    let kept = c.loop-i.invariant.long in
    record {
      long = omega (arith, long, kept);
      clips = one_more_place (clip_in c.args.screen.now c.args.stack.now) c.args.stack.now c.loop-i.clips c.loop-i.i c.ground.result (omega (arith, kept, c.requires, c.loop-i-test.true)) c.loop-i.invariant.clips c.ground.ensures;
    }

pub returns : goal.returns
returns c = λ i w at. c.loop-i.invariant.clips i w (let inside = slice_get_within c.args.stack.now i w at in omega (arith, c.loop-i-test.false)) at
