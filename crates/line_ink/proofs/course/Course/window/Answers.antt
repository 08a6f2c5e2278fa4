use Rattle.std.proofs.Common.{arith}
use Rattle.std.proofs.lemmas.Int.{ints}
use Rattle.line_ink.proofs.WindowLemmas.{window-steps}
use Rattle.line_ink.proofs.course.Course.window.Goals as goal

pub returns-clause-steps : goal.returns-clause-steps
returns-clause-steps c = λ i le. window-steps c.args.self.now c.args.clip.now c.turned-clip.result i c.steps_before-left.result c.steps_before-right.result c.steps_below.result c.steps_below-2.result _ _ _ _ c.offsets-near.result.0 c.offsets-near.result.1 _ _ _ _ c.turned-clip.ensures (omega (arith, ints)) (omega (arith, ints)) c.offsets-near.ensures.offsets (c.steps_before-left.ensures.steps i le) (omega (arith, ints)) (c.steps_before-right.ensures.steps i le) (omega (arith, ints)) (c.steps_below.ensures.steps i le) (omega (arith, ints)) (c.steps_below-2.ensures.steps i le) (omega (arith, ints)) c.max-from.ensures c.min-to.ensures
