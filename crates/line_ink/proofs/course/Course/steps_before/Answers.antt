use Rattle.std.proofs.Common.{arith}
use Rattle.std.proofs.lemmas.Int.{ints, clamps}
use Rattle.line_ink.proofs.course.Course.steps_before.Goals as goal

pub returns-clause-steps : goal.returns-clause-steps
returns-clause-steps c = λ i le. (λ h. omega (arith, ints, clamps), λ h. omega (arith, ints, clamps))
