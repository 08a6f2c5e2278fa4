use Rattle.std.proofs.Common.{arith}
use Rattle.std.proofs.lemmas.Int.{ints}
use Rattle.line_ink.proofs.CourseLemmas.{offset-most}
use Rattle.line_ink.proofs.course.Course.steps_below.Goals as goal

pub returns-then-from-k-clause-steps : goal.returns-then-from-k-clause-steps
returns-then-from-k-clause-steps c = λ i le. (λ h. omega (arith, ints, offset-most c.args.self.now i c.requires le), λ h. omega arith)
