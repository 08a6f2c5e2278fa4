use Rattle.line_ink.proofs.CourseLemmas.{first_step-below}
use Rattle.line_ink.proofs.course.Course.first_step.Goals as goal

pub returns-clause-steps : goal.returns-clause-steps
returns-clause-steps c = λ i. first_step-below c.args.self.now i c.args.k c.div_ceil.result _ _ c.div_ceil.ensures (cc) (cc) c.requires.course c.requires.offset.0 c.requires.offset.1
