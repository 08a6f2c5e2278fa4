use Rattle.std.proofs.Common.{arith}
use Rattle.std.proofs.lemmas.Int.{ints}
use Rattle.line_ink.proofs.CourseLemmas.{within-descending, within-ascending}
use Rattle.line_ink.proofs.course.Course.offsets.Goals as goal

pub returns-then-self-clause-offsets : goal.returns-then-self-clause-offsets
returns-then-self-clause-offsets c = λ k. within-descending c.args.self.now.descends c.args.y0 c.args.y1 c.args.self.now.first.y _ _ k c.if-self.true (omega (arith, ints)) (omega (arith, ints))

pub returns-else-self-clause-offsets : goal.returns-else-self-clause-offsets
returns-else-self-clause-offsets c = λ k. within-ascending c.args.self.now.descends c.args.y0 c.args.y1 c.args.self.now.first.y _ _ k c.if-self.false (omega (arith, ints)) (omega (arith, ints))
