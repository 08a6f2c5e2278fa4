use Rattle.std.proofs.Common.{arith}
use Rattle.line_ink.proofs.CourseLemmas.{IsAt-next, IsAt-carry}
use Rattle.line_ink.proofs.course.Course.next.Goals as goal

pub returns-then-rest-divisor : goal.returns-then-rest-divisor
returns-then-rest-divisor c = λ i at. IsAt-next c.args.self.now i c.args.offset c.args.rest _ at (omega arith) (omega arith)

pub returns-else-rest-divisor : goal.returns-else-rest-divisor
returns-else-rest-divisor c = λ i at. IsAt-carry c.args.self.now i c.args.offset c.args.rest _ c.requires.course at (omega arith)
