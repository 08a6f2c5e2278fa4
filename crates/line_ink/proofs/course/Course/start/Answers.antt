use Rattle.line_ink.specs.Courses.{progress}
use Rattle.line_ink.proofs.CourseLemmas.{IsAt-start}
use Rattle.line_ink.proofs.course.Course.start.Goals as goal

pub returns : goal.returns
unfolding progress
returns c = IsAt-start c.args.self.now c.args.step _ _ c.requires.course.some (cc) (cc)
