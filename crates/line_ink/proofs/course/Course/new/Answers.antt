use Rattle.std.proofs.Common.{◌≤◌, ◌<◌, ap, ◌∙◌, arith}
use Rattle.std.specs.Prelude.{unsigned_abs, ◌-ℤ◌}
use Rattle.std.proofs.lemmas.Int.{ints}
use Rattle.line_ink.specs.Lines.{flipped}
use Rattle.line_ink.specs.Courses.{points_of_course}
use Rattle.line_ink.proofs.CourseLemmas.{IsCourse-between, points-wide, points-steep, is_same-flipped}
use Rattle.line_ink.proofs.course.Course.new.Goals as goal

pub returns-then-abs_diff-clause-course : goal.returns-then-abs_diff-clause-course
returns-then-abs_diff-clause-course c =
    let a = c.args.a in
    let b = c.args.b in
    let wide : unsigned_abs (b.y -ℤ a.y) ≤ unsigned_abs (b.x -ℤ a.x) = omega (arith, ints) in
    rw c.between.ensures (IsCourse-between _ a b c.requires.ends.0 c.requires.ends.1 c.requires.ends.2 c.requires.ends.3 c.requires.differ wide)

pub returns-then-abs_diff-clause-points : goal.returns-then-abs_diff-clause-points
returns-then-abs_diff-clause-points c =
    let a = c.args.a in
    let b = c.args.b in
    let wide : unsigned_abs (b.y -ℤ a.y) ≤ unsigned_abs (b.x -ℤ a.x) = omega (arith, ints) in
    ap points_of_course c.between.ensures ∙ points-wide a b c.requires.differ wide

pub returns-else-abs_diff-clause-course : goal.returns-else-abs_diff-clause-course
returns-else-abs_diff-clause-course c =
    let a = c.args.a in
    let b = c.args.b in
    let steep : unsigned_abs (b.x -ℤ a.x) < unsigned_abs (b.y -ℤ a.y) = omega (arith, ints) in
    rw (c.between-else-abs_diff.ensures, c.flipped.ensures, c.flipped-else-abs_diff.ensures) (IsCourse-between _ (flipped a) (flipped b) c.requires.ends.1 c.requires.ends.0 c.requires.ends.3 c.requires.ends.2 (is_same-flipped a b c.requires.differ) (omega arith))

pub returns-else-abs_diff-clause-points : goal.returns-else-abs_diff-clause-points
returns-else-abs_diff-clause-points c =
    let a = c.args.a in
    let b = c.args.b in
    let steep : unsigned_abs (b.x -ℤ a.x) < unsigned_abs (b.y -ℤ a.y) = omega (arith, ints) in
    rw (c.between-else-abs_diff.ensures, c.flipped.ensures, c.flipped-else-abs_diff.ensures) (points-steep a b c.requires.differ steep)
