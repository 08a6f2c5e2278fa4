use Rattle.std.proofs.Common.{◌≡◌, arith, w32, to_z, ◌∙◌, ap}
use Rattle.std.proofs.lemmas.Int.{ints}
use Rattle.gfx_base.proofs.CallerLemmas.{same_point}
use Rattle.line_ink.specs.Lines.{flipped}
use Rattle.line_ink.specs.Courses.{across}
use Rattle.line_ink.proofs.course.Course.point.Goals as goal
use Rattle.line_ink.proofs.course.Course.point.Goals.{then-self, else-self}

pub returns-then-self-2 : goal.returns-then-self-2
returns-then-self-2 c =
    let y : to_z w32 c.if-self.y-bits ≡ across c.args.self.now c.args.offset = elim c.if-self.branch [ then-self w ↦ rw w.if-self.true (omega (arith, ints)) | else-self w ↦ rw w.if-self.false (omega (arith, ints)) ] in
    rw c.if-self-2.true (c.flipped.ensures ∙ ap flipped (same_point _ _ _ _ (omega (arith, ints)) y))

pub returns-else-self-2 : goal.returns-else-self-2
returns-else-self-2 c =
    let y : to_z w32 c.if-self.y-bits ≡ across c.args.self.now c.args.offset = elim c.if-self.branch [ then-self w ↦ rw w.if-self.true (omega (arith, ints)) | else-self w ↦ rw w.if-self.false (omega (arith, ints)) ] in
    rw c.if-self-2.false (same_point _ _ _ _ (omega (arith, ints)) y)
