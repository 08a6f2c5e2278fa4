use Rattle.std.proofs.Common.{◌≡◌, ◌≤◌, arith, sym, ◌∙◌, subst}
use Rattle.gfx_base.specs.declared.point.Point.{Point}
use Rattle.line_ink.specs.Courses.{place}
use Rattle.line_ink.proofs.CourseLemmas.{IsAt-place, IsAt-most}
use Rattle.line_ink.proofs.WindowLemmas.{fold-step}
use Rattle.line_ink.proofs.course.Course.put_steps.Goals as goal

pub point-p-requires-clause-most : goal.point-p-requires-clause-most
point-p-requires-clause-most g c =
    let within : c.loop-step.step ≤ c.args.self.now.steps = omega arith in
    (within, IsAt-most c.args.self.now c.loop-step.step c.loop-step.offset c.loop-step.rest c.requires.course within c.loop-step.invariant.at)

pub put-requires : goal.put-requires
put-requires g c =
    let MayPut : Point → Type 0 = λ p. g.P.Plot.may_put (g.P.Plot.stands_for c.loop-step.out) p in
    let same : c.point-p.result ≡ place c.args.self.now c.loop-step.step = IsAt-place c.args.self.now c.loop-step.step c.loop-step.offset c.loop-step.rest c.point-p.result c.loop-step.invariant.at c.point-p.ensures in
    subst MayPut (sym same) (c.loop-step.invariant.may_put c.loop-step.step (omega arith) (omega arith))

pub next-quotient-requires-clause-most : goal.next-quotient-requires-clause-most
next-quotient-requires-clause-most g c = IsAt-most c.args.self.now c.loop-step.step c.loop-step.offset c.loop-step.rest c.requires.course (omega arith) c.loop-step.invariant.at

pub loop-step-preserved : goal.loop-step-preserved
loop-step-preserved g c =
    let line = c.args.self.now in
    let step = c.loop-step.step in
    let inv = c.loop-step.invariant in
    let same : c.point-p.result ≡ place line step = IsAt-place line step c.loop-step.offset c.loop-step.rest c.point-p.result inv.at c.point-p.ensures in
    record {
      at = c.next-quotient.ensures step inv.at;
      put = c.put.ensures ∙ rw same (fold-step g.P.Plot.after line (g.P.Plot.stands_for c.args.out.now) (g.P.Plot.stands_for c.loop-step.out) c.args.from step (omega arith) inv.put);
      may_put = λ i low high. rw c.put.ensures (g.met.P.Plot.stays (g.P.Plot.stands_for c.loop-step.out) (place line i) c.point-p.result (inv.may_put i low high));
    }
