use Rattle.std.proofs.Common.{ap, sym, ◌∙◌, fold}
use Rattle.line_ink.specs.Lines.{clipped}
use Rattle.line_ink.proofs.CourseLemmas.{points-same}
use Rattle.line_ink.proofs.WindowLemmas.{clipped-course}
use Rattle.line_ink.proofs.walking.walk.Goals as goal

pub returns-then-eq : goal.returns-then-eq
returns-then-eq g c =
    let put = fold g.P.Plot.after (g.P.Plot.stands_for c.args.out.now) in
    c.put_inside.ensures ∙ ap (λ points. put (clipped c.args.clip.now points)) (sym (points-same c.args.a c.args.b (sym c.eq.ensures ∙ c.if-eq.true)))

pub returns : goal.returns
returns g c =
    let put = fold g.P.Plot.after (g.P.Plot.stands_for c.args.out.now) in
    c.put_steps.ensures
    ∙ ap put (sym (clipped-course c.args.clip.now c.new-course.result c.window-from.result.0 c.window-from.result.1 c.window-from.ensures.most c.window-from.ensures.steps))
    ∙ ap (λ points. put (clipped c.args.clip.now points)) c.new-course.ensures.points
