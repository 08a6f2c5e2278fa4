use Rattle.std.proofs.Common.{sym, ap, subst, ◌∙◌}
use Rattle.svg.specs.Reading.{after_row, step_at, Takes}
use Rattle.svg.proofs.draft.Draft.after.Goals as goal

pub returns-in-Some : goal.returns-in-Some
unfolding after_row
returns-in-Some c =
    let here = sym c.take.ensures.value ∙ c.in-Some.is in
    subst (Takes c.after_row.result) (sym (ap (λ part. step_at part c.args.self c.args.line.now) here)) c.after_row.ensures
