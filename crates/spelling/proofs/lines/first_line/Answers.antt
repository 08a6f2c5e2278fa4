use Rattle.std.proofs.Common.{◌∙◌, ◌∷◌, ap}
use Rattle.spelling.specs.Parts.{parts_left}
use Rattle.spelling.proofs.CutLemmas.{first_of_more}
use Rattle.spelling.proofs.lines.first_line.Goals as goal

pub returns-in-Some-clause-lines : goal.returns-in-Some-clause-lines
returns-in-Some-clause-lines c =
    first_of_more c.args.text.now c.cut_at.result.0.now c.in-Some.rest.now (c.cut_at.ensures.parts ∙ ap (λ o. c.cut_at.result.0.now ∷ parts_left 10 o) c.in-Some.is)
