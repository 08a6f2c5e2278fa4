use Rattle.std.proofs.Common.{sym, ap, ◌∙◌}
use Rattle.spelling.specs.Parts.{parts_left}
use Rattle.svg.specs.Reading.{count_of}
use Rattle.svg.proofs.RowLemmas.{count_of_parts}
use Rattle.svg.proofs.row.count_of.Goals as goal

pub returns-in-Some-clause-value : goal.returns-in-Some-clause-value
returns-in-Some-clause-value c = c.natural_in.ensures.value ∙ sym (count_of_parts c.in-Some.times.now) ∙ ap (λ o. count_of (parts_left 42 o)) (sym c.in-Some.is)
