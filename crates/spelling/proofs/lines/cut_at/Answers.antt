use Rattle.std.proofs.Common.{sym, eqb}
use Rattle.spelling.proofs.CutLemmas.{parts_none, parts_some, to_end}
use Rattle.spelling.proofs.lines.cut_at.Goals as goal

pub returns-in-None-clause-parts : goal.returns-in-None-clause-parts
returns-in-None-clause-parts c = parts_none (λ b. eqb b c.args.mark) c.args.text.now (sym c.in-None.ensures)

pub returns-in-Some-clause-parts : goal.returns-in-Some-clause-parts
returns-in-Some-clause-parts c =
    rw to_end (parts_some (λ b. eqb b c.args.mark) c.args.text.now c.in-Some.end (sym c.in-Some.ensures)).1
