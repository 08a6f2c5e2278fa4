use Rattle.strokes.proofs.LineLemmas.{rise-most}
use Rattle.strokes.proofs.lines.offset.Goals as goal

pub returns-clause-most : goal.returns-clause-most
returns-clause-most c =
    let a = c.args in
    rw (c.from.ensures, c.from-2.ensures, c.from-3.ensures, c.from-4.ensures) (rise-most a.rise a.step a.half a.steps c.requires.steps.0 c.requires.step c.requires.half)
