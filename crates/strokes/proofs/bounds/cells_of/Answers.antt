use Rattle.std.proofs.Common.{arith}
use Rattle.strokes.proofs.InkLemmas.{narrow_text}
use Rattle.strokes.proofs.bounds.cells_of.Goals as goal

pub last-requires : goal.last-requires
last-requires c = omega (arith, c.width_of-width.ensures, narrow_text c.args.font.now c.args.text.now c.height-height.ensures.font, c.requires)
