use Rattle.paint_ops.proofs.TextLemmas.{IsBegun}
use Rattle.paint_ops.proofs.glyphs.draw_cells.Given as goal

abbrev pub invariant-loop-code : goal.invariant-loop-code
invariant-loop-code l = IsBegun l.fn.target l.target l.strip l.font l.text l.row l.colour l.code-index l.fn.x l.left
