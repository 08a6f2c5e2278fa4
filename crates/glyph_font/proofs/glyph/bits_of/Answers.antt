use Rattle.std.proofs.Common.{arith}
use Rattle.glyph_font.proofs.BitLemmas.{bits_from_points}
use Rattle.glyph_font.proofs.glyph.bits_of.Goals as goal

pub returns : goal.returns
returns c = bits_from_points c.args.line.now c.loop-col.row (λ i less. c.loop-col.invariant.points i (omega arith))
