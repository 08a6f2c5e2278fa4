use Rattle.glyph_font.proofs.FaultLaws.{one_font, one_fault}
use Rattle.glyph_font.proofs.laws.one.Goals as goal

pub returns : goal.returns
returns c = record { font = one_font; fault = one_fault }
