use Rattle.glyph_font.proofs.FaultLaws.{either, not_both}
use Rattle.glyph_font.proofs.laws.either.Goals as goal

pub returns : goal.returns
returns c = record { some = either; not_both = not_both }
