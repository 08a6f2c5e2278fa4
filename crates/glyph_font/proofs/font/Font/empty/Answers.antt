use Rattle.std.proofs.Common.{refl}
use Rattle.glyph_font.proofs.FontLemmas.{empty_is}
use Rattle.glyph_font.proofs.font.Font.empty.Goals as goal

pub invariant_of-result : goal.invariant_of-result
invariant_of-result c = empty_is c.args.height c.in-Ok.glyphs.items _ c.in-Ok.ensures.items c.requires.0 c.requires.1 refl
