use Rattle.std.proofs.Common.{◌≡◌, ◌*◌, ◌≤◌, take, map}
use Rattle.std.specs.Prelude.{sum}
use Rattle.glyph_font.specs.Fonts.{width_of_code}
use Rattle.glyph_font.proofs.font.Font.width_of.Given as goal

abbrev pub invariant-loop-code : goal.invariant-loop-code
invariant-loop-code l = record {
  so_far : l.sum ≡ sum (map (width_of_code l.self) (take l.code-index l.text));
  fits : l.sum ≤ 255 * l.code-index;
}
