use Rattle.std.proofs.Common.{◌≡◌, ℕ, ◌<◌, ◌≤◌, eqb, get_or}
use Rattle.std.specs.Int.{bit_at}
use Rattle.glyph_font.proofs.glyph.bits_of.Given as goal

abbrev pub invariant-loop-col : goal.invariant-loop-col
invariant-loop-col l = record {
  points : (i : ℕ) → i < l.col → eqb (bit_at l.row i) 1 ≡ eqb (get_or l.line i 0) 35;
  clear : (i : ℕ) → l.col ≤ i → bit_at l.row i ≡ 0;
}
