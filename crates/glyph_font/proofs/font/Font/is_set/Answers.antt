use Rattle.std.proofs.Common.{◌≡◌, ◌∙◌, ℕ, subst, sym, ap, get_or, eqb, inl, inr, arith, rules}
use Rattle.std.specs.Int.{bit_at}
use Rattle.glyph_font.specs.Fonts.{Font, IsFont}
use Rattle.glyph_font.proofs.FontLemmas.{found_width, set_inside, set_outside}
use Rattle.glyph_font.proofs.font.Font.is_set.Goals as goal
use Rattle.glyph_font.proofs.font.Font.is_set.Goals.{then-col-glyph-via-then-col-glyph, then-col-glyph-via-else-col-glyph+then-row-self}

pub has_bit-requires : goal.has_bit-requires
has_bit-requires c =
    let is : IsFont c.args.self.now = subst IsFont c.self.view_is c.self.invariant.0 in
    let wide = found_width c.args.self.now c.args.code c.in-Some.glyph.now is c.in-Some.ensures in
    omega arith

pub returns-then-col-glyph : goal.returns-then-col-glyph
returns-then-col-glyph c =
    let is : IsFont c.args.self.now = subst IsFont c.self.view_is c.self.invariant.0 in
    let high = ap (λ (f : Font). f.height) c.self.view_is in
    elim c.then-col-glyph.branch [
      | then-col-glyph-via-then-col-glyph w ↦ sym (set_outside c.args.self.now c.args.code c.in-Some.glyph.now c.args.col c.args.row is c.in-Some.ensures (inl w.if-col-glyph.true))
      | then-col-glyph-via-else-col-glyph+then-row-self w ↦ sym (set_outside c.args.self.now c.args.code c.in-Some.glyph.now c.args.col c.args.row is c.in-Some.ensures (inr (omega (arith, w.if-row-self.true))))
    ]

pub returns : goal.returns
returns c =
    let is : IsFont c.args.self.now = subst IsFont c.self.view_is c.self.invariant.0 in
    let high = ap (λ (f : Font). f.height) c.self.view_is in
    let same : c.from.result ≡ c.args.row = search rules in
    c.has_bit.ensures ∙ ap (λ (r : ℕ). eqb (bit_at (get_or c.in-Some.glyph.now.rows r 0) c.args.col) 1) same
    ∙ sym (set_inside c.args.self.now c.args.code c.in-Some.glyph.now c.args.col c.args.row is c.in-Some.ensures c.if-col-glyph.false (omega (arith, c.if-row-self.false)))
