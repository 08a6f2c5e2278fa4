use Rattle.std.proofs.Common.{◌≡◌, ◌∙◌, ℕ, Bool, true, eqb, List, length, Some, ap, sym, rules, arith}
use Rattle.std.specs.List.{list_all}
use Rattle.std.proofs.lemmas.Bool.Decides.{nat_tests}
use Rattle.glyph_font.specs.Bits.{bits_of}
use Rattle.glyph_font.specs.Reading.{row_of, is_point}
use Rattle.glyph_font.proofs.draft.row.Goals as goal

pub returns-then-is_drawn : goal.returns-then-is_drawn
unfolding row_of
returns-then-is_drawn c =
    let wide : length c.args.line.now ≡ c.args.width = search rules in
    let test : eqb (length c.args.line.now) c.args.width ≡ true = grind (arith, nat_tests) in
    let all : list_all is_point c.args.line.now ≡ true = sym c.is_drawn.ensures ∙ c.if-is_drawn.true in
    rw (test, all) (ap (λ (x : List Bool). Some x) (sym c.bits_of.ensures ∙ ap (λ (n : ℕ). bits_of n c.bits_of.result) wide))
