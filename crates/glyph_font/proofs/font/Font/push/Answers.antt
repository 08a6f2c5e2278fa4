use Rattle.std.proofs.Common.{◌≡◌, ◌<◌, ◌≤◌, ◌-◌, ◌+◌, ◌++◌, ◌∷◌, [], subst, sym, ap, arith, rules, length}
use Rattle.std.proofs.lemmas.List.{length-map}
use Rattle.glyph_font.specs.Fonts.{Font, IsRising, IsGlyph}
use Rattle.glyph_font.specs.Kept.{glyph_from}
use Rattle.glyph_font.proofs.FontLemmas.{last_code, pushed_is}
use Rattle.glyph_font.proofs.font.Font.push.Goals as goal

pub overflow_cast-self : goal.overflow_cast-self
overflow_cast-self c =
    let few : length c.args.self.now.glyphs < 95 = (last_code c.args.self.now.glyphs _ c.requires.rising).2 in
    let count = length-map c.self.inside.glyphs.items (glyph_from c.self.inside.height) in
    let same = ap (λ (f : Font). length f.glyphs) c.self.view_is in
    let len : c.len.result ≡ length c.self.inside.glyphs.items + 1 = search rules in
    search rules

pub overflow_sub-code : goal.overflow_sub-code
overflow_sub-code c = (last_code c.args.self.now.glyphs _ c.requires.rising).0

pub bounds-self-inside-from : goal.bounds-self-inside-from
bounds-self-inside-from c = let k = last_code c.args.self.now.glyphs _ c.requires.rising in let until : c.args.glyph.code ≤ 126 = k.1 in let from : c.from.result ≡ c.args.glyph.code - 32 = search rules in omega arith

pub invariant_of-self-2 : goal.invariant_of-self-2
invariant_of-self-2 c =
    let items : c.push.new.self.items ≡ c.self.inside.glyphs.items ++ c.args.glyph ∷ [] = search rules in
    let len : c.len.result ≡ length c.push.new.self.items = search rules in
    let from : c.from.result ≡ c.args.glyph.code - 32 = search rules in
    let slots : length c.self.inside.slots ≡ 95 = search rules in
    pushed_is c.self.inside.height c.self.inside.glyphs.items c.push.new.self.items c.args.glyph c.self.inside.slots c.from.result c.len.result c.self.invariant.0 c.self.invariant.1 items
    (subst (λ (f : Font). IsGlyph f.height (glyph_from f.height c.args.glyph)) (sym c.self.view_is) c.requires.glyph) (subst (λ (f : Font). IsRising 32 (f.glyphs ++ glyph_from f.height c.args.glyph ∷ [])) (sym c.self.view_is) c.requires.rising) slots from len
