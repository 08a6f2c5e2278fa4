use Rattle.std.proofs.Common.{◌≡◌, ◌∙◌, ◌-◌, get_or, ap, inl, inr, arith, rules}
use Rattle.glyph_font.proofs.FontLemmas.{none_outside, kept_at}
use Rattle.glyph_font.proofs.font.Font.glyph.Goals as goal
use Rattle.glyph_font.proofs.font.Font.glyph.Goals.{then-code-lt-FIRST_CODE-via-then-code-lt-FIRST_CODE, then-code-lt-FIRST_CODE-via-else-code-lt-FIRST_CODE+then-code-gt-LAST_CODE}

pub returns-then-code-lt-FIRST_CODE : goal.returns-then-code-lt-FIRST_CODE
returns-then-code-lt-FIRST_CODE c =
    rw (← c.self.view_is)
    (elim c.then-code-lt-FIRST_CODE.branch [
      | then-code-lt-FIRST_CODE-via-then-code-lt-FIRST_CODE w ↦ none_outside _ c.args.code c.self.invariant.0.rising (inl (omega arith))
      | then-code-lt-FIRST_CODE-via-else-code-lt-FIRST_CODE+then-code-gt-LAST_CODE w ↦ none_outside _ c.args.code c.self.invariant.0.rising (inr (omega arith))
    ])

pub returns-else-slot-eq0 : goal.returns-else-slot-eq0
returns-else-slot-eq0 c =
    let from : c.from.result ≡ c.args.code - 32 = search rules in
    rw (← c.self.view_is)
    (kept_at c.self.inside.height c.self.inside.glyphs.items c.self.inside.slots c.args.code c.from-else-slot-eq0.result c.index.result.now c.self.invariant.1 (omega arith) (omega arith) (c.from-else-slot-eq0.ensures ∙ ap (λ (i : _). get_or c.self.inside.slots i 0) from) (omega (arith, c.from-else-slot-eq0.ensures)) c.index.ensures)
