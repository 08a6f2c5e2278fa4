use Rattle.std.proofs.Common.{◌≡◌, refl, sym, ◌∙◌}
use Rattle.gfx_base.specs.Rects.{cover}
use Rattle.gfx_base.proofs.RectLemmas.{cover-smallest, cover-empty}
use Rattle.gfx_base.proofs.rect.Rect.cover.Goals as goal

pub returns-then-is_empty : goal.returns-then-is_empty
unfolding cover
returns-then-is_empty c =
    let a = c.args.self.now in
    let b = c.args.other.now in
    let v : c.canonical.result ≡ cover a b = c.canonical.ensures ∙ sym (rw (sym c.is_empty.ensures.value ∙ c.if-is_empty.true) refl) in
    rw v (record { value = refl; points = cover-smallest a b; empty = cover-empty a b })

pub returns-then-is_empty-2 : goal.returns-then-is_empty-2
unfolding cover
returns-then-is_empty-2 c =
    let a = c.args.self.now in
    let b = c.args.other.now in
    let v : cover a b ≡ a = rw (sym c.is_empty.ensures.value ∙ c.if-is_empty.false, sym c.is_empty-2.ensures.value ∙ c.if-is_empty-2.true) refl in
    record { value = sym v; points = rw v at (cover-smallest a b); empty = rw v at (cover-empty a b) }

pub returns : goal.returns
unfolding cover
returns c =
    let a = c.args.self.now in
    let b = c.args.other.now in
    let v : c.hull.result ≡ cover a b = c.hull.ensures ∙ sym (rw (sym c.is_empty.ensures.value ∙ c.if-is_empty.false, sym c.is_empty-2.ensures.value ∙ c.if-is_empty-2.false) refl) in
    rw v (record { value = refl; points = cover-smallest a b; empty = cover-empty a b })
