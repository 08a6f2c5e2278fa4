use Rattle.std.proofs.Common.{refl, sym, ◌∙◌}
use Rattle.gfx_base.specs.Rects.{canonical}
use Rattle.gfx_base.proofs.rect.Rect.canonical.Goals as goal

pub returns-then-is_empty : goal.returns-then-is_empty
unfolding canonical
returns-then-is_empty c = rw (sym c.is_empty.ensures.value ∙ c.if-is_empty.true) refl

pub returns-else-is_empty : goal.returns-else-is_empty
unfolding canonical
returns-else-is_empty c = rw (sym c.is_empty.ensures.value ∙ c.if-is_empty.false) refl
