use Rattle.std.proofs.Common.{rules}
use Rattle.gfx_base.specs.Rects.{is_empty}
use Rattle.gfx_base.proofs.RectLemmas.{is_empty-points}
use Rattle.gfx_base.proofs.rect.Rect.is_empty.Goals as goal

pub returns-then-self-clause-points : goal.returns-then-self-clause-points
unfolding is_empty
returns-then-self-clause-points c = is_empty-points c.args.self.now _ (search rules)

pub returns-else-self-clause-points : goal.returns-else-self-clause-points
unfolding is_empty
returns-else-self-clause-points c = is_empty-points c.args.self.now _ (search rules)
