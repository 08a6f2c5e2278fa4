use Rattle.std.proofs.Common.{refl}
use Rattle.gfx_base.specs.Rects.{is_empty, canonical, meet, cover}
use Rattle.invalidate.proofs.laws.invalidation_in_numbers.Goals as goal

pub returns-clause-first : goal.returns-clause-first
unfolding is_empty canonical meet
returns-clause-first c = refl

pub returns-clause-second : goal.returns-clause-second
unfolding is_empty canonical meet cover
returns-clause-second c = refl

pub returns-clause-outside : goal.returns-clause-outside
unfolding is_empty canonical meet
returns-clause-outside c = refl

pub returns-clause-inverted : goal.returns-clause-inverted
unfolding is_empty canonical meet
returns-clause-inverted c = refl
