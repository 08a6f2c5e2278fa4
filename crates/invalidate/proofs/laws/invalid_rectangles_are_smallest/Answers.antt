use Rattle.gfx_base.proofs.CallerLemmas.{cover-smallest}
use Rattle.invalidate.proofs.laws.invalid_rectangles_are_smallest.Goals as goal

pub returns : goal.returns
returns c = λ old part. cover-smallest old part
