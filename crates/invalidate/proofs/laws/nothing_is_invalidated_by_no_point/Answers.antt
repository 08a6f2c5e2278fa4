use Rattle.gfx_base.specs.Rects.{shift}
use Rattle.invalidate.proofs.LawLemmas.{nothing_invalid, shift-empty}
use Rattle.invalidate.proofs.RectLemmas.{invalidated-nowhere}
use Rattle.invalidate.proofs.laws.nothing_is_invalidated_by_no_point.Goals as goal

pub returns-clause-area : goal.returns-clause-area
returns-clause-area c = λ clip area w empty. nothing_invalid clip area w empty

pub returns-clause-moved : goal.returns-clause-moved
returns-clause-moved c = λ clip area dx dy w empty. nothing_invalid clip (shift area dx dy) w (shift-empty area dx dy empty)

pub returns-clause-clip : goal.returns-clause-clip
returns-clause-clip c = λ clip area w empty. invalidated-nowhere clip area w empty
