use Rattle.std.proofs.Common.{◌∙◌, ap, subst, Ok}
use Rattle.script.specs.Reading.{IsStage}
use Rattle.script.proofs.BlockLaws.{closes}
use Rattle.script.proofs.draft.take_block.Goals as goal

-- src/draft.rt:224:9
pub close-requires : goal.close-requires
close-requires c = closes _ _ c.take.new.self _ c.take.result (subst IsStage c.in-Block.is c.requires) c.take.ensures (c.in_ok-take.was ∙ ap Ok c.if-branch.true)
