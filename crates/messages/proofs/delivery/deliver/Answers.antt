use Rattle.std.proofs.Common.{ap, ◌∙◌}
use Rattle.std.specs.Int.{w16}
use Rattle.std.proofs.lemmas.Int.{to_z-of_z}
use Rattle.scene.specs.Clips.{deepest_level}
use Rattle.messages.specs.Delivery.{lineage, delivered_along, delivered}
use Rattle.messages.proofs.delivery.deliver.Goals as goal

pub returns : goal.returns
unfolding delivered
returns c = λ w at.
    c.deliver_up.ensures w at
    ∙ ap (λ a. delivered_along c.args.assets.now c.args.screen.now c.args.msg a (lineage deepest_level c.args.stack.now w) c.args.stack.now) (to_z-of_z w16 c.args.arg c.ranges.arg)
