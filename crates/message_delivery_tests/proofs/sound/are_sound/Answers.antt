use Rattle.std.proofs.lemmas.List.{take_all}
use Rattle.std.proofs.lemmas.List.Elements.{recursion_from_All}
use Rattle.paint_ops.specs.declared.class.Reaction.{Reaction}
use Rattle.paint_ops.specs.Soundness.{IsReact}
use Rattle.message_delivery_tests.proofs.sound.are_sound.Goals as goal

pub returns : goal.returns
returns c h = recursion_from_All (λ (r : Reaction). IsReact r.react) c.args.reactions.now (rw (take_all c.loop-reaction.reaction-index c.args.reactions.now c.loop-reaction-test.false) at c.loop-reaction.invariant)
