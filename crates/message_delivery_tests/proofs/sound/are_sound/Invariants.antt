use Rattle.std.proofs.Common.{take}
use Rattle.std.specs.List.{All}
use Rattle.paint_ops.specs.declared.class.Reaction.{Reaction}
use Rattle.paint_ops.specs.Soundness.{IsReact}
use Rattle.message_delivery_tests.proofs.sound.are_sound.Given as goal

abbrev pub invariant-loop-reaction : goal.invariant-loop-reaction
invariant-loop-reaction l = All (λ (r : Reaction). IsReact r.react) (take l.reaction-index l.reactions)
