use Rattle.std.proofs.Common.{◌≡◌, drop}
use Rattle.messages.specs.Reactions.{reactions_to, values_after}
use Rattle.messages.proofs.reactions.values_after.Given as goal

abbrev pub invariant-loop-reaction : goal.invariant-loop-reaction
invariant-loop-reaction l = values_after l.argument (reactions_to l.message (drop l.reaction-index l.reactions)) l.after
    ≡ values_after l.argument (reactions_to l.message l.reactions) l.values
