use Rattle.std.proofs.Common.{◌≡◌, drop}
use Rattle.std.specs.Option.{option_or}
use Rattle.messages.specs.Reactions.{reactions_to, first_up}
use Rattle.messages.proofs.reactions.first_up.Given as goal

abbrev pub invariant-loop-reaction : goal.invariant-loop-reaction
invariant-loop-reaction l = option_or l.first (first_up (reactions_to l.message (drop l.reaction-index l.reactions)))
    ≡ first_up (reactions_to l.message l.reactions)
