use Rattle.std.proofs.Common.{◌≡◌, replicate}
use Rattle.context.specs.Contexts.{first_owned}
use Rattle.context.proofs.contexts.Contexts.new.Given as goal

abbrev pub invariant-loop : goal.invariant-loop
invariant-loop l = l.owned.items ≡ replicate l.counter first_owned
