-- What writing through a context that is lent does to those who lend it.
use Rattle.std.specs.Prelude.{ℕ, List}
use Rattle.std.specs.Borrow.{Lends, MutBor, Fml}
use Rattle.context.specs.declared.context.Context.{Context}
use Rattle.context.specs.contracts.context.Context.{the_row as context_row}
use Rattle.context.specs.contracts.own.Own.{the_row as own_row}
use Rattle.context.specs.contracts.contexts.Contexts.{the_row as contexts_row}
use Rattle.context.specs.Contexts.{Owned, with_context, with_written}

abbrev pub LendsContext : MutBor Owned → MutBor Context → Fml
LendsContext own r = Lends own_row context_row own r (with_context own.now)

-- after the loan the task draws with what was written
abbrev pub LendsContextOf : MutBor (List Owned) → ℕ → MutBor Context → Fml
LendsContextOf all task r =
    Lends contexts_row context_row all r (with_written all.now task)
