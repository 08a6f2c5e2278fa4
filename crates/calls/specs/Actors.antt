-- Who may make which call.
use Rattle.std.specs.Prelude.{ℕ, Bool, ◌&&◌, nat_le}
use Rattle.calls.specs.declared.call.Call.{Call}

-- the actor is a task
abbrev pub is_task : ℕ → Bool
is_task actor = nat_le 1 actor && nat_le actor 16

-- whether the actor may make the call: tasks make all calls
abbrev pub fits : Call → ℕ → Bool
fits call actor = is_task actor
