-- What a controller knows of its display, and what its steps make of it.
use Rattle.std.specs.Prelude.{ℕ, ◌+◌, Option, None, unwrap_or}
use Rattle.flip.specs.declared.views.Showing.{Showing}

-- what a controller knows of n buffers at the start
abbrev pub new_showing : ℕ → Showing
new_showing n = record { buffers = n; shown = 0; steps = 0; found = None }

-- after a tick that found this waiting
abbrev pub after_tick : Showing → Option ℕ → Showing
after_tick c found = record c {
  shown = unwrap_or found c.shown;
  steps = c.steps + 1;
  found = found;
}
