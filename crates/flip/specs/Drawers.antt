-- What a drawer knows of its display, and what its steps make of it.
use Rattle.std.specs.Prelude.{◌≡◌, ◌≢◌, ◌⊎◌, ℕ, ◌+◌, ◌<◌, ◌≤◌, Bool, Option, Some, None, IfSome, unwrap_or}
use Rattle.flip.specs.declared.views.Drawing.{Drawing}
use Rattle.flip.specs.Indexes.{confirmed_by, IsApart, IsLeastApart}

-- what a drawer knows of n buffers at the start
abbrev pub new_drawing : Bool → ℕ → Drawing
new_drawing alone n = record {
  alone = alone;
  buffers = n;
  shown = 0;
  waiting = None;
  steps = 0;
  found = None;
}

-- after a step that found this waiting, and after which that waits
abbrev pub after_step : Drawing → Option ℕ → Option ℕ → Drawing
after_step d found waiting = record d {
  shown = unwrap_or (confirmed_by d.waiting found) d.shown;
  waiting = waiting;
  steps = d.steps + 1;
  found = found;
}

-- after a look that found this waiting
abbrev pub after_look : Drawing → Option ℕ → Drawing
after_look d found = after_step d found found

-- after a post of this buffer that found another one or none waiting
abbrev pub after_post : Drawing → Option ℕ → ℕ → Drawing
after_post d found back = after_step d found (Some back)

-- after the tick of a drawer that is its own controller: what it knew to wait is shown
abbrev pub after_own_tick : Drawing → Option ℕ → Drawing
after_own_tick d found = record d {
  shown = unwrap_or d.waiting d.shown;
  waiting = None;
  steps = d.steps + 1;
  found = found;
}

-- there are one to three buffers, one of them is known as shown, and another or none to wait
pub record IsConsistent (d : Drawing) : Type 0 where
  pub at_least_one : 1 ≤ d.buffers
  pub at_most_three : d.buffers ≤ 3
  pub shown_exists : d.shown < d.buffers
  pub waiting_exists : IfSome d.waiting (λ k. (k < d.buffers) × (k ≢ d.shown))

-- the buffer is known neither as shown nor to wait
abbrev pub IsFree : Drawing → ℕ → Type 0
IsFree d k = (k < d.buffers) × IsApart k d.shown d.waiting

-- the least such buffer, where there is one
abbrev pub IsLeastFree : Drawing → Option ℕ → Type 0
IsLeastFree d = IsLeastApart d.buffers d.shown d.waiting

-- a buffer that was known to wait is named as confirmed or as replaced, and else none is named
abbrev pub NamesOnce : Option ℕ → Option ℕ → Option ℕ → Type 0
NamesOnce None confirmed replaced = (confirmed ≡ None) × (replaced ≡ None)
NamesOnce (Some k) confirmed replaced =
    ((confirmed ≡ Some k) × (replaced ≡ None)) ⊎ ((confirmed ≡ None) × (replaced ≡ Some k))
