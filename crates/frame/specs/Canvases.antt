-- A picture that is drawn on, and how many points were written, modulo 2^64.
use Rattle.std.specs.Prelude.{ℕ, ◌+◌, ◌%◌, ◌^◌, Bool, List}
use Rattle.frame.specs.Pictures.{Picture, changed}

pub record Canvas : Type 0 where
  pub picture : Picture
  pub writes : ℕ

-- the canvas with these sides, points and writes
abbrev pub canvas : ℕ → ℕ → List ℕ → ℕ → Canvas
canvas width height points writes = record {
  picture = record { width = width; height = height; points = points };
  writes = writes;
}

-- the canvas with other colours at the points that a test names, which are so many
abbrev pub drawn : Canvas → (ℕ → ℕ → Bool) → (ℕ → ℕ → ℕ) → ℕ → Canvas
drawn f here colour count =
    record { picture = changed f.picture here colour; writes = (f.writes + count) % 2 ^ 64 }
