-- A frame at its start.
use Rattle.std.specs.Prelude.{ℕ, ◌*◌, replicate}
use Rattle.frame.specs.Canvases.{Canvas, canvas}

-- a frame of one colour, each point of which was written once
abbrev pub filled : ℕ → ℕ → ℕ → Canvas
filled w h colour = canvas w h (replicate (h * w) colour) (h * w)
