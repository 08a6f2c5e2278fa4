-- Small devices, for laws in numbers.
use Rattle.std.specs.Prelude.{ℕ, zero, suc, List, map}
use Rattle.memdev.specs.Frames.{filled}
use Rattle.memdev.specs.Devices.{Table, no_devices, with_device}

-- one more device, of one black point
abbrev pub with_dot : Table → Table
with_dot t = with_device t (filled 1 1 0)

-- so many of them, and none that was deleted
abbrev pub with_dots : ℕ → Table
with_dots zero = no_devices
with_dots (suc n) = with_dot (with_dots n)

abbrev pub handles_of : Table → List ℕ
handles_of t = map (λ x. x.handle) t.live
