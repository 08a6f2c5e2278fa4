-- When a device can't be made, and why.
use Rattle.std.specs.Prelude.{ℕ, Bool, ◌||◌, ◌==◌, nat_lt, nat_le, if◌then◌else◌, List, length, Option, Some, None}
use Rattle.memdev.specs.declared.device.Device.{Device}
use Rattle.memdev.specs.declared.refused.DevRefused.{DevRefused}
use Rattle.memdev.specs.declared.refused.DevRefused.TheVariants.{BadSize, TooMany}

-- a side is 0, or the size is over 1,024 by 768 points
abbrev pub is_bad_device_size : ℕ → ℕ → Bool
is_bad_device_size w h = (w == 0 || h == 0) || (nat_lt 1024 w || nat_lt 768 h)

-- the first reason, other than want of memory
abbrev pub refusal_of_create : List Device → ℕ → ℕ → Option DevRefused
refusal_of_create live w h =
    if is_bad_device_size w h then Some BadSize
    else (if nat_le 16 (length live) then Some TooMany else None)
