-- How the devices are kept. No public clause cites this module.
use Rattle.std.specs.Prelude.{◌≡◌, ℕ, ◌==◌, Bool, false, List, [], ◌∷◌, length, Option, Some, None, slice_get}
use Rattle.frame.specs.Canvases.{Canvas}
use Rattle.memdev.specs.declared.device.Device.{Device}
use Rattle.memdev.specs.Devices.{Rise}

abbrev pub is_slot_of : ℕ → Option Device → Bool
is_slot_of handle None = false
is_slot_of handle (Some x) = x.handle == handle

abbrev pub frame_in : Option Device → Option Canvas
frame_in None = None
frame_in (Some x) = Some x.frame

abbrev pub drawn_in : Option Device → Canvas → Option Device
drawn_in None frame = None
drawn_in (Some x) frame = Some (record x { frame = frame })

abbrev pub live_in : List (Option Device) → List Device
live_in [] = []
live_in (None ∷ slots) = live_in slots
live_in (Some x ∷ slots) = x ∷ live_in slots

-- the slot at this place has a device with the handle
abbrev pub IsPlaceOf : List (Option Device) → ℕ → ℕ → Type 0
IsPlaceOf slots handle at =
    (x : Device) × (slice_get slots at ≡ Some (Some x)) × (x.handle ≡ handle)

-- each slot has a device, and their handles rise to at most the number of those given out
pub record AreKept (slots : List (Option Device)) (handles : ℕ) : Type 0 where
  pub each : length (live_in slots) ≡ length slots
  pub rise : Rise 0 handles (live_in slots)
