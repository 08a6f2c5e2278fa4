-- The live devices, each with its handle and its frame.
use Rattle.std.specs.Prelude.{◌≡◌, ℕ, ◌+◌, ◌<◌, ◌≤◌, ◌==◌, if◌then◌else◌, List, [], ◌∷◌, ◌++◌, Option, Some, None, ⊤}
use Rattle.frame.specs.Canvases.{Canvas}
use Rattle.memdev.specs.declared.device.Device.{Device}

-- how many handles were given out, the last of which has this number, and the live devices in the
-- order in which they were made
pub record Table : Type 0 where
  pub handles : ℕ
  pub live : List Device

abbrev pub no_devices : Table
no_devices = record { handles = 0; live = [] }

-- the frame of the device that has the handle, if it is live
abbrev pub frame_of : List Device → ℕ → Option Canvas
frame_of [] handle = None
frame_of (x ∷ xs) handle = if x.handle == handle then Some x.frame else frame_of xs handle

-- one more device, which has the next handle
abbrev pub with_device : Table → Canvas → Table
with_device t frame = record {
  handles = t.handles + 1;
  live = t.live ++ record { handle = t.handles + 1; frame = frame } ∷ [];
}

abbrev pub without : ℕ → List Device → List Device
without handle [] = []
without handle (x ∷ xs) = if x.handle == handle then without handle xs else x ∷ without handle xs

-- the device that has the handle is gone, and no handle is given out again
abbrev pub without_device : Table → ℕ → Table
without_device t handle = record t { live = without handle t.live }

abbrev pub redrawn : ℕ → Canvas → Device → Device
redrawn handle frame x = if x.handle == handle then record x { frame = frame } else x

abbrev pub with_frame : ℕ → Canvas → List Device → List Device
with_frame handle frame [] = []
with_frame handle frame (x ∷ xs) = redrawn handle frame x ∷ with_frame handle frame xs

-- the device that has the handle has this frame
abbrev pub with_drawn : Table → ℕ → Canvas → Table
with_drawn t handle frame = record t { live = with_frame handle frame t.live }

-- the handles rise, from above the first number to at most the second
abbrev pub Rise : ℕ → ℕ → List Device → Type 0
Rise low high [] = ⊤
Rise low high (x ∷ xs) = (low < x.handle) × (x.handle ≤ high) × Rise x.handle high xs

-- the handles of live devices were given out, and no two have the same
abbrev pub AreGiven : Table → Type 0
AreGiven t = Rise 0 t.handles t.live

-- the handle stands for no device that is still to come, and its device is gone, if it had one
pub record IsGone (t : Table) (handle : ℕ) : Type 0 where
  pub given : handle ≤ t.handles
  pub gone : frame_of t.live handle ≡ None
