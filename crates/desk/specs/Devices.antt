-- Memory devices: the pictures that tasks draw aside.
use Rattle.std.specs.Prelude.{ℕ, ◌+◌, ◌==◌, if◌then◌else◌, List, [], ◌∷◌, ◌++◌, Option, Some, None}
use Rattle.std.specs.Option.{option_map_or}
use Rattle.frame.specs.Pictures.{Picture, picture_of}

-- a device as it is seen: its handle, and what was drawn on it
pub record DevicePicture : Type 0 where
  pub handle : ℕ
  pub picture : Picture

-- how many handles were given out, the last of which has this number, and the live devices in the
-- order in which they were made
pub record DevicePictures : Type 0 where
  pub handles : ℕ
  pub live : List DevicePicture

abbrev pub no_device_pictures : DevicePictures
no_device_pictures = record { handles = 0; live = [] }

-- the picture of the device that has the handle, if it lives
abbrev pub picture_on : List DevicePicture → ℕ → Option Picture
picture_on [] handle = None
picture_on (d ∷ ds) handle = if d.handle == handle then Some d.picture else picture_on ds handle

-- one more device of one colour, which has the next handle
abbrev pub with_new_device : ℕ → ℕ → ℕ → DevicePictures → DevicePictures
with_new_device w h colour ds = record {
  handles = ds.handles + 1;
  live = ds.live
      ++ record { handle = ds.handles + 1; picture = picture_of w h (λ x y. colour) } ∷ [];
}

abbrev pub without_picture : ℕ → List DevicePicture → List DevicePicture
without_picture handle [] = []
without_picture handle (d ∷ ds) =
    if d.handle == handle then without_picture handle ds else d ∷ without_picture handle ds

-- the device that has the handle is gone, and no handle is given out again
abbrev pub without_device : ℕ → DevicePictures → DevicePictures
without_device handle ds = record ds { live = without_picture handle ds.live }

abbrev pub with_picture : ℕ → Picture → List DevicePicture → List DevicePicture
with_picture handle p [] = []
with_picture handle p (d ∷ ds) =
    (if d.handle == handle then record d { picture = p } else d) ∷ with_picture handle p ds

-- the device that has the handle was drawn on, if it lives
abbrev pub with_drawing : ℕ → (Picture → Picture) → DevicePictures → DevicePictures
with_drawing handle draw ds =
    option_map_or (λ p. record ds { live = with_picture handle (draw p) ds.live })
    (picture_on ds.live handle) ds

-- ---- how devices that are kept are seen
