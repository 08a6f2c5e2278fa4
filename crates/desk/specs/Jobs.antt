-- Jobs: each paints the first invalid window.
use Rattle.std.specs.Prelude.{ℕ, if◌then◌else◌, List, [], ◌∷◌, count_by, position, None}
use Rattle.std.specs.Option.{option_map_or}
use Rattle.frame.specs.Pictures.{Picture}
use Rattle.scene.specs.declared.win.Win.{Win}
use Rattle.scene.specs.Damage.{repainted, with_invalid}
use Rattle.invalidate.specs.Invalidation.{is_invalid}
use Rattle.desk.specs.Setups.{Setup, looks_of}

-- the windows after a job: the first invalid one is valid
abbrev pub windows_after_job : List Win → List Win
windows_after_job [] = []
windows_after_job (w ∷ ws) =
    if is_invalid w then with_invalid w None ∷ ws else w ∷ windows_after_job ws

-- the picture after a job: the first invalid window is painted, if there is one
abbrev pub picture_after_job : Setup → List Win → Picture → Picture
picture_after_job setup ws latest =
    option_map_or (λ which. repainted (looks_of setup ws) ws which latest)
    (position is_invalid ws) latest

-- as many jobs as there are invalid windows, of which each job takes one
abbrev pub jobs_of : List Win → ℕ
jobs_of ws = count_by is_invalid ws
