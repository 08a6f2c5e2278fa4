-- What holds of the picture that is drawn on after any calls.
use Rattle.std.specs.Prelude.{◌≡◌, ℕ, ◌<◌, false, pos, List}
use Rattle.std.specs.List.{list_any}
use Rattle.gfx_base.specs.Rects.{point_at}
use Rattle.frame.specs.Pictures.{Picture, colour_at}
use Rattle.scene.specs.declared.win.Win.{Win}
use Rattle.scene.specs.Painting.{painted}
use Rattle.scene.specs.Damage.{is_damaged}
use Rattle.desk.specs.Setups.{Setup, looks_of, painter}
use Rattle.invalidate.specs.Invalidation.{is_invalid}
use Rattle.desk.specs.Desks.{Desk}
use Rattle.desk.specs.Stains.{Stain}

-- at each point of the screen outside the damage and the stain the picture is the painter's
abbrev pub IsRightOutside : Setup → Desk → Stain → Type 0
IsRightOutside setup s stain =
    let looks = looks_of setup s.windows in
    (x y : ℕ) → x < setup.config.w → y < setup.config.h
    → is_damaged looks s.windows (point_at (pos x) (pos y)) ≡ false
    → stain (point_at (pos x) (pos y)) ≡ false
    → colour_at s.picture x y ≡ painted looks s.windows (point_at (pos x) (pos y))

-- at each point of the screen outside the stain that picture is the painter's of the windows
abbrev pub IsPainterOutside : Setup → List Win → Picture → Stain → Type 0
IsPainterOutside setup ws p stain =
    (x y : ℕ) → x < setup.config.w → y < setup.config.h
    → stain (point_at (pos x) (pos y)) ≡ false
    → colour_at p x y ≡ colour_at (painter setup ws) x y

-- no window is invalid
abbrev pub NoneInvalid : List Win → Type 0
NoneInvalid ws = list_any is_invalid ws ≡ false
