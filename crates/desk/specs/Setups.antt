-- What stays the same while the core runs, and how its windows look.
use Rattle.std.specs.Prelude.{ℕ, List, [], ◌∷◌, Some}
use Rattle.gfx_base.specs.declared.rect.Rect.{Rect}
use Rattle.frame.specs.Pictures.{Picture}
use Rattle.paint_ops.specs.Kinds.{Class, Assets}
use Rattle.scene.specs.declared.win.Win.{Win}
use Rattle.scene.specs.Painting.{Looks}
use Rattle.scene.specs.Looks.{screen_with, looks_of as looks_on, painter as painter_on}
use Rattle.calls.specs.declared.config.Config.{Config}

-- the configuration, and what windows paint with
pub record Setup : Type 0 where
  pub config : Config
  pub assets : Assets

-- the desktop's class: a back colour alone
abbrev pub desktop_class : ℕ → Class
desktop_class colour = record { back = Some colour; ops = []; reactions = [] }

-- with the desktop's class in the place of the first one
abbrev pub classes_with_desktop : ℕ → List Class → List Class
classes_with_desktop colour [] = []
classes_with_desktop colour (class ∷ classes) = desktop_class colour ∷ classes

abbrev pub assets_with_desktop : ℕ → Assets → Assets
assets_with_desktop colour assets =
    record assets { classes = classes_with_desktop colour assets.classes }

-- of a core that was opened with these
abbrev pub setup_for : Assets → Config → Setup
setup_for assets config =
    record { config = config; assets = assets_with_desktop config.desktop assets }

-- the points of the screen
abbrev pub screen_of : Setup → Rect
screen_of setup = screen_with setup.config.w setup.config.h

-- how the windows of a list look
abbrev pub looks_of : Setup → List Win → Looks
looks_of setup ws = looks_on setup.assets (screen_of setup) ws

-- the painter's picture of them
abbrev pub painter : Setup → List Win → Picture
painter setup ws = painter_on setup.assets setup.config.w setup.config.h ws
