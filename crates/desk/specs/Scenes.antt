-- What is true of the windows after any calls.
use Rattle.std.specs.Prelude.{◌≡◌, ◌<◌, ℕ, List, length}
use Rattle.std.specs.List.{AllByRecursion}
use Rattle.scene.specs.declared.win.Win.{Win}
use Rattle.scene.specs.Stacks.{IsStack, AreGiven, desktop_screen}
use Rattle.desk.specs.Setups.{Setup, screen_of}

-- the window's class exists
abbrev pub HasClass : Setup → Win → Type 0
HasClass setup w = w.class < length setup.assets.classes

-- The windows are those of a tree from back to front, with handles that were given out. The desktop
-- takes up the screen, and each window's class exists.
pub record IsScene (setup : Setup) (ws : List Win) (handles : ℕ) : Type 0 where
  pub stack : IsStack ws
  pub given : AreGiven handles ws
  pub screen : desktop_screen ws ≡ screen_of setup
  pub classes : AllByRecursion (HasClass setup) ws
