-- What a tree is to its callers.
use Rattle.std.specs.Prelude.{◌≡◌, ℕ, false, List, Option, Some, None}
use Rattle.scene.specs.declared.win.Win.{Win}
use Rattle.scene.specs.Stacks.{is_invalid_nowhere}

-- the windows from back to front, and how many handles were given out
pub record Scene : Type 0 where
  pub windows : List Win
  pub handles : ℕ

-- A window may stand in the place of the one that was there: it differs at most in class,
-- transparency, memory device, values and invalid rectangle, its invalid rectangle isn't empty, and
-- the desktop keeps its class and its transparency.
pub record MayReplace (w win : Win) : Type 0 where
  pub same : win ≡ record w {
    class = win.class;
    trans = win.trans;
    memdev = win.memdev;
    values = win.values;
    invalid = win.invalid;
  }
  pub invalid : is_invalid_nowhere win ≡ false
  pub desktop : win.handle ≡ 1 → (win.class ≡ w.class) × (win.trans ≡ w.trans)

-- there is a window, and the other may stand in its place
abbrev pub IsReplacement : Option Win → Win → Type 0
IsReplacement None win = ⊥
IsReplacement (Some w) win = MayReplace w win
