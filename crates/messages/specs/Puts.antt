-- Windows that are given values one after the other.
use Rattle.std.specs.Prelude.{ℕ, ℤ, List, fold}
use Rattle.gfx_base.specs.declared.rect.Rect.{Rect}
use Rattle.scene.specs.declared.win.Win.{Win}
use Rattle.scene.specs.Families.{window_changed}
use Rattle.messages.specs.Delivery.{with_new_values}

-- values for the window that has the handle
pub record Put : Type 0 where
  pub handle : ℕ
  pub values : List ℤ

-- the windows once that one has the values
abbrev pub after_put : Rect → List Win → Put → List Win
after_put screen ws put = window_changed put.handle (with_new_values screen ws put.values) ws

-- the same for values one after the other
abbrev pub after_puts : Rect → List Put → List Win → List Win
after_puts screen puts ws = fold (after_put screen) ws puts
