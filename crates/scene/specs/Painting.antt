-- What is to be seen at a point of the screen. A scene is the list of its windows, from back to
-- front.
use Rattle.std.specs.Prelude.{ℕ, Bool, if◌then◌else◌, List, [], ◌∷◌, filter}
use Rattle.std.specs.List.{list_any}
use Rattle.gfx_base.specs.declared.point.Point.{Point}
use Rattle.gfx_base.specs.declared.rect.Rect.{Rect}
use Rattle.gfx_base.specs.Rects.{has}
use Rattle.scene.specs.declared.win.Win.{Win}

-- how windows look
pub record Looks : Type 0 where
  -- the part of the screen in which it may paint
  pub clip : Win → Rect
  -- whether it hides what is behind it
  pub is_opaque : Win → Bool
  -- the colour that it leaves at a point of the screen over the colour behind it
  pub paint : Win → Point → ℕ → ℕ

-- the windows whose clip has the point
abbrev pub windows_at : Looks → List Win → Point → List Win
windows_at looks ws p = filter (λ w. has (looks.clip w) p) ws

-- whether one of the windows at a point hides what is behind them
abbrev pub hides_behind : Looks → List Win → Bool
hides_behind looks ws = list_any looks.is_opaque ws

-- of the windows at a point those that no later one hides: from the last opaque one on, or all
-- where none is opaque
abbrev pub visible : Looks → List Win → List Win
visible looks [] = []
visible looks (w ∷ ws) = if hides_behind looks ws then visible looks ws else w ∷ ws

-- the colour at a point once each of the windows there has painted over what is behind it
abbrev pub painted_over : Looks → Point → ℕ → List Win → ℕ
painted_over looks p behind [] = behind
painted_over looks p behind (w ∷ ws) = painted_over looks p (looks.paint w p behind) ws

-- the colour of a point in the painter's picture, over black
abbrev pub painted : Looks → List Win → Point → ℕ
painted looks ws p = painted_over looks p 0 (windows_at looks ws p)
