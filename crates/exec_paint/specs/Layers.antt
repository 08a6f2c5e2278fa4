-- Windows that a job paints with. No contract of a public function names these.
use Rattle.std.specs.Prelude.{◌≡◌, ℕ, ◌<◌, if◌then◌else◌, List, length, map, slice_index_or}
use Rattle.gfx_base.specs.declared.point.Point.{Point}
use Rattle.gfx_base.specs.declared.rect.Rect.{Rect}
use Rattle.gfx_base.specs.Rects.{has}
use Rattle.scene.specs.declared.win.Win.{Win}
use Rattle.scene.specs.Clips.{clip_in, corner_in}
use Rattle.scene.specs.Painting.{Looks}
use Rattle.scene.specs.Places.{no_window}
use Rattle.exec_paint.specs.declared.layer.Layer.{Layer}

-- the window that a layer names by its place
abbrev pub window_at : List Win → Layer → Win
window_at ws layer = slice_index_or ws layer.at no_window

-- the windows that layers name
abbrev pub windows_in : List Win → List Layer → List Win
windows_in ws layers = map (window_at ws) layers

-- what is kept of a window beside its place is where it lies and what it may paint
pub record IsLayer (screen : Rect) (ws : List Win) (layer : Layer) : Type 0 where
  pub at : layer.at < length ws
  pub corner : layer.corner ≡ corner_in ws (window_at ws layer)
  pub clip : layer.clip ≡ clip_in screen ws (window_at ws layer)

-- the colour of a point over which a window paints, if its clip has the point
abbrev pub over_window : Looks → Win → Point → ℕ → ℕ
over_window looks w p behind = if has (looks.clip w) p then looks.paint w p behind else behind
