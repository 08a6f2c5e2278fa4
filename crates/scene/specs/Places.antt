-- What of a window tells where it lies.
use Rattle.std.specs.Prelude.{ℕ, ◌+◌, ◌≤◌, ℤ, pos, Bool, false, ◌==◌, if◌then◌else◌, List, [], ◌∷◌, find, option_map, Option, None}
use Rattle.scene.specs.declared.win.Win.{Win}

-- where a window lies in its parent, and whether it is shown
pub record Place : Type 0 where
  pub handle : ℕ
  pub parent : ℕ
  pub x : ℤ
  pub y : ℤ
  pub w : ℕ
  pub h : ℕ
  pub shown : Bool

-- where the window lies
abbrev pub place_of : Win → Place
place_of w =
    record {
      handle = w.handle;
      parent = w.parent;
      x = w.x;
      y = w.y;
      w = w.w;
      h = w.h;
      shown = w.shown;
    }

-- the first window that has the handle
abbrev pub window_of : List Win → ℕ → Option Win
window_of ws handle = find (λ w. w.handle == handle) ws

-- where the window that has the handle lies
abbrev pub place_at : List Win → ℕ → Option Place
place_at ws handle = option_map place_of (window_of ws handle)

-- where the parent lies, if it is found; the desktop has none
abbrev pub parent_in : (ℕ → Option Place) → Place → Option Place
parent_in found q = if q.parent == 0 then None else found q.parent

-- how many of the windows have the handle
abbrev pub number_of : ℕ → List Win → ℕ
number_of handle [] = 0
number_of handle (w ∷ ws) = (if w.handle == handle then 1 else 0) + number_of handle ws

-- no handle stands twice
abbrev pub AreSingle : List Win → Type 0
AreSingle ws = (handle : ℕ) → number_of handle ws ≤ 1

-- what stands for a window where there is none
abbrev pub no_window : Win
no_window = record {
  handle = 0;
  parent = 0;
  x = pos 0;
  y = pos 0;
  w = 0;
  h = 0;
  shown = false;
  class = 0;
  trans = false;
  memdev = false;
  values = [];
  invalid = None;
}
