-- What is true of the windows of every tree, from back to front.
use Rattle.std.specs.Prelude.{◌≡◌, ◌≢◌, ◌≤◌, ◌<◌, ℕ, zero, suc, Bool, true, false, ◌||◌, if◌then◌else◌, ◌==◌, nat_lt, pos, List, [], ◌∷◌, length, option_map, unwrap_or}
use Rattle.std.specs.List.{AllByRecursion}
use Rattle.gfx_base.specs.declared.rect.Rect.{Rect}
use Rattle.gfx_base.specs.Rects.{is_empty, no_points}
use Rattle.scene.specs.declared.win.Win.{Win}
use Rattle.scene.specs.Places.{window_of, AreSingle}
use Rattle.scene.specs.Looks.{screen_with}

-- ---- each window by itself

-- whether a window can't have these sides, each from 1 to 4,096 points
abbrev pub is_bad_size : ℕ → ℕ → Bool
is_bad_size w h = (w == 0 || h == 0) || (nat_lt 4096 w || nat_lt 4096 h)

-- whether the window has an invalid rectangle without a point
abbrev pub is_invalid_nowhere : Win → Bool
is_invalid_nowhere w = unwrap_or (option_map is_empty w.invalid) false

-- the window has a handle, sides from 1 to 4,096 points, and no invalid rectangle that is empty
pub record IsWindow (w : Win) : Type 0 where
  pub handle : 0 < w.handle
  pub some_width : 1 ≤ w.w
  pub width : w.w ≤ 4096
  pub some_height : 1 ≤ w.h
  pub height : w.h ≤ 4096
  pub invalid : is_invalid_nowhere w ≡ false

-- the desktop lies at the screen's corner, has a screen's size of at most 1,024 by 768 points, is
-- shown, and is of class 0 and not transparent
pub record IsDesktop (w : Win) : Type 0 where
  pub x : w.x ≡ pos 0
  pub y : w.y ≡ pos 0
  pub width : w.w ≤ 1024
  pub height : w.h ≤ 768
  pub shown : w.shown ≡ true
  pub class : w.class ≡ 0
  pub trans : w.trans ≡ false

-- the second window may stand in the place of the first: it has its handle and its parent, and what
-- each window has, also where it is the desktop
pub record MayBecome (w v : Win) : Type 0 where
  pub handle : v.handle ≡ w.handle
  pub parent : v.parent ≡ w.parent
  pub window : IsWindow v
  pub desktop : v.handle ≡ 1 → IsDesktop v

-- ---- levels

-- whether the window has so many ancestors at least
unfoldable pub has_ancestors : ℕ → List Win → Win → Bool
has_ancestors zero ws w = true
has_ancestors (suc n) ws w =
    unwrap_or (option_map (has_ancestors n ws) (window_of ws w.parent)) false

-- the window lies on one of the eight levels: it doesn't have eight ancestors
abbrev pub IsShallow : List Win → Win → Type 0
IsShallow ws w = has_ancestors 8 ws w ≡ false

-- ---- the order

-- the path from its first window on that has the handle
abbrev pub path_from : ℕ → List ℕ → List ℕ
path_from handle [] = []
path_from handle (h ∷ path) = if h == handle then h ∷ path else path_from handle path

-- Windows after one from which the path leads up to the desktop: the parent of each is on the path
-- of the one before. So each follows its parent, or a sibling with all that sibling's descendants.
abbrev pub AreInOrder : List ℕ → List Win → Type 0
AreInOrder path [] = Unit {0}
AreInOrder path (w ∷ ws) =
    (path_from w.parent path ≢ []) × AreInOrder (w.handle ∷ path_from w.parent path) ws

-- the desktop is first, and the others follow in order
abbrev pub BeginWithDesktop : List Win → Type 0
BeginWithDesktop [] = ⊥
BeginWithDesktop (w ∷ ws) =
    (w.handle ≡ 1) × (w.parent ≡ 0) × IsDesktop w × AreInOrder (1 ∷ []) ws

-- the screen that the desktop takes up, which is first
abbrev pub desktop_screen : List Win → Rect
desktop_screen [] = no_points
desktop_screen (w ∷ ws) = screen_with w.w w.h

-- ---- valid stacks

-- The windows are those of a tree from back to front: the desktop first, each parent before its
-- children, and each window with its descendants in one piece. No handle stands twice, there are at
-- most 256 windows, and they lie on at most eight levels.
pub record IsStack (ws : List Win) : Type 0 where
  pub order : BeginWithDesktop ws
  pub single : AreSingle ws
  pub few : length ws ≤ 256
  pub levels : AllByRecursion (IsShallow ws) ws
  pub windows : AllByRecursion IsWindow ws

-- so many handles were given out, from 1 on, and these are among them
abbrev pub AreGiven : ℕ → List Win → Type 0
AreGiven handles ws = AllByRecursion (λ w. w.handle ≤ handles) ws
