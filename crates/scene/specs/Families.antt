-- Families of windows in a list from back to front, and what each call does to the list.
use Rattle.std.specs.Prelude.{◌≡◌, ℕ, zero, suc, Bool, true, false, ◌&&◌, ◌||◌, not, if◌then◌else◌, ◌==◌, ℤ, pos, List, [], ◌∷◌, ◌++◌, map, filter, replicate, Option, Some, None, option_map, unwrap_or}
use Rattle.std.specs.List.{list_any}
use Rattle.gfx_base.specs.declared.rect.Rect.{Rect}
use Rattle.scene.specs.declared.win.Win.{Win}
use Rattle.scene.specs.Places.{Place, window_of, parent_in}

-- ---- families

-- whether one of the windows has the handle
abbrev pub has_handle : ℕ → List Win → Bool
has_handle handle ws = list_any (λ w. w.handle == handle) ws

-- whether a window belongs to the family of the one that has the handle, of which these were found
-- before: it is that one, or a child of one that was found
abbrev pub belongs : ℕ → List Win → Win → Bool
belongs handle found w = (w.handle == handle) || has_handle w.parent found

-- the windows of the family that were found before, and then those of the list
abbrev pub family_from : ℕ → List Win → List Win → List Win
family_from handle found [] = found
family_from handle found (w ∷ ws) =
    family_from handle (if belongs handle found w then found ++ w ∷ [] else found) ws

-- the window that has the handle, and its descendants
abbrev pub family_of : ℕ → List Win → List Win
family_of handle ws = family_from handle [] ws

-- whether the window is one of the family
abbrev pub is_in : List Win → Win → Bool
is_in family w = has_handle w.handle family

-- the handle of the window's parent
unfoldable pub parent_of : ℕ → List Win → ℕ
parent_of handle ws = unwrap_or (option_map (λ w. w.parent) (window_of ws handle)) 0

-- a block of windows stands in one piece in a list, and without it the rest is left
pub record StandsIn (block rest ws : List Win) : Type 0 where
  pub before : List Win
  pub after : List Win
  pub whole : ws ≡ before ++ (block ++ after)
  pub left : rest ≡ before ++ after

-- where the ancestors of a window lie, so many at most, from its parent up
abbrev pub places_above : ℕ → (ℕ → Option Place) → Place → List Place
places_above zero found q = []
places_above (suc n) found q =
    unwrap_or (option_map (λ p. p ∷ places_above n found p) (parent_in found q)) []

-- ---- what calls do to the list

-- other windows put in right after the last one that passes
abbrev pub after_last : (Win → Bool) → List Win → List Win → List Win
after_last test more [] = []
after_last test more (w ∷ ws) =
    if test w && not (list_any test ws) then w ∷ (more ++ ws) else w ∷ after_last test more ws

-- without a window and its descendants
unfoldable pub without_family : ℕ → List Win → List Win
without_family handle ws = filter (λ w. not (is_in (family_of handle ws) w)) ws

-- with other windows on top of a window's children: after the last of its family
unfoldable pub on_top_of : ℕ → List Win → List Win → List Win
on_top_of handle more ws = after_last (is_in (family_of handle ws)) more ws

-- with other windows below a window's children: right after it
unfoldable pub right_after : ℕ → List Win → List Win → List Win
right_after handle more ws = after_last (λ w. w.handle == handle) more ws

-- with a window as the topmost of its siblings, and its descendants with it
unfoldable pub raised : ℕ → List Win → List Win
raised handle ws =
    on_top_of (parent_of handle ws) (family_of handle ws) (without_family handle ws)

-- with a window as the lowest of its siblings, and its descendants with it
unfoldable pub lowered : ℕ → List Win → List Win
lowered handle ws =
    right_after (parent_of handle ws) (family_of handle ws) (without_family handle ws)

-- with the window that has the handle changed
unfoldable pub window_changed : ℕ → (Win → Win) → List Win → List Win
window_changed handle change ws = map (λ w. if w.handle == handle then change w else w) ws

-- ---- what calls do to a window

-- a new window: shown, not transparent, and nowhere invalid
abbrev pub new_window : ℕ → ℕ → ℤ → ℤ → ℕ → ℕ → ℕ → Win
new_window handle parent x y w h class = record {
  handle = handle;
  parent = parent;
  x = x;
  y = y;
  w = w;
  h = h;
  shown = true;
  class = class;
  trans = false;
  memdev = false;
  values = replicate 16 (pos 0);
  invalid = None;
}

-- the desktop of these sides, which is wholly invalid
abbrev pub desktop_with : ℕ → ℕ → Rect → Win
desktop_with width height screen =
    record (new_window 1 0 (pos 0) (pos 0) width height 0) { invalid = Some screen }

abbrev pub moved_to : ℤ → ℤ → Win → Win
moved_to x y w = record w { x = x; y = y }

abbrev pub resized_to : ℕ → ℕ → Win → Win
resized_to width height w = record w { w = width; h = height }

abbrev pub with_shown : Bool → Win → Win
with_shown shown w = record w { shown = shown }
