-- Changes of the list of windows, and what damage has to cover of them at one point of the screen.
use Rattle.std.specs.Prelude.{◌≡◌, ◌≢◌, ◌⊎◌, ℕ, zero, suc, Bool, true, false, ◌&&◌, ◌||◌, not, ◌==◌, List, Option, Some, None, filter}
use Rattle.std.specs.List.{list_any}
use Rattle.std.specs.Option.{option_map_or}
use Rattle.gfx_base.specs.declared.point.Point.{Point}
use Rattle.gfx_base.specs.declared.rect.Rect.{Rect}
use Rattle.gfx_base.specs.Rects.{has}
use Rattle.scene.specs.declared.win.Win.{Win}
use Rattle.scene.specs.Places.{Place, place_of, place_at}
use Rattle.paint_ops.specs.Kinds.{Assets}
use Rattle.scene.specs.Clips.{deepest_level, clip_of, clip_in}
use Rattle.scene.specs.Painting.{Looks, painted}
use Rattle.scene.specs.Damage.{is_invalid_at, is_damaged, with_invalid, areas_invalidated}
use Rattle.scene.specs.Looks.{looks_of}

-- At the point the damage covers the change from one list of windows to another: where it isn't
-- damaged now, it wasn't before, and the painter's colour is what it was.
pub record DamageCovers (before : Looks) (old : List Win) (now : Looks) (new : List Win)
    (p : Point) : Type 0 where
  pub stays : is_damaged now new p ≡ false → is_damaged before old p ≡ false
  pub covers : is_damaged now new p ≡ false → painted now new p ≡ painted before old p

-- whether one of the areas has the point
abbrev pub areas_have : List Rect → Point → Bool
areas_have areas p = list_any (λ area. has area p) areas

-- whether the clip of one of the windows has the point
abbrev pub clips_have : Looks → List Win → Point → Bool
clips_have looks ws p = list_any (λ w. has (looks.clip w) p) ws

-- the list with areas made invalid by its own clips
abbrev pub after_areas : Rect → List Rect → List Win → List Win
after_areas screen areas ws = areas_invalidated (clip_in screen ws) areas ws

-- At the point the damage covers the change of the list and of all that its windows paint, once the
-- areas are made invalid.
abbrev pub AreasCover : Assets → Rect → List Win → List Win → List Rect → Point → Type 0
AreasCover assets screen old new areas p =
    let after = after_areas screen areas new in
    DamageCovers (looks_of assets screen old) old (looks_of assets screen after) after p

-- ---- what handles find

-- what the handle finds, if anything, isn't at the point
abbrev pub IsAway : Rect → List Win → Point → ℕ → Type 0
IsAway screen ws p handle =
    (q : Place) → place_at ws handle ≡ Some q
    → has (clip_of deepest_level screen (place_at ws) q) p ≡ false

-- each handle finds what it found, or what isn't at the point, neither before nor now
abbrev pub FindAlike : Rect → List Win → List Win → Point → Type 0
FindAlike screen old new p =
    (handle : ℕ)
    → (place_at new handle ≡ place_at old handle)
    ⊎ (IsAway screen old p handle × IsAway screen new p handle)

-- whether a window lies below another one, whose handle this is, at most so many levels down: its
-- parent is that one, or lies below it
abbrev pub lies_below : ℕ → (ℕ → Option Place) → ℕ → Place → Bool
lies_below zero found handle q = false
lies_below (suc levels) found handle q =
    not (q.parent == 0) && ((q.parent == handle)
    || option_map_or (lies_below levels found handle) (found q.parent) false)

-- whether a window lies below the one of a list that has the handle
abbrev pub is_below : List Win → ℕ → Place → Bool
is_below ws handle q = lies_below deepest_level (place_at ws) handle q

-- whether the window has the handle, or lies below the one that has it
abbrev pub in_family : List Win → ℕ → Win → Bool
in_family ws handle w = (w.handle == handle) || is_below ws handle (place_of w)

-- what the handle finds, if anything, lies below the window that has the other handle
abbrev pub LiesBelow : List Win → ℕ → ℕ → Type 0
LiesBelow ws outer handle =
    (q : Place) → place_at ws handle ≡ Some q → is_below ws outer q ≡ true

-- ---- the lists that calls lead to

-- the list with one window more, which no handle found
pub record Adds (old new : List Win) (w : Win) : Type 0 where
  pub unknown : place_at old w.handle ≡ None
  pub found : place_at new w.handle ≡ Some (place_of w)
  pub others : (handle : ℕ) → handle ≢ w.handle → place_at new handle ≡ place_at old handle
  pub rest : (test : Win → Bool) → test w ≡ false → filter test new ≡ filter test old

-- a test that the window fails, and each that lies below it
abbrev pub Fails : List Win → Win → (Win → Bool) → Type 0
Fails ws w test =
    (test w ≡ false)
    × ((v : Win) → is_below ws w.handle (place_of v) ≡ true → test v ≡ false)

-- the list without a window and those below it
pub record TakesAway (old new : List Win) (w : Win) : Type 0 where
  pub known : place_at old w.handle ≡ Some (place_of w)
  pub gone : place_at new w.handle ≡ None
  pub others : (handle : ℕ) → handle ≢ w.handle
      → (place_at new handle ≡ place_at old handle)
      ⊎ ((place_at new handle ≡ None) × LiesBelow old w.handle handle)
  pub rest : (test : Win → Bool) → Fails old w test → filter test new ≡ filter test old

-- the list with one window changed in its place: it was the first one, and is the second
pub record Changes (old new : List Win) (w v : Win) : Type 0 where
  pub known : place_at old w.handle ≡ Some (place_of w)
  pub found : place_at new w.handle ≡ Some (place_of v)
  pub others : (handle : ℕ) → handle ≢ w.handle → place_at new handle ≡ place_at old handle
  pub rest : (test : Win → Bool) → test w ≡ false → test v ≡ false
      → filter test new ≡ filter test old

-- the list with a window and those below it at another place of the order
pub record Reorders (old new : List Win) (w : Win) : Type 0 where
  pub known : place_at old w.handle ≡ Some (place_of w)
  pub found : (handle : ℕ) → place_at new handle ≡ place_at old handle
  pub rest : (test : Win → Bool) → Fails old w test → filter test new ≡ filter test old

-- A window alone changes: it lies where it lay and is as opaque, and no point that was invalid is
-- valid now. At a point of its clip it is invalid, or nothing else of it changed.
pub record ChangesAlone (looks : Looks) (p : Point) (w v : Win) : Type 0 where
  pub place : place_of v ≡ place_of w
  pub opaque : looks.is_opaque v ≡ looks.is_opaque w
  pub grows : is_invalid_at p w ≡ true → is_invalid_at p v ≡ true
  pub covers : has (looks.clip w) p ≡ true
      → (is_invalid_at p v ≡ true) ⊎ (v ≡ with_invalid w v.invalid)
