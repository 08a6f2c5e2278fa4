-- The path of open ancestors, by which the spots of all windows are told in one pass.
use Rattle.std.specs.Prelude.{◌≡◌, ℕ, suc, ◌≤◌, List, [], ◌∷◌, Option, Some}
use Rattle.gfx_base.specs.declared.rect.Rect.{Rect}
use Rattle.scene.specs.declared.place.Spot.{Spot}
use Rattle.scene.specs.declared.ancestors.Ancestor.{Ancestor}
use Rattle.scene.specs.Places.{Place}
use Rattle.scene.specs.Clips.{FitsLevels, corner_from, corner_of, clip_from, clip_of}

-- a place has so many ancestors, itself among them, that its corner and clip are told: more make no
-- difference
pub record IsSettled (found : ℕ → Option Place) (screen : Rect) (level : ℕ) (q : Place)
    (spot : Spot) : Type 0 where
  pub corner : (n : ℕ) → level ≤ n → corner_of n found q ≡ spot.corner
  pub clip : (n : ℕ) → level ≤ n → clip_of n screen found q ≡ spot.clip
  pub fits : FitsLevels level spot.corner

-- a place that lies in the spot is settled one level below it
pub record IsOuter (found : ℕ → Option Place) (screen : Rect) (level : ℕ) (q : Place)
    (outer : Spot) : Type 0 where
  pub corner : (n : ℕ) → level ≤ n → corner_from q outer.corner ≡ corner_of (suc n) found q
  pub clip : (n : ℕ) → level ≤ n
      → clip_from q (corner_of (suc n) found q) outer.clip ≡ clip_of (suc n) screen found q
  pub fits : FitsLevels level outer.corner

-- the ancestor is the window of its handle, on that level
pub record IsOnLevel (found : ℕ → Option Place) (screen : Rect) (level : ℕ)
    (a : Ancestor) : Type 0 where
  pub place : Place
  pub is_found : found a.handle ≡ Some place
  pub settled : IsSettled found screen level place a.spot

-- ancestors from that level on, one below the other
abbrev pub AreOnLevels : (ℕ → Option Place) → Rect → ℕ → List Ancestor → Type 0
AreOnLevels found screen level [] = Unit {0}
AreOnLevels found screen level (a ∷ path) =
    IsOnLevel found screen level a × AreOnLevels found screen (suc level) path
