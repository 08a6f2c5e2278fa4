-- What holds of windows whatever of them is invalid.
use Rattle.std.proofs.Common.{◌≡◌, ℕ, ◌≤◌, List, [], ◌∷◌, map, refl, sym, ap, subst, inl, inr, length, ◌∙◌}
use Rattle.std.specs.List.{AllByRecursion}
use Rattle.std.proofs.lemmas.Bool.{cases_Bool}
use Rattle.scene.specs.declared.win.Win.{Win}
use Rattle.gfx_base.specs.declared.rect.Rect.{Rect}
use Rattle.scene.specs.Damage.{invalidated, area_invalidated, areas_invalidated}
use Rattle.scene.proofs.CallerLemmas.{bare, bare-area, length-same}
use Rattle.invalidate.specs.Invalidation.{is_invalid}
use Rattle.desk.specs.Jobs.{windows_after_job}
use Rattle.desk.specs.Setups.{Setup}
use Rattle.desk.specs.Scenes.{HasClass}

-- what each window is but for its invalid rectangle, and how many there are
pub bare-job : (ws : List Win) → map bare (windows_after_job ws) ≡ map bare ws
bare-job [] = refl
bare-job (w ∷ ws) =
    elim (cases_Bool (is_invalid w)) [
      | inl invalid ↦ rw invalid refl
      | inr valid ↦ rw valid (ap (λ (vs : List Win). bare w ∷ vs) (bare-job ws))
    ]

-- what holds of windows whatever of them is invalid
pub record Ignores (P : Win → Type 0) : Type 0 where
  pub more : (w : Win) → P w → P (bare w)
  pub less : (w : Win) → P (bare w) → P w

all-bare : (P : Win → Type 0) (ws : List Win) → Ignores P → AllByRecursion P ws → AllByRecursion P (map bare ws)
all-bare P [] i all = tt
all-bare P (w ∷ ws) i all = (i.more w all.0, all-bare P ws i all.1)

all-from_bare : (P : Win → Type 0) (ws : List Win) → Ignores P → AllByRecursion P (map bare ws) → AllByRecursion P ws
all-from_bare P [] i all = tt
all-from_bare P (w ∷ ws) i all = (i.less w all.0, all-from_bare P ws i all.1)

pub all-same : (P : Win → Type 0) (ws vs : List Win) → Ignores P → map bare vs ≡ map bare ws → AllByRecursion P ws → AllByRecursion P vs
all-same P ws vs i e all = all-from_bare P vs i (subst (AllByRecursion P) (sym e) (all-bare P ws i all))

pub ignores_given : (handles : ℕ) → Ignores (λ w. w.handle ≤ handles)
ignores_given handles = record { more = λ w given. given; less = λ w given. given }

pub ignores_class : (setup : Setup) → Ignores (HasClass setup)
ignores_class setup = record { more = λ w is. is; less = λ w is. is }

pub bare_invalidated : (clip area : Rect) (w : Win) → bare (invalidated clip area w) ≡ bare w
bare_invalidated clip area w = let one : bare (invalidated clip area w) ∷ [] ≡ bare w ∷ [] = bare-area (λ v. clip) area (w ∷ []) in cc

pub length-windows_after_job : (ws : List Win) → length (windows_after_job ws) ≡ length ws
length-windows_after_job ws = length-same ws (windows_after_job ws) (bare-job ws)

pub areas_bare : (clip : Win → Rect) (areas : List Rect) (ws : List Win) → map bare (areas_invalidated clip areas ws) ≡ map bare ws
areas_bare clip [] ws = refl
areas_bare clip (area ∷ areas) ws = areas_bare clip areas (area_invalidated clip area ws) ∙ bare-area clip area ws
