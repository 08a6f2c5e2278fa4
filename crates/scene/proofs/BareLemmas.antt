-- Windows that differ in what is invalid alone: they lie where they lay and paint what they painted. A job leaves such windows.
use Rattle.std.proofs.Common.{◌≡◌, ℕ, Bool, true, false, ◌&&◌, ◌||◌, List, [], ◌∷◌, ◌++◌, length, map, None, refl, sym, ap, ◌∙◌, inl, inr}
use Rattle.std.specs.Prelude.{not}
use Rattle.std.proofs.lemmas.Bool.{cases_Bool, and_right}
use Rattle.std.proofs.lemmas.List.{length-map}
use Rattle.gfx_base.specs.declared.point.Point.{Point}
use Rattle.gfx_base.specs.declared.rect.Rect.{Rect}
use Rattle.gfx_base.specs.Rects.{has, is_empty, meet}
use Rattle.paint_ops.specs.Kinds.{Assets}
use Rattle.scene.specs.declared.win.Win.{Win}
use Rattle.scene.specs.Places.{Place, place_of}
use Rattle.scene.specs.Clips.{clip_in}
use Rattle.scene.specs.Painting.{Looks, windows_at, hides_behind, painted_over, painted}
use Rattle.scene.specs.Damage.{is_invalid_at, is_seen, in_patch, in_patch_at, is_damaged, with_invalid, invalidated, area_invalidated}
use Rattle.scene.specs.Looks.{is_opaque, looks_of}
use Rattle.scene.proofs.PlaceLemmas.{place_at-same}
use Rattle.scene.proofs.VisibleLemmas.{in_patch_at-parts}
use Rattle.scene.proofs.AreaLemmas.{looks_of-found}

-- the window, whatever of it is invalid
abbrev pub bare : Win → Win
bare w = with_invalid w None

places-bare : (ws : List Win) → map place_of (map bare ws) ≡ map place_of ws
places-bare [] = refl
places-bare (w ∷ ws) = ap (λ (qs : List Place). place_of w ∷ qs) (places-bare ws)

pub places-same : (ws vs : List Win) → map bare vs ≡ map bare ws → map place_of vs ≡ map place_of ws
places-same ws vs e = sym (places-bare vs) ∙ ap (map place_of) e ∙ places-bare ws

pub looks-same : (assets : Assets) (screen : Rect) (ws vs : List Win) → map bare vs ≡ map bare ws → looks_of assets screen vs ≡ looks_of assets screen ws
looks-same assets screen ws vs e = looks_of-found assets screen vs ws (place_at-same vs ws (places-same ws vs e))

pub length-same : (ws vs : List Win) → map bare vs ≡ map bare ws → length vs ≡ length ws
length-same ws vs e = sym (length-map vs bare) ∙ ap length e ∙ length-map ws bare

bare-invalidated : (clip area : Rect) (w : Win) → bare (invalidated clip area w) ≡ bare w
bare-invalidated clip area w =
    elim (cases_Bool (is_empty (meet area clip))) [
      | inl e ↦ rw e refl
      | inr e ↦ rw e refl
    ]

pub bare-area : (clip : Win → Rect) (area : Rect) (ws : List Win) → map bare (area_invalidated clip area ws) ≡ map bare ws
bare-area clip area [] = refl
bare-area clip area (w ∷ ws) = ap (λ (v : Win). v ∷ map bare (area_invalidated clip area ws)) (bare-invalidated (clip w) area w) ∙ ap (λ (vs : List Win). bare w ∷ vs) (bare-area clip area ws)

-- ---- what they paint

painted_over-bare : (assets : Assets) (screen : Rect) (us : List Win) (p : Point) (behind : ℕ) (ws : List Win)
    → painted_over (looks_of assets screen us) p behind (windows_at (looks_of assets screen us) (map bare ws) p) ≡ painted_over (looks_of assets screen us) p behind (windows_at (looks_of assets screen us) ws p)
painted_over-bare assets screen us p behind [] = refl
painted_over-bare assets screen us p behind (w ∷ ws) =
    elim (cases_Bool (has (clip_in screen us w) p)) [
      | inl here ↦ rw here (painted_over-bare assets screen us p ((looks_of assets screen us).paint w p behind) ws)
      | inr away ↦ rw away (painted_over-bare assets screen us p behind ws)
    ]

pub painted-same : (assets : Assets) (screen : Rect) (ws vs : List Win) (p : Point) → map bare vs ≡ map bare ws → painted (looks_of assets screen vs) vs p ≡ painted (looks_of assets screen ws) ws p
painted-same assets screen ws vs p e =
    ap (λ (looks : Looks). painted looks vs p) (looks-same assets screen ws vs e)
    ∙ sym (painted_over-bare assets screen ws p 0 vs)
    ∙ ap (λ (us : List Win). painted (looks_of assets screen ws) us p) e
    ∙ painted_over-bare assets screen ws p 0 ws

-- ---- a job

pub bare-parts : (before : List Win) (w : Win) (after : List Win) → map bare (before ++ bare w ∷ after) ≡ map bare (before ++ w ∷ after)
bare-parts [] w after = refl
bare-parts (v ∷ before) w after = ap (λ (vs : List Win). bare v ∷ vs) (bare-parts before w after)

hides_behind-parts : (assets : Assets) (screen : Rect) (us before : List Win) (w : Win) (after : List Win) (p : Point)
    → hides_behind (looks_of assets screen us) (windows_at (looks_of assets screen us) (before ++ bare w ∷ after) p) ≡ hides_behind (looks_of assets screen us) (windows_at (looks_of assets screen us) (before ++ w ∷ after) p)
hides_behind-parts assets screen us [] w after p =
    elim (cases_Bool (has (clip_in screen us w) p)) [
      | inl here ↦ rw here refl
      | inr away ↦ rw away refl
    ]
hides_behind-parts assets screen us (v ∷ before) w after p =
    elim (cases_Bool (has (clip_in screen us v) p)) [
      | inl here ↦ rw here (ap (λ (b : Bool). is_opaque assets v || b) (hides_behind-parts assets screen us before w after p))
      | inr away ↦ rw away (hides_behind-parts assets screen us before w after p)
    ]

patch_first : (a b c : Bool) → (a || (b || c)) ≡ (b || (a || c))
patch_first true true c = refl
patch_first true false c = refl
patch_first false b c = refl

-- by the looks of any list
is_damaged-parts : (assets : Assets) (screen : Rect) (us before : List Win) (w : Win) (after : List Win) (p : Point)
    → is_damaged (looks_of assets screen us) (before ++ w ∷ after) p ≡ (in_patch (looks_of assets screen us) w after p || is_damaged (looks_of assets screen us) (before ++ bare w ∷ after) p)
is_damaged-parts assets screen us [] w after p =
    let looks = looks_of assets screen us in
    let none : in_patch looks (bare w) after p ≡ false = and_right (is_seen looks w after p) false refl in
    rw none refl
is_damaged-parts assets screen us (v ∷ before) w after p =
    let looks = looks_of assets screen us in
    let same : in_patch looks v (before ++ bare w ∷ after) p ≡ in_patch looks v (before ++ w ∷ after) p = ap (λ (b : Bool). (has (looks.clip v) p && not b) && is_invalid_at p v) (hides_behind-parts assets screen us before w after p) in
    ap (λ (b : Bool). in_patch looks v (before ++ w ∷ after) p || b) (is_damaged-parts assets screen us before w after p)
    ∙ patch_first (in_patch looks v (before ++ w ∷ after) p) (in_patch looks w after p) (is_damaged looks (before ++ bare w ∷ after) p)
    ∙ ap (λ (b : Bool). in_patch looks w after p || (b || is_damaged looks (before ++ bare w ∷ after) p)) (sym same)

-- before the job of a window what was damaged lies in its patch or is damaged after it
pub is_damaged-job : (assets : Assets) (screen : Rect) (before : List Win) (w : Win) (after : List Win) (p : Point)
    → is_damaged (looks_of assets screen (before ++ w ∷ after)) (before ++ w ∷ after) p
    ≡ (in_patch_at (looks_of assets screen (before ++ w ∷ after)) (before ++ w ∷ after) (length before) p || is_damaged (looks_of assets screen (before ++ bare w ∷ after)) (before ++ bare w ∷ after) p)
is_damaged-job assets screen before w after p =
    let ws = before ++ w ∷ after in
    let vs = before ++ bare w ∷ after in
    let looks = looks_of assets screen ws in
    is_damaged-parts assets screen ws before w after p
    ∙ ap (λ (b : Bool). b || is_damaged looks vs p) (sym (in_patch_at-parts looks before w after p))
    ∙ ap (λ (now : Looks). in_patch_at looks ws (length before) p || is_damaged now vs p) (sym (looks-same assets screen ws vs (bare-parts before w after)))

pub painted-job : (assets : Assets) (screen : Rect) (before : List Win) (w : Win) (after : List Win) (p : Point)
    → painted (looks_of assets screen (before ++ bare w ∷ after)) (before ++ bare w ∷ after) p ≡ painted (looks_of assets screen (before ++ w ∷ after)) (before ++ w ∷ after) p
painted-job assets screen before w after p = painted-same assets screen (before ++ w ∷ after) (before ++ bare w ∷ after) p (bare-parts before w after)
