-- Which windows see a point, and that the painter's colour there depends on them alone.
use Rattle.std.proofs.Common.{◌≡◌, ℕ, zero, suc, ◌+◌, Bool, true, false, cond, ◌||◌, ◌&&◌, List, [], ◌∷◌, ◌++◌, length, drop, Option, Some, None, refl, ap, ◌∙◌, inl, inr, arith}
use Rattle.std.specs.Prelude.{unwrap_or, is_some, not, slice_get}
use Rattle.std.specs.List.{list_any}
use Rattle.std.proofs.lemmas.Bool.{cases_Bool, or_parts}
use Rattle.gfx_base.specs.declared.point.Point.{Point}
use Rattle.gfx_base.specs.declared.rect.Rect.{Rect}
use Rattle.gfx_base.specs.Rects.{has}
use Rattle.paint_ops.specs.Kinds.{Assets}
use Rattle.paint_ops.specs.Operations.{or_behind, seen_from, colour_of_operations}
use Rattle.scene.specs.declared.win.Win.{Win}
use Rattle.scene.specs.Clips.{corner_in}
use Rattle.scene.specs.Painting.{Looks, windows_at, hides_behind, visible, painted_over, painted}
use Rattle.scene.specs.Damage.{is_invalid_at, is_seen, windows_seeing, in_patch, in_patch_at, is_damaged}
use Rattle.scene.specs.Looks.{class_of, inputs_of, looks_of}

-- ---- the windows that see a point

-- where none of them hides what is behind it, all are visible
pub visible-all : (looks : Looks) (ws : List Win) → hides_behind looks ws ≡ false → visible looks ws ≡ ws
visible-all looks [] none = refl
visible-all looks (w ∷ ws) none = let parts = or_parts (looks.is_opaque w) (hides_behind looks ws) none in rw parts.1 refl

pub windows_seeing-visible : (looks : Looks) (ws : List Win) (p : Point) → windows_seeing looks ws p ≡ visible looks (windows_at looks ws p)
windows_seeing-visible looks [] p = refl
windows_seeing-visible looks (w ∷ ws) p =
    elim (cases_Bool (has (looks.clip w) p)) [
      | inl here ↦
          elim (cases_Bool (hides_behind looks (windows_at looks ws p))) [
            | inl hidden ↦ rw (here, hidden) (windows_seeing-visible looks ws p)
            | inr clear ↦ rw (here, clear) (ap (λ (vs : List Win). w ∷ vs) (windows_seeing-visible looks ws p ∙ visible-all looks (windows_at looks ws p) clear))
          ]
      | inr away ↦ rw away (windows_seeing-visible looks ws p)
    ]

is_damaged-seeing : (looks : Looks) (ws : List Win) (p : Point) → is_damaged looks ws p ≡ list_any (is_invalid_at p) (windows_seeing looks ws p)
is_damaged-seeing looks [] p = refl
is_damaged-seeing looks (w ∷ ws) p =
    elim (cases_Bool (is_seen looks w ws p)) [
      | inl seen ↦ rw seen (ap (λ (b : Bool). is_invalid_at p w || b) (is_damaged-seeing looks ws p))
      | inr hidden ↦ rw hidden (is_damaged-seeing looks ws p)
    ]

-- a point is damaged where a visible window is invalid
pub is_damaged-visible : (looks : Looks) (ws : List Win) (p : Point) → is_damaged looks ws p ≡ list_any (is_invalid_at p) (visible looks (windows_at looks ws p))
is_damaged-visible looks ws p = is_damaged-seeing looks ws p ∙ ap (list_any (is_invalid_at p)) (windows_seeing-visible looks ws p)

-- ---- the patch of a window by its place

pub in_patch_at-get : (looks : Looks) (ws : List Win) (which : ℕ) (w : Win) (p : Point) → slice_get ws which ≡ Some w → in_patch_at looks ws which p ≡ in_patch looks w (drop (which + 1) ws) p
in_patch_at-get looks [] which w p at = absurd cc
in_patch_at-get looks (v ∷ ws) zero w p at = let same : v ≡ w = cc in ap (λ (u : Win). in_patch looks u ws p) same
in_patch_at-get looks (v ∷ ws) (suc which) w p at =
    let next : suc (which + 1) ≡ suc which + 1 = omega arith in
    in_patch_at-get looks ws which w p at ∙ ap (λ (n : ℕ). in_patch looks w (drop n (v ∷ ws)) p) next

pub in_patch_at-parts : (looks : Looks) (before : List Win) (w : Win) (after : List Win) (p : Point) → in_patch_at looks (before ++ w ∷ after) (length before) p ≡ in_patch looks w after p
in_patch_at-parts looks [] w after p = refl
in_patch_at-parts looks (v ∷ before) w after p = in_patch_at-parts looks before w after p

-- ---- the painter's colour

-- a window that hides what is behind it leaves the same colour over any
abbrev pub Hides : Looks → Point → Type 0
Hides looks p = (w : Win) (c d : ℕ) → looks.is_opaque w ≡ true → looks.paint w p c ≡ looks.paint w p d

hidden_colour : (looks : Looks) (ws : List Win) (p : Point) (a b : ℕ) → Hides looks p → hides_behind looks ws ≡ true → painted_over looks p a ws ≡ painted_over looks p b ws
hidden_colour looks [] p a b hides hidden = absurd (cc hidden)
hidden_colour looks (w ∷ ws) p a b hides hidden =
    elim (cases_Bool (looks.is_opaque w)) [
      | inl opaque ↦ ap (λ (c : ℕ). painted_over looks p c ws) (hides w a b opaque)
      | inr trans ↦ hidden_colour looks ws p (looks.paint w p a) (looks.paint w p b) hides (rw trans at hidden)
    ]

pub painted_over-visible : (looks : Looks) (ws : List Win) (p : Point) (behind : ℕ) → Hides looks p → painted_over looks p behind ws ≡ painted_over looks p behind (visible looks ws)
painted_over-visible looks [] p behind hides = refl
painted_over-visible looks (w ∷ ws) p behind hides =
    elim (cases_Bool (hides_behind looks ws)) [
      | inl hidden ↦ rw hidden (hidden_colour looks ws p (looks.paint w p behind) behind hides hidden ∙ painted_over-visible looks ws p behind hides)
      | inr seen ↦ rw seen refl
    ]

-- where there is a colour behind the operations, nothing behind that is seen
same_over : (back drawn : Option ℕ) (opaque : Bool) (c d : ℕ) → opaque && is_some back ≡ true → unwrap_or (or_behind (cond (opaque && is_some back) back None) drawn) c ≡ unwrap_or (or_behind (cond (opaque && is_some back) back None) drawn) d
same_over back (Some colour) opaque c d e = refl
same_over None None true c d e = absurd cc
same_over None None false c d e = absurd cc
same_over (Some back) None true c d e = refl
same_over (Some back) None false c d e = absurd cc

pub hides : (assets : Assets) (screen : Rect) (ws : List Win) (p : Point) → Hides (looks_of assets screen ws) p
hides assets screen ws p w c d opaque =
    same_over (class_of assets w).back (colour_of_operations assets (inputs_of w) (class_of assets w).ops (seen_from (corner_in ws w) p)) (not w.trans) c d opaque

pub painted-visible : (assets : Assets) (screen : Rect) (ws : List Win) (p : Point)
    → painted (looks_of assets screen ws) ws p ≡ painted_over (looks_of assets screen ws) p 0 (visible (looks_of assets screen ws) (windows_at (looks_of assets screen ws) ws p))
painted-visible assets screen ws p =
    let looks = looks_of assets screen ws in
    painted_over-visible looks (windows_at looks ws p) p 0 (hides assets screen ws p)
