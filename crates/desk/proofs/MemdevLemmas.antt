-- Whether windows are composed aside changes nothing of what is to be seen.
use Rattle.std.proofs.Common.{◌≡◌, ℕ, Bool, cond, eqb, List, [], ◌∷◌, map, Option, refl, sym, ap, ◌∙◌, inl, inr}
use Rattle.std.specs.Prelude.{◌&&◌, not, unwrap_or}
use Rattle.std.proofs.lemmas.Bool.{cases_Bool}
use Rattle.gfx_base.specs.declared.point.Point.{Point}
use Rattle.gfx_base.specs.declared.rect.Rect.{Rect}
use Rattle.gfx_base.specs.Rects.{has}
use Rattle.paint_ops.specs.Kinds.{Assets}
use Rattle.scene.specs.declared.win.Win.{Win}
use Rattle.paint_ops.specs.Operations.{seen_from}
use Rattle.scene.specs.Looks.{is_opaque, colour_in_window, looks_of}
use Rattle.scene.specs.Places.{Place, place_of, place_at}
use Rattle.scene.specs.Clips.{deepest_level, clip_of, corner_of}
use Rattle.scene.specs.Painting.{Looks, windows_at, hides_behind, painted_over}
use Rattle.scene.specs.Damage.{is_invalid_at, is_seen, is_damaged}
use Rattle.scene.specs.Changes.{DamageCovers}
use Rattle.scene.specs.Families.{window_changed}
use Rattle.scene.proofs.CallerLemmas.{place_at-same}
use Rattle.desk.specs.Windows.{with_memdev}
use Rattle.desk.proofs.BoneLemmas.{places_memdev}

-- a change of windows of which nothing is seen
record Unseen (looks : Looks) (p : Point) (f : Win → Win) : Type 0 where
  clip : (w : Win) → has (looks.clip (f w)) p ≡ has (looks.clip w) p
  opaque : (w : Win) → looks.is_opaque (f w) ≡ looks.is_opaque w
  paint : (w : Win) (behind : ℕ) → looks.paint (f w) p behind ≡ looks.paint w p behind
  invalid : (w : Win) → is_invalid_at p (f w) ≡ is_invalid_at p w

windows-unseen : (looks : Looks) (p : Point) (f : Win → Win) (u : Unseen looks p f) (ws : List Win) → windows_at looks (map f ws) p ≡ map f (windows_at looks ws p)
windows-unseen looks p f u [] = refl
windows-unseen looks p f u (w ∷ ws) =
    elim (cases_Bool (has (looks.clip w) p)) [
      | inl here ↦ rw (u.clip w, here) (ap (λ (vs : List Win). f w ∷ vs) (windows-unseen looks p f u ws))
      | inr away ↦ rw (u.clip w, away) (windows-unseen looks p f u ws)
    ]

hides-unseen : (looks : Looks) (p : Point) (f : Win → Win) (u : Unseen looks p f) (ws : List Win) → hides_behind looks (map f ws) ≡ hides_behind looks ws
hides-unseen looks p f u [] = refl
hides-unseen looks p f u (w ∷ ws) = rw (u.opaque w, hides-unseen looks p f u ws) refl

painted-unseen : (looks : Looks) (p : Point) (f : Win → Win) (u : Unseen looks p f) (behind : ℕ) (ws : List Win) → painted_over looks p behind (map f ws) ≡ painted_over looks p behind ws
painted-unseen looks p f u behind [] = refl
painted-unseen looks p f u behind (w ∷ ws) = ap (λ (n : ℕ). painted_over looks p n (map f ws)) (u.paint w behind) ∙ painted-unseen looks p f u (looks.paint w p behind) ws

seen-unseen : (looks : Looks) (p : Point) (f : Win → Win) (u : Unseen looks p f) (w : Win) (above : List Win) → is_seen looks (f w) (map f above) p ≡ is_seen looks w above p
seen-unseen looks p f u w above =
    ap (λ (b : Bool). b && not (hides_behind looks (windows_at looks (map f above) p))) (u.clip w)
    ∙ ap (λ (b : Bool). has (looks.clip w) p && not b) (ap (hides_behind looks) (windows-unseen looks p f u above) ∙ hides-unseen looks p f u (windows_at looks above p))

damaged-unseen : (looks : Looks) (p : Point) (f : Win → Win) (u : Unseen looks p f) (ws : List Win) → is_damaged looks (map f ws) p ≡ is_damaged looks ws p
damaged-unseen looks p f u [] = refl
damaged-unseen looks p f u (w ∷ ws) = rw (seen-unseen looks p f u w ws, u.invalid w, damaged-unseen looks p f u ws) refl

-- ---- windows that lie where others lie

abbrev looks_by : Assets → Rect → (ℕ → Option Place) → Looks
looks_by assets screen found = record {
  clip = λ w. clip_of deepest_level screen found (place_of w);
  is_opaque = is_opaque assets;
  paint = λ w p behind. unwrap_or (colour_in_window assets w (seen_from (corner_of deepest_level found (place_of w)) p)) behind;
}

looks_of-found : (assets : Assets) (screen : Rect) (ws vs : List Win) → place_at ws ≡ place_at vs → looks_of assets screen ws ≡ looks_of assets screen vs
looks_of-found assets screen ws vs e = ap (looks_by assets screen) e

-- ---- the flag

abbrev flagged : ℕ → Bool → Win → Win
flagged h memdev w = cond (eqb w.handle h) (with_memdev memdev w) w

flag_unseen : (assets : Assets) (screen : Rect) (us : List Win) (p : Point) (h : ℕ) (memdev : Bool) → Unseen (looks_of assets screen us) p (flagged h memdev)
flag_unseen assets screen us p h memdev = record {
  clip = λ w. elim (cases_Bool (eqb w.handle h)) [ inl at ↦ rw at refl | inr off ↦ rw off refl ];
  opaque = λ w. elim (cases_Bool (eqb w.handle h)) [ inl at ↦ rw at refl | inr off ↦ rw off refl ];
  paint = λ w behind. elim (cases_Bool (eqb w.handle h)) [ inl at ↦ rw at refl | inr off ↦ rw off refl ];
  invalid = λ w. elim (cases_Bool (eqb w.handle h)) [ inl at ↦ rw at refl | inr off ↦ rw off refl ];
}

covers_here : (assets : Assets) (screen : Rect) (ws : List Win) (h : ℕ) (memdev : Bool) (p : Point) → DamageCovers (looks_of assets screen ws) ws (looks_of assets screen ws) (map (flagged h memdev) ws) p
covers_here assets screen ws h memdev p =
    let looks = looks_of assets screen ws in
    let u = flag_unseen assets screen ws p h memdev in
    let f : Win → Win = flagged h memdev in
    record {
      stays = λ fine. sym (damaged-unseen looks p f u ws) ∙ fine;
      covers = λ fine. ap (painted_over looks p 0) (windows-unseen looks p f u ws) ∙ painted-unseen looks p f u 0 (windows_at looks ws p);
    }

pub memdev_covers : (assets : Assets) (screen : Rect) (ws : List Win) (h : ℕ) (memdev : Bool) (p : Point) → let vs = window_changed h (with_memdev memdev) ws in DamageCovers (looks_of assets screen ws) ws (looks_of assets screen vs) vs p
unfolding window_changed
memdev_covers assets screen ws h memdev p =
    let vs = map (flagged h memdev) ws in
    rw (looks_of-found assets screen vs ws (place_at-same vs ws (places_memdev h memdev ws))) (covers_here assets screen ws h memdev p)
