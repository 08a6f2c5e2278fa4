-- Windows at a point before and now, one by one, and the damage that covers what changed.
use Rattle.std.proofs.Common.{◌≡◌, ℕ, true, false, List, [], ◌∷◌, refl, sym, ap, ◌∙◌, inl, inr}
use Rattle.std.specs.List.{list_any, AllZip}
use Rattle.std.proofs.lemmas.Bool.{cases_Bool, false_from_ne_true, or_parts, or_from, false≢true}
use Rattle.gfx_base.specs.declared.point.Point.{Point}
use Rattle.scene.specs.declared.win.Win.{Win}
use Rattle.scene.specs.Painting.{Looks, windows_at, hides_behind, visible, painted_over}
use Rattle.scene.specs.Damage.{is_invalid_at, is_damaged}
use Rattle.scene.specs.Changes.{DamageCovers}
use Rattle.scene.proofs.VisibleLemmas.{Hides, is_damaged-visible, painted_over-visible}

-- One window before and now: as opaque, invalid where it was, and where it isn't invalid now, it paints what it painted.
pub record Follows (before now : Looks) (p : Point) (old new : Win) : Type 0 where
  pub opaque : now.is_opaque new ≡ before.is_opaque old
  pub keeps : is_invalid_at p old ≡ true → is_invalid_at p new ≡ true
  pub covers : is_invalid_at p new ≡ false → (behind : ℕ) → now.paint new p behind ≡ before.paint old p behind

-- the same, window by window
abbrev pub AllFollow : Looks → Looks → Point → List Win → List Win → Type 0
AllFollow before now p ws vs = AllZip (Follows before now p) ws vs

hides_behind-follow : (before now : Looks) (p : Point) (ws vs : List Win) → AllFollow before now p ws vs → hides_behind now vs ≡ hides_behind before ws
hides_behind-follow before now p [] [] f = refl
hides_behind-follow before now p (w ∷ ws) (v ∷ vs) f = rw (f.0.opaque, hides_behind-follow before now p ws vs f.1) refl
hides_behind-follow before now p [] (v ∷ vs) f = absurd f
hides_behind-follow before now p (w ∷ ws) [] f = absurd f

visible-follow : (before now : Looks) (p : Point) (ws vs : List Win) → AllFollow before now p ws vs → AllFollow before now p (visible before ws) (visible now vs)
visible-follow before now p [] [] f = tt
visible-follow before now p (w ∷ ws) (v ∷ vs) f =
    elim (cases_Bool (hides_behind before ws)) [
      | inl e ↦ rw (hides_behind-follow before now p ws vs f.1, e) (visible-follow before now p ws vs f.1)
      | inr e ↦ rw (hides_behind-follow before now p ws vs f.1, e) f
    ]
visible-follow before now p [] (v ∷ vs) f = absurd f
visible-follow before now p (w ∷ ws) [] f = absurd f

-- where none is invalid now, none was
valid-follow : (before now : Looks) (p : Point) (ws vs : List Win) → AllFollow before now p ws vs → list_any (is_invalid_at p) vs ≡ false → list_any (is_invalid_at p) ws ≡ false
valid-follow before now p [] [] f h = refl
valid-follow before now p (w ∷ ws) (v ∷ vs) f h =
    let parts = or_parts (is_invalid_at p v) (list_any (is_invalid_at p) vs) h in
    or_from _ _ (false_from_ne_true _ (λ e. false≢true (sym parts.0 ∙ f.0.keeps e))) (valid-follow before now p ws vs f.1 parts.1)
valid-follow before now p [] (v ∷ vs) f h = absurd f
valid-follow before now p (w ∷ ws) [] f h = absurd f

-- where none is invalid now, they paint what they painted
painted_over-follow : (before now : Looks) (p : Point) (ws vs : List Win) (behind : ℕ) → AllFollow before now p ws vs → list_any (is_invalid_at p) vs ≡ false → painted_over now p behind vs ≡ painted_over before p behind ws
painted_over-follow before now p [] [] behind f h = refl
painted_over-follow before now p (w ∷ ws) (v ∷ vs) behind f h =
    let parts = or_parts (is_invalid_at p v) (list_any (is_invalid_at p) vs) h in
    ap (λ (c : ℕ). painted_over now p c vs) (f.0.covers parts.0 behind) ∙ painted_over-follow before now p ws vs (before.paint w p behind) f.1 parts.1
painted_over-follow before now p [] (v ∷ vs) behind f h = absurd f
painted_over-follow before now p (w ∷ ws) [] behind f h = absurd f

-- The damage covers the change where the windows at the point follow.
pub DamageCovers-follow : (before now : Looks) (p : Point) (ws vs : List Win) → Hides before p → Hides now p → AllFollow before now p (windows_at before ws p) (windows_at now vs p) → DamageCovers before ws now vs p
DamageCovers-follow before now p ws vs hid hide f =
    let old = windows_at before ws p in
    let new = windows_at now vs p in
    let seen = visible-follow before now p old new f in
    record {
      stays = λ h. is_damaged-visible before ws p ∙ valid-follow before now p (visible before old) (visible now new) seen (sym (is_damaged-visible now vs p) ∙ h);
      covers = λ h.
          painted_over-visible now new p 0 hide
          ∙ painted_over-follow before now p (visible before old) (visible now new) 0 seen (sym (is_damaged-visible now vs p) ∙ h)
          ∙ sym (painted_over-visible before old p 0 hid);
    }

-- a point that is damaged is covered
pub DamageCovers-damaged : (before : Looks) (ws : List Win) (now : Looks) (vs : List Win) (p : Point) → is_damaged now vs p ≡ true → DamageCovers before ws now vs p
DamageCovers-damaged before ws now vs p some = record { stays = λ none. absurd (false≢true (sym none ∙ some)); covers = λ none. absurd (false≢true (sym none ∙ some)) }

-- where nothing changes, the damage covers it
pub DamageCovers-same : (looks : Looks) (ws : List Win) (p : Point) → DamageCovers looks ws looks ws p
DamageCovers-same looks ws p = record { stays = λ h. h; covers = λ h. refl }

-- one change after the other
pub DamageCovers-then : (first : Looks) (us : List Win) (second : Looks) (vs : List Win) (third : Looks) (ws : List Win) (p : Point) → DamageCovers first us second vs p → DamageCovers second vs third ws p → DamageCovers first us third ws p
DamageCovers-then first us second vs third ws p f g = record { stays = λ h. f.stays (g.stays h); covers = λ h. g.covers h ∙ f.covers (g.stays h) }
