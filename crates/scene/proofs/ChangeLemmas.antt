-- The damage covers each change of the list that calls make.
use Rattle.std.proofs.Common.{◌≡◌, ℕ, true, false, eqb, List, [], ◌∷◌, map, Option, Some, None, refl, sym, ap, subst, ◌∙◌, inl, inr, arith}
use Rattle.std.specs.List.{AllZip}
use Rattle.std.proofs.Math.Path.{fun_ext}
use Rattle.std.proofs.lemmas.Bool.{cases_Bool, or_left, or_right, or_cases, or_parts, eqb-true, false≢true}
use Rattle.std.proofs.lemmas.Bool.Decides.{nat_tests}
use Rattle.gfx_base.specs.declared.point.Point.{Point}
use Rattle.gfx_base.specs.declared.rect.Rect.{Rect}
use Rattle.gfx_base.specs.Rects.{has}
use Rattle.paint_ops.specs.Kinds.{Assets}
use Rattle.paint_ops.specs.Operations.{seen_from}
use Rattle.scene.specs.declared.win.Win.{Win}
use Rattle.scene.specs.Places.{Place, place_of, place_at}
use Rattle.scene.specs.Clips.{deepest_level, clip_of, clip_in}
use Rattle.scene.specs.Painting.{Looks, windows_at}
use Rattle.scene.specs.Damage.{with_invalid}
use Rattle.scene.specs.Looks.{colour_in_window, looks_of}
use Rattle.scene.specs.Changes.{DamageCovers, areas_have, clips_have, AreasCover, IsAway, FindAlike, Adds, Fails, TakesAway, Changes, Reorders, ChangesAlone}
use Rattle.scene.proofs.PlaceLemmas.{place_at-same}
use Rattle.scene.proofs.VisibleLemmas.{hides}
use Rattle.scene.proofs.FollowLemmas.{Follows, AllFollow, DamageCovers-follow}
use Rattle.scene.proofs.TreeLemmas.{alike, below-away}
use Rattle.scene.proofs.AreaLemmas.{looks_of-found, AreasCover-follow}
use Rattle.std.specs.Prelude.{unwrap_or}

-- ---- the windows that stay

-- at a point where each place is alike, windows paint what they painted
follow_alike : (assets : Assets) (screen : Rect) (old new : List Win) (p : Point) → FindAlike screen old new p → (ws : List Win)
    → AllFollow (looks_of assets screen old) (looks_of assets screen new) p (windows_at (looks_of assets screen old) ws p) (windows_at (looks_of assets screen new) ws p)
follow_alike assets screen old new p finds [] = tt
follow_alike assets screen old new p finds (w ∷ ws) =
    let a = alike screen p old new finds (place_of w) in
    elim (cases_Bool (has (clip_in screen old w) p)) [
      | inl here ↦
          rw (a.inside, here) (
            record { opaque = refl; keeps = λ h. h; covers = λ h behind. ap (λ (corner : Point). unwrap_or (colour_in_window assets w (seen_from corner p)) behind) (a.corner here) },
            follow_alike assets screen old new p finds ws,
          )
      | inr away ↦ rw (a.inside, away) (follow_alike assets screen old new p finds ws)
    ]

-- A change of the list away from the point: each handle finds what it found or what isn't there, and the windows there stand as they stood.
pub AreasCover-away : (assets : Assets) (screen : Rect) (old new : List Win) (areas : List Rect) (p : Point) → (areas_have areas p ≡ true → clips_have (looks_of assets screen new) new p ≡ true) → (areas_have areas p ≡ false → FindAlike screen old new p)
    → (areas_have areas p ≡ false → windows_at (looks_of assets screen old) new p ≡ windows_at (looks_of assets screen old) old p) → AreasCover assets screen old new areas p
AreasCover-away assets screen old new areas p inside finds stand =
    let before = looks_of assets screen old in
    let now = looks_of assets screen new in
    AreasCover-follow assets screen old new areas p inside (λ away. subst (λ (ws : List Win). AllFollow before now p ws (windows_at now new p)) (stand away) (follow_alike assets screen old new p (finds away) new))

-- ---- what handles find

pub no_place : (q : Place) → Some q ≡ None → ⊥
no_place q e = cc

pub same_place : (q r : Place) → Some q ≡ Some r → q ≡ r
same_place q r e = cc

is_nothing : (screen : Rect) (ws : List Win) (p : Point) (handle : ℕ) → place_at ws handle ≡ None → IsAway screen ws p handle
is_nothing screen ws p handle none q is = absurd (no_place q (sym is ∙ none))

is_elsewhere : (screen : Rect) (ws : List Win) (p : Point) (handle : ℕ) (r : Place) → place_at ws handle ≡ Some r → has (clip_of deepest_level screen (place_at ws) r) p ≡ false → IsAway screen ws p handle
is_elsewhere screen ws p handle r found away q is = ap (λ (s : Place). has (clip_of deepest_level screen (place_at ws) s) p) (same_place q r (sym is ∙ found)) ∙ away

-- a window that is found at the point is there
clips_have-among : (assets : Assets) (screen : Rect) (us ws : List Win) (handle : ℕ) (q : Place) (p : Point) → place_at ws handle ≡ Some q → has (clip_of deepest_level screen (place_at us) q) p ≡ true → clips_have (looks_of assets screen us) ws p ≡ true
clips_have-among assets screen us [] handle q p is here = absurd (no_place q (sym is))
clips_have-among assets screen us (w ∷ ws) handle q p is here =
    elim (cases_Bool (eqb w.handle handle)) [
      | inl own ↦
          let same : place_of w ≡ q = same_place (place_of w) q (rw own at is) in
          or_left _ _ (ap (λ (r : Place). has (clip_of deepest_level screen (place_at us) r) p) same ∙ here)
      | inr other ↦ or_right _ _ (clips_have-among assets screen us ws handle q p (rw other at is) here)
    ]

pub clips_have-found : (assets : Assets) (screen : Rect) (ws : List Win) (handle : ℕ) (q : Place) (p : Point) → place_at ws handle ≡ Some q → has (clip_of deepest_level screen (place_at ws) q) p ≡ true → clips_have (looks_of assets screen ws) ws p ≡ true
clips_have-found assets screen ws handle q p is here = clips_have-among assets screen ws ws handle q p is here

-- the only area has the point
one_area : (area : Rect) (p : Point) → areas_have (area ∷ []) p ≡ true → has area p ≡ true
one_area area p h = elim (or_cases (has area p) false h) [ inl own ↦ own | inr none ↦ absurd (false≢true none) ]

no_area : (area : Rect) (p : Point) → areas_have (area ∷ []) p ≡ false → has area p ≡ false
no_area area p h = let parts = or_parts (has area p) false h in parts.0

pub another : (one other : ℕ) → eqb one other ≡ false → one ≡ other → ⊥
another one other differ same = grind (arith, nat_tests, differ, same)

-- ---- one window more

adds_alike : (screen : Rect) (old new : List Win) (w : Win) (p : Point) → Adds old new w → has (clip_in screen new w) p ≡ false → FindAlike screen old new p
adds_alike screen old new w p adds away handle =
    elim (cases_Bool (eqb handle w.handle)) [
      | inl own ↦
          let same = eqb-true handle w.handle own in
          inr (is_nothing screen old p handle (ap (place_at old) same ∙ adds.unknown), is_elsewhere screen new p handle (place_of w) (ap (place_at new) same ∙ adds.found) away)
      | inr other ↦ inl (adds.others handle (another handle w.handle other))
    ]

pub AreasCover-adds : (assets : Assets) (screen : Rect) (old new : List Win) (w : Win) (p : Point) → Adds old new w → AreasCover assets screen old new (clip_in screen new w ∷ []) p
AreasCover-adds assets screen old new w p adds =
    let area = clip_in screen new w in
    AreasCover-away assets screen old new (area ∷ []) p (λ h. clips_have-found assets screen new w.handle (place_of w) p adds.found (one_area area p h)) (λ h. adds_alike screen old new w p adds (no_area area p h)) (λ h.
    let a = alike screen p old new (adds_alike screen old new w p adds (no_area area p h)) (place_of w) in
    adds.rest (λ v. has (clip_in screen old v) p) (sym a.inside ∙ no_area area p h))

-- ---- windows less

takes_alike : (screen : Rect) (old new : List Win) (w : Win) (p : Point) → TakesAway old new w → has (clip_in screen old w) p ≡ false → FindAlike screen old new p
takes_alike screen old new w p takes away handle =
    elim (cases_Bool (eqb handle w.handle)) [
      | inl own ↦
          let same = eqb-true handle w.handle own in
          inr (is_elsewhere screen old p handle (place_of w) (ap (place_at old) same ∙ takes.known) away, is_nothing screen new p handle (ap (place_at new) same ∙ takes.gone))
      | inr other ↦
          elim (takes.others handle (another handle w.handle other)) [
            | inl same ↦ inl same
            | inr gone ↦ inr (λ q is. below-away screen old w.handle (place_of w) q p takes.known away (gone.1 q is), is_nothing screen new p handle gone.0)
          ]
    ]

-- the windows at the point are none of the family
family_fails : (screen : Rect) (old : List Win) (w : Win) (p : Point) → place_at old w.handle ≡ Some (place_of w) → has (clip_in screen old w) p ≡ false → Fails old w (λ v. has (clip_in screen old v) p)
family_fails screen old w p known away = (away, λ v below. below-away screen old w.handle (place_of w) (place_of v) p known away below)

pub AreasCover-takes : (assets : Assets) (screen : Rect) (old new : List Win) (w : Win) (p : Point) → TakesAway old new w → (has (clip_in screen old w) p ≡ true → clips_have (looks_of assets screen new) new p ≡ true) → AreasCover assets screen old new (clip_in screen old w ∷ []) p
AreasCover-takes assets screen old new w p takes inside =
    let area = clip_in screen old w in
    AreasCover-away assets screen old new (area ∷ []) p (λ h. inside (one_area area p h)) (λ h. takes_alike screen old new w p takes (no_area area p h)) (λ h.
    takes.rest (λ v. has (clip_in screen old v) p) (family_fails screen old w p takes.known (no_area area p h)))

-- ---- a window changed in its place

changes_alike : (screen : Rect) (old new : List Win) (w v : Win) (p : Point) → Changes old new w v → has (clip_in screen old w) p ≡ false → has (clip_in screen new v) p ≡ false → FindAlike screen old new p
changes_alike screen old new w v p changes left away handle =
    elim (cases_Bool (eqb handle w.handle)) [
      | inl own ↦
          let same = eqb-true handle w.handle own in
          inr (is_elsewhere screen old p handle (place_of w) (ap (place_at old) same ∙ changes.known) left, is_elsewhere screen new p handle (place_of v) (ap (place_at new) same ∙ changes.found) away)
      | inr other ↦ inl (changes.others handle (another handle w.handle other))
    ]

pub AreasCover-changes : (assets : Assets) (screen : Rect) (old new : List Win) (w v : Win) (areas : List Rect) (p : Point) → Changes old new w v → (areas_have areas p ≡ true → clips_have (looks_of assets screen new) new p ≡ true)
    → (areas_have areas p ≡ false → (has (clip_in screen old w) p ≡ false) × (has (clip_in screen new v) p ≡ false)) → AreasCover assets screen old new areas p
AreasCover-changes assets screen old new w v areas p changes inside outside =
    AreasCover-away assets screen old new areas p inside (λ h. let both = outside h in changes_alike screen old new w v p changes both.0 both.1) (λ h.
    let both = outside h in
    let a = alike screen p old new (changes_alike screen old new w v p changes both.0 both.1) (place_of v) in
    changes.rest (λ u. has (clip_in screen old u) p) both.0 (sym a.inside ∙ both.1))

-- ---- a new order

pub AreasCover-reorders : (assets : Assets) (screen : Rect) (old new : List Win) (w : Win) (p : Point) → Reorders old new w → AreasCover assets screen old new (clip_in screen old w ∷ []) p
AreasCover-reorders assets screen old new w p reorders =
    let area = clip_in screen old w in
    let same : place_at new ≡ place_at old = fun_ext reorders.found in
    AreasCover-away assets screen old new (area ∷ []) p
    (λ h. clips_have-found assets screen new w.handle (place_of w) p (reorders.found w.handle ∙ reorders.known) (ap (λ (found : ℕ → Option Place). has (clip_of deepest_level screen found (place_of w)) p) same ∙ one_area area p h))
    (λ h handle. inl (reorders.found handle))
    (λ h. reorders.rest (λ v. has (clip_in screen old v) p) (family_fails screen old w p reorders.known (no_area area p h)))

-- ---- windows that change alone

places-alone : (looks : Looks) (p : Point) (ws vs : List Win) → AllZip (ChangesAlone looks p) ws vs → map place_of vs ≡ map place_of ws
places-alone looks p [] [] all = refl
places-alone looks p (w ∷ ws) (v ∷ vs) all =
    ap (λ (q : Place). q ∷ map place_of vs) all.0.place ∙ ap (λ (qs : List Place). place_of w ∷ qs) (places-alone looks p ws vs all.1)
places-alone looks p [] (v ∷ vs) all = absurd all
places-alone looks p (w ∷ ws) [] all = absurd all

paint_alone : (assets : Assets) (screen : Rect) (us : List Win) (p : Point) (w v : Win) (behind : ℕ) → v ≡ with_invalid w v.invalid → (looks_of assets screen us).paint v p behind ≡ (looks_of assets screen us).paint w p behind
paint_alone assets screen us p w v behind e = ap (λ (u : Win). (looks_of assets screen us).paint u p behind) e

follows_alone : (assets : Assets) (screen : Rect) (us : List Win) (p : Point) (w v : Win) → has (clip_in screen us w) p ≡ true → ChangesAlone (looks_of assets screen us) p w v → Follows (looks_of assets screen us) (looks_of assets screen us) p w v
follows_alone assets screen us p w v here alone = record {
  opaque = alone.opaque;
  keeps = alone.grows;
  covers = λ valid behind.
      elim (alone.covers here) [
        | inl invalid ↦ absurd (false≢true (sym valid ∙ invalid))
        | inr same ↦ paint_alone assets screen us p w v behind same
      ];
}

follow_alone : (assets : Assets) (screen : Rect) (us : List Win) (p : Point) (ws vs : List Win) → AllZip (ChangesAlone (looks_of assets screen us) p) ws vs
    → AllFollow (looks_of assets screen us) (looks_of assets screen us) p (windows_at (looks_of assets screen us) ws p) (windows_at (looks_of assets screen us) vs p)
follow_alone assets screen us p [] [] all = tt
follow_alone assets screen us p (w ∷ ws) (v ∷ vs) all =
    let same : has (clip_in screen us v) p ≡ has (clip_in screen us w) p = ap (λ (q : Place). has (clip_of deepest_level screen (place_at us) q) p) all.0.place in
    elim (cases_Bool (has (clip_in screen us w) p)) [
      | inl here ↦ rw (same, here) (follows_alone assets screen us p w v here all.0, follow_alone assets screen us p ws vs all.1)
      | inr away ↦ rw (same, away) (follow_alone assets screen us p ws vs all.1)
    ]
follow_alone assets screen us p [] (v ∷ vs) all = absurd all
follow_alone assets screen us p (w ∷ ws) [] all = absurd all

pub DamageCovers-alone : (assets : Assets) (screen : Rect) (ws vs : List Win) (p : Point) → AllZip (ChangesAlone (looks_of assets screen ws) p) ws vs → DamageCovers (looks_of assets screen ws) ws (looks_of assets screen vs) vs p
DamageCovers-alone assets screen ws vs p all =
    let looks = looks_of assets screen ws in
    subst (λ (now : Looks). DamageCovers looks ws now vs p) (sym (looks_of-found assets screen vs ws (place_at-same vs ws (places-alone looks p ws vs all))))
    (DamageCovers-follow looks looks p ws vs (hides assets screen ws p) (hides assets screen ws p) (follow_alone assets screen ws p ws vs all))
