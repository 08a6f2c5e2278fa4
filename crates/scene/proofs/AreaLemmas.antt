-- Areas that are made invalid in every window, and the damage that comes of them.
use Rattle.std.proofs.Common.{◌≡◌, ℕ, true, false, List, [], ◌∷◌, map, Option, Some, None, refl, sym, ap, subst, ◌∙◌, inl, inr}
use Rattle.std.proofs.lemmas.Bool.{cases_Bool, or_left, or_right, or_cases, false≢true}
use Rattle.gfx_base.specs.declared.point.Point.{Point}
use Rattle.gfx_base.specs.declared.rect.Rect.{Rect}
use Rattle.gfx_base.specs.Rects.{has, is_empty, meet}
use Rattle.gfx_base.proofs.CallerLemmas.{has-meet, is_empty-has, cover-smallest}
use Rattle.paint_ops.specs.Kinds.{Assets}
use Rattle.paint_ops.specs.Operations.{seen_from}
use Rattle.scene.specs.declared.win.Win.{Win}
use Rattle.scene.specs.Places.{Place, place_of, place_at}
use Rattle.scene.specs.Clips.{deepest_level, corner_of, clip_of, clip_in}
use Rattle.scene.specs.Painting.{Looks, windows_at, hides_behind}
use Rattle.scene.specs.Damage.{some_has, is_invalid_at, in_patch, is_damaged, grown, invalidated, area_invalidated, areas_invalidated}
use Rattle.scene.specs.Looks.{is_opaque, colour_in_window, looks_of}
use Rattle.scene.specs.Changes.{DamageCovers, areas_have, clips_have, after_areas, AreasCover}
use Rattle.scene.proofs.PlaceLemmas.{place_at-same}
use Rattle.scene.proofs.VisibleLemmas.{hides}
use Rattle.scene.proofs.FollowLemmas.{Follows, AllFollow, DamageCovers-follow, DamageCovers-damaged, DamageCovers-same, DamageCovers-then}
use Rattle.std.specs.Prelude.{unwrap_or}

-- ---- windows that lie where others lie

abbrev looks_by : Assets → Rect → (ℕ → Option Place) → Looks
looks_by assets screen found = record {
  clip = λ w. clip_of deepest_level screen found (place_of w);
  is_opaque = is_opaque assets;
  paint = λ w p behind. unwrap_or (colour_in_window assets w (seen_from (corner_of deepest_level found (place_of w)) p)) behind;
}

-- windows whose handles find the same places look the same
pub looks_of-found : (assets : Assets) (screen : Rect) (ws vs : List Win) → place_at ws ≡ place_at vs → looks_of assets screen ws ≡ looks_of assets screen vs
looks_of-found assets screen ws vs e = ap (looks_by assets screen) e

place_of-invalidated : (clip area : Rect) (w : Win) → place_of (invalidated clip area w) ≡ place_of w
place_of-invalidated clip area w =
    elim (cases_Bool (is_empty (meet area clip))) [
      | inl e ↦ rw e refl
      | inr e ↦ rw e refl
    ]

pub places-area : (clip : Win → Rect) (area : Rect) (ws : List Win) → map place_of (area_invalidated clip area ws) ≡ map place_of ws
places-area clip area [] = refl
places-area clip area (w ∷ ws) =
    ap (λ (q : Place). q ∷ map place_of (area_invalidated clip area ws)) (place_of-invalidated (clip w) area w) ∙ ap (λ (qs : List Place). place_of w ∷ qs) (places-area clip area ws)

places-areas : (clip : Win → Rect) (areas : List Rect) (ws : List Win) → map place_of (areas_invalidated clip areas ws) ≡ map place_of ws
places-areas clip [] ws = refl
places-areas clip (area ∷ areas) ws = places-areas clip areas (area_invalidated clip area ws) ∙ places-area clip area ws

-- ---- what is invalid

grown_first : (o : Option Rect) (r : Rect) (p : Point) → some_has o p ≡ true → has (grown o r) p ≡ true
grown_first None r p some = absurd (false≢true some)
grown_first (Some old) r p some = let both = cover-smallest old r in both.first p some

grown_second : (o : Option Rect) (r : Rect) (p : Point) → has r p ≡ true → has (grown o r) p ≡ true
grown_second None r p some = some
grown_second (Some old) r p some = let both = cover-smallest old r in both.second p some

-- what is made invalid is invalid, in the clip
invalid_here : (clip area : Rect) (w : Win) (p : Point) → has area p ≡ true → has clip p ≡ true → is_invalid_at p (invalidated clip area w) ≡ true
invalid_here clip area w p in_area in_clip =
    let both : has (meet area clip) p ≡ true = has-meet area clip p ∙ rw (in_area, in_clip) refl in
    rw (is_empty-has (meet area clip) p both) (grown_second w.invalid (meet area clip) p both)

follows_same : (assets : Assets) (screen : Rect) (us : List Win) (p : Point) (w : Win) → Follows (looks_of assets screen us) (looks_of assets screen us) p w w
follows_same assets screen us p w = record { opaque = refl; keeps = λ h. h; covers = λ h behind. refl }

follows_invalidated : (assets : Assets) (screen : Rect) (us : List Win) (clip area : Rect) (p : Point) (w : Win) → Follows (looks_of assets screen us) (looks_of assets screen us) p w (invalidated clip area w)
follows_invalidated assets screen us clip area p w =
    elim (cases_Bool (is_empty (meet area clip))) [
      | inl e ↦ rw e (follows_same assets screen us p w)
      | inr e ↦ rw e (record { opaque = refl; keeps = λ h. grown_first w.invalid (meet area clip) p h; covers = λ h behind. refl })
    ]

has-invalidated : (screen : Rect) (us : List Win) (clip area : Rect) (w : Win) (p : Point) → has (clip_in screen us (invalidated clip area w)) p ≡ has (clip_in screen us w) p
has-invalidated screen us clip area w p = ap (λ (q : Place). has (clip_of deepest_level screen (place_at us) q) p) (place_of-invalidated clip area w)

follow_area : (assets : Assets) (screen : Rect) (us : List Win) (clip : Win → Rect) (area : Rect) (p : Point) (ws : List Win)
    → AllFollow (looks_of assets screen us) (looks_of assets screen us) p (windows_at (looks_of assets screen us) ws p) (windows_at (looks_of assets screen us) (area_invalidated clip area ws) p)
follow_area assets screen us clip area p [] = tt
follow_area assets screen us clip area p (w ∷ ws) =
    elim (cases_Bool (has (clip_in screen us w) p)) [
      | inl here ↦ rw (has-invalidated screen us (clip w) area w p, here) (follows_invalidated assets screen us (clip w) area p w, follow_area assets screen us clip area p ws)
      | inr away ↦ rw (has-invalidated screen us (clip w) area w p, away) (follow_area assets screen us clip area p ws)
    ]

covers_area : (assets : Assets) (screen : Rect) (us : List Win) (clip : Win → Rect) (area : Rect) (p : Point) (ws : List Win) → DamageCovers (looks_of assets screen us) ws (looks_of assets screen us) (area_invalidated clip area ws) p
covers_area assets screen us clip area p ws =
    let looks = looks_of assets screen us in
    DamageCovers-follow looks looks p ws (area_invalidated clip area ws) (hides assets screen us p) (hides assets screen us p) (follow_area assets screen us clip area p ws)

covers_areas : (assets : Assets) (screen : Rect) (us : List Win) (clip : Win → Rect) (areas : List Rect) (p : Point) (ws : List Win) → DamageCovers (looks_of assets screen us) ws (looks_of assets screen us) (areas_invalidated clip areas ws) p
covers_areas assets screen us clip [] p ws = DamageCovers-same (looks_of assets screen us) ws p
covers_areas assets screen us clip (area ∷ areas) p ws =
    let looks = looks_of assets screen us in
    let vs = area_invalidated clip area ws in
    DamageCovers-then looks ws looks vs looks (areas_invalidated clip areas vs) p (covers_area assets screen us clip area p ws) (covers_areas assets screen us clip areas p vs)

-- ---- the damage in an area

clips_have-area : (assets : Assets) (screen : Rect) (us : List Win) (clip : Win → Rect) (area : Rect) (ws : List Win) (p : Point) → clips_have (looks_of assets screen us) (area_invalidated clip area ws) p ≡ clips_have (looks_of assets screen us) ws p
clips_have-area assets screen us clip area [] p = refl
clips_have-area assets screen us clip area (w ∷ ws) p = rw (has-invalidated screen us (clip w) area w p, clips_have-area assets screen us clip area ws p) refl

-- where no clip has the point, no window is there
none_there : (looks : Looks) (ws : List Win) (p : Point) → clips_have looks ws p ≡ false → hides_behind looks (windows_at looks ws p) ≡ false
none_there looks [] p none = refl
none_there looks (w ∷ ws) p none =
    elim (cases_Bool (has (looks.clip w) p)) [
      | inl here ↦ absurd (false≢true (sym none ∙ or_left _ _ here))
      | inr away ↦ rw away (none_there looks ws p (rw away at none))
    ]

-- each point of the area is damaged, where a window is
area_is_damaged : (assets : Assets) (screen : Rect) (us : List Win) (area : Rect) (ws : List Win) (p : Point) → has area p ≡ true → clips_have (looks_of assets screen us) ws p ≡ true → is_damaged (looks_of assets screen us) (area_invalidated (clip_in screen us) area ws) p ≡ true
area_is_damaged assets screen us area [] p in_area some = absurd (false≢true some)
area_is_damaged assets screen us area (w ∷ ws) p in_area some =
    let looks = looks_of assets screen us in
    let vs = area_invalidated (clip_in screen us) area ws in
    elim (cases_Bool (clips_have looks ws p)) [
      | inl others ↦ or_right _ _ (area_is_damaged assets screen us area ws p in_area others)
      | inr none ↦
          let here : has (clip_in screen us w) p ≡ true = elim (or_cases (has (clip_in screen us w) p) (clips_have looks ws p) some) [ inl own ↦ own | inr other ↦ absurd (false≢true (sym none ∙ other)) ] in
          let clear : hides_behind looks (windows_at looks vs p) ≡ false = none_there looks vs p (clips_have-area assets screen us (clip_in screen us) area ws p ∙ none) in
          or_left (in_patch looks (invalidated (clip_in screen us w) area w) vs p) (is_damaged looks vs p) (rw (has-invalidated screen us (clip_in screen us w) area w p, here, clear, invalid_here (clip_in screen us w) area w p in_area here) refl)
    ]

areas_are_covered : (assets : Assets) (screen : Rect) (before : Looks) (old us : List Win) (p : Point) (areas : List Rect) (ws : List Win) → clips_have (looks_of assets screen us) ws p ≡ true → areas_have areas p ≡ true
    → DamageCovers before old (looks_of assets screen us) (areas_invalidated (clip_in screen us) areas ws) p
areas_are_covered assets screen before old us p [] ws some h = absurd (false≢true h)
areas_are_covered assets screen before old us p (area ∷ areas) ws some h =
    let looks = looks_of assets screen us in
    let vs = area_invalidated (clip_in screen us) area ws in
    elim (or_cases (has area p) (areas_have areas p) h) [
      | inl here ↦ DamageCovers-then before old looks vs looks (areas_invalidated (clip_in screen us) areas vs) p (DamageCovers-damaged before old looks vs p (area_is_damaged assets screen us area ws p here some)) (covers_areas assets screen us (clip_in screen us) areas p vs)
      | inr later ↦ areas_are_covered assets screen before old us p areas vs (clips_have-area assets screen us (clip_in screen us) area ws p ∙ some) later
    ]

-- ---- a change, and areas made invalid after it

looks_after : (assets : Assets) (screen : Rect) (areas : List Rect) (ws : List Win) → looks_of assets screen (after_areas screen areas ws) ≡ looks_of assets screen ws
looks_after assets screen areas ws = looks_of-found assets screen (after_areas screen areas ws) ws (place_at-same (after_areas screen areas ws) ws (places-areas (clip_in screen ws) areas ws))

pub AreasCover-follow : (assets : Assets) (screen : Rect) (old new : List Win) (areas : List Rect) (p : Point) → (areas_have areas p ≡ true → clips_have (looks_of assets screen new) new p ≡ true)
    → (areas_have areas p ≡ false → AllFollow (looks_of assets screen old) (looks_of assets screen new) p (windows_at (looks_of assets screen old) old p) (windows_at (looks_of assets screen new) new p)) → AreasCover assets screen old new areas p
AreasCover-follow assets screen old new areas p inside outside =
    let before = looks_of assets screen old in
    let now = looks_of assets screen new in
    let after = after_areas screen areas new in
    subst (λ (looks : Looks). DamageCovers before old looks after p) (sym (looks_after assets screen areas new))
    (elim (cases_Bool (areas_have areas p)) [
      | inl here ↦ areas_are_covered assets screen before old new p areas new (inside here) here
      | inr away ↦ DamageCovers-then before old now new now after p (DamageCovers-follow before now p old new (hides assets screen old p) (hides assets screen new p) (outside away)) (covers_areas assets screen new (clip_in screen new) areas p new)
    ])

-- areas alone
pub AreasCover-areas : (assets : Assets) (screen : Rect) (ws : List Win) (areas : List Rect) (p : Point) → AreasCover assets screen ws ws areas p
AreasCover-areas assets screen ws areas p =
    let looks = looks_of assets screen ws in
    let after = after_areas screen areas ws in
    subst (λ (now : Looks). DamageCovers looks ws now after p) (sym (looks_after assets screen areas ws)) (covers_areas assets screen ws (clip_in screen ws) areas p ws)
