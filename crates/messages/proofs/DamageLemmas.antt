-- What is invalid of windows that are given values.
use Rattle.std.proofs.Common.{◌≡◌, ◌⊎◌, ℕ, true, eqb, List, [], ◌∷◌, map, ℤ, Option, Some, None, refl, sym, ap, subst, ◌∙◌, inl, inr}
use Rattle.std.specs.Prelude.{option_map, slice_get}
use Rattle.std.specs.List.{AllZip}
use Rattle.std.specs.Cmp.Lexicographic.{pointwise}
use Rattle.std.specs.Ordering.{int_eq}
use Rattle.std.proofs.lemmas.Bool.{cases_Bool, and_from, false≢true}
use Rattle.std.proofs.lemmas.Option.{slice_get-map}
use Rattle.gfx_base.specs.declared.point.Point.{Point}
use Rattle.gfx_base.specs.declared.rect.Rect.{Rect}
use Rattle.gfx_base.specs.Rects.{has, is_empty, meet}
use Rattle.gfx_base.proofs.CallerLemmas.{has-meet, is_empty-has, cover-smallest}
use Rattle.paint_ops.specs.Kinds.{Assets}
use Rattle.scene.specs.declared.win.Win.{Win}
use Rattle.scene.specs.Places.{place_of, place_at}
use Rattle.scene.specs.Clips.{deepest_level, clip_of, clip_in}
use Rattle.scene.specs.Painting.{Looks}
use Rattle.scene.specs.Damage.{some_has, is_invalid_at, grown, invalidated}
use Rattle.scene.specs.Looks.{looks_of, is_opaque}
use Rattle.scene.specs.Changes.{DamageCovers, ChangesAlone}
use Rattle.scene.specs.Families.{window_changed}
use Rattle.scene.proofs.CallerLemmas.{place_at-same, DamageCovers-alone}
use Rattle.messages.specs.Delivery.{with_values, with_new_values, delivered_along}
use Rattle.messages.proofs.WindowLemmas.{kept, place-with_new_values, differ}
use Rattle.messages.proofs.DeliveryLemmas.{at_handle}
use Rattle.messages.proofs.KeepingLemmas.{revalued, kept_along, places_revalued}
use Rattle.messages.proofs.LawLemmas.{get_changed}

-- ---- one window

grown_keeps : (o : Option Rect) (r : Rect) (p : Point) → some_has o p ≡ true → has (grown o r) p ≡ true
grown_keeps None r p some = absurd (false≢true some)
grown_keeps (Some old) r p some = let both = cover-smallest old r in both.first p some

grown_has : (o : Option Rect) (r : Rect) (p : Point) → has r p ≡ true → has (grown o r) p ≡ true
grown_has None r p here = here
grown_has (Some old) r p here = let both = cover-smallest old r in both.second p here

invalid_there : (clip : Rect) (w : Win) (p : Point) → has clip p ≡ true → is_invalid_at p (invalidated clip clip w) ≡ true
invalid_there clip w p here =
    let inside : has (meet clip clip) p ≡ true = has-meet clip clip p ∙ and_from _ _ here here in
    rw (is_empty-has (meet clip clip) p inside) (grown_has w.invalid (meet clip clip) p inside)

still_invalid : (clip : Rect) (w : Win) (p : Point) → is_invalid_at p w ≡ true → is_invalid_at p (invalidated clip clip w) ≡ true
still_invalid clip w p here =
    elim (cases_Bool (is_empty (meet clip clip))) [
      | inl e ↦ rw e here
      | inr e ↦ rw e (grown_keeps w.invalid (meet clip clip) p here)
    ]

-- either the values are those of before, or all of the clip is invalid
either : (screen : Rect) (ws : List Win) (values : List ℤ) (w : Win) → (with_new_values screen ws values w ≡ w) ⊎ ((p : Point) → has (clip_in screen ws w) p ≡ true → is_invalid_at p (with_new_values screen ws values w) ≡ true)
either screen ws values w =
    elim (cases_Bool (pointwise int_eq w.values values)) [
      | inl e ↦ inl (rw e refl)
      | inr e ↦ inr (λ p here. rw e (invalid_there (clip_in screen ws w) (with_values values w) p here))
    ]

pub new_values_invalid : (screen : Rect) (ws : List Win) (values : List ℤ) (w : Win) (p : Point) → (values ≡ w.values → ⊥) → has (clip_in screen ws w) p ≡ true → is_invalid_at p (with_new_values screen ws values w) ≡ true
new_values_invalid screen ws values w p other here =
    rw (differ w.values values (λ same. other (sym same))) (invalid_there (clip_in screen ws w) (with_values values w) p here)

-- ---- windows after a message

-- at each place the values are those of before, or all of the clip of before is invalid
record AreCovered (screen : Rect) (ws us : List Win) : Type 0 where
  places : map place_of us ≡ map place_of ws
  covers : (i : ℕ) (v u : Win) → slice_get ws i ≡ Some v → slice_get us i ≡ Some u → (u.values ≡ v.values) ⊎ ((p : Point) → has (clip_in screen ws v) p ≡ true → is_invalid_at p u ≡ true)

clip_alike : (screen : Rect) (ws us : List Win) (i : ℕ) (v u : Win) → map place_of us ≡ map place_of ws → slice_get ws i ≡ Some v → slice_get us i ≡ Some u → clip_in screen us u ≡ clip_in screen ws v
clip_alike screen ws us i v u places there here =
    let both : Some (place_of u) ≡ Some (place_of v) =
    ap (option_map place_of) (sym here)
    ∙ sym (slice_get-map place_of us i)
    ∙ ap (λ qs. slice_get qs i) places
    ∙ slice_get-map place_of ws i
    ∙ ap (option_map place_of) there in
    let same : place_of u ≡ place_of v = cc in
    ap (λ found. clip_of deepest_level screen found (place_of u)) (place_at-same us ws places)
    ∙ ap (clip_of deepest_level screen (place_at ws)) same

one_covered : (screen : Rect) (ws us : List Win) (h : ℕ) (values : Win → List ℤ) (i : ℕ) (v u : Win) → map place_of us ≡ map place_of ws → slice_get ws i ≡ Some v → slice_get us i ≡ Some u
    → (u.values ≡ v.values) ⊎ ((p : Point) → has (clip_in screen ws v) p ≡ true → is_invalid_at p u ≡ true)
    → let after = at_handle h (λ w. with_new_values screen us (values w) w) u in
    (after.values ≡ v.values) ⊎ ((p : Point) → has (clip_in screen ws v) p ≡ true → is_invalid_at p after ≡ true)
one_covered screen ws us h values i v u places there here before =
    let Good : Win → Type 0 = λ x. (x.values ≡ v.values) ⊎ ((p : Point) → has (clip_in screen ws v) p ≡ true → is_invalid_at p x ≡ true) in
    elim (cases_Bool (eqb u.handle h)) [
      | inl e ↦
          elim (either screen us (values u) u) [
            | inl same ↦ rw e (subst Good (sym same) before)
            | inr wholly ↦
                let clip = clip_alike screen ws us i v u places there here in
                let on_clip : (p : Point) → has (clip_in screen ws v) p ≡ true → is_invalid_at p (with_new_values screen us (values u) u) ≡ true = λ p inside. wholly p (ap (λ r. has r p) clip ∙ inside) in
                rw e (inr on_clip)
          ]
      | inr e ↦ rw e before
    ]

covered_at : (screen : Rect) (ws us : List Win) (h : ℕ) (values : Win → List ℤ) (i : ℕ) (v x : Win) → AreCovered screen ws us → slice_get ws i ≡ Some v → (o : Option Win) → slice_get us i ≡ o
    → option_map (at_handle h (λ w. with_new_values screen us (values w) w)) o ≡ Some x
    → (x.values ≡ v.values) ⊎ ((p : Point) → has (clip_in screen ws v) p ≡ true → is_invalid_at p x ≡ true)
covered_at screen ws us h values i v x before there None here is = absurd cc
covered_at screen ws us h values i v x before there (Some u) here is =
    let Good : Win → Type 0 = λ y. (y.values ≡ v.values) ⊎ ((p : Point) → has (clip_in screen ws v) p ≡ true → is_invalid_at p y ≡ true) in
    let same : at_handle h (λ w. with_new_values screen us (values w) w) u ≡ x = cc in
    subst Good same (one_covered screen ws us h values i v u before.places there here (before.covers i v u there here))

covered_still : (screen : Rect) (ws us : List Win) (h : ℕ) (values : Win → List ℤ) → AreCovered screen ws us → AreCovered screen ws (revalued screen h values us)
covered_still screen ws us h values before = record {
  places = places_revalued screen h values us ∙ before.places;
  covers = λ i v x there here. covered_at screen ws us h values i v x before there (slice_get us i) refl (sym (get_changed h (λ w. with_new_values screen us (values w) w) us i) ∙ here);
}

covered_first : (screen : Rect) (ws : List Win) → AreCovered screen ws ws
covered_first screen ws = record {
  places = refl;
  covers = λ i v u there here. let both : Some u ≡ Some v = sym here ∙ there in let same : u ≡ v = cc in inl (ap (λ (w : Win). w.values) same);
}

pub change_invalid : (assets : Assets) (screen : Rect) (message : ℕ) (argument : ℤ) (path ws : List Win) (i : ℕ) (v u : Win) (p : Point) → slice_get ws i ≡ Some v → slice_get (delivered_along assets screen message argument path ws) i ≡ Some u
    → (u.values ≡ v.values → ⊥) → has (clip_in screen ws v) p ≡ true → is_invalid_at p u ≡ true
change_invalid assets screen message argument path ws i v u p there here other inside =
    let P : List Win → Type 0 = λ us. AreCovered screen ws us in
    let after : AreCovered screen ws (delivered_along assets screen message argument path ws) = kept_along assets screen message argument P (λ us h values before. covered_still screen ws us h values before) path ws (covered_first screen ws) in
    elim (after.covers i v u there here) [ inl same ↦ absurd (other same) | inr wholly ↦ wholly p inside ]

-- ---- the damage

alone_same : (looks : Looks) (p : Point) (w : Win) → ChangesAlone looks p w w
alone_same looks p w = record { place = refl; opaque = refl; grows = λ h. h; covers = λ here. inr refl }

pub new_values_alone : (assets : Assets) (screen : Rect) (ws : List Win) (values : List ℤ) (w : Win) (p : Point) → ChangesAlone (looks_of assets screen ws) p w (with_new_values screen ws values w)
new_values_alone assets screen ws values w p =
    let clip = clip_in screen ws w in
    let v = with_values values w in
    let P : Win → Type 0 = λ u. is_opaque assets u ≡ is_opaque assets w in
    let opaque : P (with_new_values screen ws values w) = kept screen ws values w P refl refl (λ r. refl) in
    elim (cases_Bool (pointwise int_eq w.values values)) [
      | inl e ↦ rw e (alone_same (looks_of assets screen ws) p w)
      | inr e ↦
          let place : place_of (invalidated clip clip v) ≡ place_of w = rw e at (place-with_new_values screen ws values w) in
          let shade : is_opaque assets (invalidated clip clip v) ≡ is_opaque assets w = rw e at opaque in
          rw e (record { place = place; opaque = shade; grows = λ h. still_invalid clip v p h; covers = λ here. inl (invalid_there clip v p here) })
    ]

alone_changed : (looks : Looks) (p : Point) (h : ℕ) (f : Win → Win) (ws : List Win) → ((w : Win) → ChangesAlone looks p w (f w)) → AllZip (ChangesAlone looks p) ws (window_changed h f ws)
unfolding window_changed
alone_changed looks p h f [] alone = tt
alone_changed looks p h f (w ∷ ws) alone =
    elim (cases_Bool (eqb w.handle h)) [
      | inl at ↦ rw at (alone w, alone_changed looks p h f ws alone)
      | inr off ↦ rw off (alone_same looks p w, alone_changed looks p h f ws alone)
    ]

pub damage_revalued : (assets : Assets) (screen : Rect) (h : ℕ) (values : Win → List ℤ) (us : List Win) (p : Point)
    → DamageCovers (looks_of assets screen us) us (looks_of assets screen (revalued screen h values us)) (revalued screen h values us) p
damage_revalued assets screen h values us p =
    DamageCovers-alone assets screen us (revalued screen h values us) p
    (alone_changed (looks_of assets screen us) p h (λ w. with_new_values screen us (values w) w) us (λ w. new_values_alone assets screen us (values w) w p))
