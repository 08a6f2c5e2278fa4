-- Windows that are changed one after the other.
use Rattle.std.proofs.Common.{◌≡◌, ℕ, zero, suc, ◌+◌, ◌<◌, true, List, [], ◌∷◌, ◌++◌, length, take, drop, map, set, get_or, refl, sym, ap, ◌∙◌, inl, inr, arith}
use Rattle.std.proofs.lemmas.Bool.{cases_Bool, and_parts, and_from, false≢true}
use Rattle.std.proofs.lemmas.List.Edits.{map_over_more}
use Rattle.gfx_base.specs.declared.rect.Rect.{Rect}
use Rattle.gfx_base.specs.Rects.{is_empty, meet}
use Rattle.gfx_base.proofs.CallerLemmas.{has-corner, has-empty, has-meet}
use Rattle.scene.specs.declared.win.Win.{Win}
use Rattle.scene.specs.Places.{place_of}
use Rattle.scene.specs.Clips.{clip_in}
use Rattle.scene.specs.Damage.{invalidated, area_invalidated}
use Rattle.scene.proofs.CallerLemmas.{has-clip_in}
use Rattle.invalidate.proofs.LawLemmas.{place-invalidated}

kept_at : {X : Type 0} (f : X → X) (xs : List X) (i : ℕ) (d : X) → i < length xs → get_or (map f (take i xs) ++ drop i xs) i d ≡ get_or xs i d
kept_at f [] i d less = absurd (omega arith)
kept_at f (x ∷ xs) zero d less = refl
kept_at f (x ∷ xs) (suc i) d less = kept_at f xs i d (omega arith)

-- one more is changed, which was as at the start
pub change_more : {X : Type 0} (f : X → X) (xs ys : List X) (i : ℕ) (new x d : X) → i < length xs → ys ≡ map f (take i xs) ++ drop i xs → x ≡ get_or xs i x → new ≡ f x → set ys i new ≡ map f (take (i + 1) xs) ++ drop (i + 1) xs
change_more f xs ys i new x d less is at changed =
    ap (set ys i) changed
    ∙ map_over_more f xs ys i x less is (at ∙ sym (kept_at f xs i x less) ∙ sym (ap (λ zs. get_or zs i x) is))

pub was_at : {X : Type 0} (f : X → X) (xs ys : List X) (i : ℕ) (d : X) → i < length xs → ys ≡ map f (take i xs) ++ drop i xs → get_or ys i d ≡ get_or xs i d
was_at f xs ys i d less is = ap (λ zs. get_or zs i d) is ∙ kept_at f xs i d less

-- ---- windows stay in place

places_front : (clip : Win → Rect) (area : Rect) (ws : List Win) (i : ℕ) → map place_of (map (λ w. invalidated (clip w) area w) (take i ws) ++ drop i ws) ≡ map place_of ws
places_front clip area [] zero = refl
places_front clip area [] (suc i) = refl
places_front clip area (w ∷ ws) zero = refl
places_front clip area (w ∷ ws) (suc i) = rw (place-invalidated (clip w) area w, places_front clip area ws i) refl

-- where windows lie of which the first are changed
pub places_so_far : (clip : Win → Rect) (area : Rect) (ws us : List Win) (i : ℕ) → us ≡ map (λ w. invalidated (clip w) area w) (take i ws) ++ drop i ws → map place_of us ≡ map place_of ws
places_so_far clip area ws us i is = ap (map place_of) is ∙ places_front clip area ws i

-- ---- areas off the screen

meets_no_clip : (screen : Rect) (ws : List Win) (area : Rect) (w : Win) → is_empty (meet area screen) ≡ true → is_empty (meet area (clip_in screen ws w)) ≡ true
meets_no_clip screen ws area w off =
    let part = meet area (clip_in screen ws w) in
    elim (cases_Bool (is_empty part)) [
      | inl e ↦ e
      | inr e ↦
          let both = and_parts _ _ (sym (has-meet area (clip_in screen ws w) _) ∙ has-corner part e) in
          let there = has-meet area screen _ ∙ and_from _ _ both.0 (has-clip_in screen ws w _ both.1) in
          absurd (false≢true (sym (has-empty (meet area screen) _ off) ∙ there))
    ]

each_stays : (screen : Rect) (ws : List Win) (area : Rect) (us : List Win) → is_empty (meet area screen) ≡ true → area_invalidated (clip_in screen ws) area us ≡ us
each_stays screen ws area [] off = refl
each_stays screen ws area (w ∷ us) off = rw (meets_no_clip screen ws area w off, each_stays screen ws area us off) refl

pub nothing_on_screen : (screen : Rect) (ws : List Win) (area : Rect) → is_empty (meet area screen) ≡ true → ws ≡ area_invalidated (clip_in screen ws) area ws
nothing_on_screen screen ws area off = sym (each_stays screen ws area ws off)
