-- Where a window lies depends on it and its ancestors alone.
use Rattle.std.proofs.Common.{◌≡◌, ℕ, zero, suc, Bool, true, false, cond, eqb, pos, [], ◌∷◌, Option, Some, None, refl, sym, ap, subst, ◌∙◌, inl, inr}
use Rattle.std.specs.Prelude.{option_map, unwrap_or}
use Rattle.std.proofs.lemmas.Bool.{cases_Bool, false≢true, and_parts}
use Rattle.gfx_base.specs.declared.point.Point.{Point}
use Rattle.gfx_base.specs.declared.rect.Rect.{Rect}
use Rattle.gfx_base.specs.Rects.{point_at, has, meet, no_points}
use Rattle.gfx_base.proofs.CallerLemmas.{has-meet, has-no_points}
use Rattle.scene.specs.Places.{Place, parent_in}
use Rattle.scene.specs.Families.{places_above}
use Rattle.scene.specs.Clips.{corner_from, corner_of, frame_of, clip_from, clip_of, outer_clip}

-- ---- one level up

above_some : (n : ℕ) (found : ℕ → Option Place) (q p : Place) → parent_in found q ≡ Some p → places_above (suc n) found q ≡ p ∷ places_above n found p
above_some n found q p e = ap (λ (o : Option Place). unwrap_or (option_map (λ r. r ∷ places_above n found r) o) []) e

above_none : (n : ℕ) (found : ℕ → Option Place) (q : Place) → parent_in found q ≡ None → places_above (suc n) found q ≡ []
above_none n found q e = ap (λ (o : Option Place). unwrap_or (option_map (λ r. r ∷ places_above n found r) o) []) e

corner_with : (n : ℕ) (found : ℕ → Option Place) (q : Place) (o : Option Place) → parent_in found q ≡ o → corner_of (suc n) found q ≡ corner_from q (unwrap_or (option_map (corner_of n found) o) (point_at (pos 0) (pos 0)))
corner_with n found q o e = ap (λ (o : Option Place). corner_from q (unwrap_or (option_map (corner_of n found) o) (point_at (pos 0) (pos 0)))) e

clip_with : (n : ℕ) (screen : Rect) (found : ℕ → Option Place) (q : Place) (o : Option Place) → parent_in found q ≡ o → clip_of (suc n) screen found q ≡ clip_from q (corner_of (suc n) found q) (outer_clip screen (eqb q.parent 0) (option_map (clip_of n screen found) o))
clip_with n screen found q o e = ap (λ (o : Option Place). clip_from q (corner_of (suc n) found q) (outer_clip screen (eqb q.parent 0) (option_map (clip_of n screen found) o))) e

-- ---- all levels

-- what is told by the same ancestors
pub record LieAlike (n : ℕ) (screen : Rect) (found other : ℕ → Option Place) (q : Place) : Type 0 where
  pub corner : corner_of n found q ≡ corner_of n other q
  pub clip : clip_of n screen found q ≡ clip_of n screen other q

alike_step : (n : ℕ) (screen : Rect) (found other : ℕ → Option Place) (q : Place) → ((p : Place) → places_above n found p ≡ places_above n other p → LieAlike n screen found other p)
    → (o r : Option Place) → parent_in found q ≡ o → parent_in other q ≡ r → places_above (suc n) found q ≡ places_above (suc n) other q → LieAlike (suc n) screen found other q
alike_step n screen found other q inner None None e f same =
    let corner : corner_of (suc n) found q ≡ corner_of (suc n) other q = corner_with n found q None e ∙ sym (corner_with n other q None f) in
    record {
      corner = corner;
      clip = clip_with n screen found q None e
          ∙ ap (λ c. clip_from q c (outer_clip screen (eqb q.parent 0) None)) corner
          ∙ sym (clip_with n screen other q None f);
    }
alike_step n screen found other q inner None (Some r) e f same =
    absurd (let bad : [] ≡ r ∷ places_above n other r = sym (above_none n found q e) ∙ same ∙ above_some n other q r f in cc)
alike_step n screen found other q inner (Some p) None e f same =
    absurd (let bad : p ∷ places_above n found p ≡ [] = sym (above_some n found q p e) ∙ same ∙ above_none n other q f in cc)
alike_step n screen found other q inner (Some p) (Some r) e f same =
    let both : p ∷ places_above n found p ≡ r ∷ places_above n other r = sym (above_some n found q p e) ∙ same ∙ above_some n other q r f in
    let here : p ≡ r = cc in
    let above : places_above n found p ≡ places_above n other r = cc in
    let up = inner p (above ∙ ap (places_above n other) (sym here)) in
    let corner : corner_of (suc n) found q ≡ corner_of (suc n) other q =
    corner_with n found q (Some p) e
    ∙ ap (corner_from q) (up.corner ∙ ap (corner_of n other) here)
    ∙ sym (corner_with n other q (Some r) f) in
    record {
      corner = corner;
      clip = clip_with n screen found q (Some p) e
          ∙ ap (λ c. clip_from q c (outer_clip screen (eqb q.parent 0) (Some (clip_of n screen found p)))) corner
          ∙ ap (λ c. clip_from q (corner_of (suc n) other q) (outer_clip screen (eqb q.parent 0) (Some c))) (up.clip ∙ ap (clip_of n screen other) here)
          ∙ sym (clip_with n screen other q (Some r) f);
    }

pub lie_alike : (n : ℕ) (screen : Rect) (found other : ℕ → Option Place) (q : Place) → places_above n found q ≡ places_above n other q → LieAlike n screen found other q
lie_alike zero screen found other q same = record { corner = refl; clip = refl }
lie_alike (suc n) screen found other q same =
    alike_step n screen found other q (λ p up. lie_alike n screen found other p up) (parent_in found q) (parent_in other q) refl refl same

-- ---- a window's clip lies in its parent's

has-clip_from : (q : Place) (corner : Point) (outer : Rect) (p : Point) → has (clip_from q corner outer) p ≡ true → has outer p ≡ true
has-clip_from q corner outer p here = by_shown q.shown here
  where
    by_shown : (shown : Bool) → has (cond shown (meet (frame_of corner q) outer) no_points) p ≡ true → has outer p ≡ true
    by_shown true h = (and_parts _ _ (sym (has-meet (frame_of corner q) outer p) ∙ h)).1
    by_shown false h = absurd (false≢true (sym (has-no_points p) ∙ h))

parent_named : (found : ℕ → Option Place) (q r : Place) → parent_in found q ≡ Some r → eqb q.parent 0 ≡ false
parent_named found q r e =
    elim (cases_Bool (eqb q.parent 0)) [
      | inl top ↦ absurd (let bad : None ≡ Some r = rw top at e in cc)
      | inr child ↦ child
    ]

inside : (n : ℕ) (screen : Rect) (found : ℕ → Option Place) (q r : Place) (p : Point) → parent_in found q ≡ Some r → has (clip_of (suc n) screen found q) p ≡ true → has (clip_of n screen found r) p ≡ true
inside n screen found q r p e here =
    let outer : outer_clip screen (eqb q.parent 0) (Some (clip_of n screen found r)) ≡ clip_of n screen found r = ap (λ b. outer_clip screen b (Some (clip_of n screen found r))) (parent_named found q r e) in
    let H : Rect → Type 0 = λ c. has c p ≡ true in
    subst H outer
    (has-clip_from q (corner_of (suc n) found q) (outer_clip screen (eqb q.parent 0) (Some (clip_of n screen found r))) p
    (subst H (clip_with n screen found q (Some r) e) here))

-- where a clip has a point, one level more makes no difference
record IsSettled (n : ℕ) (screen : Rect) (found : ℕ → Option Place) (q : Place) : Type 0 where
  corner : corner_of (suc n) found q ≡ corner_of n found q
  clip : clip_of (suc n) screen found q ≡ clip_of n screen found q

settled_step : (n : ℕ) (screen : Rect) (found : ℕ → Option Place) (q : Place) (p : Point) → ((r : Place) → has (clip_of n screen found r) p ≡ true → IsSettled n screen found r)
    → (o : Option Place) → parent_in found q ≡ o → has (clip_of (suc n) screen found q) p ≡ true → IsSettled (suc n) screen found q
settled_step n screen found q p inner None e here =
    let corner : corner_of (suc (suc n)) found q ≡ corner_of (suc n) found q = corner_with (suc n) found q None e ∙ sym (corner_with n found q None e) in
    record {
      corner = corner;
      clip = clip_with (suc n) screen found q None e
          ∙ ap (λ c. clip_from q c (outer_clip screen (eqb q.parent 0) None)) corner
          ∙ sym (clip_with n screen found q None e);
    }
settled_step n screen found q p inner (Some r) e here =
    let up = inner r (inside n screen found q r p e here) in
    let corner : corner_of (suc (suc n)) found q ≡ corner_of (suc n) found q =
    corner_with (suc n) found q (Some r) e ∙ ap (corner_from q) up.corner ∙ sym (corner_with n found q (Some r) e) in
    record {
      corner = corner;
      clip = clip_with (suc n) screen found q (Some r) e
          ∙ ap (λ c. clip_from q c (outer_clip screen (eqb q.parent 0) (Some (clip_of (suc n) screen found r)))) corner
          ∙ ap (λ c. clip_from q (corner_of (suc n) found q) (outer_clip screen (eqb q.parent 0) (Some c))) up.clip
          ∙ sym (clip_with n screen found q (Some r) e);
    }

settled : (n : ℕ) (screen : Rect) (found : ℕ → Option Place) (q : Place) (p : Point) → has (clip_of n screen found q) p ≡ true → IsSettled n screen found q
settled zero screen found q p here = absurd (false≢true (sym (has-no_points p) ∙ here))
settled (suc n) screen found q p here = settled_step n screen found q p (λ r h. settled n screen found r p h) (parent_in found q) refl here

pub has-parent_clip : (n : ℕ) (screen : Rect) (found : ℕ → Option Place) (q r : Place) (p : Point) → parent_in found q ≡ Some r → has (clip_of (suc n) screen found q) p ≡ true → has (clip_of (suc n) screen found r) p ≡ true
has-parent_clip n screen found q r p e here =
    let there = inside n screen found q r p e here in
    let H : Rect → Type 0 = λ c. has c p ≡ true in
    subst H (sym (settled n screen found r p there).clip) there
