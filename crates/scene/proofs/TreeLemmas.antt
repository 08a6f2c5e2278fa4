-- A window of a tree lies inside its ancestors, so where an ancestor isn't at a point, whatever lies in it isn't either.
use Rattle.std.proofs.Common.{◌≡◌, ℕ, zero, suc, ◌+◌, Bool, true, false, eqb, List, Option, Some, None, refl, sym, ap, ◌∙◌, inl, inr, arith}
use Rattle.std.specs.Prelude.{not}
use Rattle.std.specs.Option.{option_map_or}
use Rattle.std.proofs.lemmas.Bool.{cases_Bool, and_right, and_parts, or_cases, eqb-true, false≢true, false_from_ne_true, true_from_ne_false}
use Rattle.gfx_base.specs.declared.point.Point.{Point}
use Rattle.gfx_base.specs.declared.rect.Rect.{Rect}
use Rattle.gfx_base.specs.Rects.{has, no_points}
use Rattle.gfx_base.proofs.CallerLemmas.{has-meet, has-no_points}
use Rattle.scene.specs.declared.win.Win.{Win}
use Rattle.scene.specs.Places.{Place, place_at}
use Rattle.scene.specs.Clips.{deepest_level, corner_from, corner_of, frame_of, clip_from, clip_of}
use Rattle.scene.specs.Changes.{FindAlike, lies_below, is_below}

-- ---- a window and what it lies in

-- a point of a clip is one of the clip that it lies in
has-clip_from : (q : Place) (corner : Point) (outer : Rect) (p : Point) → has outer p ≡ false → has (clip_from q corner outer) p ≡ false
has-clip_from q corner outer p away =
    elim (cases_Bool q.shown) [
      | inl shown ↦ rw (shown, has-meet (frame_of corner q) outer p) (and_right _ _ away)
      | inr hidden ↦ rw hidden (has-no_points p)
    ]

has-clip_from-same : (q : Place) (corner : Point) (one other : Rect) (p : Point) → has one p ≡ has other p → has (clip_from q corner one) p ≡ has (clip_from q corner other) p
has-clip_from-same q corner one other p e =
    elim (cases_Bool q.shown) [
      | inl shown ↦ rw (shown, has-meet (frame_of corner q) one p, has-meet (frame_of corner q) other p, e) refl
      | inr hidden ↦ rw hidden refl
    ]

clip_of-child : (n : ℕ) (screen : Rect) (found : ℕ → Option Place) (q r : Place) → eqb q.parent 0 ≡ false → found q.parent ≡ Some r → clip_of (suc n) screen found q ≡ clip_from q (corner_from q (corner_of n found r)) (clip_of n screen found r)
clip_of-child n screen found q r child is = rw (child, is) refl

corner_of-child : (n : ℕ) (found : ℕ → Option Place) (q r : Place) → eqb q.parent 0 ≡ false → found q.parent ≡ Some r → corner_of (suc n) found q ≡ corner_from q (corner_of n found r)
corner_of-child n found q r child is = rw (child, is) refl

-- a window whose parent isn't found is nowhere
has-clip_of-lost : (n : ℕ) (screen : Rect) (found : ℕ → Option Place) (q : Place) (p : Point) → eqb q.parent 0 ≡ false → found q.parent ≡ None → has (clip_of (suc n) screen found q) p ≡ false
has-clip_of-lost n screen found q p child is = rw (child, is) (has-clip_from q _ no_points p (has-no_points p))

has-clip_of-child : (n : ℕ) (screen : Rect) (found : ℕ → Option Place) (q r : Place) (p : Point) → eqb q.parent 0 ≡ false → found q.parent ≡ Some r → has (clip_of n screen found r) p ≡ false → has (clip_of (suc n) screen found q) p ≡ false
has-clip_of-child n screen found q r p child is away =
    ap (λ (clip : Rect). has clip p) (clip_of-child n screen found q r child is) ∙ has-clip_from q (corner_from q (corner_of n found r)) (clip_of n screen found r) p away

-- ---- levels

-- on more levels the place lies where it lies on so many
record StaysDeeper (n : ℕ) (screen : Rect) (found : ℕ → Option Place) (q : Place) : Type 0 where
  pub clip : clip_of (suc n) screen found q ≡ clip_of n screen found q
  pub corner : corner_of (suc n) found q ≡ corner_of n found q

deeper_child : (n : ℕ) (screen : Rect) (found : ℕ → Option Place) (q : Place) (p : Point) (o : Option Place) → eqb q.parent 0 ≡ false → found q.parent ≡ o
    → ((r : Place) → has (clip_of n screen found r) p ≡ true → StaysDeeper n screen found r) → has (clip_of (suc n) screen found q) p ≡ true → StaysDeeper (suc n) screen found q
deeper_child n screen found q p None child is below h = absurd (false≢true (sym (has-clip_of-lost n screen found q p child is) ∙ h))
deeper_child n screen found q p (Some r) child is below h =
    let d = below r (true_from_ne_false _ (λ away. false≢true (sym (has-clip_of-child n screen found q r p child is away) ∙ h))) in
    record {
      clip =
          clip_of-child (suc n) screen found q r child is
          ∙ ap (λ (corner : Point). clip_from q (corner_from q corner) (clip_of (suc n) screen found r)) d.corner
          ∙ ap (λ (clip : Rect). clip_from q (corner_from q (corner_of n found r)) clip) d.clip
          ∙ sym (clip_of-child n screen found q r child is);
      corner = corner_of-child (suc n) found q r child is ∙ ap (corner_from q) d.corner ∙ sym (corner_of-child n found q r child is);
    }

-- more levels add only what isn't at the point
deeper : (n : ℕ) (screen : Rect) (found : ℕ → Option Place) (q : Place) (p : Point) → has (clip_of n screen found q) p ≡ true → StaysDeeper n screen found q
deeper zero screen found q p h = absurd (false≢true (sym (has-no_points p) ∙ h))
deeper (suc n) screen found q p h =
    elim (cases_Bool (eqb q.parent 0)) [
      | inl top ↦ record { clip = rw top refl; corner = rw top refl }
      | inr child ↦ deeper_child n screen found q p (found q.parent) child refl (λ r k. deeper n screen found r p k) h
    ]

-- fewer levels show no more
has-fewer : (levels : ℕ) (screen : Rect) (found : ℕ → Option Place) (q : Place) (p : Point) → has (clip_of levels screen found q) p ≡ false → (more n : ℕ) → more + n ≡ levels → has (clip_of n screen found q) p ≡ false
has-fewer levels screen found q p away zero n e =
    let same : n ≡ levels = omega arith in
    rw same away
has-fewer levels screen found q p away (suc more) n e =
    let next : has (clip_of (suc n) screen found q) p ≡ false = has-fewer levels screen found q p away more (suc n) (omega arith) in
    false_from_ne_true _ (λ h. let d = deeper n screen found q p h in false≢true (sym next ∙ ap (λ (clip : Rect). has clip p) d.clip ∙ h))

-- ---- what lies below

lies_in_parent : (k : ℕ) (screen : Rect) (found : ℕ → Option Place) (q : Place) (p : Point) (o : Option Place) (test : Place → Bool) → eqb q.parent 0 ≡ false → found q.parent ≡ o
    → ((r : Place) → test r ≡ true → has (clip_of k screen found r) p ≡ false) → option_map_or test o false ≡ true → has (clip_of (suc k) screen found q) p ≡ false
lies_in_parent k screen found q p None test child is away h = absurd (false≢true h)
lies_in_parent k screen found q p (Some r) test child is away h = has-clip_of-child k screen found q r p child is (away r h)

below_away : (n : ℕ) (screen : Rect) (found : ℕ → Option Place) (handle : ℕ) (outer q : Place) (p : Point) → found handle ≡ Some outer → has (clip_of deepest_level screen found outer) p ≡ false → (k more : ℕ) → more + k ≡ deepest_level → lies_below n found handle q ≡ true
    → has (clip_of k screen found q) p ≡ false
below_away zero screen found handle outer q p is away k more e below = absurd (false≢true below)
below_away (suc n) screen found handle outer q p is away zero more e below = has-no_points p
below_away (suc n) screen found handle outer q p is away (suc k) more e below =
    let parts = and_parts (not (eqb q.parent 0)) _ below in
    let child : eqb q.parent 0 ≡ false = false_from_ne_true _ (λ top. false≢true (rw top at parts.0)) in
    elim (or_cases (eqb q.parent handle) _ parts.1) [
      | inl own ↦ has-clip_of-child k screen found q outer p child (ap found (eqb-true q.parent handle own) ∙ is) (has-fewer deepest_level screen found outer p away (suc more) k (omega arith))
      | inr deep ↦ lies_in_parent k screen found q p (found q.parent) (lies_below n found handle) child refl (λ r h. below_away n screen found handle outer r p is away k (suc more) (omega arith) h) deep
    ]

-- what lies below a window that isn't at the point isn't there
pub below-away : (screen : Rect) (ws : List Win) (handle : ℕ) (outer q : Place) (p : Point) → place_at ws handle ≡ Some outer → has (clip_of deepest_level screen (place_at ws) outer) p ≡ false → is_below ws handle q ≡ true → has (clip_of deepest_level screen (place_at ws) q) p ≡ false
below-away screen ws handle outer q p is away below = below_away deepest_level screen (place_at ws) handle outer q p is away deepest_level 0 (omega arith) below

-- ---- places that find others

-- a place that has the point lies where it lay, and none came to the point or left it
pub record Alike (n : ℕ) (screen : Rect) (p : Point) (found now : ℕ → Option Place) (q : Place) : Type 0 where
  pub inside : has (clip_of n screen now q) p ≡ has (clip_of n screen found q) p
  pub corner : has (clip_of n screen found q) p ≡ true → corner_of n now q ≡ corner_of n found q

alike_away : (n : ℕ) (screen : Rect) (p : Point) (found now : ℕ → Option Place) (q : Place) → has (clip_of n screen found q) p ≡ false → has (clip_of n screen now q) p ≡ false → Alike n screen p found now q
alike_away n screen p found now q old new = record { inside = new ∙ sym old; corner = λ h. absurd (false≢true (sym old ∙ h)) }

alike_child : (n : ℕ) (screen : Rect) (p : Point) (found now : ℕ → Option Place) (q : Place) (o : Option Place) → eqb q.parent 0 ≡ false → found q.parent ≡ o → now q.parent ≡ o → ((r : Place) → Alike n screen p found now r) → Alike (suc n) screen p found now q
alike_child n screen p found now q None child old new below = alike_away (suc n) screen p found now q (has-clip_of-lost n screen found q p child old) (has-clip_of-lost n screen now q p child new)
alike_child n screen p found now q (Some r) child old new below =
    let a = below r in
    elim (cases_Bool (has (clip_of n screen found r) p)) [
      | inl here ↦ record {
        inside =
            ap (λ (clip : Rect). has clip p) (clip_of-child n screen now q r child new)
            ∙ ap (λ (corner : Point). has (clip_from q (corner_from q corner) (clip_of n screen now r)) p) (a.corner here)
            ∙ has-clip_from-same q (corner_from q (corner_of n found r)) (clip_of n screen now r) (clip_of n screen found r) p a.inside
            ∙ ap (λ (clip : Rect). has clip p) (sym (clip_of-child n screen found q r child old));
        corner = λ h. corner_of-child n now q r child new ∙ ap (corner_from q) (a.corner here) ∙ sym (corner_of-child n found q r child old);
      }
      | inr away ↦ alike_away (suc n) screen p found now q (has-clip_of-child n screen found q r p child old away) (has-clip_of-child n screen now q r p child new (a.inside ∙ away))
    ]

parent_away : (n more : ℕ) (screen : Rect) (p : Point) (found : ℕ → Option Place) (q : Place) (o : Option Place) → suc more + n ≡ deepest_level → eqb q.parent 0 ≡ false → found q.parent ≡ o
    → ((r : Place) → found q.parent ≡ Some r → has (clip_of deepest_level screen found r) p ≡ false) → has (clip_of (suc n) screen found q) p ≡ false
parent_away n more screen p found q None e child is away = has-clip_of-lost n screen found q p child is
parent_away n more screen p found q (Some r) e child is away = has-clip_of-child n screen found q r p child is (has-fewer deepest_level screen found r p (away r is) (suc more) n e)

alike_on : (screen : Rect) (p : Point) (old new : List Win) → FindAlike screen old new p → (n more : ℕ) → more + n ≡ deepest_level → (q : Place) → Alike n screen p (place_at old) (place_at new) q
alike_on screen p old new alike zero more e q = record { inside = refl; corner = λ h. refl }
alike_on screen p old new alike (suc n) more e q =
    elim (cases_Bool (eqb q.parent 0)) [
      | inl top ↦ record { inside = rw top refl; corner = λ h. rw top refl }
      | inr child ↦
          elim (alike q.parent) [
            | inl same ↦ alike_child n screen p (place_at old) (place_at new) q (place_at old q.parent) child refl same (λ r. alike_on screen p old new alike n (suc more) (omega arith) r)
            | inr away ↦
                alike_away (suc n) screen p (place_at old) (place_at new) q (parent_away n more screen p (place_at old) q (place_at old q.parent) (omega arith) child refl away.0)
                (parent_away n more screen p (place_at new) q (place_at new q.parent) (omega arith) child refl away.1)
          ]
    ]

pub alike : (screen : Rect) (p : Point) (old new : List Win) → FindAlike screen old new p → (q : Place) → Alike deepest_level screen p (place_at old) (place_at new) q
alike screen p old new finds q = alike_on screen p old new finds deepest_level 0 (omega arith) q
