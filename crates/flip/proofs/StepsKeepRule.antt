-- Each step keeps the rule over the word and the views.
use Rattle.std.proofs.Common.{◌≡◌, ◌≢◌, ◌⊎◌, ℕ, zero, suc, ◌<◌, List, [], ◌∷◌, Option, Some, None, Bool, true, false, refl, sym, ap, subst, inl, inr}
use Rattle.std.specs.Prelude.{slice_index, slice_set, IfSome, unwrap_or}
use mathlib.Core.Option.{none, some, some-ne-none, some-injective}
use lib.ListN.{get_elem?}
use Rattle.atomic_table.specs.Table.{Me, step, keeps, Act, Valid, carried_after, Allows}
use Rattle.flip.specs.declared.views.Drawing.{Drawing}
use Rattle.flip.specs.declared.views.Showing.{Showing}
use Rattle.flip.specs.declared.views.View.{View}
use Rattle.flip.specs.declared.views.View.TheVariants.{Draws, Shows}
use Rattle.flip.specs.Indexes.{index_of, confirmed_by}
use Rattle.flip.specs.Drawers.{after_look, after_post, after_own_tick, IsConsistent, IsFree}
use Rattle.flip.specs.Controllers.{after_tick}
use Rattle.flip.specs.Display.{ArePartners, IsAlone, IsDisplay}
use Rattle.flip.specs.Views.{drawing_of, showing_of}
use Rattle.flip.specs.Rule.{IsKept, ByDrawer, IsLook, IsPost, IsTick, IsOwnTick}

-- what the display shows and what waits, on plain numbers
abbrev Agrees : ℕ → Option ℕ → ℕ → Option ℕ → Type 0
Agrees shown waiting s w = ((s ≡ shown) × (w ≡ waiting)) ⊎ ((waiting ≡ Some s) × (w ≡ None))

-- after a step that found w, the display shows what the drawer then knows as shown
shown_now : (shown : ℕ) (waiting : Option ℕ) (s : ℕ) (w : Option ℕ) → Agrees shown waiting s w → s ≡ unwrap_or (confirmed_by waiting w) shown
shown_now shown None s None (inl e) = e.0
shown_now shown None s (Some j) (inl e) = e.0
shown_now shown (Some k) s None (inl e) = absurd (cc (e.1))
shown_now shown (Some k) s (Some j) (inl e) = e.0
shown_now shown None s w (inr e) = absurd (cc (e.0))
shown_now shown (Some k) s None (inr e) = cc (e.0)
shown_now shown (Some k) s (Some j) (inr e) = absurd (cc (e.1))

-- after it the drawer's numbers are consistent again, with the word found as what waits
consistent_after : (n shown : ℕ) (waiting : Option ℕ) (s : ℕ) (w : Option ℕ) → Agrees shown waiting s w → shown < n → IfSome waiting (λ k. (k < n) × (k ≢ shown))
    → (unwrap_or (confirmed_by waiting w) shown < n) × IfSome w (λ k. (k < n) × (k ≢ unwrap_or (confirmed_by waiting w) shown))
consistent_after n shown None s None e lt ok = (lt, tt)
consistent_after n shown None s (Some j) (inl e) lt ok = absurd (cc (e.1))
consistent_after n shown None s (Some j) (inr e) lt ok = absurd (cc (e.0))
consistent_after n shown (Some k) s None (inl e) lt ok = absurd (cc (e.1))
consistent_after n shown (Some k) s None (inr e) lt ok = (ok.0, tt)
consistent_after n shown (Some k) s (Some j) (inl e) lt ok = let same : k ≡ j = cc (e.1) in (lt, subst (λ (x : ℕ). (x < n) × (x ≢ shown)) same ok)
consistent_after n shown (Some k) s (Some j) (inr e) lt ok = absurd (cc (e.1))

-- a buffer that was free is not the one that is known as shown after a step
free_post : (shown : ℕ) (waiting : Option ℕ) (w : Option ℕ) (back : ℕ) → back ≢ shown → waiting ≢ Some back → back ≢ unwrap_or (confirmed_by waiting w) shown
free_post shown None w back ns nw = ns
free_post shown (Some k) None back ns nw = λ e. nw (ap Some (sym e))
free_post shown (Some k) (Some j) back ns nw = ns

-- a controller's step leaves what the drawer knows true
agrees_tick : (shown : ℕ) (waiting : Option ℕ) (s : ℕ) (w : Option ℕ) → Agrees shown waiting s w → Agrees shown waiting (unwrap_or w s) None
agrees_tick shown None s None e = e
agrees_tick shown None s (Some j) (inl e) = absurd (cc (e.1))
agrees_tick shown None s (Some j) (inr e) = absurd (cc (e.0))
agrees_tick shown (Some k) s None e = e
agrees_tick shown (Some k) s (Some j) (inl e) = inr (sym e.1, refl)
agrees_tick shown (Some k) s (Some j) (inr e) = absurd (cc (e.1))

off : {X : Type 0} (b : Bool) → b ≡ true → b ≡ false → X
off b t f = absurd (cc (t, f))

-- a step of a drawer keeps the rule where it keeps it in each of the two forms
drawer_steps : (after : Drawing → Option ℕ → Drawing) (f : ℕ → ℕ) (slots id : ℕ) (d : Drawing)
    → ((n : ℕ) → IsAlone d (index_of n) → IsAlone (after d (index_of n)) (index_of (f n)))
    → ((n : ℕ) (c : Showing) → ArePartners d c (index_of n) → ArePartners (after d (index_of n)) c (index_of (f n)))
    → Allows (λ s. IsKept s.words s.views) slots id (Draws d, []) 0 f (ByDrawer after (Draws d, []))
drawer_steps after f slots id d alone paired s kept wide at bound = go s.words s.views id kept at
  where
    go : (words : List ℕ) (views : List View) (at : ℕ) → IsKept words views → get_elem? views at ≡ some (Draws d)
        → (w : View) × (a : Act (Unit {0})) × Valid s.homes [] a
        × IsKept (slice_set words 0 (f (slice_index words 0))) (slice_set views at w) × ByDrawer after (Draws d, []) (slice_index words 0) (w, carried_after [] a)
    go (n ∷ []) (Draws e ∷ []) zero k is =
        let same : e ≡ d = ap drawing_of (some-injective _ _ is) in
        let k' = subst (λ (x : Drawing). IsAlone x (index_of n)) same k in
        (Draws (after d (index_of n)), keeps, tt, alone n k', (refl, (d.shown, k'.display)))
    go (n ∷ []) (Draws e ∷ []) (suc at) k is = absurd (some-ne-none _ (sym is))
    go (n ∷ []) (Draws e ∷ Shows c ∷ []) zero k is =
        let same : e ≡ d = ap drawing_of (some-injective _ _ is) in
        let k' = subst (λ (x : Drawing). ArePartners x c (index_of n)) same k in
        (Draws (after d (index_of n)), keeps, tt, paired n c k', (refl, (c.shown, k'.display)))
    go (n ∷ []) (Draws e ∷ Shows c ∷ []) (suc zero) k is = absurd (cc (some-injective _ _ is))
    go (n ∷ []) (Draws e ∷ Shows c ∷ []) (suc (suc at)) k is = absurd (some-ne-none _ (sym is))
    go words views at k is = absurd k

-- the same for a controller, which tells what its drawer knew
controller_steps : (slots id : ℕ) (c : Showing)
    → ((n : ℕ) (d : Drawing) → ArePartners d c (index_of n) → ArePartners d (after_tick c (index_of n)) None)
    → Allows (λ s. IsKept s.words s.views) slots id (Shows c, []) 0 (λ _. 0) (λ found now. IsTick (step slots 0 0 0 none) (Shows c, []) found now)
controller_steps slots id c paired s kept wide at bound = go s.words s.views id kept at
  where
    go : (words : List ℕ) (views : List View) (at : ℕ) → IsKept words views → get_elem? views at ≡ some (Shows c)
        → (w : View) × (a : Act (Unit {0})) × Valid s.homes [] a
        × IsKept (slice_set words 0 0) (slice_set views at w) × IsTick (step slots 0 0 0 none) (Shows c, []) (slice_index words 0) (w, carried_after [] a)
    go (n ∷ []) (Draws e ∷ []) zero k is = absurd (cc (some-injective _ _ is))
    go (n ∷ []) (Draws e ∷ []) (suc at) k is = absurd (some-ne-none _ (sym is))
    go (n ∷ []) (Draws d ∷ Shows e ∷ []) zero k is = absurd (cc (some-injective _ _ is))
    go (n ∷ []) (Draws d ∷ Shows e ∷ []) (suc zero) k is =
        let same : e ≡ c = ap showing_of (some-injective _ _ is) in
        let k' = subst (λ (x : Showing). ArePartners d x (index_of n)) same k in
        (Shows (after_tick c (index_of n)), keeps, tt, paired n d k', (refl, (d, k')))
    go (n ∷ []) (Draws d ∷ Shows e ∷ []) (suc (suc at)) k is = absurd (some-ne-none _ (sym is))
    go words views at k is = absurd k

look_alone : (d : Drawing) (n : ℕ) → IsAlone d (index_of n) → IsAlone (after_look d (index_of n)) (index_of n)
look_alone d n k =
    let kept = consistent_after d.buffers d.shown d.waiting d.shown (index_of n) k.display.agrees k.consistent.shown_exists k.consistent.waiting_exists in
    record {
      alone = k.alone;
      consistent = record { at_least_one = k.consistent.at_least_one; at_most_three = k.consistent.at_most_three; shown_exists = kept.0; waiting_exists = kept.1 };
      display = record { agrees = inl (refl, refl); when_alone = λ _. (refl, refl) };
    }

look_paired : (d : Drawing) (n : ℕ) (c : Showing) → ArePartners d c (index_of n) → ArePartners (after_look d (index_of n)) c (index_of n)
look_paired d n c k =
    let kept = consistent_after d.buffers d.shown d.waiting c.shown (index_of n) k.display.agrees k.consistent.shown_exists k.consistent.waiting_exists in
    record {
      parted = k.parted;
      buffers = k.buffers;
      consistent = record { at_least_one = k.consistent.at_least_one; at_most_three = k.consistent.at_most_three; shown_exists = kept.0; waiting_exists = kept.1 };
      display = record { agrees = inl (shown_now d.shown d.waiting c.shown (index_of n) k.display.agrees, refl); when_alone = λ t. off d.alone t k.parted };
    }

post_consistent : (d : Drawing) (s : ℕ) (w : Option ℕ) (back : ℕ) → IsDisplay d s w → IsConsistent d → IsFree d back → IsConsistent (after_post d w back)
post_consistent d s w back display k free =
    let kept = consistent_after d.buffers d.shown d.waiting s w display.agrees k.shown_exists k.waiting_exists in
    record { at_least_one = k.at_least_one; at_most_three = k.at_most_three; shown_exists = kept.0; waiting_exists = (free.0, free_post d.shown d.waiting w back free.1.0 free.1.1) }

post_alone : (d : Drawing) (back n : ℕ) → IsFree d back → IsAlone d (index_of n) → IsAlone (after_post d (index_of n) back) (Some back)
post_alone d back n free k = record {
  alone = k.alone;
  consistent = post_consistent d d.shown (index_of n) back k.display k.consistent free;
  display = record { agrees = inl (refl, refl); when_alone = λ _. (refl, refl) };
}

post_paired : (d : Drawing) (back n : ℕ) (c : Showing) → IsFree d back → ArePartners d c (index_of n) → ArePartners (after_post d (index_of n) back) c (Some back)
post_paired d back n c free k = record {
  parted = k.parted;
  buffers = k.buffers;
  consistent = post_consistent d c.shown (index_of n) back k.display k.consistent free;
  display = record { agrees = inl (shown_now d.shown d.waiting c.shown (index_of n) k.display.agrees, refl); when_alone = λ t. off d.alone t k.parted };
}

shown_alone : (n shown : ℕ) (waiting : Option ℕ) → shown < n → IfSome waiting (λ k. (k < n) × (k ≢ shown)) → unwrap_or waiting shown < n
shown_alone n shown None lt ok = lt
shown_alone n shown (Some k) lt ok = ok.0

own_tick_alone : (d : Drawing) (n : ℕ) → IsAlone d (index_of n) → IsAlone (after_own_tick d (index_of n)) None
own_tick_alone d n k = record {
  alone = k.alone;
  consistent = record {
    at_least_one = k.consistent.at_least_one;
    at_most_three = k.consistent.at_most_three;
    shown_exists = shown_alone d.buffers d.shown d.waiting k.consistent.shown_exists k.consistent.waiting_exists;
    waiting_exists = tt;
  };
  display = record { agrees = inl (refl, refl); when_alone = λ _. (refl, refl) };
}

tick_paired : (c : Showing) (n : ℕ) (d : Drawing) → ArePartners d c (index_of n) → ArePartners d (after_tick c (index_of n)) None
tick_paired c n d k = record {
  parted = k.parted;
  buffers = k.buffers;
  consistent = k.consistent;
  display = record { agrees = agrees_tick d.shown d.waiting c.shown (index_of n) k.display.agrees; when_alone = λ t. off d.alone t k.parted };
}

-- the steps, at a view that is known
pub looks : (slots id : ℕ) (me : Me (Unit {0}) View) (d : Drawing) → me ≡ (Draws d, [])
    → Allows (λ s. IsKept s.words s.views) slots id me 0 (λ n. n) (IsLook (step slots 0 0 0 none) me)
looks slots id me d is =
    subst (λ (m : Me (Unit {0}) View). Allows (λ s. IsKept s.words s.views) slots id m 0 (λ n. n) (IsLook (step slots 0 0 0 none) m)) (sym is)
    (drawer_steps after_look (λ n. n) slots id d (look_alone d) (look_paired d))

pub posts : (slots id : ℕ) (me : Me (Unit {0}) View) (d : Drawing) (back next : ℕ) → me ≡ (Draws d, []) → next ≡ suc back → IsFree d back
    → Allows (λ s. IsKept s.words s.views) slots id me 0 (λ _. next) (IsPost (step slots 0 next 0 none) me)
posts slots id me d back next is up free =
    subst (λ (m : Me (Unit {0}) View × ℕ). Allows (λ s. IsKept s.words s.views) slots id m.0 0 (λ _. m.1) (IsPost (step slots 0 m.1 0 none) m.0)) (λ i. (sym is i, sym up i))
    (drawer_steps (λ d found. after_post d found back) (λ _. suc back) slots id d (λ n. post_alone d back n free) (λ n c. post_paired d back n c free))

pub own_ticks : (slots id : ℕ) (me : Me (Unit {0}) View) (d : Drawing) → me ≡ (Draws d, []) → d.alone ≡ true
    → Allows (λ s. IsKept s.words s.views) slots id me 0 (λ _. 0) (IsOwnTick (step slots 0 0 0 none) me)
own_ticks slots id me d is alone =
    subst (λ (m : Me (Unit {0}) View). Allows (λ s. IsKept s.words s.views) slots id m 0 (λ _. 0) (IsOwnTick (step slots 0 0 0 none) m)) (sym is)
    (drawer_steps after_own_tick (λ _. 0) slots id d (own_tick_alone d) (λ n c k. off d.alone alone k.parted))

pub ticks : (slots id : ℕ) (me : Me (Unit {0}) View) (c : Showing) → me ≡ (Shows c, [])
    → Allows (λ s. IsKept s.words s.views) slots id me 0 (λ _. 0) (IsTick (step slots 0 0 0 none) me)
ticks slots id me c is =
    subst (λ (m : Me (Unit {0}) View). Allows (λ s. IsKept s.words s.views) slots id m 0 (λ _. 0) (IsTick (step slots 0 0 0 none) m)) (sym is)
    (controller_steps slots id c (tick_paired c))
