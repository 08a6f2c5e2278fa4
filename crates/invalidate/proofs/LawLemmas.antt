-- Windows that are made invalid.
use Rattle.std.proofs.Common.{◌≡◌, ℕ, zero, suc, Bool, true, false, cond, List, [], ◌∷◌, map, set, ℤ, Option, Some, None, refl, sym, subst, ◌∙◌, inl, inr}
use Rattle.std.specs.Prelude.{slice_get}
use Rattle.std.specs.List.{AllByRecursion}
use Rattle.std.proofs.lemmas.Bool.{cases_Bool, and_parts, false≢true}
use Rattle.gfx_base.specs.declared.rect.Rect.{Rect}
use Rattle.gfx_base.specs.Rects.{is_empty, meet, cover, shift}
use Rattle.gfx_base.proofs.CallerLemmas.{has-corner, has-empty, has-meet, is_empty-has, has-shift, cover-smallest}
use Rattle.scene.specs.declared.win.Win.{Win}
use Rattle.scene.specs.Places.{place_of}
use Rattle.scene.specs.Damage.{grown, with_invalid, invalidated, area_invalidated}
use Rattle.scene.specs.Stacks.{IsWindow, IsDesktop, MayBecome, IsStack, is_invalid_nowhere}
use Rattle.scene.proofs.CallerLemmas.{desktops, mapped_valid, changed_valid, set_is_changed, window_of-single}

-- ---- no invalid rectangle is empty

grown-some : (old : Option Rect) (part : Rect) → is_empty part ≡ false → is_empty (grown old part) ≡ false
grown-some None part some = some
grown-some (Some r) part some = is_empty-has (cover r part) _ ((cover-smallest r part).second _ (has-corner part some))

invalid-some : (clip area : Rect) (w : Win) → is_invalid_nowhere w ≡ false → is_invalid_nowhere (invalidated clip area w) ≡ false
invalid-some clip area w was =
    elim (cases_Bool (is_empty (meet area clip))) [
      | inl e ↦ rw e was
      | inr e ↦ rw e (grown-some w.invalid (meet area clip) e)
    ]

-- what of a window stays
by_test : (b : Bool) (w : Win) (r : Option Rect) (P : Win → Type 0) → P w → P (with_invalid w r) → P (cond b w (with_invalid w r))
by_test true w r P p q = p
by_test false w r P p q = q

either : (clip area : Rect) (w : Win) (P : Win → Type 0) → P w → ((r : Option Rect) → P (with_invalid w r)) → P (invalidated clip area w)
either clip area w P p q = by_test (is_empty (meet area clip)) w (Some (grown w.invalid (meet area clip))) P p (q (Some (grown w.invalid (meet area clip))))

pub may_become : (clip area : Rect) (w : Win) → IsWindow w → (w.handle ≡ 1 → IsDesktop w) → MayBecome w (invalidated clip area w)
may_become clip area w window desktop =
    let some = invalid-some clip area w window.invalid in
    let P : Win → Type 0 = λ v. is_invalid_nowhere v ≡ false → MayBecome w v in
    either clip area w P
    (λ e. record { handle = refl; parent = refl; window = window; desktop = desktop })
    (λ r e. record {
      handle = refl;
      parent = refl;
      window = record {
        handle = window.handle;
        some_width = window.some_width;
        width = window.width;
        some_height = window.some_height;
        height = window.height;
        invalid = e;
      };
      desktop = λ one. let desk = desktop one in record {
        x = desk.x;
        y = desk.y;
        width = desk.width;
        height = desk.height;
        shown = desk.shown;
        class = desk.class;
        trans = desk.trans;
      };
    })
    some

all_become : (clip : Win → Rect) (area : Rect) (ws : List Win) → AllByRecursion IsWindow ws → AllByRecursion (λ w. w.handle ≡ 1 → IsDesktop w) ws → AllByRecursion (λ w. MayBecome w (invalidated (clip w) area w)) ws
all_become clip area [] windows desk = tt
all_become clip area (w ∷ ws) windows desk = (may_become (clip w) area w windows.0 desk.0, all_become clip area ws windows.1 desk.1)

pub area_valid : (clip : Win → Rect) (area : Rect) (ws : List Win) → IsStack ws → IsStack (area_invalidated clip area ws)
area_valid clip area ws stack = mapped_valid (λ w. invalidated (clip w) area w) ws stack (all_become clip area ws stack.windows (desktops ws stack))

-- ---- one window

at_place : (P : Win → Type 0) (ws : List Win) (i : ℕ) (w : Win) → AllByRecursion P ws → slice_get ws i ≡ Some w → P w
at_place P [] i w all at = absurd cc
at_place P (v ∷ ws) zero w all at = let same : v ≡ w = cc in subst P same all.0
at_place P (v ∷ ws) (suc i) w all at = at_place P ws i w all.1 at

pub one_valid : (clip area : Rect) (ws : List Win) (i : ℕ) (w : Win) → IsStack ws → slice_get ws i ≡ Some w → IsStack (set ws i (invalidated clip area w))
one_valid clip area ws i w stack at =
    let S : List Win → Type 0 = λ us. IsStack us in
    let found = window_of-single ws i w at (stack.single w.handle) in
    let mine = may_become clip area w (at_place IsWindow ws i w stack.windows at) (at_place (λ v. v.handle ≡ 1 → IsDesktop v) ws i w (desktops ws stack) at) in
    let M : Win → Type 0 = λ v. MayBecome v (invalidated clip area v) in
    subst S (sym (set_is_changed ws i w (invalidated clip area) stack.single at))
    (changed_valid w.handle (invalidated clip area) ws stack (λ v live. let same : w ≡ v = let e = sym found ∙ live in cc in subst M same mine))

-- ---- places

pub place-invalidated : (clip area : Rect) (w : Win) → place_of (invalidated clip area w) ≡ place_of w
place-invalidated clip area w = let P : Win → Type 0 = λ v. place_of v ≡ place_of w in either clip area w P refl (λ r. refl)

pub places-invalidated : (clip : Win → Rect) (area : Rect) (ws : List Win) → map place_of (area_invalidated clip area ws) ≡ map place_of ws
places-invalidated clip area [] = refl
places-invalidated clip area (w ∷ ws) = rw (place-invalidated (clip w) area w, places-invalidated clip area ws) refl

-- ---- no points

pub meet-empty : (area clip : Rect) → is_empty area ≡ true → is_empty (meet area clip) ≡ true
meet-empty area clip empty =
    elim (cases_Bool (is_empty (meet area clip))) [
      | inl e ↦ e
      | inr e ↦
          let inside = and_parts _ _ (sym (has-meet area clip _) ∙ has-corner (meet area clip) e) in
          absurd (false≢true (sym (has-empty area _ empty) ∙ inside.0))
    ]

pub shift-empty : (area : Rect) (dx dy : ℤ) → is_empty area ≡ true → is_empty (shift area dx dy) ≡ true
shift-empty area dx dy empty =
    elim (cases_Bool (is_empty (shift area dx dy))) [
      | inl e ↦ e
      | inr e ↦ absurd (false≢true (sym (has-empty area _ empty) ∙ sym (has-shift area dx dy _) ∙ has-corner (shift area dx dy) e))
    ]

pub nothing_invalid : (clip area : Rect) (w : Win) → is_empty area ≡ true → invalidated clip area w ≡ w
nothing_invalid clip area w empty = rw (meet-empty area clip empty) refl
