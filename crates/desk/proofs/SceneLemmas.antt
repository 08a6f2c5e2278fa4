-- The windows stay those of a tree: each call leads from a valid stack to a valid one.
use Rattle.std.proofs.Common.{◌≡◌, ◌≢◌, ℕ, ◌+◌, ◌<◌, ◌≤◌, Bool, true, false, cond, eqb, List, [], ◌∷◌, ◌++◌, map, Option, Some, None, refl, sym, ap, subst, ◌∙◌, inl, inr, arith, eq-eqb, get_or}
use Rattle.std.specs.Prelude.{position}
use Rattle.std.specs.List.{AllByRecursion}
use Rattle.std.proofs.lemmas.Bool.{cases_Bool, eqb-true, ne_eqb}
use Rattle.std.proofs.lemmas.Option.{same_Some, slice_get-get_or}
use Rattle.std.proofs.lemmas.List.Quantifiers.{position-Some}
use Rattle.gfx_base.specs.declared.rect.Rect.{Rect}
use Rattle.scene.specs.declared.win.Win.{Win}
use Rattle.scene.specs.Places.{window_of, no_window, AreSingle}
use Rattle.scene.specs.Clips.{clip_in}
use Rattle.scene.specs.Damage.{with_invalid, area_invalidated, areas_invalidated}
use Rattle.scene.specs.Families.{window_changed, family_of, without_family, on_top_of, raised, lowered}
use Rattle.scene.specs.Looks.{IsPaintable, screen_with}
use Rattle.scene.specs.Stacks.{IsStack, IsWindow, IsDesktop, MayBecome, AreGiven, desktop_screen}
use Rattle.scene.proofs.CallerLemmas.{bare, bare-area, AreFound, all_found, desktops, changed_valid, set_is_changed}
use Rattle.win_tree.proofs.CallerLemmas.{AllBy-rest, AllBy-block, AllBy-whole, placed, family_stands, raised_stands, lowered_stands, created_stands, IsNew, created_valid, without_valid, raised_valid, lowered_valid, created_found, without_found, raised_found, lowered_found, created_given, without_given, raised_given, lowered_given}
use Rattle.invalidate.proofs.CallerLemmas.{area_valid}
use Rattle.desk.specs.Setups.{Setup, screen_of}
use Rattle.desk.specs.Windows.{with_memdev, after_change, clip_at, listed, are_as_they_were}
use Rattle.desk.specs.Scenes.{HasClass, IsScene}
use Rattle.invalidate.specs.Invalidation.{is_invalid}
use Rattle.desk.specs.Jobs.{windows_after_job}
use Rattle.desk.proofs.JobLemmas.{windows-set, windows-no_job}
use Rattle.desk.proofs.IgnoreLemmas.{all-same, ignores_given, ignores_class}

-- ---- windows found by their handles

-- what holds of all windows holds of one that is found
pub found_has : (P : Win → Type 0) (ws : List Win) (h : ℕ) (w : Win) → window_of ws h ≡ Some w → AllByRecursion P ws → P w
found_has P [] h w is all = absurd cc
found_has P (v ∷ ws) h w is all =
    elim (cases_Bool (eqb v.handle h)) [
      | inl at ↦ let same : Some v ≡ Some w = rw at at is in subst P (same_Some v w same) all.0
      | inr off ↦ found_has P ws h w (rw off at is) all.1
    ]

-- a window that is found has the handle
pub found_handle : (ws : List Win) (h : ℕ) (w : Win) → window_of ws h ≡ Some w → w.handle ≡ h
found_handle [] h w is = absurd cc
found_handle (v ∷ ws) h w is =
    elim (cases_Bool (eqb v.handle h)) [
      | inl at ↦ let same : Some v ≡ Some w = rw at at is in ap (λ (u : Win). u.handle) (sym (same_Some v w same)) ∙ eqb-true v.handle h at
      | inr off ↦ found_handle ws h w (rw off at is)
    ]

-- the desktop is found by its handle
desktop_found : (ws : List Win) → IsStack ws → (d : Win) × ((window_of ws 1 ≡ Some d) × (desktop_screen ws ≡ screen_with d.w d.h))
desktop_found [] stack = absurd stack.order
desktop_found (d ∷ ws) stack = (d, (rw (eq-eqb d.handle 1 stack.order.0) refl, refl))

same_screen : (ws vs : List Win) → IsStack ws → IsStack vs → window_of vs 1 ≡ window_of ws 1 → desktop_screen vs ≡ desktop_screen ws
same_screen ws vs was is same =
    let d = desktop_found ws was in
    let e = desktop_found vs is in
    let one : e.0 ≡ d.0 = same_Some e.0 d.0 (sym e.1.0 ∙ same ∙ d.1.0) in
    e.1.1 ∙ ap (λ (w : Win). screen_with w.w w.h) one ∙ sym d.1.1

-- ---- one window changed

-- a change of the window that a handle finds is told by what becomes of that window
pub changed_alike : (h : ℕ) (f g : Win → Win) (w : Win) (ws us : List Win) → window_of ws h ≡ Some w → f w ≡ g w → AreFound ws us → window_changed h f us ≡ window_changed h g us
unfolding window_changed
changed_alike h f g w ws [] is same found = refl
changed_alike h f g w ws (u ∷ us) is same found =
    let later = changed_alike h f g w ws us is same found.1 in
    elim (cases_Bool (eqb u.handle h)) [
      | inl at ↦
          let here : u ≡ w = same_Some u w (sym found.0 ∙ ap (window_of ws) (eqb-true u.handle h at) ∙ is) in
          rw at (ap (λ (v : Win). v ∷ window_changed h f us) (subst (λ (v : Win). f v ≡ g v) (sym here) same) ∙ ap (λ (vs : List Win). g u ∷ vs) later)
      | inr off ↦ rw off (ap (λ (vs : List Win). u ∷ vs) later)
    ]

-- a window that is put in its place changed is changed by its handle
pub put_changed : (h : ℕ) (change : Win → Win) (w : Win) (ws : List Win) → window_of ws h ≡ Some w → AreSingle ws → window_changed w.handle (λ u. change w) ws ≡ window_changed h change ws
put_changed h change w ws is single =
    ap (λ k. window_changed k (λ u. change w) ws) (found_handle ws h w is)
    ∙ changed_alike h (λ u. change w) change w ws ws is refl (all_found ws single)

-- what holds of all windows holds of all after the change, where it holds of the one that is changed
all_changed : (P : Win → Type 0) (h : ℕ) (f : Win → Win) (ws us : List Win) → ((w : Win) → window_of ws h ≡ Some w → P (f w)) → AreFound ws us → AllByRecursion P us → AllByRecursion P (window_changed h f us)
unfolding window_changed
all_changed P h f ws [] is found all = tt
all_changed P h f ws (u ∷ us) is found all =
    let later = all_changed P h f ws us is found.1 all.1 in
    elim (cases_Bool (eqb u.handle h)) [
      | inl at ↦ rw at (is u (ap (window_of ws) (sym (eqb-true u.handle h at)) ∙ found.0), later)
      | inr off ↦ rw off (all.0, later)
    ]

-- another window is found as before
pub other_found : (h x : ℕ) (f : Win → Win) (us : List Win) → x ≢ h → ((w : Win) → (f w).handle ≡ w.handle) → window_of (window_changed h f us) x ≡ window_of us x
unfolding window_changed
other_found h x f [] other same = refl
other_found h x f (u ∷ us) other same =
    let later = other_found h x f us other same in
    elim (cases_Bool (eqb u.handle h)) [
      | inl at ↦
          let here : u.handle ≡ h = eqb-true u.handle h at in
          let off : eqb u.handle x ≡ false = ne_eqb u.handle x (λ e. other (sym e ∙ here)) in
          let off_now : eqb (f u).handle x ≡ false = ap (λ (k : ℕ). eqb k x) (same u) ∙ off in
          rw at (rw (off, off_now) later)
      | inr off ↦ rw off (ap (λ (o : Option Win). cond (eqb u.handle x) (Some u) o) later)
    ]

-- ---- windows that differ in what is invalid alone

screen_of-bare : (ws : List Win) → desktop_screen (map bare ws) ≡ desktop_screen ws
screen_of-bare [] = refl
screen_of-bare (w ∷ ws) = refl

pub screen_bare : (ws vs : List Win) → map bare vs ≡ map bare ws → desktop_screen vs ≡ desktop_screen ws
screen_bare ws vs e = sym (screen_of-bare vs) ∙ ap desktop_screen e ∙ screen_of-bare ws

-- windows that differ in what is invalid alone are those of the same tree, where they are a valid stack
pub scene_bare : (setup : Setup) (ws vs : List Win) (handles : ℕ) → IsScene setup ws handles → map bare vs ≡ map bare ws → IsStack vs → IsScene setup vs handles
scene_bare setup ws vs handles s e valid = record {
  stack = valid;
  given = all-same (λ v. v.handle ≤ handles) ws vs (ignores_given handles) e s.given;
  screen = screen_bare ws vs e ∙ s.screen;
  classes = all-same (HasClass setup) ws vs (ignores_class setup) e s.classes;
}

pub scene_area : (setup : Setup) (ws : List Win) (handles : ℕ) (clip : Win → Rect) (area : Rect) → IsScene setup ws handles → IsScene setup (area_invalidated clip area ws) handles
scene_area setup ws handles clip area s = scene_bare setup ws (area_invalidated clip area ws) handles s (bare-area clip area ws) (area_valid clip area ws s.stack)

pub scene_areas : (setup : Setup) (handles : ℕ) (clip : Win → Rect) (areas : List Rect) (ws : List Win) → IsScene setup ws handles → IsScene setup (areas_invalidated clip areas ws) handles
scene_areas setup handles clip [] ws s = s
scene_areas setup handles clip (area ∷ areas) ws s = scene_areas setup handles clip areas (area_invalidated clip area ws) (scene_area setup ws handles clip area s)

pub scene_after : (setup : Setup) (handles h : ℕ) (ws now : List Win) → IsScene setup now handles → IsScene setup (after_change (screen_of setup) h ws now) handles
scene_after setup handles h ws now s =
    elim (cases_Bool (are_as_they_were ws now)) [
      | inl same ↦ rw same s
      | inr other ↦ rw other (scene_areas setup handles (clip_in (screen_of setup) now) (listed (clip_at (screen_of setup) ws h) ++ listed (clip_at (screen_of setup) now h)) now s)
    ]

-- what may stand in the place of a window, and its class exists
pub record MayStand (setup : Setup) (w v : Win) : Type 0 where
  pub becomes : MayBecome w v
  pub class : HasClass setup v

pub scene_changed : (setup : Setup) (ws : List Win) (handles h : ℕ) (f : Win → Win) → IsScene setup ws handles → h ≢ 1 → ((w : Win) → (f w).handle ≡ w.handle) → ((w : Win) → window_of ws h ≡ Some w → MayStand setup w (f w))
    → IsScene setup (window_changed h f ws) handles
scene_changed setup ws handles h f s other same stands =
    let found = all_found ws s.stack.single in
    let valid = changed_valid h f ws s.stack (λ w is. (stands w is).becomes) in
    record {
      stack = valid;
      given = all_changed (λ v. v.handle ≤ handles) h f ws ws (λ w is. subst (λ (n : ℕ). n ≤ handles) (sym (same w)) (found_has (λ v. v.handle ≤ handles) ws h w is s.given)) found s.given;
      screen = same_screen ws (window_changed h f ws) s.stack valid (other_found h 1 f ws (λ e. other (sym e)) same) ∙ s.screen;
      classes = all_changed (HasClass setup) h f ws ws (λ w is. (stands w is).class) found s.classes;
    }

pub bare_changed : (h : ℕ) (f : Win → Win) (us : List Win) → ((w : Win) → bare (f w) ≡ bare w) → map bare (window_changed h f us) ≡ map bare us
unfolding window_changed
bare_changed h f [] same = refl
bare_changed h f (u ∷ us) same =
    let later = bare_changed h f us same in
    elim (cases_Bool (eqb u.handle h)) [
      | inl at ↦ rw at (ap (λ (v : Win). v ∷ map bare (window_changed h f us)) (same u) ∙ ap (λ (vs : List Win). bare u ∷ vs) later)
      | inr off ↦ rw off (ap (λ (vs : List Win). bare u ∷ vs) later)
    ]

-- the same of any window, the desktop too, of which nothing changes but what is invalid
pub scene_marked : (setup : Setup) (ws : List Win) (handles h : ℕ) (f : Win → Win) → IsScene setup ws handles → ((w : Win) → bare (f w) ≡ bare w) → ((w : Win) → window_of ws h ≡ Some w → MayBecome w (f w))
    → IsScene setup (window_changed h f ws) handles
scene_marked setup ws handles h f s same stands = scene_bare setup ws (window_changed h f ws) handles s (bare_changed h f ws same) (changed_valid h f ws s.stack stands)

-- the same where a window is composed aside, or no longer
screen-changed : (h : ℕ) (f : Win → Win) (ws : List Win) → ((w : Win) → (f w).w ≡ w.w) → ((w : Win) → (f w).h ≡ w.h) → desktop_screen (window_changed h f ws) ≡ desktop_screen ws
unfolding window_changed
screen-changed h f [] wide high = refl
screen-changed h f (w ∷ ws) wide high =
    elim (cases_Bool (eqb w.handle h)) [
      | inl at ↦ rw at (ap (λ (n : ℕ). screen_with n (f w).h) (wide w) ∙ ap (screen_with w.w) (high w))
      | inr off ↦ rw off refl
    ]

pub scene_memdev : (setup : Setup) (ws : List Win) (handles h : ℕ) (memdev : Bool) → IsScene setup ws handles → ((w : Win) → window_of ws h ≡ Some w → MayBecome w (with_memdev memdev w)) → IsScene setup (window_changed h (with_memdev memdev) ws) handles
scene_memdev setup ws handles h memdev s may =
    let f : Win → Win = with_memdev memdev in
    let found = all_found ws s.stack.single in
    record {
      stack = changed_valid h f ws s.stack may;
      given = all_changed (λ v. v.handle ≤ handles) h f ws ws (λ w is. found_has (λ v. v.handle ≤ handles) ws h w is s.given) found s.given;
      screen = screen-changed h f ws (λ w. refl) (λ w. refl) ∙ s.screen;
      classes = all_changed (HasClass setup) h f ws ws (λ w is. found_has (HasClass setup) ws h w is s.classes) found s.classes;
    }

-- ---- families

scene_in : (setup : Setup) (ws now : List Win) (handles : ℕ) → IsScene setup ws handles → IsStack now → AreGiven handles now → window_of now 1 ≡ window_of ws 1 → AllByRecursion (HasClass setup) now → IsScene setup now handles
scene_in setup ws now handles s valid given same classes = record { stack = valid; given = given; screen = same_screen ws now s.stack valid same ∙ s.screen; classes = classes }

pub scene_raised : (setup : Setup) (ws : List Win) (handles h : ℕ) (w : Win) → IsScene setup ws handles → window_of ws h ≡ Some w → h ≢ 1 → IsScene setup (raised h ws) handles
scene_raised setup ws handles h w s live other =
    let at = placed ws h w s.stack live in
    let was = family_stands ws h at in
    scene_in setup ws (raised h ws) handles s (raised_valid ws h at s.stack other) (raised_given ws handles h at s.stack other s.given) (raised_found ws h at s.stack other 1)
    (AllBy-whole (HasClass setup) (family_of h ws) (without_family h ws) (raised h ws) (raised_stands ws h at s.stack other) (AllBy-block (HasClass setup) (family_of h ws) (without_family h ws) ws was s.classes) (AllBy-rest (HasClass setup) (family_of h ws) (without_family h ws) ws was s.classes))

pub scene_lowered : (setup : Setup) (ws : List Win) (handles h : ℕ) (w : Win) → IsScene setup ws handles → window_of ws h ≡ Some w → h ≢ 1 → IsScene setup (lowered h ws) handles
scene_lowered setup ws handles h w s live other =
    let at = placed ws h w s.stack live in
    let was = family_stands ws h at in
    scene_in setup ws (lowered h ws) handles s (lowered_valid ws h at s.stack other) (lowered_given ws handles h at s.stack other s.given) (lowered_found ws h at s.stack other 1)
    (AllBy-whole (HasClass setup) (family_of h ws) (without_family h ws) (lowered h ws) (lowered_stands ws h at s.stack other) (AllBy-block (HasClass setup) (family_of h ws) (without_family h ws) ws was s.classes) (AllBy-rest (HasClass setup) (family_of h ws) (without_family h ws) ws was s.classes))

still_found : (b : Bool) (o : Option Win) (d : Win) → cond b None o ≡ Some d → cond b None o ≡ o
still_found true o d is = absurd cc
still_found false o d is = refl

pub scene_without : (setup : Setup) (ws : List Win) (handles h : ℕ) (w : Win) → IsScene setup ws handles → window_of ws h ≡ Some w → h ≢ 1 → IsScene setup (without_family h ws) handles
scene_without setup ws handles h w s live other =
    let at = placed ws h w s.stack live in
    let valid = without_valid ws h at s.stack other in
    let found = without_found ws h 1 in
    let d = desktop_found (without_family h ws) valid in
    scene_in setup ws (without_family h ws) handles s valid (without_given ws handles h at s.given)
    (found ∙ still_found _ (window_of ws 1) d.0 (sym found ∙ d.1.0))
    (AllBy-rest (HasClass setup) (family_of h ws) (without_family h ws) ws (family_stands ws h at) s.classes)

pub scene_created : (setup : Setup) (ws : List Win) (handles : ℕ) (w over' : Win) → IsScene setup ws handles → IsNew ws handles w over' → w.handle ≡ handles + 1 → HasClass setup w → IsScene setup (on_top_of w.parent (w ∷ []) ws) (handles + 1)
scene_created setup ws handles w over' s new next class =
    let at = placed ws w.parent over' s.stack new.parent in
    let valid = created_valid ws handles w over' at new in
    let d = desktop_found ws s.stack in
    let old : 1 ≤ handles = subst (λ (n : ℕ). n ≤ handles) (found_handle ws 1 d.0 d.1.0) (found_has (λ v. v.handle ≤ handles) ws 1 d.0 d.1.0 s.given) in
    let another : eqb w.handle 1 ≡ false = ne_eqb w.handle 1 (λ e. absurd (omega (arith, next, e, old))) in
    record {
      stack = valid;
      given = created_given ws handles w at s.given next;
      screen = same_screen ws (on_top_of w.parent (w ∷ []) ws) s.stack valid (created_found ws handles w at s.stack s.given new.fresh 1 ∙ ap (λ (b : Bool). cond b (Some w) (window_of ws 1)) another) ∙ s.screen;
      classes = AllBy-whole (HasClass setup) (w ∷ []) ws (on_top_of w.parent (w ∷ []) ws) (created_stands ws w at) (class, tt) s.classes;
    }

-- ---- jobs

-- a window becomes itself with nothing invalid
pub becomes_valid : (w : Win) → IsWindow w → (w.handle ≡ 1 → IsDesktop w) → MayBecome w (with_invalid w None)
becomes_valid w is desktop = record {
  handle = refl;
  parent = refl;
  window = record { handle = is.handle; some_width = is.some_width; width = is.width; some_height = is.some_height; height = is.height; invalid = refl };
  desktop = λ one. let d = desktop one in record { x = d.x; y = d.y; width = d.width; height = d.height; shown = d.shown; class = d.class; trans = d.trans };
}

-- what stands at the place of the first invalid window after its job
pub job_is_change : (ws : List Win) (which : ℕ) → IsStack ws → position is_invalid ws ≡ Some which → windows_after_job ws ≡ window_changed (get_or ws which no_window).handle (λ w. with_invalid w None) ws
job_is_change ws which stack first =
    let w = get_or ws which no_window in
    let lt = (position-Some is_invalid ws which no_window first).0 in
    sym (windows-set ws which first) ∙ set_is_changed ws which w (λ v. with_invalid v None) stack.single (slice_get-get_or ws which no_window lt)

scene_some : (setup : Setup) (ws : List Win) (handles : ℕ) (o : Option ℕ) → IsScene setup ws handles → position is_invalid ws ≡ o → IsScene setup (windows_after_job ws) handles
scene_some setup ws handles None s none = subst (λ (vs : List Win). IsScene setup vs handles) (sym (windows-no_job ws none)) s
scene_some setup ws handles (Some which) s first =
    let h = (get_or ws which no_window).handle in
    subst (λ (vs : List Win). IsScene setup vs handles) (sym (job_is_change ws which s.stack first))
    (scene_marked setup ws handles h (λ w. with_invalid w None) s (λ w. refl) (λ w live. becomes_valid w (found_has IsWindow ws h w live s.stack.windows) (found_has (λ v. v.handle ≡ 1 → IsDesktop v) ws h w live (desktops ws s.stack))))

pub scene_job : (setup : Setup) (ws : List Win) (handles : ℕ) → IsScene setup ws handles → IsScene setup (windows_after_job ws) handles
scene_job setup ws handles s = scene_some setup ws handles (position is_invalid ws) s refl

-- ---- handles that weren't given out

pub unknown_handle : (n h : ℕ) (ws : List Win) → AreGiven n ws → n < h → window_of ws h ≡ None
unknown_handle n h [] given more = refl
unknown_handle n h (w ∷ ws) given more =
    let old : w.handle ≤ n = given.0 in
    let other : eqb w.handle h ≡ false = ne_eqb w.handle h (λ e. absurd (omega (arith, e))) in
    rw other (unknown_handle n h ws given.1 more)

-- ---- windows that can be painted

paintable_windows : (setup : Setup) (ws : List Win) → AllByRecursion IsWindow ws → AllByRecursion (HasClass setup) ws → AllByRecursion (IsPaintable setup.assets) ws
paintable_windows setup [] windows classes = tt
paintable_windows setup (w ∷ ws) windows classes = (record { width = windows.0.width; height = windows.0.height; class = classes.0 }, paintable_windows setup ws windows.1 classes.1)

pub paintable : (setup : Setup) (ws : List Win) (handles : ℕ) → IsScene setup ws handles → AllByRecursion (IsPaintable setup.assets) ws
paintable setup ws handles s = paintable_windows setup ws s.stack.windows s.classes

pub memdev_may_become : (ws : List Win) (h : ℕ) (memdev : Bool) → IsStack ws → (w : Win) → window_of ws h ≡ Some w → MayBecome w (with_memdev memdev w)
memdev_may_become ws h memdev stack w live =
    let is = found_has IsWindow ws h w live stack.windows in
    let desk = found_has (λ v. v.handle ≡ 1 → IsDesktop v) ws h w live (desktops ws stack) in
    record {
      handle = refl;
      parent = refl;
      window = record { handle = is.handle; some_width = is.some_width; width = is.width; some_height = is.some_height; height = is.height; invalid = is.invalid };
      desktop = λ one. let d = desk one in record { x = d.x; y = d.y; width = d.width; height = d.height; shown = d.shown; class = d.class; trans = d.trans };
    }
