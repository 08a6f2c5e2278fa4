-- The lists that calls lead to: those of a tree again, and what is made invalid covers the change.
use Rattle.std.proofs.Common.{◌≡◌, ◌≢◌, ℕ, ℤ, ◌+◌, Bool, true, false, cond, eqb, List, [], ◌∷◌, ◌++◌, map, filter, Option, Some, None, refl, sym, ap, subst, ◌∙◌, inl, inr}
use Rattle.std.specs.Prelude.{option_map, is_some}
use Rattle.std.specs.Cmp.{booleans_Decides}
use Rattle.std.proofs.lemmas.Bool.{cases_Bool, eqb-true, false≢true, and_parts, or_parts}
use Rattle.std.proofs.lemmas.Bool.Decides.{Decides-int_eq}
use Rattle.std.proofs.lemmas.Option.{same_Some}
use Rattle.gfx_base.specs.declared.point.Point.{Point}
use Rattle.gfx_base.specs.declared.rect.Rect.{Rect}
use Rattle.gfx_base.specs.Rects.{has}
use Rattle.paint_ops.specs.Kinds.{Assets}
use Rattle.scene.specs.declared.win.Win.{Win}
use Rattle.scene.specs.Places.{Place, place_of, window_of, place_at}
use Rattle.scene.specs.Clips.{deepest_level, clip_of, clip_in}
use Rattle.scene.specs.Changes.{DamageCovers, AreasCover, areas_have, clips_have, Changes, Reorders}
use Rattle.scene.specs.Families.{desktop_with, without_family, on_top_of, raised, lowered, window_changed}
use Rattle.scene.specs.Stacks.{IsStack, AreGiven}
use Rattle.scene.proofs.CallerLemmas.{bare, places-same, place_at-same, AreFound, DamageCovers-same, below-away, AreasCover-away, AreasCover-adds, AreasCover-takes, AreasCover-changes}
use Rattle.win_tree.proofs.CallerLemmas.{placed, IsNew, created_valid, without_valid, raised_valid, lowered_valid, raised_found, lowered_found, created_given, without_given, raised_given, lowered_given, raised_reorders, lowered_reorders}
use Rattle.desk.specs.Setups.{Setup, screen_of, looks_of}
use Rattle.desk.specs.Windows.{with_memdev, is_as_it_was, are_as_they_were, clip_at, listed, after_change}
use Rattle.desk.proofs.SceneLemmas.{other_found}
use Rattle.desk.proofs.ShapeLemmas.{without_family-map, on_top_of-map, raised-map, lowered-map, changed-map}
use Rattle.messages.specs.Delivery.{rest_of}
use Rattle.desk.proofs.BoneLemmas.{bones_rest, places_rest, places_memdev, bones, keeps_bones, bones-same, live_bones, all_live, Commutes, reorders, reorders_found, takes, adds}

-- ---- the shape of the tree

-- where the desktop lies
abbrev pub desk : Setup → Place
desk setup = place_of (desktop_with setup.config.w setup.config.h (screen_of setup))

-- The handles and parents are those of a tree, the handles were given out, and the desktop takes up the screen, whatever its sides.
pub record IsShaped (setup : Setup) (ws : List Win) (handles : ℕ) : Type 0 where
  pub stack : IsStack (map bones ws)
  pub given : AreGiven handles (map bones ws)
  pub desktop : place_at ws 1 ≡ Some (desk setup)

-- windows that differ in what is invalid alone
pub shaped_same : (setup : Setup) (ws vs : List Win) (handles : ℕ) → map bare vs ≡ map bare ws → IsShaped setup ws handles → IsShaped setup vs handles
shaped_same setup ws vs handles e s =
    let same = bones-same ws vs e in
    record {
      stack = subst IsStack (sym same) s.stack;
      given = subst (AreGiven handles) (sym same) s.given;
      desktop = ap (λ (found : ℕ → Option Place). found 1) (place_at-same vs ws (places-same ws vs e)) ∙ s.desktop;
    }

-- the same where windows differ in their values too
pub shaped_rest : (setup : Setup) (ws vs : List Win) (handles : ℕ) → map rest_of vs ≡ map rest_of ws → IsShaped setup ws handles → IsShaped setup vs handles
shaped_rest setup ws vs handles e s =
    let same = bones_rest ws vs e in
    record {
      stack = subst IsStack (sym same) s.stack;
      given = subst (AreGiven handles) (sym same) s.given;
      desktop = ap (λ (found : ℕ → Option Place). found 1) (place_at-same vs ws (places_rest ws vs e)) ∙ s.desktop;
    }

-- the same where a window is composed aside, or no longer
pub shaped_memdev : (setup : Setup) (ws : List Win) (handles h : ℕ) (memdev : Bool) → IsShaped setup ws handles → IsShaped setup (window_changed h (with_memdev memdev) ws) handles
shaped_memdev setup ws handles h memdev s =
    let vs = window_changed h (with_memdev memdev) ws in
    let same = changed-map bones (with_memdev memdev) h ws (λ w. refl) in
    record {
      stack = subst IsStack (sym same) s.stack;
      given = subst (AreGiven handles) (sym same) s.given;
      desktop = ap (λ (found : ℕ → Option Place). found 1) (place_at-same vs ws (places_memdev h memdev ws)) ∙ s.desktop;
    }

-- What a call on the window that has the handle leads to: windows of a tree, and where they aren't as they were, both clips of the window cover the change.
pub record Leads (setup : Setup) (ws now : List Win) (handles h : ℕ) : Type 0 where
  pub shaped : IsShaped setup now handles
  pub same : are_as_they_were ws now ≡ true → now ≡ ws
  pub areas : (p : Point) → clips_have (looks_of setup now) now p ≡ true
      → AreasCover setup.assets (screen_of setup) ws now (listed (clip_at (screen_of setup) ws h) ++ listed (clip_at (screen_of setup) now h)) p

pub change_covers : (setup : Setup) (ws now : List Win) (handles h : ℕ) (p : Point) → Leads setup ws now handles h → clips_have (looks_of setup now) now p ≡ true
    → DamageCovers (looks_of setup ws) ws (looks_of setup (after_change (screen_of setup) h ws now)) (after_change (screen_of setup) h ws now) p
change_covers setup ws now handles h p leads inside =
    elim (cases_Bool (are_as_they_were ws now)) [
      | inl e ↦ rw e (subst (λ (vs : List Win). DamageCovers (looks_of setup ws) ws (looks_of setup vs) vs p) (sym (leads.same e)) (DamageCovers-same (looks_of setup ws) ws p))
      | inr e ↦ rw e (leads.areas p inside)
    ]

-- ---- clips

clip_placed : (screen : Rect) (ws : List Win) (o : Option Win) → option_map (clip_in screen ws) o ≡ option_map (clip_of deepest_level screen (place_at ws)) (option_map place_of o)
clip_placed screen ws None = refl
clip_placed screen ws (Some w) = refl

-- the clips of what the handle finds
clip_found : (screen : Rect) (ws : List Win) (h : ℕ) (o : Option Place) → place_at ws h ≡ o → listed (clip_at screen ws h) ≡ listed (option_map (clip_of deepest_level screen (place_at ws)) o)
clip_found screen ws h o found = ap listed (clip_placed screen ws (window_of ws h) ∙ ap (option_map (clip_of deepest_level screen (place_at ws))) found)

both_clips : (screen : Rect) (ws now : List Win) (h : ℕ) (o n : Option Place) → place_at ws h ≡ o → place_at now h ≡ n
    → listed (clip_at screen ws h) ++ listed (clip_at screen now h) ≡ listed (option_map (clip_of deepest_level screen (place_at ws)) o) ++ listed (option_map (clip_of deepest_level screen (place_at now)) n)
both_clips screen ws now h o n was is = ap (λ (rs : List Rect). rs ++ listed (clip_at screen now h)) (clip_found screen ws h o was) ∙ ap (λ (rs : List Rect). listed (option_map (clip_of deepest_level screen (place_at ws)) o) ++ rs) (clip_found screen now h n is)

-- areas that are others
other_areas : (assets : Assets) (screen : Rect) (ws now : List Win) (areas others : List Rect) (p : Point) → areas ≡ others → AreasCover assets screen ws now others p → AreasCover assets screen ws now areas p
other_areas assets screen ws now areas others p same covers = subst (λ (rs : List Rect). AreasCover assets screen ws now rs p) (sym same) covers

-- ---- lists that are as they were

same_handle : (w v : Win) → is_as_it_was w v ≡ true → w.handle ≡ v.handle
same_handle w v e = eqb-true w.handle v.handle (and_parts _ _ (and_parts _ _ (and_parts _ _ e).0).0).0

-- where they are, a handle finds a window where it found one
found_alike : (ws now : List Win) (x : ℕ) → are_as_they_were ws now ≡ true → is_some (place_at now x) ≡ is_some (place_at ws x)
found_alike [] [] x e = refl
found_alike [] (v ∷ now) x e = absurd (false≢true e)
found_alike (w ∷ ws) [] x e = absurd (false≢true e)
found_alike (w ∷ ws) (v ∷ now) x e =
    let both = and_parts (is_as_it_was w v) (are_as_they_were ws now) e in
    let later = found_alike ws now x both.1 in
    let handle : w.handle ≡ v.handle = same_handle w v both.0 in
    let test : eqb v.handle x ≡ eqb w.handle x = ap (λ (h : ℕ). eqb h x) (sym handle) in
    elim (cases_Bool (eqb w.handle x)) [
      | inl at ↦ rw (test, at) refl
      | inr off ↦ rw (test, off) later
    ]

-- each window in its place has the handle that it had
found_stays : (us ws now : List Win) → are_as_they_were ws now ≡ true → AreFound us ws → AreFound us now → now ≡ ws
found_stays us [] [] e was is = refl
found_stays us [] (v ∷ now) e was is = absurd (false≢true e)
found_stays us (w ∷ ws) [] e was is = absurd (false≢true e)
found_stays us (w ∷ ws) (v ∷ now) e was is =
    let both = and_parts (is_as_it_was w v) (are_as_they_were ws now) e in
    let same : v ≡ w = same_Some v w (sym is.0 ∙ ap (window_of us) (sym (same_handle w v both.0)) ∙ was.0) in
    ap (λ (u : Win). u ∷ now) same ∙ ap (λ (vs : List Win). w ∷ vs) (found_stays us ws now both.1 was.1 is.1)

found_there : (ws now us : List Win) → ((x : ℕ) → window_of now x ≡ window_of ws x) → AreFound now us → AreFound ws us
found_there ws now [] same found = tt
found_there ws now (u ∷ us) same found = (sym (same u.handle) ∙ found.0, found_there ws now us same found.1)

-- ---- a new order

pub leads_ordered : (setup : Setup) (ws : List Win) (handles : ℕ) (w : Win) (F : List Win → List Win) → Commutes F → IsShaped setup ws handles → window_of ws w.handle ≡ Some w
    → IsStack (F (map bones ws)) → AreGiven handles (F (map bones ws)) → ((x : ℕ) → window_of (F (map bones ws)) x ≡ window_of (map bones ws) x) → Reorders (map bones ws) (F (map bones ws)) (bones w) → Leads setup ws (F ws) handles w.handle
leads_ordered setup ws handles w F c s live valid given found bony =
    let screen = screen_of setup in
    let r = reorders F c ws w s.stack live bony in
    let is = c.is bones keeps_bones ws in
    let stack = subst IsStack is valid in
    let now_found = reorders_found F c ws s.stack in
    record {
      shaped = record { stack = stack; given = subst (AreGiven handles) is given; desktop = r.found 1 ∙ s.desktop };
      same = λ e. found_stays ws ws (F ws) e (all_live ws s.stack) (found_there ws (F ws) (F ws) (λ x. now_found x (found x)) (all_live (F ws) stack));
      areas = λ p inside.
          other_areas setup.assets screen ws (F ws) _ _ p (both_clips screen ws (F ws) w.handle (Some (place_of w)) (Some (place_of w)) r.known (r.found w.handle ∙ r.known))
          (AreasCover-away setup.assets screen ws (F ws) (clip_in screen ws w ∷ clip_in screen (F ws) w ∷ []) p (λ h. inside) (λ h x. inl (r.found x)) (λ h.
          let away = (or_parts (has (clip_in screen ws w) p) (areas_have (clip_in screen (F ws) w ∷ []) p) h).0 in
          r.rest (λ v. has (clip_in screen ws v) p) (away, λ v below. below-away screen ws w.handle (place_of w) (place_of v) p r.known away below)));
    }

pub leads_raised : (setup : Setup) (ws : List Win) (handles : ℕ) (w : Win) → IsShaped setup ws handles → window_of ws w.handle ≡ Some w → w.handle ≢ 1 → Leads setup ws (raised w.handle ws) handles w.handle
leads_raised setup ws handles w s live other =
    let bs = map bones ws in
    let at = placed bs w.handle (bones w) s.stack (live_bones ws w.handle w live) in
    leads_ordered setup ws handles w (raised w.handle) (record { is = λ f k vs. raised-map f k w.handle vs }) s live
    (raised_valid bs w.handle at s.stack other) (raised_given bs handles w.handle at s.stack other s.given) (raised_found bs w.handle at s.stack other)
    (raised_reorders bs (bones w) s.stack (live_bones ws w.handle w live) other)

pub leads_lowered : (setup : Setup) (ws : List Win) (handles : ℕ) (w : Win) → IsShaped setup ws handles → window_of ws w.handle ≡ Some w → w.handle ≢ 1 → Leads setup ws (lowered w.handle ws) handles w.handle
leads_lowered setup ws handles w s live other =
    let bs = map bones ws in
    let at = placed bs w.handle (bones w) s.stack (live_bones ws w.handle w live) in
    leads_ordered setup ws handles w (lowered w.handle) (record { is = λ f k vs. lowered-map f k w.handle vs }) s live
    (lowered_valid bs w.handle at s.stack other) (lowered_given bs handles w.handle at s.stack other s.given) (lowered_found bs w.handle at s.stack other)
    (lowered_reorders bs (bones w) s.stack (live_bones ws w.handle w live) other)

-- ---- windows less

pub leads_without : (setup : Setup) (ws : List Win) (handles : ℕ) (w : Win) → IsShaped setup ws handles → window_of ws w.handle ≡ Some w → w.handle ≢ 1 → Leads setup ws (without_family w.handle ws) handles w.handle
leads_without setup ws handles w s live other =
    let screen = screen_of setup in
    let bs = map bones ws in
    let now = without_family w.handle ws in
    let at = placed bs w.handle (bones w) s.stack (live_bones ws w.handle w live) in
    let t = takes ws w s.stack live in
    let is = without_family-map bones keeps_bones w.handle ws in
    record {
      shaped = record {
        stack = subst IsStack is (without_valid bs w.handle at s.stack other);
        given = subst (AreGiven handles) is (without_given bs handles w.handle at s.given);
        desktop =
            elim (t.others 1 (λ e. other (sym e))) [
              | inl same ↦ same ∙ s.desktop
              | inr gone ↦ absurd (false≢true (gone.1 (desk setup) s.desktop))
            ];
      };
      same = λ e. absurd (false≢true (sym (ap is_some t.gone) ∙ found_alike ws now w.handle e ∙ ap is_some t.known));
      areas = λ p inside.
          other_areas setup.assets screen ws now _ _ p (both_clips screen ws now w.handle (Some (place_of w)) None t.known t.gone)
          (AreasCover-takes setup.assets screen ws now w p t (λ h. inside));
    }

-- ---- one window more

pub leads_created : (setup : Setup) (ws : List Win) (handles : ℕ) (w over' : Win) → IsShaped setup ws handles → IsNew (map bones ws) handles (bones w) over' → w.handle ≡ handles + 1 → Leads setup ws (on_top_of w.parent (w ∷ []) ws) (handles + 1) w.handle
leads_created setup ws handles w over' s new next =
    let screen = screen_of setup in
    let bs = map bones ws in
    let now = on_top_of w.parent (w ∷ []) ws in
    let at = placed bs w.parent over' s.stack new.parent in
    let a = adds ws handles w over' new in
    let is = on_top_of-map bones keeps_bones w.parent (w ∷ []) ws in
    let other : 1 ≢ w.handle = λ e. let bad : ◌≡◌ {A = Option Place} None (Some (desk setup)) = sym a.unknown ∙ ap (place_at ws) (sym e) ∙ s.desktop in absurd cc in
    record {
      shaped = record {
        stack = subst IsStack is (created_valid bs handles (bones w) over' at new);
        given = subst (AreGiven (handles + 1)) is (created_given bs handles (bones w) at s.given next);
        desktop = a.others 1 other ∙ s.desktop;
      };
      same = λ e. absurd (false≢true (sym (ap is_some a.unknown) ∙ sym (found_alike ws now w.handle e) ∙ ap is_some a.found));
      areas = λ p inside.
          other_areas setup.assets screen ws now _ _ p (both_clips screen ws now w.handle None (Some (place_of w)) a.unknown a.found)
          (AreasCover-adds setup.assets screen ws now w p a);
    }

-- ---- a window changed in its place

-- the window in another place of its parent, with other sides, of another class, shown or hidden, and seen through or not
abbrev otherwise : Win → ℕ → ℤ → ℤ → ℕ → ℕ → Bool → Bool → Win
otherwise w class x y width height shown trans = record w { class = class; x = x; y = y; w = width; h = height; shown = shown; trans = trans }

-- nothing else of a window changes
pub record IsInPlace (f : Win → Win) : Type 0 where
  pub keeps : (w : Win) → f w ≡ otherwise w (f w).class (f w).x (f w).y (f w).w (f w).h (f w).shown (f w).trans

in_place : (w : Win) (class : ℕ) (x y : ℤ) (width height : ℕ) (shown trans : Bool) → is_as_it_was w (otherwise w class x y width height shown trans) ≡ true → otherwise w class x y width height shown trans ≡ w
in_place w class x y width height shown trans e =
    let parts = and_parts _ _ e in
    let first = and_parts _ _ parts.0 in
    let kind = and_parts _ _ first.0 in
    let place = and_parts _ _ first.1 in
    let last = and_parts _ _ parts.1 in
    let rest = and_parts _ _ last.0 in
    let sides = and_parts _ _ rest.0 in
    ap (λ (v : ℕ). otherwise w v x y width height shown trans) (sym (eqb-true w.class class kind.1))
    ∙ ap (λ (v : ℤ). otherwise w w.class v y width height shown trans) (sym ((Decides-int_eq w.x x).0 place.0))
    ∙ ap (λ (v : ℤ). otherwise w w.class w.x v width height shown trans) (sym ((Decides-int_eq w.y y).0 place.1))
    ∙ ap (λ (v : ℕ). otherwise w w.class w.x w.y v height shown trans) (sym (eqb-true w.w width sides.0))
    ∙ ap (λ (v : ℕ). otherwise w w.class w.x w.y w.w v shown trans) (sym (eqb-true w.h height sides.1))
    ∙ ap (λ (v : Bool). otherwise w w.class w.x w.y w.w w.h v trans) (sym ((booleans_Decides w.shown shown).0 rest.1))
    ∙ ap (λ (v : Bool). otherwise w w.class w.x w.y w.w w.h w.shown v) (sym ((booleans_Decides w.trans trans).0 last.1))

changed_stays : (f : Win → Win) (h : ℕ) (ws : List Win) → IsInPlace f → are_as_they_were ws (window_changed h f ws) ≡ true → window_changed h f ws ≡ ws
unfolding window_changed
changed_stays f h [] is e = refl
changed_stays f h (w ∷ ws) is e =
    let both = and_parts (is_as_it_was w (cond (eqb w.handle h) (f w) w)) (are_as_they_were ws (window_changed h f ws)) e in
    ap (λ (v : Win). v ∷ window_changed h f ws) (one_stays (eqb w.handle h) both.0) ∙ ap (λ (vs : List Win). w ∷ vs) (changed_stays f h ws is both.1)
  where
    one_stays : (b : Bool) → is_as_it_was w (cond b (f w) w) ≡ true → cond b (f w) w ≡ w
    one_stays true same = is.keeps w ∙ in_place w (f w).class (f w).x (f w).y (f w).w (f w).h (f w).shown (f w).trans (ap (is_as_it_was w) (sym (is.keeps w)) ∙ same)
    one_stays false same = refl

found_changed : (h : ℕ) (f : Win → Win) (w : Win) (us : List Win) → ((v : Win) → (f v).handle ≡ v.handle) → window_of us h ≡ Some w → window_of (window_changed h f us) h ≡ Some (f w)
unfolding window_changed
found_changed h f w [] keeps live = absurd cc
found_changed h f w (u ∷ us) keeps live =
    let test : eqb (f u).handle h ≡ eqb u.handle h = ap (λ (x : ℕ). eqb x h) (keeps u) in
    elim (cases_Bool (eqb u.handle h)) [
      | inl at ↦ let same : Some u ≡ Some w = rw at at live in rw at (rw (test ∙ at) (ap (λ (v : Win). Some (f v)) (same_Some u w same)))
      | inr off ↦ rw off (rw off (found_changed h f w us keeps (rw off at live)))
    ]

rest_changed : (h : ℕ) (f : Win → Win) (w : Win) (test : Win → Bool) (ws us : List Win) → window_of ws h ≡ Some w → AreFound ws us → test w ≡ false → test (f w) ≡ false → filter test (window_changed h f us) ≡ filter test us
unfolding window_changed
rest_changed h f w test ws [] live found fails fail = refl
rest_changed h f w test ws (u ∷ us) live found fails fail =
    let later = rest_changed h f w test ws us live found.1 fails fail in
    elim (cases_Bool (eqb u.handle h)) [
      | inl at ↦
          let same : u ≡ w = same_Some u w (sym found.0 ∙ ap (window_of ws) (eqb-true u.handle h at) ∙ live) in
          let one : test u ≡ false = ap test same ∙ fails in
          let two : test (f u) ≡ false = ap (λ (v : Win). test (f v)) same ∙ fail in
          rw (at, one, two) later
      | inr off ↦ rw off (ap (λ (vs : List Win). cond (test u) (u ∷ vs) vs) later)
    ]

pub leads_changed : (setup : Setup) (ws : List Win) (handles : ℕ) (w : Win) (f : Win → Win) → IsInPlace f → IsShaped setup ws handles → window_of ws w.handle ≡ Some w → w.handle ≢ 1 → Leads setup ws (window_changed w.handle f ws) handles w.handle
leads_changed setup ws handles w f is s live other =
    let screen = screen_of setup in
    let now = window_changed w.handle f ws in
    let keeps : (v : Win) → (f v).handle ≡ v.handle = λ v. ap (λ (u : Win). u.handle) (is.keeps v) in
    let same = changed-map bones f w.handle ws (λ v. ap bones (is.keeps v)) in
    let c : Changes ws now w (f w) = record {
      known = ap (option_map place_of) live;
      found = ap (option_map place_of) (found_changed w.handle f w ws keeps live);
      others = λ x differ. ap (option_map place_of) (other_found w.handle x f ws differ keeps);
      rest = λ test fails fail. rest_changed w.handle f w test ws ws live (all_live ws s.stack) fails fail;
    } in
    record {
      shaped = record { stack = subst IsStack (sym same) s.stack; given = subst (AreGiven handles) (sym same) s.given; desktop = c.others 1 (λ e. other (sym e)) ∙ s.desktop };
      same = changed_stays f w.handle ws is;
      areas = λ p inside.
          other_areas setup.assets screen ws now _ _ p (both_clips screen ws now w.handle (Some (place_of w)) (Some (place_of (f w))) c.known c.found)
          (AreasCover-changes setup.assets screen ws now w (f w) (clip_in screen ws w ∷ clip_in screen now (f w) ∷ []) p c (λ h. inside) (λ h.
          let parts = or_parts (has (clip_in screen ws w) p) (areas_have (clip_in screen now (f w) ∷ []) p) h in
          (parts.0, (or_parts (has (clip_in screen now (f w)) p) false parts.1).0)));
    }
