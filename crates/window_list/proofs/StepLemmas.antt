-- What the steps of a call on the windows come to.
use Rattle.std.proofs.Common.{◌≡◌, ℕ, ℤ, ◌+◌, ◌<◌, ◌≤◌, Bool, true, ◌&&◌, cond, eqb, List, [], ◌∷◌, ◌++◌, length, map, get_or, set, take, drop, Option, Some, None, refl, sym, ap, subst, ◌∙◌, arith, append_assoc, add-one}
use Rattle.std.specs.Prelude.{slice_get}
use Rattle.std.specs.Option.{option_eq}
use Rattle.std.specs.Ordering.{int_eq}
use Rattle.std.proofs.Math.Seq.{take-suc}
use Rattle.std.proofs.lemmas.Bool.{and_parts}
use Rattle.std.proofs.lemmas.Bool.Decides.{Decides-int_eq}
use Rattle.std.proofs.lemmas.List.{length-map, drop_more, map-append, take-map, drop-map, take-append-drop, length-take-le, set_at, get_or-map}
use Rattle.std.proofs.lemmas.Option.{slice_get-get_or}
use Rattle.gfx_base.specs.declared.rect.Rect.{Rect}
use Rattle.scene.specs.declared.win.Win.{Win}
use Rattle.scene.specs.Places.{window_of, no_window, number_of, AreSingle}
use Rattle.scene.specs.Families.{window_changed}
use Rattle.scene.specs.Stacks.{IsStack, IsWindow}
use Rattle.scene.proofs.CallerLemmas.{bare, set_is_changed, window_of-single}
use Rattle.messages.specs.Delivery.{rest_of}
use Rattle.win_tree.specs.Trees.{MayReplace, IsReplacement}
use Rattle.desk.specs.Windows.{is_as_it_was, are_as_they_were}
use Rattle.desk.proofs.CallerLemmas.{found_has}

-- ---- lists that are compared

-- from a place on the lists are as they were where the windows there are, and those after them
pub as_step : (ws vs : List Win) (i : ℕ) → i < length ws → i < length vs → are_as_they_were (drop i ws) (drop i vs) ≡ (is_as_it_was (get_or ws i no_window) (get_or vs i no_window) && are_as_they_were (drop (i + 1) ws) (drop (i + 1) vs))
as_step ws vs i in_ws in_vs = ap (λ (us : List Win). are_as_they_were us (drop i vs)) (drop_more ws i no_window in_ws) ∙ ap (are_as_they_were (get_or ws i no_window ∷ drop (i + 1) ws)) (drop_more vs i no_window in_vs)

-- ---- invalid rectangles that are compared

pub option_same : {T : Type 0} (E : T → T → Bool) (a b : Option T) → ((x y : T) → E x y ≡ true → x ≡ y) → option_eq E a b ≡ true → a ≡ b
option_same E None None same e = refl
option_same E None (Some y) same e = absurd cc
option_same E (Some x) None same e = absurd cc
option_same E (Some x) (Some y) same e = ap Some (same x y e)

pub rect_same : (r s : Rect) → (int_eq r.x0 s.x0 && (int_eq r.y0 s.y0 && (int_eq r.x1 s.x1 && int_eq r.y1 s.y1))) ≡ true → r ≡ s
rect_same r s e =
    let left = and_parts (int_eq r.x0 s.x0) (int_eq r.y0 s.y0 && (int_eq r.x1 s.x1 && int_eq r.y1 s.y1)) e in
    let top = and_parts (int_eq r.y0 s.y0) (int_eq r.x1 s.x1 && int_eq r.y1 s.y1) left.1 in
    let right = and_parts (int_eq r.x1 s.x1) (int_eq r.y1 s.y1) top.1 in
    let x0 = (Decides-int_eq r.x0 s.x0).0 left.0 in
    let y0 = (Decides-int_eq r.y0 s.y0).0 top.0 in
    let x1 = (Decides-int_eq r.x1 s.x1).0 right.0 in
    let y1 = (Decides-int_eq r.y1 s.y1).0 right.1 in
    ap (λ (z : ℤ). record { x0 = z; y0 = r.y0; x1 = r.x1; y1 = r.y1 }) x0
    ∙ ap (λ (z : ℤ). record { x0 = s.x0; y0 = z; x1 = r.x1; y1 = r.y1 }) y0
    ∙ ap (λ (z : ℤ). record { x0 = s.x0; y0 = s.y0; x1 = z; y1 = r.y1 }) x1
    ∙ ap (λ (z : ℤ). record { x0 = s.x0; y0 = s.y0; x1 = s.x1; y1 = z }) y1

-- ---- windows that are put back, one after the other

number_of-rest : (h : ℕ) (ws : List Win) → number_of h (map rest_of ws) ≡ number_of h ws
number_of-rest h [] = refl
number_of-rest h (w ∷ ws) = ap (λ (n : ℕ). cond (eqb w.handle h) 1 0 + n) (number_of-rest h ws)

single_rest : (ws vs : List Win) → map rest_of vs ≡ map rest_of ws → AreSingle ws → AreSingle vs
single_rest ws vs e single h = subst (λ (n : ℕ). n ≤ 1) (sym (sym (number_of-rest h vs) ∙ ap (number_of h) e ∙ number_of-rest h ws)) (single h)

rest-bare : (ws : List Win) → map rest_of (map bare ws) ≡ map rest_of ws
rest-bare [] = refl
rest-bare (w ∷ ws) = ap (λ (vs : List Win). rest_of w ∷ vs) (rest-bare ws)

-- windows that differ in what is invalid alone
pub rest_same : (ws vs : List Win) → map bare vs ≡ map bare ws → map rest_of vs ≡ map rest_of ws
rest_same ws vs e = sym (rest-bare vs) ∙ ap (map rest_of) e ∙ rest-bare ws

pub length_same : (ws vs : List Win) → map rest_of vs ≡ map rest_of ws → length vs ≡ length ws
length_same ws vs e = sym (length-map vs rest_of) ∙ ap length e ∙ length-map ws rest_of

-- the first windows of one list, and the later ones of another
abbrev pub mixed : ℕ → List Win → List Win → List Win
mixed i new old = take i new ++ drop i old

-- two lists of windows that differ in their values and in what is invalid alone, at a place in both
pub record AreAt (new old : List Win) (i : ℕ) : Type 0 where
  pub stack : IsStack new
  pub rest : map rest_of new ≡ map rest_of old
  pub there : i < length new

-- the place in the other list
old_there : (new old : List Win) (i : ℕ) → AreAt new old i → i < length old
old_there new old i a = let same = length_same old new a.rest in let there = a.there in omega arith

rest_at : (new old : List Win) (i : ℕ) → AreAt new old i → rest_of (get_or new i no_window) ≡ rest_of (get_or old i no_window)
rest_at new old i a =
    sym (get_or-map rest_of new i no_window (rest_of no_window) a.there) ∙ ap (λ (us : List Win). get_or us i (rest_of no_window)) a.rest ∙ get_or-map rest_of old i no_window (rest_of no_window) (old_there new old i a)

mixed_rest : (new old : List Win) (i : ℕ) → map rest_of new ≡ map rest_of old → map rest_of (mixed i new old) ≡ map rest_of new
mixed_rest new old i e =
    map-append rest_of (take i new) (drop i old)
    ∙ ap (λ (us : List Win). us ++ map rest_of (drop i old)) (sym (take-map rest_of i new))
    ∙ ap (λ (us : List Win). take i (map rest_of new) ++ us) (sym (drop-map rest_of i old) ∙ ap (drop i) (sym e))
    ∙ take-append-drop i (map rest_of new)

before_step : (new old : List Win) (i : ℕ) → AreAt new old i → mixed i new old ≡ take i new ++ (get_or old i no_window ∷ drop (i + 1) old)
before_step new old i a = ap (λ (us : List Win). take i new ++ us) (drop_more old i no_window (old_there new old i a))

after_step : (new old : List Win) (i : ℕ) → AreAt new old i → mixed (i + 1) new old ≡ take i new ++ (get_or new i no_window ∷ drop (i + 1) old)
after_step new old i a =
    ap (λ (us : List Win). us ++ drop (i + 1) old) (ap (λ (n : ℕ). take n new) (add-one i) ∙ take-suc new i no_window a.there)
    ∙ append_assoc (take i new) (get_or new i no_window ∷ []) (drop (i + 1) old)

-- the window that is put back finds the one that was there
found_step : (new old : List Win) (i : ℕ) → AreAt new old i → (slice_get (mixed i new old) i ≡ Some (get_or old i no_window)) × (window_of (mixed i new old) (get_or new i no_window).handle ≡ Some (get_or old i no_window))
found_step new old i a =
    let v = get_or old i no_window in
    let there = a.there in
    let long : length (take i new) ≡ i = length-take-le i new (omega arith) in
    let at : slice_get (mixed i new old) i ≡ Some v = ap (λ (us : List Win). slice_get us i) (before_step new old i a) ∙ slice_get_seam (take i new) v (drop (i + 1) old) i long in
    let single = single_rest new (mixed i new old) (mixed_rest new old i a.rest) a.stack.single in
    let handle : (get_or new i no_window).handle ≡ v.handle = ap (λ (w : Win). w.handle) (rest_at new old i a) in
    (at, ap (window_of (mixed i new old)) handle ∙ window_of-single (mixed i new old) i v at (single v.handle))
  where
    slice_get_seam : (us : List Win) (v : Win) (vs : List Win) (i : ℕ) → length us ≡ i → slice_get (us ++ v ∷ vs) i ≡ Some v
    slice_get_seam us v vs i e = ap (slice_get (us ++ v ∷ vs)) (sym e) ∙ seam us v vs
      where
        seam : (us : List Win) (v : Win) (vs : List Win) → slice_get (us ++ v ∷ vs) (length us) ≡ Some v
        seam [] v vs = refl
        seam (u ∷ us) v vs = seam us v vs

pub put_step : (new old : List Win) (i : ℕ) → AreAt new old i → let w = get_or new i no_window in window_changed w.handle (λ u. w) (mixed i new old) ≡ mixed (i + 1) new old
put_step new old i a =
    let w = get_or new i no_window in
    let v = get_or old i no_window in
    let there = a.there in
    let long : length (take i new) ≡ i = length-take-le i new (omega arith) in
    let single = single_rest new (mixed i new old) (mixed_rest new old i a.rest) a.stack.single in
    ap (λ (k : ℕ). window_changed k (λ u. w) (mixed i new old)) (ap (λ (u : Win). u.handle) (rest_at new old i a))
    ∙ sym (set_is_changed (mixed i new old) i v (λ u. w) single (found_step new old i a).0)
    ∙ ap (λ (us : List Win). set us i w) (before_step new old i a)
    ∙ set_at (take i new) v (drop (i + 1) old) w i long
    ∙ sym (after_step new old i a)

-- where nothing of it changed it need not be put back
pub stay_step : (new old : List Win) (i : ℕ) → AreAt new old i → (get_or new i no_window).invalid ≡ (get_or old i no_window).invalid → (get_or new i no_window).values ≡ (get_or old i no_window).values → mixed i new old ≡ mixed (i + 1) new old
stay_step new old i a e values =
    let w = get_or new i no_window in
    let v = get_or old i no_window in
    let same : v ≡ w =
    sym (ap (λ (u : Win). record u { values = w.values; invalid = w.invalid }) (rest_at new old i a)
    ∙ ap (λ (o : Option Rect). record v { values = w.values; invalid = o }) e
    ∙ ap (λ (zs : List ℤ). record v { values = zs }) values) in
    before_step new old i a ∙ ap (λ (u : Win). take i new ++ (u ∷ drop (i + 1) old)) same ∙ sym (after_step new old i a)

pub put_replaces : (new old : List Win) (i : ℕ) → AreAt new old i → IsReplacement (window_of (mixed i new old) (get_or new i no_window).handle) (get_or new i no_window)
put_replaces new old i a =
    let w = get_or new i no_window in
    let v = get_or old i no_window in
    let window = found_has IsWindow new w.handle w (window_of-single new i w (slice_get-get_or new i no_window a.there) (a.stack.single w.handle)) a.stack.windows in
    subst (λ (o : Option Win). IsReplacement o w) (sym (found_step new old i a).1) (replaces v w (rest_at new old i a) window)
  where
    replaces : (v w : Win) → rest_of w ≡ rest_of v → IsWindow w → MayReplace v w
    replaces v w e window = record {
      same = ap (λ (u : Win). record u { values = w.values; invalid = w.invalid }) e ∙ ap (λ (u : Win). record v { class = u.class; trans = u.trans; memdev = u.memdev; values = w.values; invalid = w.invalid }) (sym e);
      invalid = window.invalid;
      desktop = λ one. (ap (λ (u : Win). u.class) e, ap (λ (u : Win). u.trans) e);
    }
