-- What functions on lists of windows do that look at handles and parents alone: they do the same where each window is changed that keeps these.
use Rattle.std.proofs.Common.{◌≡◌, ℕ, zero, suc, ◌+◌, Bool, true, false, ◌&&◌, ◌||◌, cond, eqb, List, [], ◌∷◌, ◌++◌, map, filter, Option, Some, None, refl, sym, ap, ◌∙◌, inl, inr}
use Rattle.std.specs.Prelude.{not, option_map, unwrap_or}
use Rattle.std.specs.List.{list_any}
use Rattle.std.proofs.lemmas.Bool.{cases_Bool}
use Rattle.std.proofs.lemmas.List.{map-append}
use Rattle.scene.specs.declared.win.Win.{Win}
use Rattle.scene.specs.Places.{window_of, number_of}
use Rattle.scene.specs.Stacks.{has_ancestors}
use Rattle.scene.specs.Families.{has_handle, belongs, family_from, family_of, is_in, parent_of, after_last, without_family, on_top_of, right_after, raised, lowered, window_changed}

-- each window keeps its handle and its parent
pub record Keeps (f : Win → Win) : Type 0 where
  pub handle : (w : Win) → (f w).handle ≡ w.handle
  pub parent : (w : Win) → (f w).parent ≡ w.parent

-- ---- what handles find

pub window_of-map : (f : Win → Win) (k : Keeps f) (ws : List Win) (x : ℕ) → window_of (map f ws) x ≡ option_map f (window_of ws x)
window_of-map f k [] x = refl
window_of-map f k (w ∷ ws) x =
    let same : eqb (f w).handle x ≡ eqb w.handle x = ap (λ (h : ℕ). eqb h x) (k.handle w) in
    elim (cases_Bool (eqb w.handle x)) [
      | inl at ↦ rw (same, at) refl
      | inr off ↦ rw (same, off) (window_of-map f k ws x)
    ]

pub number_of-map : (f : Win → Win) (k : Keeps f) (ws : List Win) (x : ℕ) → number_of x (map f ws) ≡ number_of x ws
number_of-map f k [] x = refl
number_of-map f k (w ∷ ws) x =
    ap (λ (h : ℕ). cond (eqb h x) 1 0 + number_of x (map f ws)) (k.handle w)
    ∙ ap (λ (n : ℕ). cond (eqb w.handle x) 1 0 + n) (number_of-map f k ws x)

parent-some : (f : Win → Win) (k : Keeps f) (o : Option Win) → unwrap_or (option_map (λ (w : Win). w.parent) (option_map f o)) 0 ≡ unwrap_or (option_map (λ (w : Win). w.parent) o) 0
parent-some f k None = refl
parent-some f k (Some w) = k.parent w

parent_of-map : (f : Win → Win) (k : Keeps f) (h : ℕ) (ws : List Win) → parent_of h (map f ws) ≡ parent_of h ws
unfolding parent_of
parent_of-map f k h ws = ap (λ (o : Option Win). unwrap_or (option_map (λ (w : Win). w.parent) o) 0) (window_of-map f k ws h) ∙ parent-some f k (window_of ws h)

ancestors-some : (f : Win → Win) (n : ℕ) (us ws : List Win) (o : Option Win) → ((w : Win) → has_ancestors n us (f w) ≡ has_ancestors n ws w) → unwrap_or (option_map (has_ancestors n us) (option_map f o)) false ≡ unwrap_or (option_map (has_ancestors n ws) o) false
ancestors-some f n us ws None same = refl
ancestors-some f n us ws (Some w) same = same w

pub has_ancestors-map : (f : Win → Win) (k : Keeps f) (n : ℕ) (ws : List Win) (w : Win) → has_ancestors n (map f ws) (f w) ≡ has_ancestors n ws w
unfolding has_ancestors
has_ancestors-map f k zero ws w = refl
has_ancestors-map f k (suc n) ws w =
    ap (λ (h : ℕ). unwrap_or (option_map (has_ancestors n (map f ws)) (window_of (map f ws) h)) false) (k.parent w)
    ∙ ap (λ (o : Option Win). unwrap_or (option_map (has_ancestors n (map f ws)) o) false) (window_of-map f k ws w.parent)
    ∙ ancestors-some f n (map f ws) ws (window_of ws w.parent) (λ v. has_ancestors-map f k n ws v)

-- ---- parts of lists

pub filter-map : (f : Win → Win) (test mine : Win → Bool) → ((w : Win) → test (f w) ≡ mine w) → (ws : List Win) → filter test (map f ws) ≡ map f (filter mine ws)
filter-map f test mine same [] = refl
filter-map f test mine same (w ∷ ws) =
    elim (cases_Bool (mine w)) [
      | inl in' ↦ rw (same w, in') (ap (λ (vs : List Win). f w ∷ vs) (filter-map f test mine same ws))
      | inr out' ↦ rw (same w, out') (filter-map f test mine same ws)
    ]

any-map : (f : Win → Win) (test mine : Win → Bool) → ((w : Win) → test (f w) ≡ mine w) → (ws : List Win) → list_any test (map f ws) ≡ list_any mine ws
any-map f test mine same [] = refl
any-map f test mine same (w ∷ ws) = ap (λ (b : Bool). b || list_any test (map f ws)) (same w) ∙ ap (λ (b : Bool). mine w || b) (any-map f test mine same ws)

after_last-map : (f : Win → Win) (test mine : Win → Bool) → ((w : Win) → test (f w) ≡ mine w) → (more ws : List Win) → after_last test (map f more) (map f ws) ≡ map f (after_last mine more ws)
after_last-map f test mine same more [] = refl
after_last-map f test mine same more (w ∷ ws) =
    let last : (test (f w) && not (list_any test (map f ws))) ≡ (mine w && not (list_any mine ws)) =
    ap (λ (b : Bool). b && not (list_any test (map f ws))) (same w) ∙ ap (λ (b : Bool). mine w && not b) (any-map f test mine same ws) in
    elim (cases_Bool (mine w && not (list_any mine ws))) [
      | inl here ↦ rw (last, here) (ap (λ (vs : List Win). f w ∷ vs) (sym (map-append f more ws)))
      | inr later ↦ rw (last, later) (ap (λ (vs : List Win). f w ∷ vs) (after_last-map f test mine same more ws))
    ]

-- ---- families

has_handle-map : (f : Win → Win) (k : Keeps f) (x : ℕ) (ws : List Win) → has_handle x (map f ws) ≡ has_handle x ws
has_handle-map f k x ws = any-map f (λ w. eqb w.handle x) (λ w. eqb w.handle x) (λ w. ap (λ (h : ℕ). eqb h x) (k.handle w)) ws

is_in-map : (f : Win → Win) (k : Keeps f) (fam : List Win) (w : Win) → is_in (map f fam) (f w) ≡ is_in fam w
is_in-map f k fam w = ap (λ (h : ℕ). has_handle h (map f fam)) (k.handle w) ∙ has_handle-map f k w.handle fam

belongs-map : (f : Win → Win) (k : Keeps f) (h : ℕ) (found : List Win) (w : Win) → belongs h (map f found) (f w) ≡ belongs h found w
belongs-map f k h found w =
    ap (λ (x : ℕ). eqb x h || has_handle (f w).parent (map f found)) (k.handle w)
    ∙ ap (λ (x : ℕ). eqb w.handle h || has_handle x (map f found)) (k.parent w)
    ∙ ap (λ (b : Bool). eqb w.handle h || b) (has_handle-map f k w.parent found)

one_more : (f : Win → Win) (h : ℕ) (found : List Win) (w : Win) (ws : List Win) (b : Bool) → ((more : List Win) → family_from h (map f more) (map f ws) ≡ map f (family_from h more ws))
    → family_from h (cond b (map f found ++ f w ∷ []) (map f found)) (map f ws) ≡ map f (family_from h (cond b (found ++ w ∷ []) found) ws)
one_more f h found w ws true later = ap (λ (vs : List Win). family_from h vs (map f ws)) (sym (map-append f found (w ∷ []))) ∙ later (found ++ w ∷ [])
one_more f h found w ws false later = later found

family_from-map : (f : Win → Win) (k : Keeps f) (h : ℕ) (found ws : List Win) → family_from h (map f found) (map f ws) ≡ map f (family_from h found ws)
family_from-map f k h found [] = refl
family_from-map f k h found (w ∷ ws) =
    ap (λ (b : Bool). family_from h (cond b (map f found ++ f w ∷ []) (map f found)) (map f ws)) (belongs-map f k h found w)
    ∙ one_more f h found w ws (belongs h found w) (λ more. family_from-map f k h more ws)

family_of-map : (f : Win → Win) (k : Keeps f) (h : ℕ) (ws : List Win) → family_of h (map f ws) ≡ map f (family_of h ws)
family_of-map f k h ws = family_from-map f k h [] ws

-- ---- what calls do to the list

pub without_family-map : (f : Win → Win) (k : Keeps f) (h : ℕ) (ws : List Win) → without_family h (map f ws) ≡ map f (without_family h ws)
unfolding without_family
without_family-map f k h ws =
    ap (λ (fam : List Win). filter (λ w. not (is_in fam w)) (map f ws)) (family_of-map f k h ws)
    ∙ filter-map f (λ w. not (is_in (map f (family_of h ws)) w)) (λ w. not (is_in (family_of h ws) w)) (λ w. ap not (is_in-map f k (family_of h ws) w)) ws

pub on_top_of-map : (f : Win → Win) (k : Keeps f) (h : ℕ) (more ws : List Win) → on_top_of h (map f more) (map f ws) ≡ map f (on_top_of h more ws)
unfolding on_top_of
on_top_of-map f k h more ws =
    ap (λ (fam : List Win). after_last (is_in fam) (map f more) (map f ws)) (family_of-map f k h ws)
    ∙ after_last-map f (is_in (map f (family_of h ws))) (is_in (family_of h ws)) (is_in-map f k (family_of h ws)) more ws

right_after-map : (f : Win → Win) (k : Keeps f) (h : ℕ) (more ws : List Win) → right_after h (map f more) (map f ws) ≡ map f (right_after h more ws)
unfolding right_after
right_after-map f k h more ws = after_last-map f (λ w. eqb w.handle h) (λ w. eqb w.handle h) (λ w. ap (λ (x : ℕ). eqb x h) (k.handle w)) more ws

-- a family put in again elsewhere, below a parent
put_again : (f : Win → Win) (k : Keeps f) (put : ℕ → List Win → List Win → List Win) → ((p : ℕ) (more ws : List Win) → put p (map f more) (map f ws) ≡ map f (put p more ws))
    → (h : ℕ) (ws : List Win) → put (parent_of h (map f ws)) (family_of h (map f ws)) (without_family h (map f ws)) ≡ map f (put (parent_of h ws) (family_of h ws) (without_family h ws))
put_again f k put alike h ws =
    ap (λ (p : ℕ). put p (family_of h (map f ws)) (without_family h (map f ws))) (parent_of-map f k h ws)
    ∙ ap (λ (fam : List Win). put (parent_of h ws) fam (without_family h (map f ws))) (family_of-map f k h ws)
    ∙ ap (put (parent_of h ws) (map f (family_of h ws))) (without_family-map f k h ws)
    ∙ alike (parent_of h ws) (family_of h ws) (without_family h ws)

pub raised-map : (f : Win → Win) (k : Keeps f) (h : ℕ) (ws : List Win) → raised h (map f ws) ≡ map f (raised h ws)
unfolding raised
raised-map f k h ws = put_again f k on_top_of (on_top_of-map f k) h ws

pub lowered-map : (f : Win → Win) (k : Keeps f) (h : ℕ) (ws : List Win) → lowered h (map f ws) ≡ map f (lowered h ws)
unfolding lowered
lowered-map f k h ws = put_again f k right_after (right_after-map f k) h ws

-- a change of one window of which nothing is seen
pub changed-map : (f change : Win → Win) (h : ℕ) (ws : List Win) → ((w : Win) → f (change w) ≡ f w) → map f (window_changed h change ws) ≡ map f ws
unfolding window_changed
changed-map f change h [] same = refl
changed-map f change h (w ∷ ws) same =
    elim (cases_Bool (eqb w.handle h)) [
      | inl at ↦ rw at (ap (λ (v : Win). v ∷ map f (window_changed h change ws)) (same w) ∙ ap (λ (vs : List Win). f w ∷ vs) (changed-map f change h ws same))
      | inr off ↦ rw off (ap (λ (vs : List Win). f w ∷ vs) (changed-map f change h ws same))
    ]

-- a change of one window, of which the same is seen after it
pub window_changed-map : (f change : Win → Win) (k : Keeps f) (h : ℕ) (ws : List Win) → ((w : Win) → change (f w) ≡ f (change w)) → window_changed h change (map f ws) ≡ map f (window_changed h change ws)
unfolding window_changed
window_changed-map f change k h [] same = refl
window_changed-map f change k h (w ∷ ws) same =
    let one : eqb (f w).handle h ≡ eqb w.handle h = ap (λ (x : ℕ). eqb x h) (k.handle w) in
    elim (cases_Bool (eqb w.handle h)) [
      | inl at ↦ rw (one, at) (ap (λ (v : Win). v ∷ window_changed h change (map f ws)) (same w) ∙ ap (λ (vs : List Win). f (change w) ∷ vs) (window_changed-map f change k h ws same))
      | inr off ↦ rw (one, off) (ap (λ (vs : List Win). f w ∷ vs) (window_changed-map f change k h ws same))
    ]
