-- Laws of messages: valid stacks, lineages, and windows that the message doesn't go to.
use Rattle.std.proofs.Common.{◌≡◌, ◌<◌, ℕ, zero, suc, ◌≤◌, false, eqb, List, [], ◌∷◌, set, ℤ, Option, Some, None, refl, sym, ap, subst, ◌∙◌, inl, inr, arith}
use Rattle.std.specs.Prelude.{option_map, unwrap_or, slice_get}
use Rattle.std.specs.List.{AllByRecursion}
use Rattle.std.specs.Cmp.Lexicographic.{pointwise}
use Rattle.std.specs.Ordering.{int_eq}
use Rattle.std.proofs.lemmas.Bool.{cases_Bool, or_parts, false≢true, ne_eqb, eqb-false}
use Rattle.std.proofs.lemmas.Option.{slice_get-map}
use Rattle.gfx_base.specs.declared.rect.Rect.{Rect}
use Rattle.paint_ops.specs.Kinds.{Assets}
use Rattle.scene.specs.declared.win.Win.{Win}
use Rattle.scene.specs.Places.{window_of}
use Rattle.scene.specs.Clips.{deepest_level, clip_in}
use Rattle.scene.specs.Families.{window_changed, has_handle}
use Rattle.scene.specs.Stacks.{IsWindow, IsDesktop, MayBecome, has_ancestors, IsShallow, IsStack}
use Rattle.scene.proofs.CallerLemmas.{desktops, changed_valid, set_is_changed}
use Rattle.invalidate.proofs.CallerLemmas.{may_become}
use Rattle.messages.specs.Delivery.{with_values, with_new_values, after_message, handed_on, lineage, delivered_along}
use Rattle.messages.proofs.DeliveryLemmas.{at_handle, changed_is}
use Rattle.messages.proofs.KeepingLemmas.{revalued, kept_along}

-- ---- valid stacks

of_found : (P : Win → Type 0) (ws : List Win) (h : ℕ) (w : Win) → AllByRecursion P ws → window_of ws h ≡ Some w → P w
of_found P [] h w all e = absurd cc
of_found P (v ∷ ws) h w all e =
    elim (cases_Bool (eqb v.handle h)) [
      | inl at ↦ let is : Some v ≡ Some w = rw at at e in let same : v ≡ w = cc in subst P same all.0
      | inr off ↦ of_found P ws h w all.1 (rw off at e)
    ]

-- a window with other values is one still
with_values-window : (values : List ℤ) (w : Win) → IsWindow w → IsWindow (with_values values w)
with_values-window values w own = record {
  handle = own.handle;
  some_width = own.some_width;
  width = own.width;
  some_height = own.some_height;
  height = own.height;
  invalid = own.invalid;
}

with_values-desktop : (values : List ℤ) (w : Win) → (w.handle ≡ 1 → IsDesktop w) → w.handle ≡ 1 → IsDesktop (with_values values w)
with_values-desktop values w desktop one =
    let desk = desktop one in record {
      x = desk.x;
      y = desk.y;
      width = desk.width;
      height = desk.height;
      shown = desk.shown;
      class = desk.class;
      trans = desk.trans;
    }

became : (screen : Rect) (ws : List Win) (values : List ℤ) (w : Win) → IsWindow w → (w.handle ≡ 1 → IsDesktop w) → MayBecome w (with_new_values screen ws values w)
became screen ws values w own desktop =
    let v = with_values values w in
    let clip = clip_in screen ws v in
    let after = may_become clip clip v (with_values-window values w own) (with_values-desktop values w desktop) in
    elim (cases_Bool (pointwise int_eq w.values values)) [
      | inl e ↦ rw e (record { handle = refl; parent = refl; window = own; desktop = desktop })
      | inr e ↦ rw e (record { handle = after.handle; parent = after.parent; window = after.window; desktop = after.desktop })
    ]

pub revalued_valid : (screen : Rect) (h : ℕ) (values : Win → List ℤ) (us : List Win) → IsStack us → IsStack (revalued screen h values us)
revalued_valid screen h values us stack =
    changed_valid h (λ w. with_new_values screen us (values w) w) us stack
    (λ w found. became screen us (values w) w (of_found IsWindow us h w stack.windows found) (of_found (λ v. v.handle ≡ 1 → IsDesktop v) us h w (desktops us stack) found))

pub valid_along : (assets : Assets) (screen : Rect) (message : ℕ) (argument : ℤ) (path ws : List Win) → IsStack ws → IsStack (delivered_along assets screen message argument path ws)
valid_along assets screen message argument path ws stack =
    let P : List Win → Type 0 = λ us. IsStack us in
    kept_along assets screen message argument P (λ us h values s. revalued_valid screen h values us s) path ws stack

pub put_valid : (screen : Rect) (ws : List Win) (i : ℕ) (w : Win) (values : List ℤ) → IsStack ws → slice_get ws i ≡ Some w → IsStack (set ws i (with_new_values screen ws values w))
put_valid screen ws i w values stack at =
    let S : List Win → Type 0 = λ us. IsStack us in
    subst S (sym (set_is_changed ws i w (with_new_values screen ws values) stack.single at)) (revalued_valid screen w.handle (λ v. values) ws stack)

-- ---- lineages

same_rest : (n m : ℕ) (ws : List Win) → ((v : Win) → has_ancestors n ws v ≡ false → lineage m ws v ≡ lineage n ws v) → (o : Option Win)
    → unwrap_or (option_map (has_ancestors n ws) o) false ≡ false → unwrap_or (option_map (lineage m ws) o) [] ≡ unwrap_or (option_map (lineage n ws) o) []
same_rest n m ws inner None few = refl
same_rest n m ws inner (Some v) few = inner v few

more_levels : (n m : ℕ) (ws : List Win) (w : Win) → has_ancestors n ws w ≡ false → n ≤ m → lineage m ws w ≡ lineage n ws w
unfolding has_ancestors
more_levels zero m ws w few less = absurd (false≢true (sym few))
more_levels (suc n) zero ws w few less = absurd (omega arith)
more_levels (suc n) (suc m) ws w few less =
    let fewer : n ≤ m = omega arith in
    ap (λ us. w ∷ us) (same_rest n m ws (λ v e. more_levels n m ws v e fewer) (window_of ws w.parent) few)

pub whole_lineage : (ws : List Win) (w : Win) (levels : ℕ) → IsStack ws → window_of ws w.handle ≡ Some w → deepest_level ≤ levels → lineage levels ws w ≡ lineage deepest_level ws w
whole_lineage ws w levels stack found enough = more_levels deepest_level levels ws w (of_found (IsShallow ws) ws w.handle w stack.levels found) enough

none_at_zero : (ws : List Win) → AllByRecursion IsWindow ws → window_of ws 0 ≡ None
none_at_zero [] all = refl
none_at_zero (w ∷ ws) all =
    let some : 0 < w.handle = all.0.handle in
    let other : eqb w.handle 0 ≡ false = ne_eqb w.handle 0 (λ zero_handle. omega (arith, some, zero_handle)) in
    rw (other, none_at_zero ws all.1) refl

pub desktop_alone : (w : Win) (ws : List Win) (levels : ℕ) → IsStack (w ∷ ws) → lineage (suc levels) (w ∷ ws) w ≡ w ∷ []
desktop_alone w ws levels stack =
    let top : window_of (w ∷ ws) w.parent ≡ None = ap (window_of (w ∷ ws)) stack.order.1 ∙ none_at_zero (w ∷ ws) stack.windows in
    ap (λ (o : Option Win). w ∷ unwrap_or (option_map (lineage levels (w ∷ ws)) o) []) top

-- ---- windows that the message doesn't go to

pub get_changed : (h : ℕ) (f : Win → Win) (ws : List Win) (i : ℕ) → slice_get (window_changed h f ws) i ≡ option_map (at_handle h f) (slice_get ws i)
get_changed h f ws i = ap (λ us. slice_get us i) (changed_is h f ws) ∙ slice_get-map (at_handle h f) ws i

by_up : (f : ℕ → List Win) (now : List Win) (i : ℕ) (v : Win) → ((up : ℕ) → slice_get (f up) i ≡ Some v) → slice_get now i ≡ Some v → (o : Option ℕ) → slice_get (unwrap_or (option_map f o) now) i ≡ Some v
by_up f now i v all here None = here
by_up f now i v all here (Some up) = all up

pub stays_apart : (assets : Assets) (screen : Rect) (message : ℕ) (argument : ℤ) (path ws : List Win) (i : ℕ) (v : Win) → slice_get ws i ≡ Some v → has_handle v.handle path ≡ false
    → slice_get (delivered_along assets screen message argument path ws) i ≡ Some v
stays_apart assets screen message argument [] ws i v at apart = at
stays_apart assets screen message argument (w ∷ path) ws i v at apart =
    let parts = or_parts (eqb w.handle v.handle) (has_handle v.handle path) apart in
    let f = after_message assets screen ws message argument in
    let now = window_changed w.handle f ws in
    let off : eqb v.handle w.handle ≡ false = ne_eqb v.handle w.handle (λ same. eqb-false w.handle v.handle parts.0 (sym same)) in
    let here : slice_get now i ≡ Some v = get_changed w.handle f ws i ∙ ap (option_map (at_handle w.handle f)) at ∙ rw off refl in
    by_up (λ up. delivered_along assets screen up argument path now) now i v (λ up. stays_apart assets screen up argument path now i v here parts.1) here (handed_on assets message w)
