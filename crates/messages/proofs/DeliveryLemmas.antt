-- Messages on their way from a window up.
use Rattle.std.proofs.Common.{◌≡◌, ℕ, zero, suc, ◌<◌, ◌≤◌, length, ltb, Bool, true, false, cond, eqb, List, [], ◌∷◌, map, set, get_or, ℤ, Option, Some, None, refl, sym, ap, ◌∙◌, inl, inr, arith}
use Rattle.std.specs.Prelude.{slice_get, option_map, unwrap_or, position, find}
use Rattle.std.specs.List.{position_or_len}
use Rattle.std.proofs.lemmas.Bool.{cases_Bool, ltb-true, ltb-false}
use Rattle.std.proofs.lemmas.List.Folds.{find_at}
use Rattle.std.proofs.lemmas.Option.{slice_get-get_or, get_or_from_slice_get}
use Rattle.gfx_base.specs.declared.rect.Rect.{Rect}
use Rattle.paint_ops.specs.Kinds.{Assets}
use Rattle.scene.specs.declared.win.Win.{Win}
use Rattle.scene.specs.Places.{Place, place_of, window_of, AreSingle}
use Rattle.scene.specs.Looks.{no_class}
use Rattle.scene.specs.Families.{window_changed}
use Rattle.scene.proofs.CallerLemmas.{AreSingle-same, set_is_changed}
use Rattle.messages.specs.Reactions.{reactions_to, values_after, first_up}
use Rattle.messages.specs.Delivery.{reactions_of, after_message, handed_on, lineage, delivered_along}
use Rattle.messages.proofs.WindowLemmas.{place-with_new_values, class-with_new_values, places-set, get-set}

-- ---- windows that keep what messages go by

-- each window keeps its handle, its parent and its class
pub record Keeps (g : Win → Win) : Type 0 where
  pub handle : (w : Win) → (g w).handle ≡ w.handle
  pub parent : (w : Win) → (g w).parent ≡ w.parent
  pub class : (w : Win) → (g w).class ≡ w.class

kept_one : (b : Bool) (f : Win → Win) → Keeps f → (w : Win) → ((cond b (f w) w).handle ≡ w.handle) × ((cond b (f w) w).parent ≡ w.parent) × ((cond b (f w) w).class ≡ w.class)
kept_one true f keeps w = (keeps.handle w, keeps.parent w, keeps.class w)
kept_one false f keeps w = (refl, refl, refl)

-- what changes the window of a handle
abbrev pub at_handle : ℕ → (Win → Win) → Win → Win
at_handle h f w = cond (eqb w.handle h) (f w) w

Keeps-at_handle : (h : ℕ) (f : Win → Win) → Keeps f → Keeps (at_handle h f)
Keeps-at_handle h f keeps = record {
  handle = λ w. (kept_one (eqb w.handle h) f keeps w).0;
  parent = λ w. (kept_one (eqb w.handle h) f keeps w).1;
  class = λ w. (kept_one (eqb w.handle h) f keeps w).2;
}

pub changed_is : (h : ℕ) (f : Win → Win) (ws : List Win) → window_changed h f ws ≡ map (at_handle h f) ws
unfolding window_changed
changed_is h f ws = refl

pub Keeps-after_message : (assets : Assets) (screen : Rect) (ws : List Win) (message : ℕ) (argument : ℤ) → Keeps (after_message assets screen ws message argument)
Keeps-after_message assets screen ws message argument = record {
  handle = λ w. ap (λ (q : Place). q.handle) (place-with_new_values screen ws (values_after argument (reactions_of assets message w) w.values) w);
  parent = λ w. ap (λ (q : Place). q.parent) (place-with_new_values screen ws (values_after argument (reactions_of assets message w) w.values) w);
  class = λ w. class-with_new_values screen ws (values_after argument (reactions_of assets message w) w.values) w;
}

-- ---- lineages of such windows

window_of-map : (g : Win → Win) → Keeps g → (ws : List Win) (h : ℕ) → window_of (map g ws) h ≡ option_map g (window_of ws h)
window_of-map g keeps [] h = refl
window_of-map g keeps (w ∷ ws) h =
    let same : eqb (g w).handle h ≡ eqb w.handle h = ap (λ k. eqb k h) (keeps.handle w) in
    elim (cases_Bool (eqb w.handle h)) [
      | inl e ↦ rw (same ∙ e, e) refl
      | inr e ↦ rw (same ∙ e, e) (window_of-map g keeps ws h)
    ]

mapped_above : (n : ℕ) (g : Win → Win) (ws : List Win) → ((w : Win) → lineage n (map g ws) (g w) ≡ map g (lineage n ws w)) → (o : Option Win)
    → unwrap_or (option_map (lineage n (map g ws)) (option_map g o)) [] ≡ map g (unwrap_or (option_map (lineage n ws) o) [])
mapped_above n g ws inner None = refl
mapped_above n g ws inner (Some p) = inner p

lineage-map : (n : ℕ) (g : Win → Win) → Keeps g → (ws : List Win) (w : Win) → lineage n (map g ws) (g w) ≡ map g (lineage n ws w)
lineage-map zero g keeps ws w = refl
lineage-map (suc n) g keeps ws w =
    ap (λ (o : Option Win). g w ∷ unwrap_or (option_map (lineage n (map g ws)) o) []) (ap (window_of (map g ws)) (keeps.parent w) ∙ window_of-map g keeps ws w.parent)
    ∙ ap (λ us. g w ∷ us) (mapped_above n g ws (λ v. lineage-map n g keeps ws v) (window_of ws w.parent))

-- ---- a message along a lineage

handed_on-kept : (assets : Assets) (message : ℕ) (g : Win → Win) → Keeps g → (w : Win) → handed_on assets message (g w) ≡ handed_on assets message w
handed_on-kept assets message g keeps w =
    ap (λ n. first_up (reactions_to message (get_or assets.classes n no_class).reactions)) (keeps.class w)

by_up : (f g : ℕ → List Win) (now : List Win) → ((up : ℕ) → f up ≡ g up) → (o : Option ℕ) → unwrap_or (option_map f o) now ≡ unwrap_or (option_map g o) now
by_up f g now same None = refl
by_up f g now same (Some up) = same up

delivered_along-map : (assets : Assets) (screen : Rect) (message : ℕ) (argument : ℤ) (g : Win → Win) → Keeps g → (path ws : List Win) → delivered_along assets screen message argument (map g path) ws ≡ delivered_along assets screen message argument path ws
delivered_along-map assets screen message argument g keeps [] ws = refl
delivered_along-map assets screen message argument g keeps (w ∷ path) ws =
    let f = after_message assets screen ws message argument in
    let now = window_changed w.handle f ws in
    ap (λ h. unwrap_or (option_map (λ up. delivered_along assets screen up argument (map g path) (window_changed h f ws)) (handed_on assets message (g w))) (window_changed h f ws)) (keeps.handle w)
    ∙ ap (λ o. unwrap_or (option_map (λ up. delivered_along assets screen up argument (map g path) now) o) now) (handed_on-kept assets message g keeps w)
    ∙ by_up (λ up. delivered_along assets screen up argument (map g path) now) (λ up. delivered_along assets screen up argument path now) now
    (λ up. delivered_along-map assets screen up argument g keeps path now) (handed_on assets message w)

-- ---- look-ups by handles

found_by : (test : Win → Bool) (ws : List Win) (b : Bool) (j : ℕ) → ltb (position_or_len test ws) (length ws) ≡ b → cond b (Some (position_or_len test ws)) None ≡ Some j → (j < length ws) × (slice_get ws j ≡ find test ws)
found_by test ws true j less e =
    let same : position_or_len test ws ≡ j = cc in
    let inside : position_or_len test ws < length ws = ltb-true _ _ less in
    (omega (arith, same, inside), ap (slice_get ws) (sym same) ∙ sym (find_at test ws))
found_by test ws false j less e = absurd cc

-- what stands where a look-up by a handle finds a window
pub found : (ws : List Win) (h j : ℕ) → position (λ w. eqb w.handle h) ws ≡ Some j → (j < length ws) × (slice_get ws j ≡ window_of ws h)
found ws h j e = found_by (λ w. eqb w.handle h) ws _ j refl e

missed_by : (test : Win → Bool) (ws : List Win) (b : Bool) → ltb (position_or_len test ws) (length ws) ≡ b → cond b (Some (position_or_len test ws)) None ≡ None → find test ws ≡ None
missed_by test ws true less e = absurd cc
missed_by test ws false less e = find_at test ws ∙ get_past ws (position_or_len test ws) (ltb-false _ _ less)
  where
    get_past : (us : List Win) (i : ℕ) → length us ≤ i → slice_get us i ≡ None
    get_past [] i past = refl
    get_past (u ∷ us) zero past = absurd (omega arith)
    get_past (u ∷ us) (suc i) past = get_past us i (omega arith)

pub missed : (ws : List Win) (h : ℕ) → position (λ w. eqb w.handle h) ws ≡ None → window_of ws h ≡ None
missed ws h e = missed_by (λ w. eqb w.handle h) ws _ refl e

-- ---- one window of a lineage

-- the windows once the one at a place has reacted
pub record HasReacted (assets : Assets) (screen : Rect) (message : ℕ) (argument : ℤ) (ws : List Win) (i : ℕ) (w : Win) (now : List Win) : Type 0 where
  pub single : AreSingle ws
  pub here : slice_get ws i ≡ Some w
  pub is : now ≡ set ws i (after_message assets screen ws message argument w)

pub has_reacted : (assets : Assets) (screen : Rect) (message : ℕ) (argument z : ℤ) (ws : List Win) (i : ℕ) (w : Win) (now : List Win) → AreSingle ws → slice_get ws i ≡ Some w → z ≡ argument
    → now ≡ set ws i (after_message assets screen ws message z w) → HasReacted assets screen message argument ws i w now
has_reacted assets screen message argument z ws i w now single here same is = record {
  single = single;
  here = here;
  is = is ∙ ap (λ a. set ws i (after_message assets screen ws message a w)) same;
}

reacted_is : (assets : Assets) (screen : Rect) (message : ℕ) (argument : ℤ) (ws : List Win) (i : ℕ) (w : Win) (now : List Win) → HasReacted assets screen message argument ws i w now
    → now ≡ window_changed w.handle (after_message assets screen ws message argument) ws
reacted_is assets screen message argument ws i w now r =
    r.is ∙ set_is_changed ws i w (after_message assets screen ws message argument) r.single r.here

places-reacted : (assets : Assets) (screen : Rect) (message : ℕ) (argument : ℤ) (ws : List Win) (i : ℕ) (w : Win) (now : List Win) → HasReacted assets screen message argument ws i w now
    → map place_of now ≡ map place_of ws
places-reacted assets screen message argument ws i w now r =
    ap (map place_of) r.is
    ∙ places-set ws i w (after_message assets screen ws message argument w) r.here (place-with_new_values screen ws (values_after argument (reactions_of assets message w) w.values) w)

pub still_single : (assets : Assets) (screen : Rect) (message : ℕ) (argument : ℤ) (ws : List Win) (i : ℕ) (w : Win) (now : List Win) → HasReacted assets screen message argument ws i w now → AreSingle now
still_single assets screen message argument ws i w now r =
    AreSingle-same now ws (places-reacted assets screen message argument ws i w now r) r.single

-- the window hands on nothing
pub ends_here : (assets : Assets) (screen : Rect) (message : ℕ) (argument : ℤ) (ws : List Win) (i : ℕ) (w : Win) (now : List Win) (levels n : ℕ) → HasReacted assets screen message argument ws i w now → levels ≡ suc n
    → None ≡ handed_on assets message w → now ≡ delivered_along assets screen message argument (lineage levels ws w) ws
ends_here assets screen message argument ws i w now levels n r level none =
    let f = after_message assets screen ws message argument in
    let above = unwrap_or (option_map (lineage n ws) (window_of ws w.parent)) [] in
    let there = window_changed w.handle f ws in
    reacted_is assets screen message argument ws i w now r
    ∙ ap (λ o. unwrap_or (option_map (λ up. delivered_along assets screen up argument above there) o) there) none
    ∙ ap (λ k. delivered_along assets screen message argument (lineage k ws w) ws) (sym level)

-- the window hands on a message, which its parent gets
pub goes_up : (assets : Assets) (screen : Rect) (message : ℕ) (argument : ℤ) (ws : List Win) (i : ℕ) (w : Win) (now : List Win) (levels n up : ℕ) → HasReacted assets screen message argument ws i w now → levels ≡ suc n
    → Some up ≡ handed_on assets message w
    → delivered_along assets screen up argument (unwrap_or (option_map (lineage n ws) (window_of ws w.parent)) []) now ≡ delivered_along assets screen message argument (lineage levels ws w) ws
goes_up assets screen message argument ws i w now levels n up r level some =
    let f = after_message assets screen ws message argument in
    let above = unwrap_or (option_map (lineage n ws) (window_of ws w.parent)) [] in
    let there = window_changed w.handle f ws in
    ap (delivered_along assets screen up argument above) (reacted_is assets screen message argument ws i w now r)
    ∙ ap (λ o. unwrap_or (option_map (λ m. delivered_along assets screen m argument above there) o) there) some
    ∙ ap (λ k. delivered_along assets screen message argument (lineage k ws w) ws) (sym level)

-- what a handle finds once the window has reacted
window_of-reacted : (assets : Assets) (screen : Rect) (message : ℕ) (argument : ℤ) (ws : List Win) (i : ℕ) (w : Win) (now : List Win) (h : ℕ) → HasReacted assets screen message argument ws i w now
    → window_of now h ≡ option_map (at_handle w.handle (after_message assets screen ws message argument)) (window_of ws h)
window_of-reacted assets screen message argument ws i w now h r =
    let f = after_message assets screen ws message argument in
    ap (λ us. window_of us h) (reacted_is assets screen message argument ws i w now r ∙ changed_is w.handle f ws)
    ∙ window_of-map (at_handle w.handle f) (Keeps-at_handle w.handle f (Keeps-after_message assets screen ws message argument)) ws h

pub parent-reacted : (assets : Assets) (screen : Rect) (message : ℕ) (argument : ℤ) (ws : List Win) (i : ℕ) (w d : Win) (now : List Win) → HasReacted assets screen message argument ws i w now → (get_or now i d).parent ≡ w.parent
parent-reacted assets screen message argument ws i w d now r =
    ap (λ us. (get_or us i d).parent) r.is
    ∙ ap (λ (v : Win). v.parent) (get_or_from_slice_get (set ws i (after_message assets screen ws message argument w)) i (after_message assets screen ws message argument w) d (get-set ws i w (after_message assets screen ws message argument w) r.here))
    ∙ (Keeps-after_message assets screen ws message argument).parent w

-- no window has the handle of the parent
pub no_parent : (assets : Assets) (screen : Rect) (message : ℕ) (argument : ℤ) (ws : List Win) (i : ℕ) (w d : Win) (now : List Win) (levels n up : ℕ) → HasReacted assets screen message argument ws i w now → levels ≡ suc n
    → Some up ≡ handed_on assets message w → position (λ v. eqb v.handle (get_or now i d).parent) now ≡ None
    → now ≡ delivered_along assets screen message argument (lineage levels ws w) ws
no_parent assets screen message argument ws i w d now levels n up r level some none =
    let lost : window_of now w.parent ≡ None = ap (window_of now) (sym (parent-reacted assets screen message argument ws i w d now r)) ∙ missed now (get_or now i d).parent none in
    let gone : window_of ws w.parent ≡ None = unmapped (window_of ws w.parent) (sym (window_of-reacted assets screen message argument ws i w now w.parent r) ∙ lost) in
    ap (λ (o : Option Win). delivered_along assets screen up argument (unwrap_or (option_map (lineage n ws) o) []) now) (sym gone)
    ∙ goes_up assets screen message argument ws i w now levels n up r level some
  where
    unmapped : (o : Option Win) → option_map (at_handle w.handle (after_message assets screen ws message argument)) o ≡ None → o ≡ None
    unmapped None e = refl
    unmapped (Some v) e = absurd cc

by_parent : (assets : Assets) (screen : Rect) (message : ℕ) (argument : ℤ) (ws : List Win) (i : ℕ) (w : Win) (now : List Win) (n up j : ℕ) (new : List Win) → HasReacted assets screen message argument ws i w now → j < length now
    → ((u : Win) → slice_get now j ≡ Some u → new ≡ delivered_along assets screen up argument (lineage n now u) now)
    → (o : Option Win) → window_of ws w.parent ≡ o → slice_get now j ≡ option_map (at_handle w.handle (after_message assets screen ws message argument)) o
    → new ≡ delivered_along assets screen up argument (unwrap_or (option_map (lineage n ws) (window_of ws w.parent)) []) now
by_parent assets screen message argument ws i w now n up j new r inside rest None e at =
    absurd (let bad : Some (get_or now j w) ≡ None = sym (slice_get-get_or now j w inside) ∙ at in cc)
by_parent assets screen message argument ws i w now n up j new r inside rest (Some p) e at =
    let f = after_message assets screen ws message argument in
    let g = at_handle w.handle f in
    let keeps = Keeps-at_handle w.handle f (Keeps-after_message assets screen ws message argument) in
    rest (g p) at
    ∙ ap (λ us. delivered_along assets screen up argument (lineage n us (g p)) now) (reacted_is assets screen message argument ws i w now r ∙ changed_is w.handle f ws)
    ∙ ap (λ us. delivered_along assets screen up argument us now) (lineage-map n g keeps ws p)
    ∙ delivered_along-map assets screen up argument g keeps (lineage n ws p) now
    ∙ ap (λ (o : Option Win). delivered_along assets screen up argument (unwrap_or (option_map (lineage n ws) o) []) now) (sym e)

-- the parent stands at a place, and the message is delivered from there on
pub parent_found : (assets : Assets) (screen : Rect) (message : ℕ) (argument : ℤ) (ws : List Win) (i : ℕ) (w d : Win) (now : List Win) (levels n up j : ℕ) (new : List Win)
    → HasReacted assets screen message argument ws i w now → levels ≡ suc n
    → Some up ≡ handed_on assets message w → position (λ v. eqb v.handle (get_or now i d).parent) now ≡ Some j
    → ((u : Win) → slice_get now j ≡ Some u → new ≡ delivered_along assets screen up argument (lineage n now u) now)
    → new ≡ delivered_along assets screen message argument (lineage levels ws w) ws
parent_found assets screen message argument ws i w d now levels n up j new r level some place rest =
    let at : slice_get now j ≡ window_of now w.parent = (found now (get_or now i d).parent j place).1 ∙ ap (window_of now) (parent-reacted assets screen message argument ws i w d now r) in
    let same = window_of-reacted assets screen message argument ws i w now w.parent r in
    by_parent assets screen message argument ws i w now n up j new r (found now (get_or now i d).parent j place).0 rest (window_of ws w.parent) refl (at ∙ same)
    ∙ goes_up assets screen message argument ws i w now levels n up r level some
