-- The live devices by their slots.
use Rattle.std.proofs.Common.{◌≡◌, ◌≢◌, ℕ, zero, suc, ◌+◌, ◌<◌, Bool, true, false, cond, List, [], ◌∷◌, ◌++◌, length, get_or, set, Option, Some, None, refl, sym, ap, subst, ◌∙◌, length-append, arith}
use Rattle.std.specs.Prelude.{◌==◌, slice_get, remove, IfSome, IfNone}
use Rattle.std.specs.List.{position, position_from}
use Rattle.std.proofs.lemmas.Iterator.Adapters.{position_from-zero}
use Rattle.std.proofs.lemmas.List.Quantifiers.{position-Some}
use Rattle.std.proofs.lemmas.Option.{none-some, same_Some, slice_get-get_or, get_or_from_slice_get, slice_get_within}
use Rattle.std.proofs.lemmas.List.{length-set}
use Rattle.std.proofs.lemmas.List.Edits.{length-remove}
use Rattle.frame.specs.Canvases.{Canvas}
use Rattle.memdev.specs.declared.device.Device.{Device}
use Rattle.memdev.specs.Devices.{frame_of, without, with_frame, Rise}
use Rattle.memdev.specs.Slots.{is_slot_of, frame_in, drawn_in, live_in, IsPlaceOf, AreKept}
use Rattle.memdev.proofs.TableLemmas.{is_same, is_other, same_of, without-below, with_frame-below, length-with_frame, Rise-without, Rise-with_frame, Rise-append}

-- ---- finding a place

absent_step : (b : Bool) (i : ℕ) (rest : Option ℕ) (here there : Option Canvas) → (rest ≡ None → there ≡ None) → cond b (Some i) rest ≡ None → cond b here there ≡ None
absent_step true i rest here there later none = absurd (none-some i (sym none))
absent_step false i rest here there later none = later none

absent_from : (handle i : ℕ) (slots : List (Option Device)) → position_from (is_slot_of handle) i slots ≡ None → frame_of (live_in slots) handle ≡ None
absent_from handle i [] none = refl
absent_from handle i (None ∷ slots) none = absent_from handle (i + 1) slots none
absent_from handle i (Some x ∷ slots) none =
    absent_step (x.handle == handle) i _ _ _ (absent_from handle (i + 1) slots) none

pub absent-position : (handle : ℕ) (slots : List (Option Device)) → position (is_slot_of handle) slots ≡ None → frame_of (live_in slots) handle ≡ None
absent-position handle slots none =
    absent_from handle 0 slots (sym (position_from-zero (is_slot_of handle) slots) ∙ none)

passes : (handle at : ℕ) (slots : List (Option Device)) (slot : Option Device) → slice_get slots at ≡ Some slot → is_slot_of handle slot ≡ true → IsPlaceOf slots handle at
passes handle at slots None here pass = absurd (let bad : false ≡ true = pass in cc)
passes handle at slots (Some x) here pass = (x, here, same_of x.handle handle pass)

pub found-position : (handle at : ℕ) (slots : List (Option Device)) → position (is_slot_of handle) slots ≡ Some at → IsPlaceOf slots handle at
found-position handle at slots found =
    let first = position-Some (is_slot_of handle) slots at None found in
    passes handle at slots (get_or slots at None) (slice_get-get_or slots at None first.0) first.1

-- ---- the device at a place

module _ (handle : ℕ) where
  above : (low high at : ℕ) (slots : List (Option Device)) (x : Device) → Rise low high (live_in slots) → slice_get slots at ≡ Some (Some x) → low < x.handle
  above low high at [] x rise here = absurd (none-some (Some x) here)
  above low high zero (None ∷ slots) x rise here = absurd (none-some x (same_Some _ _ here))
  above low high zero (Some y ∷ slots) x rise here =
      let same : y ≡ x = same_Some _ _ (same_Some _ _ here) in rw (← same) rise.0
  above low high (suc at) (None ∷ slots) x rise here = above low high at slots x rise here
  above low high (suc at) (Some y ∷ slots) x rise here =
      omega (arith, rise.0, above y.handle high at slots x rise.2 here)

  frame_of-live : (low high at : ℕ) (slots : List (Option Device)) (x : Device) → Rise low high (live_in slots) → slice_get slots at ≡ Some (Some x) → x.handle ≡ handle → frame_of (live_in slots) handle ≡ Some x.frame
  frame_of-live low high at [] x rise here own = absurd (none-some (Some x) here)
  frame_of-live low high zero (None ∷ slots) x rise here own = absurd (none-some x (same_Some _ _ here))
  frame_of-live low high zero (Some y ∷ slots) x rise here own =
      let same : y ≡ x = same_Some _ _ (same_Some _ _ here) in
      rw (same, is_same x.handle handle own) refl
  frame_of-live low high (suc at) (None ∷ slots) x rise here own =
      frame_of-live low high at slots x rise here own
  frame_of-live low high (suc at) (Some y ∷ slots) x rise here own =
      let before = above y.handle high at slots x rise.2 here in
      rw (is_other y.handle handle (λ same. omega (arith, same, own, before))) (frame_of-live y.handle high at slots x rise.2 here own)

  live_in-set : (low high at : ℕ) (slots : List (Option Device)) (x : Device) (frame : Canvas) → Rise low high (live_in slots) → slice_get slots at ≡ Some (Some x) → x.handle ≡ handle
      → live_in (set slots at (Some (record x { frame = frame }))) ≡ with_frame handle frame (live_in slots)
  live_in-set low high at [] x frame rise here own = absurd (none-some (Some x) here)
  live_in-set low high zero (None ∷ slots) x frame rise here own = absurd (none-some x (same_Some _ _ here))
  live_in-set low high zero (Some y ∷ slots) x frame rise here own =
      let same : x ≡ y = sym (same_Some _ _ (same_Some _ _ here)) in
      let own_y : y.handle ≡ handle = ap (λ (d : Device). d.handle) (sym same) ∙ own in
      rw (same, is_same y.handle handle own_y, with_frame-below y.handle high handle frame (live_in slots) rise.2 (omega (arith, own_y))) refl
  live_in-set low high (suc at) (None ∷ slots) x frame rise here own =
      live_in-set low high at slots x frame rise here own
  live_in-set low high (suc at) (Some y ∷ slots) x frame rise here own =
      let before = above y.handle high at slots x rise.2 here in
      rw (is_other y.handle handle (λ same. omega (arith, same, own, before))) (ap (λ rest. y ∷ rest) (live_in-set y.handle high at slots x frame rise.2 here own))

  live_in-remove : (low high at : ℕ) (slots : List (Option Device)) (x : Device) → Rise low high (live_in slots) → slice_get slots at ≡ Some (Some x) → x.handle ≡ handle → live_in (remove slots at) ≡ without handle (live_in slots)
  live_in-remove low high at [] x rise here own = absurd (none-some (Some x) here)
  live_in-remove low high zero (None ∷ slots) x rise here own = absurd (none-some x (same_Some _ _ here))
  live_in-remove low high zero (Some y ∷ slots) x rise here own =
      let same : x ≡ y = sym (same_Some _ _ (same_Some _ _ here)) in
      let own_y : y.handle ≡ handle = ap (λ (d : Device). d.handle) (sym same) ∙ own in
      rw (is_same y.handle handle own_y) (sym (without-below y.handle high handle (live_in slots) rise.2 (omega (arith, own_y))))
  live_in-remove low high (suc at) (None ∷ slots) x rise here own =
      live_in-remove low high at slots x rise here own
  live_in-remove low high (suc at) (Some y ∷ slots) x rise here own =
      let before = above y.handle high at slots x rise.2 here in
      rw (is_other y.handle handle (λ same. omega (arith, same, own, before))) (ap (λ rest. y ∷ rest) (live_in-remove y.handle high at slots x rise.2 here own))

  length-without : (low high at : ℕ) (slots : List (Option Device)) (x : Device) → Rise low high (live_in slots) → slice_get slots at ≡ Some (Some x) → x.handle ≡ handle → length (without handle (live_in slots)) + 1 ≡ length (live_in slots)
  length-without low high at [] x rise here own = absurd (none-some (Some x) here)
  length-without low high zero (None ∷ slots) x rise here own = absurd (none-some x (same_Some _ _ here))
  length-without low high zero (Some y ∷ slots) x rise here own =
      let same : x ≡ y = sym (same_Some _ _ (same_Some _ _ here)) in
      let own_y : y.handle ≡ handle = ap (λ (d : Device). d.handle) (sym same) ∙ own in
      rw (is_same y.handle handle own_y, without-below y.handle high handle (live_in slots) rise.2 (omega (arith, own_y))) (omega arith)
  length-without low high (suc at) (None ∷ slots) x rise here own =
      length-without low high at slots x rise here own
  length-without low high (suc at) (Some y ∷ slots) x rise here own =
      let before = above y.handle high at slots x rise.2 here in
      rw (is_other y.handle handle (λ same. omega (arith, same, own, before))) (omega (arith, length-without y.handle high at slots x rise.2 here own))

pub live_in-append : (slots : List (Option Device)) (x : Device) → live_in (slots ++ Some x ∷ []) ≡ live_in slots ++ x ∷ []
live_in-append [] x = refl
live_in-append (None ∷ slots) x = live_in-append slots x
live_in-append (Some y ∷ slots) x = ap (λ rest. y ∷ rest) (live_in-append slots x)

-- ---- what the search for a place answers

pub absent_of : (handle : ℕ) (slots : List (Option Device)) (found : Option ℕ) → found ≡ position (is_slot_of handle) slots → IfNone found (frame_of (live_in slots) handle ≡ None)
absent_of handle slots None is = absent-position handle slots (sym is)
absent_of handle slots (Some at) is = tt

pub found_of : (handle : ℕ) (slots : List (Option Device)) (found : Option ℕ) → found ≡ position (is_slot_of handle) slots → IfSome found (IsPlaceOf slots handle)
found_of handle slots None is = tt
found_of handle slots (Some at) is = found-position handle at slots (sym is)

-- ---- changes at a place

pub frame_of-place : (slots : List (Option Device)) (handles handle at : ℕ) (slot : Option Device) → AreKept slots handles → IsPlaceOf slots handle at → slot ≡ get_or slots at slot → frame_in slot ≡ frame_of (live_in slots) handle
frame_of-place slots handles handle at slot kept place read =
    ap frame_in (read ∙ get_or_from_slice_get slots at (Some place.0) slot place.1)
    ∙ sym (frame_of-live handle 0 handles at slots place.0 kept.rise place.1 place.2)

-- a device that was found is live
pub is_live : (slots : List (Option Device)) (handles handle at : ℕ) → AreKept slots handles → IsPlaceOf slots handle at → frame_of (live_in slots) handle ≢ None
is_live slots handles handle at kept place none =
    none-some place.0.frame (sym none ∙ frame_of-live handle 0 handles at slots place.0 kept.rise place.1 place.2)

pub AreKept-remove : (slots : List (Option Device)) (handles handle at : ℕ) → AreKept slots handles → IsPlaceOf slots handle at → AreKept (remove slots at) handles
AreKept-remove slots handles handle at kept place =
    let live : live_in (remove slots at) ≡ without handle (live_in slots) = live_in-remove handle 0 handles at slots place.0 kept.rise place.1 place.2 in
    let within : at < length slots = slice_get_within slots at (Some place.0) place.1 in
    record {
      each = omega (arith, ap length live, length-without handle 0 handles at slots place.0 kept.rise place.1 place.2, length-remove slots at within, kept.each);
      rise = subst (Rise 0 handles) (sym live) (Rise-without 0 handles handle (live_in slots) kept.rise);
    }

pub live_in-without : (slots : List (Option Device)) (handles handle at : ℕ) → AreKept slots handles → IsPlaceOf slots handle at → live_in (remove slots at) ≡ without handle (live_in slots)
live_in-without slots handles handle at kept place =
    live_in-remove handle 0 handles at slots place.0 kept.rise place.1 place.2

drawn_place : (slots : List (Option Device)) (at : ℕ) (x : Device) (slot : Option Device) (frame : Canvas) → slice_get slots at ≡ Some (Some x) → slot ≡ get_or slots at slot → set slots at (drawn_in slot frame) ≡ set slots at (Some (record x { frame = frame }))
drawn_place slots at x slot frame here read =
    ap (λ (s : Option Device). set slots at (drawn_in s frame)) (read ∙ get_or_from_slice_get slots at (Some x) slot here)

pub live_in-drawn : (slots : List (Option Device)) (handles handle at : ℕ) (slot : Option Device) (frame : Canvas) → AreKept slots handles → IsPlaceOf slots handle at → slot ≡ get_or slots at slot → live_in (set slots at (drawn_in slot frame)) ≡ with_frame handle frame (live_in slots)
live_in-drawn slots handles handle at slot frame kept place read =
    ap live_in (drawn_place slots at place.0 slot frame place.1 read)
    ∙ live_in-set handle 0 handles at slots place.0 frame kept.rise place.1 place.2

pub AreKept-drawn : (slots : List (Option Device)) (handles handle at : ℕ) (slot : Option Device) (frame : Canvas) → AreKept slots handles → IsPlaceOf slots handle at → slot ≡ get_or slots at slot → AreKept (set slots at (drawn_in slot frame)) handles
AreKept-drawn slots handles handle at slot frame kept place read =
    let live = live_in-drawn slots handles handle at slot frame kept place read in
    record {
      each = ap length live ∙ length-with_frame handle frame (live_in slots) ∙ kept.each ∙ sym (length-set slots at (drawn_in slot frame));
      rise = subst (Rise 0 handles) (sym live) (Rise-with_frame 0 handles handle frame (live_in slots) kept.rise);
    }

pub AreKept-push : (slots : List (Option Device)) (handles : ℕ) (x : Device) → AreKept slots handles → x.handle ≡ handles + 1 → AreKept (slots ++ Some x ∷ []) (handles + 1)
AreKept-push slots handles x kept next = record {
  each = ap length (live_in-append slots x) ∙ length-append (live_in slots) (x ∷ []) ∙ ap (λ n. n + 1) kept.each ∙ sym (length-append slots (Some x ∷ []));
  rise = subst (Rise 0 (handles + 1)) (sym (live_in-append slots x)) (Rise-append 0 handles (live_in slots) x (omega arith) next kept.rise);
}
