-- The live devices by their handles.
use Rattle.std.proofs.Common.{◌≡◌, ◌≢◌, ℕ, zero, suc, ◌+◌, ◌<◌, ◌≤◌, Bool, true, false, List, [], ◌∷◌, ◌++◌, length, Option, Some, None, refl, sym, ap, ◌∙◌, inl, inr, arith, length-append}
use Rattle.std.specs.Prelude.{◌==◌, nat_le, if◌then◌else◌}
use Rattle.std.specs.Option.{option_map}
use Rattle.std.proofs.lemmas.Bool.{cases_Bool, cases_lt}
use Rattle.std.proofs.lemmas.Bool.Decides.{nat_tests}
use Rattle.std.proofs.lemmas.Option.{none-some}
use Rattle.frame.specs.Canvases.{Canvas}
use Rattle.memdev.specs.declared.device.Device.{Device}
use Rattle.memdev.specs.Devices.{Table, frame_of, with_device, without, without_device, redrawn, with_frame, with_drawn, Rise, AreGiven, IsGone}
use Rattle.memdev.specs.declared.refused.DevRefused.TheVariants.{TooMany}
use Rattle.memdev.specs.Frames.{filled}
use Rattle.memdev.specs.Examples.{with_dots}

pub is_same : (a b : ℕ) → a ≡ b → (a == b) ≡ true
is_same a b same = grind (arith, nat_tests)

pub is_other : (a b : ℕ) → a ≢ b → (a == b) ≡ false
is_other a b other = grind (arith, nat_tests)

pub same_of : (a b : ℕ) → (a == b) ≡ true → a ≡ b
same_of a b same = grind (arith, nat_tests)

other_of : (a b : ℕ) → (a == b) ≡ false → a ≢ b
other_of a b other = grind (arith, nat_tests)

-- ---- handles that rise

pub Rise-within : (low least high most : ℕ) (xs : List Device) → least ≤ low → high ≤ most → Rise low high xs → Rise least most xs
Rise-within low least high most [] below above rise = tt
Rise-within low least high most (x ∷ xs) below above rise = (
  omega (arith, rise.0),
  omega (arith, rise.1),
  Rise-within x.handle x.handle high most xs (omega arith) above rise.2,
)

pub Rise-without : (low high handle : ℕ) (xs : List Device) → Rise low high xs → Rise low high (without handle xs)
Rise-without low high handle [] rise = tt
Rise-without low high handle (x ∷ xs) rise =
    elim (cases_Bool (x.handle == handle)) [
      | inl same ↦ rw same (Rise-within x.handle low high high (without handle xs) (omega (arith, rise.0)) (omega arith) (Rise-without x.handle high handle xs rise.2))
      | inr other ↦ rw other (rise.0, rise.1, Rise-without x.handle high handle xs rise.2)
    ]

handle-redrawn : (handle : ℕ) (frame : Canvas) (x : Device) → (redrawn handle frame x).handle ≡ x.handle
handle-redrawn handle frame x =
    elim (cases_Bool (x.handle == handle)) [
      | inl same ↦ rw same refl
      | inr other ↦ rw other refl
    ]

pub Rise-with_frame : (low high handle : ℕ) (frame : Canvas) (xs : List Device) → Rise low high xs → Rise low high (with_frame handle frame xs)
Rise-with_frame low high handle frame [] rise = tt
Rise-with_frame low high handle frame (x ∷ xs) rise = rw (handle-redrawn handle frame x) (rise.0, rise.1, Rise-with_frame x.handle high handle frame xs rise.2)

pub Rise-append : (low high : ℕ) (xs : List Device) (y : Device) → low ≤ high → y.handle ≡ high + 1 → Rise low high xs → Rise low (high + 1) (xs ++ y ∷ [])
Rise-append low high [] y order next rise = (omega arith, omega arith, tt)
Rise-append low high (x ∷ xs) y order next rise =
    (rise.0, omega (arith, rise.1), Rise-append x.handle high xs y rise.1 next rise.2)

-- ---- frames by handles

-- no device has a handle outside the range
pub frame_of-below : (low high handle : ℕ) (xs : List Device) → Rise low high xs → handle ≤ low → frame_of xs handle ≡ None
frame_of-below low high handle [] rise below = refl
frame_of-below low high handle (x ∷ xs) rise below = rw (is_other x.handle handle (λ same. omega (arith, same, rise.0))) (frame_of-below x.handle high handle xs rise.2 (omega (arith, rise.0)))

pub frame_of-above : (low high handle : ℕ) (xs : List Device) → Rise low high xs → high < handle → frame_of xs handle ≡ None
frame_of-above low high handle [] rise above = refl
frame_of-above low high handle (x ∷ xs) rise above = rw (is_other x.handle handle (λ same. omega (arith, same, rise.1))) (frame_of-above x.handle high handle xs rise.2 above)

frame_of-append : (xs : List Device) (y : Device) (handle : ℕ) → frame_of xs y.handle ≡ None → frame_of (xs ++ y ∷ []) handle ≡ (if y.handle == handle then Some y.frame else frame_of xs handle)
frame_of-append [] y handle absent = refl
frame_of-append (x ∷ xs) y handle absent =
    elim (cases_Bool (x.handle == y.handle)) [
      | inl clash ↦ absurd (let bad : Some x.frame ≡ None = rw clash at absent in cc)
      | inr differ ↦
          let rest = frame_of-append xs y handle (rw differ at absent) in
          elim (cases_Bool (x.handle == handle)) [
            | inl here ↦
                let off : (y.handle == handle) ≡ false = is_other y.handle handle (λ same. other_of x.handle y.handle differ (same_of x.handle handle here ∙ sym same)) in
                rw (here, off) refl
            | inr off ↦ rw off rest
          ]
    ]

pub frame_of-without : (gone handle : ℕ) (xs : List Device) → frame_of (without gone xs) handle ≡ (if gone == handle then None else frame_of xs handle)
frame_of-without gone handle [] =
    elim (cases_Bool (gone == handle)) [ inl e ↦ rw e refl | inr e ↦ rw e refl ]
frame_of-without gone handle (x ∷ xs) =
    let rest = frame_of-without gone handle xs in
    elim (cases_Bool (x.handle == gone)) [
      | inl is_gone ↦
          elim (cases_Bool (gone == handle)) [
            | inl e ↦ rw (is_gone, e) (rw e at rest)
            | inr e ↦
                let off : (x.handle == handle) ≡ false = is_other x.handle handle (λ same. other_of gone handle e (sym (same_of x.handle gone is_gone) ∙ same)) in
                rw (is_gone, e, off) (rw e at rest)
          ]
      | inr stays ↦
          elim (cases_Bool (x.handle == handle)) [
            | inl here ↦
                let off : (gone == handle) ≡ false = is_other gone handle (λ same. other_of x.handle gone stays (same_of x.handle handle here ∙ sym same)) in
                rw (stays, here, off) refl
            | inr off ↦ rw (stays, off) rest
          ]
    ]

pub frame_of-with_frame : (drawn handle : ℕ) (frame : Canvas) (xs : List Device) → frame_of (with_frame drawn frame xs) handle ≡ (if drawn == handle then option_map (λ _. frame) (frame_of xs handle) else frame_of xs handle)
frame_of-with_frame drawn handle frame [] =
    elim (cases_Bool (drawn == handle)) [ inl e ↦ rw e refl | inr e ↦ rw e refl ]
frame_of-with_frame drawn handle frame (x ∷ xs) =
    let rest = frame_of-with_frame drawn handle frame xs in
    elim (cases_Bool (x.handle == drawn)) [
      | inl is_drawn ↦
          elim (cases_Bool (x.handle == handle)) [
            | inl here ↦
                let on : (drawn == handle) ≡ true = is_same drawn handle (sym (same_of x.handle drawn is_drawn) ∙ same_of x.handle handle here) in
                rw (is_drawn, here, on) refl
            | inr off ↦ rw (is_drawn, off) rest
          ]
      | inr other ↦
          elim (cases_Bool (x.handle == handle)) [
            | inl here ↦
                let off : (drawn == handle) ≡ false = is_other drawn handle (λ same. other_of x.handle drawn other (same_of x.handle handle here ∙ sym same)) in
                rw (other, here, off) refl
            | inr off ↦ rw (other, off) rest
          ]
    ]

-- ---- the table after a change

pub frame_of-with_device : (t : Table) (frame : Canvas) (handle : ℕ) → AreGiven t → frame_of (with_device t frame).live handle ≡ (if t.handles + 1 == handle then Some frame else frame_of t.live handle)
frame_of-with_device t frame handle given =
    frame_of-append t.live (record { handle = t.handles + 1; frame = frame }) handle (frame_of-above 0 t.handles (t.handles + 1) t.live given (omega arith))

pub AreGiven-with_device : (t : Table) (frame : Canvas) → AreGiven t → AreGiven (with_device t frame)
AreGiven-with_device t frame given =
    Rise-append 0 t.handles t.live (record { handle = t.handles + 1; frame = frame }) (omega arith) refl given

pub AreGiven-without_device : (t : Table) (handle : ℕ) → AreGiven t → AreGiven (without_device t handle)
AreGiven-without_device t handle given = Rise-without 0 t.handles handle t.live given

pub AreGiven-with_drawn : (t : Table) (handle : ℕ) (frame : Canvas) → AreGiven t → AreGiven (with_drawn t handle frame)
AreGiven-with_drawn t handle frame given =
    Rise-with_frame 0 t.handles handle frame t.live given

-- ---- what is above or below all handles

pub without-below : (low high handle : ℕ) (xs : List Device) → Rise low high xs → handle ≤ low → without handle xs ≡ xs
without-below low high handle [] rise below = refl
without-below low high handle (x ∷ xs) rise below = rw (is_other x.handle handle (λ same. omega (arith, same, rise.0))) (ap (λ rest. x ∷ rest) (without-below x.handle high handle xs rise.2 (omega (arith, rise.0))))

pub with_frame-below : (low high handle : ℕ) (frame : Canvas) (xs : List Device) → Rise low high xs → handle ≤ low → with_frame handle frame xs ≡ xs
with_frame-below low high handle frame [] rise below = refl
with_frame-below low high handle frame (x ∷ xs) rise below = rw (is_other x.handle handle (λ same. omega (arith, same, rise.0))) (ap (λ rest. x ∷ rest) (with_frame-below x.handle high handle frame xs rise.2 (omega (arith, rise.0))))

pub length-with_frame : (handle : ℕ) (frame : Canvas) (xs : List Device) → length (with_frame handle frame xs) ≡ length xs
length-with_frame handle frame [] = refl
length-with_frame handle frame (x ∷ xs) = ap suc (length-with_frame handle frame xs)

-- ---- handles whose device is gone

pub IsGone-deleted : (t : Table) (handle : ℕ) (frame : Canvas) → AreGiven t → frame_of t.live handle ≡ Some frame → IsGone (without_device t handle) handle
IsGone-deleted t handle frame given live =
    let own : (handle == handle) ≡ true = is_same handle handle refl in
    record {
      given = elim (cases_lt t.handles handle) [
        | inl above ↦ absurd (none-some frame (sym (frame_of-above 0 t.handles handle t.live given above) ∙ live))
        | inr within ↦ within
      ];
      gone = rw own at (frame_of-without handle handle t.live);
    }

pub IsGone-with_device : (t : Table) (frame : Canvas) (handle : ℕ) → AreGiven t → IsGone t handle → IsGone (with_device t frame) handle
IsGone-with_device t frame handle given gone =
    let other : (t.handles + 1 == handle) ≡ false = is_other (t.handles + 1) handle (λ same. omega (arith, same, gone.given)) in
    record {
      given = omega (arith, gone.given);
      gone = (rw other at (frame_of-with_device t frame handle given)) ∙ gone.gone;
    }

gone_without : (test : Bool) (o : Option Canvas) → o ≡ None → (if test then None else o) ≡ None
gone_without true o none = refl
gone_without false o none = none

pub IsGone-without_device : (t : Table) (gone handle : ℕ) → IsGone t handle → IsGone (without_device t gone) handle
IsGone-without_device t gone handle is_gone = record {
  given = is_gone.given;
  gone = frame_of-without gone handle t.live ∙ gone_without (gone == handle) (frame_of t.live handle) is_gone.gone;
}

gone_drawn : (test : Bool) (o : Option Canvas) (frame : Canvas) → o ≡ None → (if test then option_map (λ _. frame) o else o) ≡ None
gone_drawn true o frame none = ap (option_map (λ _. frame)) none
gone_drawn false o frame none = none

pub IsGone-with_drawn : (t : Table) (lent handle : ℕ) (frame : Canvas) → IsGone t handle → IsGone (with_drawn t lent frame) handle
IsGone-with_drawn t lent handle frame is_gone = record {
  given = is_gone.given;
  gone = frame_of-with_frame lent handle frame t.live ∙ gone_drawn (lent == handle) (frame_of t.live handle) frame is_gone.gone;
}

-- ---- small tables

pub length-with_dots : (n : ℕ) → length (with_dots n).live ≡ n
length-with_dots zero = refl
length-with_dots (suc n) =
    omega (arith, length-append (with_dots n).live (record { handle = (with_dots n).handles + 1; frame = filled 1 1 0 } ∷ []), length-with_dots n)

pub no_refusal : (n count : ℕ) → count ≡ n → n < 16 → (if nat_le 16 count then Some TooMany else None) ≡ None
no_refusal n count is few = let test : nat_le 16 count ≡ false = grind (arith, nat_tests) in rw test refl
