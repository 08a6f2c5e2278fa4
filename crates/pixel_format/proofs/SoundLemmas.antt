-- What a served format's channels keep to.
use Rattle.std.proofs.Common.{◌≡◌, ℕ, ◌+◌, ◌/◌, ◌^◌, ◌<◌, ◌≤◌, ◌⊎◌, ◌==◌, ◌∙◌, Bool, true, false, not, ◌&&◌, ◌||◌, bit_and, arith, refl, inl, inr}
use Rattle.std.proofs.lemmas.Bool.{and_parts, leb-true, ltb-true, eqb-true}
use Rattle.std.proofs.Math.Pow.{pow_mono}
use Rattle.pixel_format.specs.declared.channel.Channel.{Channel}
use Rattle.pixel_format.specs.Formats.{Layout, IsFormat, is_size, is_max, bits_of, fits, shares_a_bit, each, has_overlap, is_sound}
use Rattle.pixel_format.proofs.BitLemmas.{apart_below}

by_size : (bits : ℕ) (a b c : Bool) → (bits == 8) ≡ a → (bits == 16) ≡ b → (bits == 32) ≡ c → a || b || c ≡ true → (bits ≡ 8) ⊎ ((bits ≡ 16) ⊎ (bits ≡ 32))
by_size bits true b c ea eb ec h = inl (eqb-true _ _ ea)
by_size bits false true c ea eb ec h = inr (inl (eqb-true _ _ eb))
by_size bits false false c ea eb ec h = inr (inr (eqb-true _ _ (ec ∙ h)))

size_from_test : (bits : ℕ) → is_size bits ≡ true → (bits ≡ 8) ⊎ ((bits ≡ 16) ⊎ (bits ≡ 32))
size_from_test bits h = by_size bits _ _ _ refl refl refl h

fits_parts : (bits : ℕ) (c : Channel) → fits bits c ≡ true → (c.shift ≤ 31) × (bits_of c < 2 ^ bits)
unfolding fits
fits_parts bits c h = let p = and_parts _ _ h in (leb-true _ _ p.0, ltb-true _ _ p.1)

neither : (a b : Bool) → not (a || b) ≡ true → (a ≡ false) × (b ≡ false)
neither true b h = cc
neither false true h = cc
neither false false h = (refl, refl)

not_false : (b : Bool) → not b ≡ false → b ≡ true
not_false true e = refl
not_false false e = cc

not_true : (b : Bool) → b ≡ false → not b ≡ true
not_true true e = cc
not_true false e = refl

apart : (a b : Channel) → shares_a_bit a b ≡ false → bit_and (bits_of a) (bits_of b) ≡ 0
unfolding shares_a_bit
apart a b h = eqb-true _ _ (not_false _ h)

pub is_format : (f : Layout) → is_sound f ≡ true → IsFormat f
unfolding is_sound
is_format f h =
    let a = and_parts (is_size f.bits && each (λ c. is_max c.max) f && each (fits f.bits) f) (not (has_overlap f)) h in
    let b = and_parts (is_size f.bits && each (λ c. is_max c.max) f) (each (fits f.bits) f) a.0 in
    let c = and_parts (is_size f.bits) (each (λ c. is_max c.max) f) b.0 in
    let d = and_parts (fits f.bits f.red && fits f.bits f.green) (fits f.bits f.blue) b.1 in
    let e = and_parts (fits f.bits f.red) (fits f.bits f.green) d.0 in
    let red = fits_parts f.bits f.red e.0 in
    let green = fits_parts f.bits f.green e.1 in
    let blue = fits_parts f.bits f.blue d.1 in
    let n = neither (shares_a_bit f.red f.green || shares_a_bit f.red f.blue) (shares_a_bit f.green f.blue) a.1 in
    let m = neither (shares_a_bit f.red f.green) (shares_a_bit f.red f.blue) (not_true _ n.0) in
    record {
      sizes = size_from_test f.bits c.0;
      shifts = (red.0, green.0, blue.0);
      within = apart_below f.bits (bits_of f.red) (bits_of f.green) (bits_of f.blue) red.1 green.1 blue.1 (apart f.red f.green m.0) (apart f.red f.blue m.1) (apart f.green f.blue n.1);
    }

-- the channels' bits add up to a number of 32 bits
pub below_all : (f : Layout) → IsFormat f → bits_of f.red + bits_of f.green + bits_of f.blue < 2 ^ 32
below_all f format =
    let small : f.bits ≤ 32 = elim format.sizes [ inl e ↦ omega arith | inr more ↦ elim more [ inl e ↦ omega arith | inr e ↦ omega arith ] ] in
    let most : 2 ^ f.bits ≤ 2 ^ 32 = pow_mono small in
    let within = format.within in
    omega (arith, within)

pub some_bytes : (f : Layout) → IsFormat f → (1 ≤ f.bits / 8) × (f.bits / 8 ≤ 4)
some_bytes f format =
    elim format.sizes [
      | inl e ↦ (omega arith, omega arith)
      | inr more ↦ elim more [ inl e ↦ (omega arith, omega arith) | inr e ↦ (omega arith, omega arith) ]
    ]
