-- Rows of bits within 64.
use Rattle.std.proofs.Common.{◌≡◌, ℕ, ◌+◌, ◌*◌, ◌/◌, ◌%◌, ◌^◌, ◌<◌, ◌≤◌, bit_and, bit_or, arith, ◌∙◌}
use Rattle.std.proofs.Math.Nat.{mod-eq_of_lt, mul-le-mul, mul-le-mul_right}
use Rattle.std.proofs.lemmas.Nat.{or_disjoint, and_or_apart, or_lt}
use Rattle.std.proofs.Math.Pow.{pow_mono}

pub shifted_below : (m s : ℕ) → m < 2 ^ 16 → s ≤ 31 → m * 2 ^ s < 2 ^ 47
shifted_below m s h k =
    let e : 2 ^ s ≤ 2 ^ 31 = pow_mono k in
    let f : m ≤ 65535 = omega arith in
    let g : m * 2 ^ s ≤ 65535 * 2 ^ 31 = mul-le-mul f e in
    omega arith

pub shifted_fits : (m s : ℕ) → m < 2 ^ 16 → s ≤ 31 → (m * 2 ^ s) % 18446744073709551616 ≡ m * 2 ^ s
shifted_fits m s h k = mod-eq_of_lt (omega (arith, shifted_below m s h k))

pub bit_fits : (bits : ℕ) → bits ≤ 32 → (1 * 2 ^ bits) % 18446744073709551616 ≡ 2 ^ bits
bit_fits bits h =
    let e : 2 ^ bits ≤ 2 ^ 32 = pow_mono h in
    let f : 1 * 2 ^ bits ≡ 2 ^ bits = omega arith in
    rw f (mod-eq_of_lt (omega arith))

-- a rounded number isn't above the most
pub rounded_most : (level max : ℕ) → level ≤ 255 → (level * max + 127) / 255 ≤ max
rounded_most level max h =
    let m : level * max ≤ 255 * max = mul-le-mul_right max h in
    omega arith

pub product_fits : (level max : ℕ) → level ≤ 255 → max < 2 ^ 16 → level * max ≤ 16711425
product_fits level max h k =
    let m : max ≤ 65535 = omega arith in
    let p : level * max ≤ 255 * 65535 = mul-le-mul h m in
    omega arith

pub part_most : (level max s : ℕ) → level ≤ 255 → (level * max + 127) / 255 * 2 ^ s ≤ max * 2 ^ s
part_most level max s h = mul-le-mul_right (2 ^ s) (rounded_most level max h)

pub part_fits : (level max s : ℕ) → level ≤ 255 → max * 2 ^ s < 2 ^ 32 → ((level * max + 127) / 255 * 2 ^ s) % 4294967296 ≡ (level * max + 127) / 255 * 2 ^ s
part_fits level max s h k = let p : (level * max + 127) / 255 * 2 ^ s ≤ max * 2 ^ s = part_most level max s h in mod-eq_of_lt (omega arith)

-- numbers of so many bits that share none have a sum of so many bits
pub apart_below : (n r g b : ℕ) → r < 2 ^ n → g < 2 ^ n → b < 2 ^ n → bit_and r g ≡ 0 → bit_and r b ≡ 0 → bit_and g b ≡ 0 → r + g + b < 2 ^ n
apart_below n r g b hr hg hb rg rb gb =
    let two : bit_or r g ≡ r + g = or_disjoint r g rg in
    let none : bit_and (bit_or r g) b ≡ 0 = and_or_apart b r g gb ∙ rb in
    let all : bit_or (bit_or r g) b ≡ bit_or r g + b = or_disjoint (bit_or r g) b none in
    let few : bit_or r g < 2 ^ n = or_lt n r g hr hg in
    let below : bit_or (bit_or r g) b < 2 ^ n = or_lt n (bit_or r g) b few hb in
    omega arith
