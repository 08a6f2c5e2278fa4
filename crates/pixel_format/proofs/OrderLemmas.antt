-- The value of a pixel by the number that its bytes make in the format's order.
use Rattle.std.proofs.Common.{◌≡◌, ℕ, Bool, true, false, cond, List, [], ◌∷◌, length, reverse, inl, inr, arith}
use Rattle.byteorder.specs.Endian.{big_number, little_number}
use Rattle.pixel_format.specs.Formats.{Layout, IsFormat, byte_count, pixel_value, number_from_bytes}

abbrev pub number_by : Bool → ℕ → List ℕ → ℕ
number_by big n bytes = cond big (big_number n bytes) (little_number n bytes)

one_byte : (big order : Bool) (bs : List ℕ) → length bs ≡ 1 → number_by big 1 bs ≡ number_from_bytes (cond order (reverse bs) bs)
one_byte big order [] long = absurd (omega arith)
one_byte true true (a ∷ []) long = omega arith
one_byte true false (a ∷ []) long = omega arith
one_byte false true (a ∷ []) long = omega arith
one_byte false false (a ∷ []) long = omega arith
one_byte big order (a ∷ b ∷ bs) long = absurd (omega arith)

two_bytes : (big : Bool) (bs : List ℕ) → length bs ≡ 2 → number_by big 2 bs ≡ number_from_bytes (cond big (reverse bs) bs)
two_bytes big [] long = absurd (omega arith)
two_bytes big (a ∷ []) long = absurd (omega arith)
two_bytes true (a ∷ b ∷ []) long = omega arith
two_bytes false (a ∷ b ∷ []) long = omega arith
two_bytes big (a ∷ b ∷ c ∷ bs) long = absurd (omega arith)

four_bytes : (big : Bool) (bs : List ℕ) → length bs ≡ 4 → number_by big 4 bs ≡ number_from_bytes (cond big (reverse bs) bs)
four_bytes big [] long = absurd (omega arith)
four_bytes big (a ∷ []) long = absurd (omega arith)
four_bytes big (a ∷ b ∷ []) long = absurd (omega arith)
four_bytes big (a ∷ b ∷ c ∷ []) long = absurd (omega arith)
four_bytes true (a ∷ b ∷ c ∷ d ∷ []) long = omega arith
four_bytes false (a ∷ b ∷ c ∷ d ∷ []) long = omega arith
four_bytes big (a ∷ b ∷ c ∷ d ∷ e ∷ bs) long = absurd (omega arith)

pub value_by_order : (f : Layout) (big : Bool) (n : ℕ) (bytes : List ℕ) → IsFormat f → big ≡ f.big_endian → n ≡ byte_count f → length bytes ≡ byte_count f → number_by big n bytes ≡ pixel_value f bytes
unfolding pixel_value
value_by_order f big n bytes format order count long =
    elim format.sizes [
      | inl e ↦ let one : n ≡ 1 = omega (arith, e, count) in rw one (one_byte big f.big_endian bytes (omega (arith, long, count, one)))
      | inr more ↦
          elim more [
            | inl e ↦ let two : n ≡ 2 = omega (arith, e, count) in rw (two, ← order) (two_bytes big bytes (omega (arith, long, count, two)))
            | inr e ↦ let four : n ≡ 4 = omega (arith, e, count) in rw (four, ← order) (four_bytes big bytes (omega (arith, long, count, four)))
          ]
    ]
