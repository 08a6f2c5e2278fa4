-- A pixel's bytes tell its value, and each bytes are those of a value.
use Rattle.std.proofs.Common.{◌≡◌, ℕ, ◌+◌, ◌-◌, ◌*◌, ◌/◌, ◌%◌, ◌^◌, ◌<◌, ◌⊎◌, Bool, true, false, cond, List, [], ◌∷◌, length, get_or, take, drop, reverse, refl, ap, inl, inr, arith}
use Rattle.std.specs.Int.{w32, to_be_bytes, to_le_bytes}
use Rattle.pixel_format.specs.Formats.{Layout, IsFormat, byte_count, pixel_bytes, pixel_value, number_from_bytes}

of_one : (big : Bool) (v : ℕ) → v < 2 ^ 8 → number_from_bytes (cond big (reverse (cond big (drop (4 - 1) (to_be_bytes w32 v)) (take 1 (to_le_bytes w32 v)))) (cond big (drop (4 - 1) (to_be_bytes w32 v)) (take 1 (to_le_bytes w32 v)))) ≡ v
of_one true v below = omega arith
of_one false v below = omega arith

of_two : (big : Bool) (v : ℕ) → v < 2 ^ 16 → number_from_bytes (cond big (reverse (cond big (drop (4 - 2) (to_be_bytes w32 v)) (take 2 (to_le_bytes w32 v)))) (cond big (drop (4 - 2) (to_be_bytes w32 v)) (take 2 (to_le_bytes w32 v)))) ≡ v
of_two true v below = omega arith
of_two false v below = omega arith

of_four : (big : Bool) (v : ℕ) → v < 2 ^ 32 → number_from_bytes (cond big (reverse (cond big (drop (4 - 4) (to_be_bytes w32 v)) (take 4 (to_le_bytes w32 v)))) (cond big (drop (4 - 4) (to_be_bytes w32 v)) (take 4 (to_le_bytes w32 v)))) ≡ v
of_four true v below = omega arith
of_four false v below = omega arith

pub pixel_value-pixel_bytes : (f : Layout) (v : ℕ) → IsFormat f → v < 2 ^ f.bits → pixel_value f (pixel_bytes f v) ≡ v
unfolding pixel_bytes pixel_value
pixel_value-pixel_bytes f v format below =
    elim format.sizes [
      | inl e ↦ let n : byte_count f ≡ 1 = omega (arith, e) in rw n (of_one f.big_endian v (rw e at below))
      | inr more ↦
          elim more [
            | inl e ↦ let n : byte_count f ≡ 2 = omega (arith, e) in rw n (of_two f.big_endian v (rw e at below))
            | inr e ↦ let n : byte_count f ≡ 4 = omega (arith, e) in rw n (of_four f.big_endian v (rw e at below))
          ]
    ]

same_four : (x y z u a b c d : ℕ) → x ≡ a → y ≡ b → z ≡ c → u ≡ d → x ∷ (y ∷ (z ∷ (u ∷ []))) ≡ a ∷ (b ∷ (c ∷ (d ∷ [])))
same_four x y z u a b c d e1 e2 e3 e4 = rw (e1, e2, e3, e4) refl

-- a byte of a number of four
pub low_bytes : (a b c d n : ℕ) → a < 256 → b < 256 → c < 256 → d < 256 → n ≡ a + 256 * (b + 256 * (c + 256 * d)) → (to_le_bytes w32 n ≡ a ∷ (b ∷ (c ∷ (d ∷ [])))) × (to_be_bytes w32 n ≡ d ∷ (c ∷ (b ∷ (a ∷ []))))
low_bytes a b c d n a_in b_in c_in d_in e =
    let n0 : n % 256 ≡ a = omega arith in
    let n1 : n / 256 % 256 ≡ b = omega arith in
    let n2 : n / 65536 % 256 ≡ c = omega arith in
    let n3 : n / 16777216 % 256 ≡ d = omega arith in
    (same_four _ _ _ _ a b c d n0 n1 n2 n3, same_four _ _ _ _ d c b a n3 n2 n1 n0)

back_one : (big : Bool) (a : ℕ) → a < 256 → cond big (drop (4 - 1) (to_be_bytes w32 (number_from_bytes (cond big (reverse (a ∷ [])) (a ∷ []))))) (take 1 (to_le_bytes w32 (number_from_bytes (cond big (reverse (a ∷ [])) (a ∷ []))))) ≡ a ∷ []
back_one true a a_in = ap (drop 3) (low_bytes a 0 0 0 (a + 256 * 0) a_in (omega arith) (omega arith) (omega arith) (omega arith)).1
back_one false a a_in = ap (take 1) (low_bytes a 0 0 0 (a + 256 * 0) a_in (omega arith) (omega arith) (omega arith) (omega arith)).0

back_two : (big : Bool) (a b : ℕ) → a < 256 → b < 256 → cond big (drop (4 - 2) (to_be_bytes w32 (number_from_bytes (cond big (reverse (a ∷ (b ∷ []))) (a ∷ (b ∷ [])))))) (take 2 (to_le_bytes w32 (number_from_bytes (cond big (reverse (a ∷ (b ∷ []))) (a ∷ (b ∷ [])))))) ≡ a ∷ (b ∷ [])
back_two true a b a_in b_in = ap (drop 2) (low_bytes b a 0 0 (b + 256 * (a + 256 * 0)) b_in a_in (omega arith) (omega arith) (omega arith)).1
back_two false a b a_in b_in = ap (take 2) (low_bytes a b 0 0 (a + 256 * (b + 256 * 0)) a_in b_in (omega arith) (omega arith) (omega arith)).0

abbrev list_of_four : ℕ → ℕ → ℕ → ℕ → List ℕ
list_of_four a b c d = a ∷ (b ∷ (c ∷ (d ∷ [])))

back_four : (big : Bool) (a b c d : ℕ) → a < 256 → b < 256 → c < 256 → d < 256 → cond big (drop (4 - 4) (to_be_bytes w32 (number_from_bytes (cond big (reverse (list_of_four a b c d)) (list_of_four a b c d))))) (take 4 (to_le_bytes w32 (number_from_bytes (cond big (reverse (list_of_four a b c d)) (list_of_four a b c d))))) ≡ list_of_four a b c d
back_four true a b c d a_in b_in c_in d_in = (low_bytes d c b a (d + 256 * (c + 256 * (b + 256 * (a + 256 * 0)))) d_in c_in b_in a_in (omega arith)).1
back_four false a b c d a_in b_in c_in d_in = (low_bytes a b c d (a + 256 * (b + 256 * (c + 256 * (d + 256 * 0)))) a_in b_in c_in d_in (omega arith)).0

-- so many bytes, by sizes
abbrev AreBytes : List ℕ → Type 0
AreBytes bs = (i : ℕ) → get_or bs i 0 < 256

back : (big : Bool) (n : ℕ) (bs : List ℕ) → (n ≡ 1) ⊎ ((n ≡ 2) ⊎ (n ≡ 4)) → length bs ≡ n → AreBytes bs → cond big (drop (4 - n) (to_be_bytes w32 (number_from_bytes (cond big (reverse bs) bs)))) (take n (to_le_bytes w32 (number_from_bytes (cond big (reverse bs) bs)))) ≡ bs
back big n [] sizes count each = absurd (elim sizes [ inl e ↦ omega arith | inr more ↦ elim more [ inl e ↦ omega arith | inr e ↦ omega arith ] ])
back big n (a ∷ []) sizes count each = rw (← count) (back_one big a (each 0))
back big n (a ∷ b ∷ []) sizes count each = rw (← count) (back_two big a b (each 0) (each 1))
back big n (a ∷ b ∷ c ∷ []) sizes count each = absurd (elim sizes [ inl e ↦ omega arith | inr more ↦ elim more [ inl e ↦ omega arith | inr e ↦ omega arith ] ])
back big n (a ∷ b ∷ c ∷ d ∷ []) sizes count each = rw (← count) (back_four big a b c d (each 0) (each 1) (each 2) (each 3))
back big n (a ∷ b ∷ c ∷ d ∷ e ∷ bs) sizes count each = absurd (elim sizes [ inl e ↦ omega arith | inr more ↦ elim more [ inl e ↦ omega arith | inr e ↦ omega arith ] ])

pub pixel_bytes-pixel_value : (f : Layout) (bs : List ℕ) → IsFormat f → length bs ≡ byte_count f → ((i : ℕ) → get_or bs i 0 < 256) → pixel_bytes f (pixel_value f bs) ≡ bs
unfolding pixel_bytes pixel_value
pixel_bytes-pixel_value f bs format count each =
    back f.big_endian (byte_count f) bs (elim format.sizes [ inl e ↦ inl (omega (arith, e)) | inr more ↦ elim more [ inl e ↦ inr (inl (omega (arith, e))) | inr e ↦ inr (inr (omega (arith, e))) ] ]) count each
