-- A number's bits as a list.
use Rattle.std.proofs.Common.{◌≡◌, ℕ, zero, suc, ◌/◌, ◌<◌, Bool, eqb, List, length, get_or, map, refl, sym, ap, ◌∙◌, arith}
use Rattle.std.specs.Int.{bit_at}
use Rattle.std.proofs.lemmas.List.{same_lists, get_or-map, length-map}
use Rattle.std.proofs.lemmas.Nat.Bits.{bit_at-suc, bit_at_lowest}
use Rattle.glyph_font.specs.Bits.{bits_of}

pub length-bits_of : (n word : ℕ) → length (bits_of n word) ≡ n
length-bits_of zero word = refl
length-bits_of (suc n) word = ap (λ (k : ℕ). suc k) (length-bits_of n (word / 2))

pub get_or-bits_of : (n word i : ℕ) (d : Bool) → i < n → get_or (bits_of n word) i d ≡ eqb (bit_at word i) 1
get_or-bits_of zero word i d less = absurd (omega arith)
get_or-bits_of (suc n) word zero d less = sym (ap (λ (x : ℕ). eqb x 1) (bit_at_lowest word))
get_or-bits_of (suc n) word (suc i) d less = get_or-bits_of n (word / 2) i d (omega arith) ∙ sym (ap (λ (x : ℕ). eqb x 1) (bit_at-suc word i))

-- bit by bit the bits of a row are the points of its bytes
pub bits_from_points : (line : List ℕ) (word : ℕ) → ((i : ℕ) → i < length line → eqb (bit_at word i) 1 ≡ eqb (get_or line i 0) 35) → bits_of (length line) word ≡ map (λ b. eqb b 35) line
bits_from_points line word same =
    let n : ℕ = length line in
    let long = length-bits_of n word in
    same_lists (bits_of n word) (map (λ (b : ℕ). eqb b 35) line) (long ∙ sym (length-map line (λ b. eqb b 35)))
    (λ k d less. let within : k < length line = omega arith in get_or-bits_of n word k d (omega arith) ∙ same k within ∙ sym (get_or-map (λ (b : ℕ). eqb b 35) line k 0 d within))
