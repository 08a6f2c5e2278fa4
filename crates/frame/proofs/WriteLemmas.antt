-- Canvases that have the same picture and as many writes, and counts of writes that are added.
use Rattle.std.proofs.Common.{◌≡◌, ℕ, ◌+◌, ◌%◌, ◌^◌, ◌<◌, refl, sym, ap, ◌∙◌, arith}
use Rattle.std.proofs.Math.Nat.{mod-add-mod, mod-eq_of_lt}
use Rattle.frame.specs.Canvases.{Canvas}
use Rattle.frame.specs.Pictures.{Picture}

pub canvas_is : (p q : Picture) (m n : ℕ) → p ≡ q → m ≡ n → ◌≡◌ {A = Canvas} (record { picture = p; writes = m }) (record { picture = q; writes = n })
canvas_is p q m n e f = rw (e, f) refl

-- no point more
pub no_more : (writes count : ℕ) → writes < 2 ^ 64 → count ≡ 0 → writes ≡ (writes + count) % 2 ^ 64
no_more writes count below none =
    let same : writes + count ≡ writes = omega (arith, none) in
    sym (ap (λ (k : ℕ). k % 2 ^ 64) same ∙ mod-eq_of_lt below)

-- some points and then others
pub some_more : (writes first second both : ℕ) → both ≡ first + second → ((writes + first) % 2 ^ 64 + second) % 2 ^ 64 ≡ (writes + both) % 2 ^ 64
some_more writes first second both sum =
    let all : writes + first + second ≡ writes + both = omega (arith, sum) in
    mod-add-mod (writes + first) (2 ^ 64) second ∙ ap (λ (k : ℕ). k % 2 ^ 64) all
