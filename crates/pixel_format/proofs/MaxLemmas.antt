-- What a channel's greatest number may be.
use Rattle.std.proofs.Common.{◌≡◌, ℕ, zero, suc, ◌+◌, ◌^◌, ◌≤◌, Bool, true, false, ◌||◌, ◌==◌, List, [], ◌∷◌, refl, subst, arith, lit≤}
use Rattle.std.proofs.lemmas.Bool.{eqb-true}
use Rattle.std.specs.List.{list_any}
use Rattle.pixel_format.specs.Formats.{rows_of_bits, is_max}

abbrev pub IsRow : ℕ → Type 0
IsRow max = (k : ℕ) × (1 ≤ k) × (k ≤ 16) × (max + 1 ≡ 2 ^ k)

abbrev AreRows : List ℕ → Type 0
AreRows [] = Unit {0}
AreRows (m ∷ ms) = IsRow m × AreRows ms

one_of : (b : Bool) (m max : ℕ) (ms : List ℕ) → (m == max) ≡ b → IsRow m → (list_any (λ row. row == max) ms ≡ true → IsRow max) → b || list_any (λ row. row == max) ms ≡ true → IsRow max
one_of true m max ms e r next h = subst IsRow (eqb-true _ _ e) r
one_of false m max ms e r next h = next h

any_row : (max : ℕ) (ms : List ℕ) → AreRows ms → list_any (λ row. row == max) ms ≡ true → IsRow max
any_row max [] a h = cc
any_row max (m ∷ ms) a h = one_of (m == max) m max ms refl a.0 (any_row max ms a.1) h

row : (k : ℕ) (m : ℕ) → 1 ≤ k → k ≤ 16 → m + 1 ≡ 2 ^ k → IsRow m
row k m a b e = (k, a, b, e)

pub row_from_test : (max : ℕ) → is_max max ≡ true → IsRow max
unfolding is_max
row_from_test max h =
    any_row max rows_of_bits (
      row 1 1 (lit≤ tt) (lit≤ tt) refl,
      (
        row 2 3 (lit≤ tt) (lit≤ tt) refl,
        (
          row 3 7 (lit≤ tt) (lit≤ tt) refl,
          (
            row 4 15 (lit≤ tt) (lit≤ tt) refl,
            (
              row 5 31 (lit≤ tt) (lit≤ tt) refl,
              (
                row 6 63 (lit≤ tt) (lit≤ tt) refl,
                (
                  row 7 127 (lit≤ tt) (lit≤ tt) refl,
                  (
                    row 8 255 (lit≤ tt) (lit≤ tt) refl,
                    (
                      row 9 511 (lit≤ tt) (lit≤ tt) refl,
                      (
                        row 10 1023 (lit≤ tt) (lit≤ tt) refl,
                        (
                          row 11 2047 (lit≤ tt) (lit≤ tt) refl,
                          (
                            row 12 4095 (lit≤ tt) (lit≤ tt) refl,
                            (row 13 8191 (lit≤ tt) (lit≤ tt) refl, (row 14 16383 (lit≤ tt) (lit≤ tt) refl, (row 15 32767 (lit≤ tt) (lit≤ tt) refl, (row 16 65535 (lit≤ tt) (lit≤ tt) refl, tt)))),
                          ),
                        ),
                      ),
                    ),
                  ),
                ),
              ),
            ),
          ),
        ),
      ),
    ) h

at : (n max : ℕ) → max + 1 ≡ n + 1 → is_max n ≡ true → is_max max ≡ true
at n max e h = let s : n ≡ max = omega arith in subst (λ (m : ℕ). is_max m ≡ true) s h

pub test_from_row : (max k : ℕ) → 1 ≤ k → k ≤ 16 → max + 1 ≡ 2 ^ k → is_max max ≡ true
unfolding is_max
test_from_row max zero a b e = absurd (omega arith)
test_from_row max (suc zero) a b e = at 1 max e refl
test_from_row max (suc (suc zero)) a b e = at 3 max e refl
test_from_row max (suc (suc (suc zero))) a b e = at 7 max e refl
test_from_row max (suc (suc (suc (suc zero)))) a b e = at 15 max e refl
test_from_row max (suc (suc (suc (suc (suc zero))))) a b e = at 31 max e refl
test_from_row max (suc (suc (suc (suc (suc (suc zero)))))) a b e = at 63 max e refl
test_from_row max (suc (suc (suc (suc (suc (suc (suc zero))))))) a b e = at 127 max e refl
test_from_row max (suc (suc (suc (suc (suc (suc (suc (suc zero)))))))) a b e = at 255 max e refl
test_from_row max (suc (suc (suc (suc (suc (suc (suc (suc (suc zero))))))))) a b e = at 511 max e refl
test_from_row max (suc (suc (suc (suc (suc (suc (suc (suc (suc (suc zero)))))))))) a b e = at 1023 max e refl
test_from_row max (suc (suc (suc (suc (suc (suc (suc (suc (suc (suc (suc zero))))))))))) a b e = at 2047 max e refl
test_from_row max (suc (suc (suc (suc (suc (suc (suc (suc (suc (suc (suc (suc zero)))))))))))) a b e = at 4095 max e refl
test_from_row max (suc (suc (suc (suc (suc (suc (suc (suc (suc (suc (suc (suc (suc zero))))))))))))) a b e = at 8191 max e refl
test_from_row max (suc (suc (suc (suc (suc (suc (suc (suc (suc (suc (suc (suc (suc (suc zero)))))))))))))) a b e = at 16383 max e refl
test_from_row max (suc (suc (suc (suc (suc (suc (suc (suc (suc (suc (suc (suc (suc (suc (suc zero))))))))))))))) a b e = at 32767 max e refl
test_from_row max (suc (suc (suc (suc (suc (suc (suc (suc (suc (suc (suc (suc (suc (suc (suc (suc zero)))))))))))))))) a b e = at 65535 max e refl
test_from_row max (suc (suc (suc (suc (suc (suc (suc (suc (suc (suc (suc (suc (suc (suc (suc (suc (suc k))))))))))))))))) a b e = absurd (omega arith)
