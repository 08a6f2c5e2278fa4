-- Which of at most three buffers are free, on plain indexes, after one of them becomes free.
use Rattle.std.proofs.Common.{◌≡◌, ◌≢◌, ◌⊎◌, ℕ, ◌<◌, ◌≤◌, true, false, Option, Some, None, refl, sym, ap, subst, inl, inr, arith, nat_lt}
use Rattle.std.specs.Option.{option_map}
use Rattle.std.proofs.lemmas.Bool.{cases_order}
use Rattle.std.proofs.lemmas.Bool.Decides.{nat_tests}
use Rattle.multibuf.specs.declared.owners.Free.{Free}
use Rattle.multibuf.specs.Owners.{index_of_free}
use Rattle.multibuf.specs.Stocks.{stock_beside}
use Rattle.multibuf.specs.Fitting.{IsRest, AreRest}

-- beside one that is shown and one that waits at most one of three is free
pub no_second : (n s w : ℕ) (back low high : Option ℕ) → AreRest n s (Some w) back low high → n ≤ 3 → s < n → w < n → w ≢ s → high ≡ None
no_second n s w back None high r few shown waits apart = r.first_first refl
no_second n s w back (Some l) None r few shown waits apart = refl
no_second n s w back (Some l) (Some h) r few shown waits apart =
    let low = r.low_free l refl in
    let high = r.high_free h refl in
    let order = r.in_order l h refl refl in
    let low_apart : w ≢ l = λ e. low.not_waiting (ap Some e) in
    let high_apart : w ≢ h = λ e. high.not_waiting (ap Some e) in
    absurd (omega (arith, low.exists, low.not_shown, high.exists, high.not_shown, low_apart, high_apart, order, apart))

-- two free buffers in their order
in_order : (n s : ℕ) (waiting back : Option ℕ) (a b : ℕ) → a < b → IsRest n s waiting back a → IsRest n s waiting back b
    → ((k : ℕ) → IsRest n s waiting back k → (k ≡ a) ⊎ (k ≡ b)) → AreRest n s waiting back (Some a) (Some b)
in_order n s waiting back a b below first second all = record {
  low_free = λ k e. let same : a ≡ k = cc in subst (λ (x : ℕ). IsRest n s waiting back x) same first;
  high_free = λ k e. let same : b ≡ k = cc in subst (λ (x : ℕ). IsRest n s waiting back x) same second;
  in_order = λ j k e f. let low : a ≡ j = cc (e) in let high : b ≡ k = cc (f) in omega (arith, low, high, below);
  first_first = λ e. absurd (cc);
  all = λ k rest. elim (all k rest) [ inl e ↦ inl (ap Some (sym e)) | inr e ↦ inr (ap Some (sym e)) ];
}

-- one free buffer
alone : (n s : ℕ) (waiting back : Option ℕ) (a : ℕ) → IsRest n s waiting back a → ((k : ℕ) → IsRest n s waiting back k → k ≡ a) → AreRest n s waiting back (Some a) None
alone n s waiting back a free all = record {
  low_free = λ k e. let same : a ≡ k = cc in subst (λ (x : ℕ). IsRest n s waiting back x) same free;
  high_free = λ k e. absurd (cc);
  in_order = λ j k e f. absurd (cc);
  first_first = λ e. absurd (cc);
  all = λ k rest. inl (ap Some (sym (all k rest)));
}

-- one more is free
pub one_more : (n s t : ℕ) (waiting back later drawn : Option ℕ) (low : Option Free) (g : Free)
    → AreRest n s waiting back (option_map index_of_free low) None
    → IsRest n t later drawn g.index
    → (IsRest n s waiting back g.index → ⊥)
    → ((k : ℕ) → IsRest n s waiting back k → IsRest n t later drawn k)
    → ((k : ℕ) → IsRest n t later drawn k → (k ≡ g.index) ⊎ IsRest n s waiting back k)
    → AreRest n t later drawn (option_map index_of_free (stock_beside low g None).low) (option_map index_of_free (stock_beside low g None).high)
one_more n s t waiting back later drawn None g r free new stay only =
    alone n t later drawn g.index free (λ k rest. elim (only k rest) [
      | inl e ↦ e
      | inr old ↦ elim (r.all k old) [ inl e ↦ absurd (cc) | inr e ↦ absurd (cc) ]
    ])
one_more n s t waiting back later drawn (Some l) g r free new stay only =
    let other : IsRest n s waiting back l.index = r.low_free l.index refl in
    let apart : g.index ≢ l.index = λ e. new (subst (λ (x : ℕ). IsRest n s waiting back x) (sym e) other) in
    let both : (k : ℕ) → IsRest n t later drawn k → (k ≡ g.index) ⊎ (k ≡ l.index) = λ k rest. elim (only k rest) [
      | inl e ↦ inl e
      | inr old ↦ elim (r.all k old) [ inl e ↦ inr (cc) | inr e ↦ absurd (cc) ]
    ] in
    elim (cases_order g.index l.index) [
      | inl e ↦ absurd (apart e)
      | inr o ↦ elim o [
        | inl before ↦
            let test : nat_lt g.index l.index ≡ true = grind (arith, nat_tests) in
            rw test (in_order n t later drawn g.index l.index before free (stay l.index other) both)
        | inr after ↦
            let test : nat_lt g.index l.index ≡ false = grind (arith, nat_tests) in
            rw test (in_order n t later drawn l.index g.index after (stay l.index other) free (λ k rest. elim (both k rest) [ inl e ↦ inr e | inr e ↦ inl e ]))
      ]
    ]
