-- A pass's own calls, where it calls with 0, 1 ..
use Rattle.std.proofs.Common.{◌≡◌, ℕ, ◌+◌, zero, suc, Bool, true, false, cond, nat_lt, List, [], ◌∷◌, ◌++◌, length, refl, sym, ap, ◌∙◌, arith}
use Rattle.std.specs.List.{range_with_len}
use Rattle.gui_lock.specs.declared.entry.Entry.{Entry}
use Rattle.gui_lock.specs.Entries.{pick}
use Rattle.gui_lock.specs.Passes.{Held, Acts}
use Rattle.lock_tests.specs.declared.pairs.Answer.{Answer}
use Rattle.lock_tests.specs.declared.pairs.Answer.TheVariants.{Added, Full, Memory}
use Rattle.lock_tests.specs.Pairs.{adds, is_added_lem, is_wanting}

reply_added : (b : Bool) → is_added_lem (cond b Added Full) ≡ b
reply_added true = refl
reply_added false = refl

not_wanting : (answer : Answer) → is_added_lem answer ≡ true → is_wanting answer ≡ false
not_wanting Added e = refl
not_wanting Full e = absurd cc
not_wanting Memory e = absurd cc

-- a call that was answered Added was added
pub mine_added : {K : Type 0} (passes : ℕ) (may : Bool) (call room : ℕ) (old new : Held ℕ K) (answer : Answer) (r0 r1 : ℕ)
    → Acts passes (adds room) (is_wanting answer) may call old new answer r0 r1 → is_added_lem answer ≡ true → new.mine ≡ old.mine ++ call ∷ []
mine_added passes may call room old new answer r0 r1 a is =
    let t = a.given (not_wanting answer is) in
    let place : List (Entry ℕ) = (old.seen ++ a.between) ++ a.marks in
    let yes : nat_lt (length place) 4096 ≡ true = sym (ap is_added_lem t.1 ∙ reply_added (nat_lt (length place) 4096)) ∙ is in
    a.mine ∙ ap (λ (b : Bool). old.mine ++ pick b call []) (t.0 ∙ yes)

range_more : (a n k : ℕ) → k ≡ a + n → range_with_len a (suc n) ≡ range_with_len a n ++ k ∷ []
range_more a zero k e = ap (λ (j : ℕ). j ∷ []) (let f : a ≡ k = omega arith in f)
range_more a (suc n) k e = ap (λ (l : List ℕ). a ∷ l) (range_more (a + 1) n k (omega arith))

-- one more call, with the next number
pub next_mine : (i : ℕ) (mine more : List ℕ) → mine ≡ range_with_len 0 i → more ≡ mine ++ i ∷ [] → more ≡ range_with_len 0 (i + 1)
next_mine i mine more was is = is ∙ (ap (λ (l : List ℕ). l ++ i ∷ []) was ∙ (sym (range_more 0 i i (omega arith)) ∙ ap (range_with_len 0) (let f : suc i ≡ i + 1 = omega arith in f)))
