-- How many points of a picture lie in a span and in a tile.
use Rattle.std.proofs.Common.{◌≡◌, ℕ, zero, suc, ◌+◌, ◌-◌, ◌*◌, ◌/◌, ◌%◌, ◌<◌, ◌≤◌, min, Bool, true, false, cond, ◌⊎◌, ◌&&◌, ◌||◌, List, nat_lt, refl, sym, ap, ◌∙◌, inl, inr, arith}
use Rattle.std.specs.List.{count_by, range_with_len}
use Rattle.std.proofs.lemmas.Bool.{cases_Bool, cases_lt, false≢true}
use Rattle.std.proofs.lemmas.Bool.Decides.{nat_tests}
use Rattle.std.proofs.lemmas.List.{map-id}
use Rattle.std.proofs.lemmas.List.FromFn.{sum_by-map-range_with_len_more}
use Rattle.std.proofs.lemmas.Nat.{div-add-mod', div-mul-add, mod-mul-add, div_below, mod_below, row_fits}
use Rattle.frame.specs.Pictures.{Picture, HasShape}
use Rattle.frame.specs.Areas.{points_in, is_at, in_span, in_tile, span_count, tile_count}
use Rattle.frame.proofs.SpanLemmas.{in_span-true}
use Rattle.frame.proofs.TileLemmas.{IsTile, tile_above, next_row, above_first, above_end, tile_count-rows}

-- ---- counts below a number

-- how many numbers below n pass
abbrev pub count_below : (ℕ → Bool) → ℕ → ℕ
count_below p n = count_by p (range_with_len 0 n)

count_below-more : (p : ℕ → Bool) (n : ℕ) → count_below p (suc n) ≡ count_below p n + cond (p n) 1 0
count_below-more p n =
    let same = λ (m : ℕ). map-id (range_with_len 0 m) in
    let e : suc n ≡ n + 1 = omega arith in
    ap (count_below p) e ∙ sym (ap (count_by p) (same (n + 1))) ∙ sum_by-map-range_with_len_more (λ i. cond (p i) 1 0) (λ (i : ℕ). i) 0 n n (omega arith) ∙ ap (λ (l : List ℕ). count_by p l + cond (p n) 1 0) (same n)

pub count_below-same : (p q : ℕ → Bool) (n : ℕ) → ((i : ℕ) → i < n → p i ≡ q i) → count_below p n ≡ count_below q n
count_below-same p q zero same = refl
count_below-same p q (suc n) same = count_below-more p n ∙ rw (same n (omega arith), count_below-same p q n (λ i lt. same i (omega arith))) (sym (count_below-more q n))

pub count_below-none : (p : ℕ → Bool) (n : ℕ) → ((i : ℕ) → i < n → p i ≡ false) → count_below p n ≡ 0
count_below-none p zero none = refl
count_below-none p (suc n) none = count_below-more p n ∙ rw (none n (omega arith), count_below-none p n (λ i lt. none i (omega arith))) refl

one_of : (a b : Bool) → (a ≡ true → b ≡ false) → cond (a || b) 1 0 ≡ cond a 1 0 + cond b 1 0
one_of true b apart = rw (apart refl) refl
one_of false true apart = refl
one_of false false apart = refl

-- tests that no number passes both of
pub count_below-or : (p q : ℕ → Bool) (n : ℕ) → ((i : ℕ) → i < n → p i ≡ true → q i ≡ false) → count_below (λ i. p i || q i) n ≡ count_below p n + count_below q n
count_below-or p q zero apart = refl
count_below-or p q (suc n) apart =
    let rest = count_below-or p q n (λ i lt. apart i (omega arith)) in
    let last : cond (p n || q n) 1 0 ≡ cond (p n) 1 0 + cond (q n) 1 0 = one_of (p n) (q n) (apart n (omega arith)) in
    count_below-more (λ i. p i || q i) n ∙ omega (arith, count_below-more p n, count_below-more q n)

off_part : (p : ℕ → Bool) (first end n : ℕ) → (first ≤ n → n < end → p n ≡ true) → p n ≡ false → (n < first) ⊎ (end ≤ n)
off_part p first end n inside fails =
    elim (cases_lt n first) [
      | inl before ↦ inl before
      | inr from ↦ elim (cases_lt n end) [ inl within ↦ absurd (false≢true (sym fails ∙ inside from within)) | inr after ↦ inr after ]
    ]

-- just the numbers of a part pass
pub count_below-part : (p : ℕ → Bool) (first end n : ℕ) → first ≤ end → ((i : ℕ) → i < n → first ≤ i → i < end → p i ≡ true) → ((i : ℕ) → i < n → p i ≡ true → (first ≤ i) × (i < end)) → count_below p n ≡ min n end - min n first
count_below-part p first end zero le inside outside = omega arith
count_below-part p first end (suc n) le inside outside =
    let rest = count_below-part p first end n le (λ i lt. inside i (omega arith)) (λ i lt. outside i (omega arith)) in
    count_below-more p n
    ∙ elim (cases_Bool (p n)) [
      | inl passes ↦ let within = outside n (omega arith) passes in rw passes (omega (arith, rest, within.0, within.1))
      | inr fails ↦ rw fails (omega (arith, rest, off_part p first end n (inside n (omega arith)) fails))
    ]

-- ---- points of a picture

-- tests that agree inside name as many points
pub points_in-same : (p : Picture) (here there : ℕ → ℕ → Bool) → HasShape p → ((x y : ℕ) → x < p.width → y < p.height → here x y ≡ there x y) → points_in p here ≡ points_in p there
unfolding points_in
points_in-same p here there shape same = count_below-same _ _ (p.height * p.width) (λ i lt. same (i % p.width) (i / p.width) (mod_below i p.width shape.some_width) (div_below i p.width p.height shape.some_width lt))

pub points_in-none : (p : Picture) (here : ℕ → ℕ → Bool) → HasShape p → ((x y : ℕ) → x < p.width → y < p.height → here x y ≡ false) → points_in p here ≡ 0
unfolding points_in
points_in-none p here shape none = count_below-none _ (p.height * p.width) (λ i lt. none (i % p.width) (i / p.width) (mod_below i p.width shape.some_width) (div_below i p.width p.height shape.some_width lt))

pub points_in-or : (p : Picture) (here there : ℕ → ℕ → Bool) → HasShape p → ((x y : ℕ) → x < p.width → y < p.height → here x y ≡ true → there x y ≡ false) → points_in p (λ x y. here x y || there x y) ≡ points_in p here + points_in p there
unfolding points_in
points_in-or p here there shape apart =
    count_below-or (λ i. here (i % p.width) (i / p.width)) (λ i. there (i % p.width) (i / p.width)) (p.height * p.width) (λ i lt. apart (i % p.width) (i / p.width) (mod_below i p.width shape.some_width) (div_below i p.width p.height shape.some_width lt))

-- a span
span_inside : (w y x0 x1 i : ℕ) → x1 < w → y * w + min x0 (x1 + 1) ≤ i → i < y * w + (x1 + 1) → in_span y x0 x1 (i % w) (i / w) ≡ true
unfolding in_span
span_inside w y x0 x1 i x1_in low high =
    let place : y * w + (i - y * w) ≡ i = omega arith in
    let column : i % w ≡ i - y * w = sym (ap (λ (k : ℕ). k % w) place) ∙ mod-mul-add y w (i - y * w) (omega arith) in
    let row : i / w ≡ y = sym (ap (λ (k : ℕ). k / w) place) ∙ div-mul-add y w (i - y * w) (omega arith) in
    grind (arith, nat_tests)

span_outside : (w y x0 x1 i : ℕ) → in_span y x0 x1 (i % w) (i / w) ≡ true → (y * w + min x0 (x1 + 1) ≤ i) × (i < y * w + (x1 + 1))
span_outside w y x0 x1 i h =
    let t = in_span-true y x0 x1 (i % w) (i / w) h in
    let place : y * w + i % w ≡ i = rw (sym t.0) (div-add-mod' i w) in
    (omega (arith, t.1, t.2), omega (arith, t.1, t.2))

pub points_in-span : (p : Picture) (y x0 x1 : ℕ) → HasShape p → x1 < p.width → y < p.height → points_in p (in_span y x0 x1) ≡ span_count x0 x1
unfolding points_in
points_in-span p y x0 x1 shape x1_in y_in =
    let row = row_fits y p.width p.height p.width y_in (omega arith) in
    count_below-part (λ i. in_span y x0 x1 (i % p.width) (i / p.width)) (y * p.width + min x0 (x1 + 1)) (y * p.width + (x1 + 1)) (p.height * p.width) (omega arith) (λ i lt. span_inside p.width y x0 x1 i x1_in) (λ i lt. span_outside p.width y x0 x1 i)
    ∙ omega arith

-- a point
is_at-span : (x y u v : ℕ) → is_at x y u v ≡ in_span y x x u v
unfolding is_at in_span
is_at-span x y u v = grind (arith, nat_tests)

pub points_in-point : (p : Picture) (x y : ℕ) → HasShape p → x < p.width → y < p.height → points_in p (is_at x y) ≡ 1
points_in-point p x y shape x_in y_in = points_in-same p (is_at x y) (in_span y x x) shape (λ u v u_in v_in. is_at-span x y u v) ∙ points_in-span p y x x shape x_in y_in ∙ omega arith

and_false : (b : Bool) → (b && false) ≡ false
and_false true = refl
and_false false = refl

one_more : (n k : ℕ) → k + n * k ≡ suc n * k
one_more n k = let e : suc n ≡ n + 1 = omega arith in rw e (grind arith)

-- a tile, row by row
off_row : (col row y x0 x1 u v : ℕ) → in_span y x0 x1 u v ≡ true → tile_above col row y u v ≡ false
off_row col row y x0 x1 u v h =
    let own = (in_span-true y x0 x1 u v h).0 in
    let below : nat_lt v y ≡ false = grind (arith, nat_tests) in
    rw below (and_false (in_tile col row u v))

points_above : (p : Picture) (col row x0 x1 y0 end n : ℕ) → IsTile p col row x0 x1 y0 end → HasShape p → x1 < p.width → y0 + n ≤ end → points_in p (tile_above col row (y0 + n)) ≡ n * span_count x0 x1
points_above p col row x0 x1 y0 end zero tile shape x1_in le =
    let first : y0 + 0 ≡ row * 16 = omega (arith, tile.top) in
    rw first (points_in-none p (tile_above col row (row * 16)) shape (λ u v _ _. above_first col row u v) ∙ omega arith)
points_above p col row x0 x1 y0 end (suc n) tile shape x1_in le =
    let next : y0 + suc n ≡ y0 + n + 1 = omega arith in
    rw next (sym (points_in-same p (λ u v. in_span (y0 + n) x0 x1 u v || tile_above col row (y0 + n) u v) (tile_above col row (y0 + n + 1)) shape (λ u v u_in v_in. next_row p col row x0 x1 y0 end (y0 + n) u v tile u_in (omega arith) (omega arith)))
    ∙ points_in-or p (in_span (y0 + n) x0 x1) (tile_above col row (y0 + n)) shape (λ u v _ _. off_row col row (y0 + n) x0 x1 u v)
    ∙ rw (points_in-span p (y0 + n) x0 x1 shape x1_in (omega (arith, tile.bottom)), points_above p col row x0 x1 y0 end n tile shape x1_in (omega arith)) (one_more n (span_count x0 x1)))

pub points_in-tile : (p : Picture) (col row : ℕ) → HasShape p → col * 16 < p.width → row * 16 < p.height → points_in p (in_tile col row) ≡ tile_count p col row
points_in-tile p col row shape left_in top_in =
    let x0 = col * 16 in
    let x1 = min (x0 + 16) p.width - 1 in
    let y0 = row * 16 in
    let end = min (y0 + 16) p.height in
    let tile : IsTile p col row x0 x1 y0 end = record { left = refl; right = omega arith; top = refl; bottom = refl; columns = left_in; rows = top_in } in
    let rows : y0 + (end - y0) ≡ end = omega arith in
    sym (points_in-same p (tile_above col row end) (in_tile col row) shape (λ u v u_in v_in. above_end p col row x0 x1 y0 end u v tile v_in))
    ∙ rw rows at (points_above p col row x0 x1 y0 end (end - y0) tile shape (omega arith) (omega arith))
    ∙ tile_count-rows p col row x0 x1 y0 end tile
