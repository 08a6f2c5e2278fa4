-- One point and one span of a picture, written into the list of its points.
use Rattle.std.proofs.Common.{◌≡◌, ℕ, ◌+◌, ◌-◌, ◌*◌, ◌%◌, ◌^◌, ◌<◌, ◌≤◌, min, true, false, ◌⊎◌, List, ◌++◌, length, get_or, set, take, drop, take_at, refl, sym, ap, ◌∙◌, inl, inr, arith}
use borrow.Rule.Slice.PartMut.{put_mid}
use Rattle.std.proofs.lemmas.Bool.{cases_Bool, cases_order, cases_lt, false≢true}
use Rattle.std.proofs.lemmas.Bool.Decides.{nat_tests}
use Rattle.std.proofs.lemmas.List.{get_or_append_left, get_or-append_right, get_or-take, get_or-drop, get_or-set_same, get_or-set_other, length-set, length-take-le, length-drop, length-append}
use Rattle.std.proofs.lemmas.Nat.{mul-add-lt, row_fits, same_from_place}
use Rattle.frame.specs.Pictures.{Picture, IsShape, HasShape, colour_at, changed}
use Rattle.frame.specs.Areas.{is_at, in_span, span_count}
use Rattle.frame.specs.Canvases.{Canvas, canvas, drawn}
use Rattle.frame.proofs.PictureLaws.{changed-from_points}

-- the picture with other points
abbrev pub with_points : Picture → List ℕ → Picture
with_points p points = record p { points = points }

-- it has the same shape where there are as many
has_shape-with_points : (p : Picture) (points : List ℕ) → HasShape p → length points ≡ length p.points → HasShape (with_points p points)
has_shape-with_points p points shape count = record {
  some_width = shape.some_width;
  most_width = shape.most_width;
  some_height = shape.some_height;
  most_height = shape.most_height;
  count_is = count ∙ shape.count_is;
}

-- ---- one point

pub is_at-true : (x y u v : ℕ) → is_at x y u v ≡ true → (u ≡ x) × (v ≡ y)
unfolding is_at
is_at-true x y u v h = (grind (arith, nat_tests), grind (arith, nat_tests))

pub is_at-self : (x y : ℕ) → is_at x y x y ≡ true
unfolding is_at
is_at-self x y = grind (arith, nat_tests)

pub changed-point : (p : Picture) (x y c : ℕ) → HasShape p → x < p.width → y < p.height → with_points p (set p.points (y * p.width + x) c) ≡ changed p (is_at x y) (λ _ _. c)
changed-point p x y c shape x_in y_in =
    let place : y * p.width + x < length p.points = omega (arith, mul-add-lt y p.width x p.height y_in x_in, shape.count_is) in
    changed-from_points p (with_points p (set p.points (y * p.width + x) c)) (is_at x y) (λ _ _. c) shape (has_shape-with_points p _ shape (length-set p.points (y * p.width + x) c)) refl refl (λ u v u_in v_in.
    elim (cases_Bool (is_at x y u v)) [
      | inl here ↦ let e = is_at-true x y u v here in rw (here, e.0, e.1) (get_or-set_same p.points (y * p.width + x) c 0 place)
      | inr other ↦ rw other (get_or-set_other p.points (y * p.width + x) (v * p.width + u) c 0 (λ same.
          let e = same_from_place v u y x p.width u_in x_in same in
          absurd (false≢true (sym other ∙ rw (e.0, e.1) (is_at-self x y)))))
    ])

-- ---- a part of a list, written

get_or-put_mid_before : (a k i : ℕ) (xs ys : List ℕ) → a ≤ length xs → i < a → get_or (put_mid a k xs ys) i 0 ≡ get_or xs i 0
get_or-put_mid_before a k i xs ys within lt = get_or_append_left (take a xs) _ 0 i (omega (arith, length-take-le a xs within)) ∙ get_or-take a xs i 0 lt

get_or-put_mid_in : (a k i : ℕ) (xs ys : List ℕ) → a ≤ length xs → i < length ys → get_or (put_mid a k xs ys) (a + i) 0 ≡ get_or ys i 0
get_or-put_mid_in a k i xs ys within lt =
    let e : a + i - a ≡ i = omega arith in
    get_or-append_right (take a xs) _ a (a + i) 0 (length-take-le a xs within) (omega arith) ∙ rw e (get_or_append_left ys _ 0 i lt)

get_or-put_mid_after : (a k i : ℕ) (xs ys : List ℕ) → a ≤ length xs → length ys ≡ k → a + k ≤ i → get_or (put_mid a k xs ys) i 0 ≡ get_or xs i 0
get_or-put_mid_after a k i xs ys within count le =
    let e : a + (k + (i - a - k)) ≡ i = omega arith in
    get_or-append_right (take a xs) _ a i 0 (length-take-le a xs within) (omega arith)
    ∙ get_or-append_right ys _ k (i - a) 0 count (omega arith)
    ∙ get_or-drop k (drop a xs) (i - a - k) 0
    ∙ get_or-drop a xs (k + (i - a - k)) 0
    ∙ rw e refl

length-put_mid : (a k : ℕ) (xs ys : List ℕ) → a + k ≤ length xs → length ys ≡ k → length (put_mid a k xs ys) ≡ length xs
length-put_mid a k xs ys within count =
    let front = length-take-le a xs (omega arith) in
    simp (length-append, length-drop) (omega arith)

-- ---- one span

pub in_span-true : (y x0 x1 u v : ℕ) → in_span y x0 x1 u v ≡ true → (v ≡ y) × (x0 ≤ u) × (u ≤ x1)
unfolding in_span
in_span-true y x0 x1 u v h = (grind (arith, nat_tests), grind (arith, nat_tests), grind (arith, nat_tests))

pub in_span-false : (y x0 x1 u : ℕ) → in_span y x0 x1 u y ≡ false → (u < x0) ⊎ (x1 < u)
unfolding in_span
in_span-false y x0 x1 u h = elim (cases_lt u x0) [ inl lt ↦ inl lt | inr le ↦ inr (grind (arith, nat_tests)) ]

beside_span : (y w x0 x1 u : ℕ) → u < x0 → (y * w + u < y * w + min x0 (x1 + 1)) ⊎ (y * w + (x1 + 1) ≤ y * w + u)
beside_span y w x0 x1 u before = elim (cases_lt u (x1 + 1)) [ inl lt ↦ inl (omega arith) | inr le ↦ inr (omega arith) ]

-- the place of a point outside a span lies before or after the span's places
outside_span : (w y x0 x1 u v : ℕ) → u < w → x1 < w → in_span y x0 x1 u v ≡ false → (v * w + u < y * w + min x0 (x1 + 1)) ⊎ (y * w + (x1 + 1) ≤ v * w + u)
outside_span w y x0 x1 u v u_in x1_in other =
    elim (cases_order v y) [
      | inl e ↦ rw e (elim (in_span-false y x0 x1 u (rw e at other)) [ inl before ↦ beside_span y w x0 x1 u before | inr after ↦ inr (omega arith) ])
      | inr off ↦ elim off [ inl above ↦ inl (omega (arith, row_fits v w y w above (omega arith))) | inr below ↦ inr (omega (arith, row_fits y w v w below (omega arith))) ]
    ]

pub changed-span : (p : Picture) (y x0 x1 : ℕ) (colour : ℕ → ℕ → ℕ) (ys : List ℕ) → HasShape p → x1 < p.width → y < p.height → length ys ≡ span_count x0 x1 → ((i : ℕ) → i < span_count x0 x1 → get_or ys i 0 ≡ colour (x0 + i) y)
    → with_points p (put_mid (y * p.width + min x0 (x1 + 1)) (span_count x0 x1) p.points ys) ≡ changed p (in_span y x0 x1) colour
changed-span p y x0 x1 colour ys shape x1_in y_in count same =
    let row : y * p.width + p.width ≤ length p.points = omega (arith, row_fits y p.width p.height p.width y_in (omega arith), shape.count_is) in
    let room : y * p.width + min x0 (x1 + 1) + span_count x0 x1 ≤ length p.points = omega arith in
    let size = length-put_mid (y * p.width + min x0 (x1 + 1)) (span_count x0 x1) p.points ys room count in
    changed-from_points p (with_points p (put_mid (y * p.width + min x0 (x1 + 1)) (span_count x0 x1) p.points ys)) (in_span y x0 x1) colour shape (has_shape-with_points p _ shape size) refl refl (λ u v u_in v_in.
    elim (cases_Bool (in_span y x0 x1 u v)) [
      | inl here ↦
          let h = in_span-true y x0 x1 u v here in
          let place : v * p.width + u ≡ y * p.width + min x0 (x1 + 1) + (u - x0) = rw h.0 (omega (arith, h.1, h.2)) in
          let column : x0 + (u - x0) ≡ u = omega (arith, h.1) in
          rw (here, place) (get_or-put_mid_in (y * p.width + min x0 (x1 + 1)) (span_count x0 x1) (u - x0) p.points ys (omega arith) (omega (arith, h.1, h.2)) ∙ same (u - x0) (omega (arith, h.1, h.2)) ∙ rw (column, h.0) refl)
      | inr other ↦
          rw other (elim (outside_span p.width y x0 x1 u v u_in x1_in other) [
            | inl before ↦ get_or-put_mid_before (y * p.width + min x0 (x1 + 1)) (span_count x0 x1) (v * p.width + u) p.points ys (omega arith) before
            | inr after ↦ get_or-put_mid_after (y * p.width + min x0 (x1 + 1)) (span_count x0 x1) (v * p.width + u) p.points ys (omega arith) count (omega arith)
          ])
    ])

-- ---- what the calls write

abbrev of_picture : Picture → ℕ → Canvas
of_picture p writes = record { picture = p; writes = writes }

drawn_point : (w h : ℕ) (ps : List ℕ) (n x y c : ℕ) → IsShape w h (length ps) → x < w → y < h → canvas w h (set ps (y * w + x) c) ((n + 1) % 2 ^ 64) ≡ drawn (canvas w h ps n) (is_at x y) (λ _ _. c) 1
drawn_point w h ps n x y c shape x_in y_in = ap (λ (p : Picture). of_picture p ((n + 1) % 2 ^ 64)) (changed-point (record { width = w; height = h; points = ps }) x y c shape x_in y_in)

-- a point is written into the parts of a canvas
pub drawn-point : (f : Canvas) (w h : ℕ) (ps qs : List ℕ) (n x y c at : ℕ) → canvas w h ps n ≡ f → IsShape w h (length ps) → x < f.picture.width → y < f.picture.height → at ≡ y * f.picture.width + x → qs ≡ set ps at c
    → canvas w h qs ((n + 1) % 2 ^ 64) ≡ drawn f (is_at x y) (λ _ _. c) 1
drawn-point f w h ps qs n x y c at view shape x_in y_in place write =
    let width : w ≡ f.picture.width = ap (λ (g : Canvas). g.picture.width) view in
    let height : h ≡ f.picture.height = ap (λ (g : Canvas). g.picture.height) view in
    rw (write, place, ← width) (drawn_point w h ps n x y c shape (omega arith) (omega arith)) ∙ ap (λ (g : Canvas). drawn g (is_at x y) (λ _ _. c) 1) view

drawn_span : (w h : ℕ) (ps ys : List ℕ) (n y x0 x1 : ℕ) (colour : ℕ → ℕ → ℕ) → IsShape w h (length ps) → x1 < w → y < h → length ys ≡ span_count x0 x1 → ((i : ℕ) → i < span_count x0 x1 → get_or ys i 0 ≡ colour (x0 + i) y)
    → canvas w h (put_mid (y * w + min x0 (x1 + 1)) (span_count x0 x1) ps ys) ((n + span_count x0 x1) % 2 ^ 64) ≡ drawn (canvas w h ps n) (in_span y x0 x1) colour (span_count x0 x1)
drawn_span w h ps ys n y x0 x1 colour shape x1_in y_in count same = ap (λ (p : Picture). of_picture p ((n + span_count x0 x1) % 2 ^ 64)) (changed-span (record { width = w; height = h; points = ps }) y x0 x1 colour ys shape x1_in y_in count same)

-- the places of the points of a span, from the first to before the end
pub record IsSpan (w y x0 x1 first end : ℕ) : Type 0 where
  pub first_is : first ≡ y * w + min x0 (x1 + 1)
  pub end_is : end ≡ y * w + (x1 + 1)

pub size_of_span : (w y x0 x1 first end : ℕ) → IsSpan w y x0 x1 first end → end - first ≡ span_count x0 x1
size_of_span w y x0 x1 first end span = omega arith

-- the points of a span are written into the parts of a canvas
pub drawn-span : (f : Canvas) (w h : ℕ) (ps qs ys : List ℕ) (n y x0 x1 first end : ℕ) (colour : ℕ → ℕ → ℕ) → canvas w h ps n ≡ f → IsShape w h (length ps) → x1 < f.picture.width → y < f.picture.height → IsSpan f.picture.width y x0 x1 first end
    → length ys ≡ span_count x0 x1 → ((i : ℕ) → i < span_count x0 x1 → get_or ys i 0 ≡ colour (x0 + i) y) → qs ≡ put_mid first (end - first) ps ys
    → canvas w h qs ((n + (end - first)) % 2 ^ 64) ≡ drawn f (in_span y x0 x1) colour (span_count x0 x1)
drawn-span f w h ps qs ys n y x0 x1 first end colour view shape x1_in y_in span count same write =
    let width : w ≡ f.picture.width = ap (λ (g : Canvas). g.picture.width) view in
    let height : h ≡ f.picture.height = ap (λ (g : Canvas). g.picture.height) view in
    let size = size_of_span f.picture.width y x0 x1 first end span in
    let first_is : first ≡ y * w + min x0 (x1 + 1) = rw width span.first_is in
    rw (write, size, first_is) (drawn_span w h ps ys n y x0 x1 colour shape (omega arith) (omega arith) count same) ∙ ap (λ (g : Canvas). drawn g (in_span y x0 x1) colour (span_count x0 x1)) view

-- the points of a span, cut from another picture of the same width
pub get_or-cut : (p : Picture) (w y x0 x1 first end : ℕ) (points : List ℕ) → points ≡ p.points → p.width ≡ w → IsSpan w y x0 x1 first end → (i : ℕ) → i < span_count x0 x1 → get_or (take (end - first) (drop first points)) i 0 ≡ colour_at p (x0 + i) y
get_or-cut p w y x0 x1 first end points same width span i lt =
    let place : first + i ≡ y * w + (x0 + i) = omega (arith, span.first_is) in
    get_or-take (end - first) (drop first points) i 0 (omega (arith, span.first_is, span.end_is)) ∙ get_or-drop first points i 0 ∙ rw (same, place, width) refl

-- a shape whose count is known by another name
pub has_count : (w h n : ℕ) (ps : List ℕ) → IsShape w h n → n ≡ length ps → IsShape w h (length ps)
has_count w h n ps shape e = rw (← e) shape

-- a part of a list has as many elements as places
pub length-part : (first end : ℕ) (xs was : List ℕ) → was ≡ xs → (first ≤ end) × (end ≤ length xs) → length (take (end - first) (drop first was)) ≡ end - first
length-part first end xs was same within = rw same (length-take-le (end - first) (drop first xs) (omega (arith, length-drop first xs, within.0, within.1)))

-- a vector holds just what was written over it where its length stays
pub refilled : (n first end : ℕ) (xs was ys : List ℕ) → n ≡ length xs → was ≡ xs → (first ≤ end) × (end ≤ length xs) → length ys ≡ end - first
    → take n (put_mid first (end - first) was ys ++ drop (length (put_mid first (end - first) was ys)) xs) ≡ put_mid first (end - first) xs ys
refilled n first end xs was ys count same within size =
    let long : length (put_mid first (end - first) xs ys) ≡ n = length-put_mid first (end - first) xs ys (omega (arith, within.0, within.1)) size ∙ sym count in
    rw same (take_at (put_mid first (end - first) xs ys) (drop (length (put_mid first (end - first) xs ys)) xs) n long)
