-- Rows of a frame, copied one after the other.
use Rattle.std.proofs.Common.{◌≡◌, ℕ, ◌+◌, ◌-◌, ◌*◌, ◌/◌, ◌%◌, ◌<◌, ◌≤◌, List, [], ◌∷◌, ◌++◌, length, get_or, take, drop, map, refl, ap, ◌∙◌, inl, inr, arith}
use Rattle.std.specs.List.{range_with_len}
use borrow.Rule.Slice.PartMut.{put_mid}
use Rattle.std.proofs.Math.Nat.{mul-le-mul_right}
use Rattle.std.proofs.lemmas.Bool.{cases_lt}
use Rattle.std.proofs.lemmas.Slice.{take-put_mid}
use Rattle.std.proofs.lemmas.List.{length-take-le, length-append, length-drop, get_or-take, get_or-drop, get_or_append_left, get_or-append_right}
use Rattle.std.proofs.lemmas.List.FromFn.{fill_by_all, get_or-map-range_with_len}
use Rattle.std.proofs.lemmas.Nat.{div-mul-add, mod-mul-add}
use Rattle.frame.specs.Pictures.{Picture, HasShape, colour_at, row_at}

pub length_row : (p : Picture) (y : ℕ) → HasShape p → y < p.height → length (row_at p y) ≡ p.width
length_row p y shape lt =
    let all = mul-le-mul_right p.width lt in
    length-take-le p.width (drop (y * p.width) p.points) (omega (arith, all, shape.count_is, length-drop (y * p.width) p.points))

-- a point of a part of a row
row_point : (p : Picture) (x y n k : ℕ) → HasShape p → y < p.height → x + n ≤ p.width → k < n → get_or (take n (drop x (row_at p y))) k 0 ≡ colour_at p (x + k) y
row_point p x y n k shape down across lt =
    get_or-take n (drop x (row_at p y)) k 0 lt
    ∙ get_or-drop x (row_at p y) k 0
    ∙ get_or-take p.width (drop (y * p.width) p.points) (x + k) 0 (omega arith)
    ∙ get_or-drop (y * p.width) p.points (x + k) 0

abbrev point_in : Picture → ℕ → ℕ → ℕ → ℕ → ℕ
point_in p x y w i = colour_at p (x + i % w) (y + i / w)

-- one row more
pub row_copied : (p : Picture) (x y w v at to n m : ℕ) (old part : List ℕ) → HasShape p → x + w ≤ p.width → y + v < p.height → at ≡ v * w → to ≡ at + w → at ≤ length old → part ≡ take n (drop x (row_at p (y + v))) → n ≡ w
    → take at old ≡ map (λ i. colour_at p (x + i % w) (y + i / w)) (range_with_len 0 at)
    → take to (put_mid at m old part) ≡ map (λ i. colour_at p (x + i % w) (y + i / w)) (range_with_len 0 to)
row_copied p x y w v at to n m old part shape across down place end room is wide before =
    let row_long = length_row p (y + v) shape down in
    let part_long : length part ≡ w = ap length is ∙ (length-take-le n (drop x (row_at p (y + v))) (omega (arith, row_long, length-drop x (row_at p (y + v)))) ∙ wide) in
    let prefix_long = length-take-le at old room in
    take-put_mid at m old part to (omega (arith, part_long, end)) room
    ∙ fill_by_all (point_in p x y w) (take at old ++ part) to 0 (omega (arith, end, length-append (take at old) part, part_long, prefix_long)) (λ k lt.
    elim (cases_lt k at) [
      | inl less ↦
          get_or_append_left (take at old) part 0 k (omega (arith, prefix_long, less))
          ∙ ap (λ (xs : List ℕ). get_or xs k 0) before
          ∙ get_or-map-range_with_len (point_in p x y w) 0 at k k 0 less (omega arith)
      | inr from ↦
          let e : k ≡ v * w + (k - at) = omega (arith, place, from) in
          let in_row : k - at < w = omega (arith, lt, from, end) in
          let column : k % w ≡ k - at = ap (λ i. i % w) e ∙ mod-mul-add v w (k - at) in_row in
          let row : k / w ≡ v = ap (λ i. i / w) e ∙ div-mul-add v w (k - at) in_row in
          get_or-append_right (take at old) part at k 0 prefix_long from
          ∙ ap (λ (xs : List ℕ). get_or xs (k - at) 0) is
          ∙ row_point p x (y + v) n (k - at) shape down (omega (arith, wide, across)) (omega (arith, wide, in_row))
          ∙ rw (column, row) refl
    ])

-- the values of colours that were copied
pub map_again : (g : ℕ → ℕ) (f : ℕ → ℕ) (xs : List ℕ) → map g (map f xs) ≡ map (λ i. g (f i)) xs
map_again g f [] = refl
map_again g f (x ∷ xs) = ap (λ (ys : List ℕ). g (f x) ∷ ys) (map_again g f xs)

pub sides_few : (w h : ℕ) → w ≤ 16 → h ≤ 16 → h * w ≤ 256
sides_few w h wide high = omega (arith, mul-le-mul_right w high)

pub sides_some : (w h : ℕ) → 1 ≤ w → 1 ≤ h → 1 ≤ h * w
sides_some w h wide high = omega (arith, wide, mul-le-mul_right w high)
