-- The lists of numbers that loops go through.
use Rattle.std.proofs.Common.{◌≡◌, ℕ, suc, ◌+◌, ◌-◌, ◌<◌, ◌≤◌, List, [], ◌∷◌, ◌++◌, refl, ap, ◌∙◌, append_assoc, arith}
use Rattle.std.specs.Prelude.{codes}
use Rattle.std.specs.List.{flat_map, range_with_len}
use Rattle.std.proofs.lemmas.List.Concat.{flat_map-append}
use Rattle.frame.specs.Pictures.{Picture}
use Rattle.svg.specs.Rectangles.{rectangles_at, rectangles_of_row}
use Rattle.svg.specs.Texts.{rectangle_text, svg_head, svg_text}

range-more : (i n : ℕ) → i < n → range_with_len i (n - i) ≡ i ∷ range_with_len (i + 1) (n - (i + 1))
range-more i n below =
    let left : n - i ≡ suc (n - (i + 1)) = omega arith in
    rw left refl

range-end : (i n : ℕ) → n ≤ i → range_with_len i (n - i) ≡ []
range-end i n end =
    let none : n - i ≡ 0 = omega arith in
    rw none refl

-- the text of the rectangles in row y from column x on
abbrev pub row_from : Picture → ℕ → ℕ → List ℕ
row_from p y x = flat_map rectangle_text (flat_map (rectangles_at p y) (range_with_len x (p.width - x)))

pub row_from-first : (p : Picture) (y : ℕ) → flat_map rectangle_text (rectangles_of_row p y) ≡ row_from p y 0
row_from-first p y =
    let all : p.width ≡ p.width - 0 = omega arith in
    ap (λ (n : ℕ). flat_map rectangle_text (flat_map (rectangles_at p y) (range_with_len 0 n))) all

pub row_from-more : (p : Picture) (y x : ℕ) → x < p.width → row_from p y x ≡ flat_map rectangle_text (rectangles_at p y x) ++ row_from p y (x + 1)
row_from-more p y x inside =
    ap (λ (l : List ℕ). flat_map rectangle_text (flat_map (rectangles_at p y) l)) (range-more x p.width inside)
    ∙ flat_map-append rectangle_text (rectangles_at p y x) (flat_map (rectangles_at p y) (range_with_len (x + 1) (p.width - (x + 1))))

pub row_from-end : (p : Picture) (y x : ℕ) → p.width ≤ x → row_from p y x ≡ []
row_from-end p y x end = ap (λ (l : List ℕ). flat_map rectangle_text (flat_map (rectangles_at p y) l)) (range-end x p.width end)

-- the text from the rectangles of row y on
abbrev pub rest_from : Picture → ℕ → List ℕ
rest_from p y = flat_map rectangle_text (flat_map (rectangles_of_row p) (range_with_len y (p.height - y))) ++ codes "</svg>\n"

pub svg_text-parts : (p : Picture) → svg_text p ≡ svg_head p.width p.height ++ rest_from p 0
unfolding svg_text
svg_text-parts p =
    let all : p.height ≡ p.height - 0 = omega arith in
    ap (λ (n : ℕ). svg_head p.width p.height ++ (flat_map rectangle_text (flat_map (rectangles_of_row p) (range_with_len 0 n)) ++ codes "</svg>\n")) all

pub rest_from-more : (p : Picture) (y : ℕ) → y < p.height → rest_from p y ≡ flat_map rectangle_text (rectangles_of_row p y) ++ rest_from p (y + 1)
rest_from-more p y inside =
    ap (λ (l : List ℕ). flat_map rectangle_text (flat_map (rectangles_of_row p) l) ++ codes "</svg>\n") (range-more y p.height inside)
    ∙ ap (λ (text : List ℕ). text ++ codes "</svg>\n") (flat_map-append rectangle_text (rectangles_of_row p y) (flat_map (rectangles_of_row p) (range_with_len (y + 1) (p.height - (y + 1)))))
    ∙ append_assoc (flat_map rectangle_text (rectangles_of_row p y)) (flat_map rectangle_text (flat_map (rectangles_of_row p) (range_with_len (y + 1) (p.height - (y + 1))))) (codes "</svg>\n")

pub rest_from-end : (p : Picture) (y : ℕ) → p.height ≤ y → rest_from p y ≡ codes "</svg>\n"
rest_from-end p y end = ap (λ (l : List ℕ). flat_map rectangle_text (flat_map (rectangles_of_row p) l) ++ codes "</svg>\n") (range-end y p.height end)
