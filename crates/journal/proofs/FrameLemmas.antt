-- The lines of a picture's rows, one after the other.
use Rattle.std.proofs.Common.{◌≡◌, ℕ, ◌+◌, ◌-◌, ◌<◌, ◌≤◌, List, [], ◌∷◌, ◌++◌, Some, drop, refl, ap, ◌∙◌, false, ◌==◌, arith}
use Rattle.std.proofs.lemmas.Bool.Decides.{nat_tests}
use Rattle.std.proofs.lemmas.List.{drop_more, drop_all}
use Rattle.std.proofs.lemmas.List.FromFn.{length-map-range_with_len, get_or-map-range_with_len}
use Rattle.frame.specs.Pictures.{Picture, row_at, row_above, rows_of}
use Rattle.journal.specs.Texts.{row_line, row_lines, frame_header, frame_text}

-- the lines from the row at y on
abbrev pub lines_from : Picture → ℕ → List ℕ
lines_from p y = row_lines (row_above p y) (drop y (rows_of p))

rows_of-drop : (p : Picture) (y : ℕ) → y < p.height → drop y (rows_of p) ≡ row_at p y ∷ drop (y + 1) (rows_of p)
rows_of-drop p y inside =
    let count = length-map-range_with_len (row_at p) 0 p.height in
    drop_more (rows_of p) y [] (omega arith) ∙ ap (λ (row : List ℕ). row ∷ drop (y + 1) (rows_of p)) (get_or-map-range_with_len (row_at p) 0 p.height y y [] inside (omega arith))

add_sub : (y : ℕ) → y + 1 - 1 ≡ y
add_sub y = omega arith

row_above-more : (p : Picture) (y : ℕ) → row_above p (y + 1) ≡ Some (row_at p y)
row_above-more p y =
    let more : y + 1 == 0 ≡ false = grind (arith, nat_tests) in
    rw (more, add_sub y) refl

-- the line of the row at y, and the lines after it
pub lines_from-more : (p : Picture) (y : ℕ) → y < p.height → lines_from p y ≡ row_line (row_above p y) (row_at p y) ++ lines_from p (y + 1)
lines_from-more p y inside = rw (rows_of-drop p y inside, row_above-more p y) refl

pub lines_from-end : (p : Picture) (y : ℕ) → p.height ≤ y → lines_from p y ≡ []
lines_from-end p y end =
    let count = length-map-range_with_len (row_at p) 0 p.height in
    rw (drop_all y (rows_of p) (omega arith)) refl

-- all of a picture's text: its first line, and the lines from the first row on
pub frame_text-parts : (p : Picture) → frame_text p ≡ frame_header p ++ lines_from p 0
unfolding frame_text
frame_text-parts p = refl
