-- The rows of a picture, and what they have in one column.
use Rattle.std.proofs.Common.{◌≡◌, ℕ, ◌+◌, ◌*◌, ◌<◌, ◌≤◌, Bool, true, false, ◌&&◌, ◌==◌, List, [], ◌∷◌, length, get_or, drop, refl, sym, ap, ◌∙◌, arith}
use Rattle.std.specs.List.{prefix_len}
use Rattle.std.proofs.lemmas.Bool.{and_parts, and_from, eqb-true, eq-eqb}
use Rattle.std.proofs.lemmas.List.{drop_more, drop_all, get_or-take, get_or-drop}
use Rattle.std.proofs.lemmas.List.FromFn.{length-map-range_with_len, get_or-map-range_with_len}
use Rattle.frame.specs.Pictures.{Picture, HasShape, row_at, rows_of, colour_at}
use Rattle.frame.proofs.CallerLemmas.{row_at-points}
use Rattle.svg.specs.Rectangles.{run_width, is_same_run, height_at}
use Rattle.svg.proofs.RunLaws.{AreAlike}

pub rows_of-count : (p : Picture) → length (rows_of p) ≡ p.height
rows_of-count p = length-map-range_with_len (row_at p) 0 p.height

pub rows_of-at : (p : Picture) (y : ℕ) → y < p.height → get_or (rows_of p) y [] ≡ row_at p y
rows_of-at p y inside = get_or-map-range_with_len (row_at p) 0 p.height y y [] inside (omega arith)

pub rows_of-drop : (p : Picture) (y : ℕ) → y < p.height → drop y (rows_of p) ≡ row_at p y ∷ drop (y + 1) (rows_of p)
rows_of-drop p y inside =
    let count = rows_of-count p in
    drop_more (rows_of p) y [] (omega arith) ∙ ap (λ (row : List ℕ). row ∷ drop (y + 1) (rows_of p)) (rows_of-at p y inside)

pub row_at-point : (p : Picture) (x y : ℕ) → x < p.width → get_or (row_at p y) x 0 ≡ colour_at p x y
row_at-point p x y inside = get_or-take p.width (drop (y * p.width) p.points) x 0 inside ∙ get_or-drop (y * p.width) p.points x 0

pub length-row : (p : Picture) (y : ℕ) → HasShape p → y < p.height → length (row_at p y) ≡ p.width
length-row p y shape inside = ap length (row_at-points p y shape inside) ∙ length-map-range_with_len (λ x. colour_at p x y) 0 p.width

-- ---- runs of two rows

same_parts : (a b c d : ℕ) → (a == b && c == d) ≡ true → (a ≡ b) × (c ≡ d)
same_parts a b c d both = let parts = and_parts _ _ both in (eqb-true a b parts.0, eqb-true c d parts.1)

same_from : (a b c d : ℕ) → a ≡ b → c ≡ d → (a == b && c == d) ≡ true
same_from a b c d first second = and_from _ _ (eq-eqb a b first) (eq-eqb c d second)

pub same_run : (x : ℕ) (row other : List ℕ) → is_same_run x row other ≡ true → (get_or row x 0 ≡ get_or other x 0) × (run_width row x ≡ run_width other x)
same_run x row other same = same_parts _ _ _ _ same

same_runs : (x : ℕ) (row other : List ℕ) → get_or row x 0 ≡ get_or other x 0 → run_width row x ≡ run_width other x → is_same_run x row other ≡ true
same_runs x row other first second = same_from (get_or row x 0) (get_or other x 0) (run_width row x) (run_width other x) first second

pub rows_alike : (x : ℕ) → AreAlike (is_same_run x)
rows_alike x = record {
  itself = λ row. same_runs x row row refl refl;
  back = λ row other same. let s = same_run x row other same in same_runs x other row (sym s.0) (sym s.1);
  on = λ row other last same more. let s = same_run x row other same in let t = same_run x other last more in same_runs x row last (s.0 ∙ t.0) (s.1 ∙ t.1);
}

pub same_at : (p : Picture) (x y end : ℕ) (a b : List ℕ) (r t : Bool) → a ≡ row_at p end → b ≡ row_at p y → r ≡ is_same_run x a b → r ≡ t → is_same_run x (row_at p end) (row_at p y) ≡ t
same_at p x y end a b r t first second is test = ap (λ (l : List ℕ). is_same_run x l (row_at p y)) (sym first) ∙ ap (is_same_run x a) (sym second) ∙ sym is ∙ test

-- ---- how many rows from one on have a row's run

abbrev pub rows_with : Picture → ℕ → ℕ → List ℕ → ℕ
rows_with p x end row = prefix_len (λ other. is_same_run x other row) (drop end (rows_of p))

pub rows_with-more : (p : Picture) (x end : ℕ) (row : List ℕ) → end < p.height → is_same_run x (row_at p end) row ≡ true → rows_with p x end row ≡ 1 + rows_with p x (end + 1) row
rows_with-more p x end row inside same = rw (rows_of-drop p end inside, same) refl

pub rows_with-other : (p : Picture) (x end : ℕ) (row : List ℕ) → end < p.height → is_same_run x (row_at p end) row ≡ false → rows_with p x end row ≡ 0
rows_with-other p x end row inside other = rw (rows_of-drop p end inside, other) refl

pub rows_with-end : (p : Picture) (x end : ℕ) (row : List ℕ) → p.height ≤ end → rows_with p x end row ≡ 0
rows_with-end p x end row end_at =
    let count = rows_of-count p in
    rw (drop_all end (rows_of p) (omega arith)) refl

pub height_at-first : (p : Picture) (x y : ℕ) → y < p.height → height_at p x y ≡ 1 + rows_with p x (y + 1) (row_at p y)
height_at-first p x y inside = rows_with-more p x y (row_at p y) inside ((rows_alike x).itself (row_at p y))
