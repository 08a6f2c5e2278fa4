-- Frame texts as the journal writes them: they are read as their pictures.
use Rattle.std.proofs.Common.{◌≡◌, ℕ, zero, suc, ◌+◌, ◌-◌, ◌*◌, ◌<◌, ◌≤◌, true, false, cond, ◌==◌, List, [], ◌∷◌, ◌++◌, length, map, take, drop, Option, Some, None, Result, Ok, refl, sym, ap, subst, ◌∙◌, inl, inr, arith, append_assoc, lit<}
use Rattle.std.specs.Prelude.{bytes_eq, codes, decimal}
use Rattle.std.specs.List.{AllByRecursion, range_with_len}
use Rattle.std.proofs.lemmas.Bool.{cases_Bool, cond_both}
use Rattle.std.proofs.lemmas.Bool.Decides.{nat_tests}
use Rattle.std.proofs.lemmas.List.{append-nil, drop_all, drop-take, take-take, take_all}
use Rattle.std.proofs.lemmas.List.Elements.{All-from_recursion}
use Rattle.std.proofs.lemmas.List.Splits.{slice_split_at, length-slice_split}
use Rattle.std.proofs.Math.Seq.{take-add}
use Rattle.frame.specs.Pictures.{Picture, HasShape, colour_at, row_at, row_above, rows_of}
use Rattle.frame.proofs.CallerLemmas.{row_at-points}
use Rattle.spelling.specs.Parts.{parts, closed, lines_of}
use Rattle.spelling.specs.Words.{words_of, natural_at}
use Rattle.spelling.proofs.CallerLemmas.{IsWhole, parts-join, named, natural_in_again}
use Rattle.journal.specs.Texts.{points_line, row_line, row_lines, frame_text}
use Rattle.svg.specs.declared.draft.Draft.{Draft}
use Rattle.svg.specs.declared.fault.Reason.{Reason}
use Rattle.svg.specs.Pictures.{PartOfPicture, HasColours}
use Rattle.svg.specs.Reading.{row_of, sides_of, opened, start, with_picture, with_part, with_row, after_row, after_other, step_at, line_step, on_line, picture_from, picture_in}
use Rattle.svg.proofs.ColumnLemmas.{rows_of-count, rows_of-drop, length-row}
use Rattle.svg.proofs.RunTextLaws.{IsColour, row_text, row_again, not_above, row_text-whole, decimal_whole, whole-append}

colours_between : (f : ℕ → ℕ) (from n : ℕ) → ((i : ℕ) → i < from + n → IsColour (f i)) → AllByRecursion IsColour (map f (range_with_len from n))
colours_between f from zero each = tt
colours_between f from (suc n) each = (each from (omega arith), colours_between f (from + 1) n (λ i below. each i (omega arith)))

row_colours : (p : Picture) (y : ℕ) → HasShape p → HasColours p → y < p.height → AllByRecursion IsColour (row_at p y)
row_colours p y shape colours inside =
    subst (AllByRecursion IsColour) (sym (row_at-points p y shape inside)) (colours_between (λ x. colour_at p x y) 0 p.width (λ x in_width. colours x y (omega arith) inside))

-- ---- lines

-- a row's line without its end
abbrev row_body : Option (List ℕ) → List ℕ → List ℕ
row_body None row = row_text row
row_body (Some above) row = cond (bytes_eq above row) (codes "=") (row_text row)

row_line-body : (above : Option (List ℕ)) (row : List ℕ) → row_line above row ≡ row_body above row ++ 10 ∷ []
unfolding points_line
row_line-body None row = refl
row_line-body (Some above) row = elim (cases_Bool (bytes_eq above row)) [ inl same ↦ rw same refl | inr other ↦ rw other refl ]

row_body-whole : (above : Option (List ℕ)) (row : List ℕ) → length row ≤ 1024 → IsWhole 10 (row_body above row)
row_body-whole None row few = row_text-whole row few
row_body-whole (Some above) row few = cond_both (bytes_eq above row) (codes "=") (row_text row) (IsWhole 10) (λ same. (refl, tt)) (λ other. row_text-whole row few)

closed-more : (line : List ℕ) (lines : List (List ℕ)) → 0 < length lines → closed (line ∷ lines) ≡ line ∷ closed lines
closed-more line [] some = absurd (omega arith)
closed-more line (next ∷ lines) some = refl

-- the first line of a text, and the text after it
pub line_first : (line rest : List ℕ) → IsWhole 10 line → lines_of (line ++ 10 ∷ rest) ≡ line ∷ lines_of rest
line_first line rest whole =
    let some = length-slice_split (λ b. b == 10) rest in
    ap closed (slice_split_at (λ b. b == 10) line 10 rest (All-from_recursion _ line whole) refl) ∙ closed-more line (parts 10 rest) (omega arith)

-- ---- the first line of a frame text

abbrev header_words : Picture → List (List ℕ)
header_words p = codes "frame" ∷ decimal p.width ∷ decimal p.height ∷ []

abbrev header_body : Picture → List ℕ
header_body p = codes "frame " ++ (decimal p.width ++ 32 ∷ decimal p.height)

header-whole : (p : Picture) → HasShape p → IsWhole 10 (header_body p)
header-whole p shape =
    let wide = shape.most_width in
    let high = shape.most_height in
    whole-append 10 (codes "frame ") (decimal p.width ++ 32 ∷ decimal p.height) (refl, (refl, (refl, (refl, (refl, (refl, tt))))))
    (whole-append 10 (decimal p.width) (32 ∷ decimal p.height) (decimal_whole 10 p.width (lit< tt) (omega arith)) (refl, decimal_whole 10 p.height (lit< tt) (omega arith)))

header-words : (p : Picture) → HasShape p → words_of (header_body p) ≡ header_words p
header-words p shape =
    let wide = shape.most_width in
    let high = shape.most_height in
    parts-join 32 (codes "frame") (decimal p.width ∷ decimal p.height ∷ [])
    ((refl, (refl, (refl, (refl, (refl, tt))))), (decimal_whole 32 p.width (lit< tt) (omega arith), (decimal_whole 32 p.height (lit< tt) (omega arith), tt)))

header-sides : (p : Picture) → HasShape p → sides_of (header_words p) ≡ Some (p.width, p.height)
unfolding sides_of natural_at
header-sides p shape = rw (natural_in_again 1 1024 p.width shape.some_width shape.most_width (lit< tt), natural_in_again 1 768 p.height shape.some_height shape.most_height (lit< tt)) refl

header-read : (p : Picture) (d : Draft) → HasShape p → after_other d (header_body p) ≡ Ok (with_part d (opened p.width p.height))
unfolding after_other
header-read p d shape = rw (header-words p shape, header-sides p shape) refl

-- ---- the rows of a frame text

-- the first rows of a picture
abbrev first_rows : Picture → ℕ → PartOfPicture
first_rows p y = record { picture = record { width = p.width; height = p.height; points = take (y * p.width) p.points }; rows = y }

row_more : (p : Picture) (y : ℕ) → take (y * p.width) p.points ++ row_at p y ≡ take ((y + 1) * p.width) p.points
row_more p y =
    let more : (y + 1) * p.width ≡ y * p.width + p.width = omega arith in
    sym (take-add (y * p.width) p.width p.points) ∙ ap (λ (n : ℕ). take n p.points) (sym more)

runs_read : (p : Picture) (y : ℕ) (points : List ℕ) → HasShape p → HasColours p → y < p.height → row_of p.width y points (row_text (row_at p y)) ≡ Ok (row_at p y)
unfolding row_of
runs_read p y points shape colours inside =
    let again = row_again p.width (row_at p y) (length-row p y shape inside) shape.some_width shape.most_width (row_colours p y shape colours inside) in
    rw (not_above p.width (row_text (row_at p y)) (row_at p y) again, again) refl

above_read : (p : Picture) (y : ℕ) → row_of p.width (y + 1) (take ((y + 1) * p.width) p.points) (codes "=") ≡ Ok (row_at p y)
unfolding row_of
above_read p y =
    let later : (y + 1 == 0) ≡ false = grind (arith, nat_tests) in
    let back : y + 1 - 1 ≡ y = omega arith in
    let more : (y + 1) * p.width ≡ y * p.width + p.width = omega arith in
    rw (later, back, more) (ap (λ (ps : List ℕ). Ok (take p.width ps)) (drop-take (y * p.width) p.width p.points) ∙ ap (λ (ps : List ℕ). Ok ps) (take-take p.width p.width (drop (y * p.width) p.points) (omega arith)))

row_above-more : (p : Picture) (y : ℕ) → row_above p (y + 1) ≡ Some (row_at p y)
row_above-more p y =
    let later : (y + 1 == 0) ≡ false = grind (arith, nat_tests) in
    let back : y + 1 - 1 ≡ y = omega arith in
    rw (later, back) refl

row_read : (p : Picture) (y : ℕ) → HasShape p → HasColours p → y < p.height → row_of p.width y (take (y * p.width) p.points) (row_body (row_above p y) (row_at p y)) ≡ Ok (row_at p y)
row_read p zero shape colours inside = runs_read p 0 (take (0 * p.width) p.points) shape colours inside
row_read p (suc z) shape colours inside =
    let one_more : z + 1 ≡ suc z = omega arith in
    subst (λ (y : ℕ). row_of p.width y (take (y * p.width) p.points) (row_body (row_above p y) (row_at p y)) ≡ Ok (row_at p y)) one_more
    (rw (row_above-more p z)
    (elim (cases_Bool (bytes_eq (row_at p z) (row_at p (z + 1)))) [
      | inl same ↦ rw same (above_read p z ∙ ap (λ (row : List ℕ). Ok row) (named (row_at p z) (row_at p (z + 1)) same))
      | inr other ↦ rw other (runs_read p (z + 1) (take ((z + 1) * p.width) p.points) shape colours (omega arith))
    ]))

row_taken : (p : Picture) (d : Draft) (y : ℕ) → HasShape p → HasColours p → y < p.height → after_row d (first_rows p y) (row_body (row_above p y) (row_at p y)) ≡ Ok (with_row d (first_rows p y) (row_at p y))
unfolding after_row
row_taken p d y shape colours inside = rw (row_read p y shape colours inside) refl

picture-of : (p : Picture) (points : List ℕ) → points ≡ p.points → ◌≡◌ {A = Picture} (record { width = p.width; height = p.height; points = points }) p
picture-of p points is = rw is refl

last_row : (p : Picture) (d : Draft) (y : ℕ) → HasShape p → y + 1 ≡ p.height → with_row d (first_rows p y) (row_at p y) ≡ with_picture d p
last_row p d y shape end =
    let all = shape.count_is in
    let test : (y + 1 == p.height) ≡ true = grind (arith, nat_tests) in
    let points : take (y * p.width) p.points ++ row_at p y ≡ p.points = row_more p y ∙ ap (λ (n : ℕ). take (n * p.width) p.points) end ∙ take_all (p.height * p.width) p.points (omega arith) in
    rw test (ap (with_picture d) (picture-of p (take (y * p.width) p.points ++ row_at p y) points))

next_row : (p : Picture) (d : Draft) (y : ℕ) → y + 1 < p.height → with_row d (first_rows p y) (row_at p y) ≡ with_part d (first_rows p (y + 1))
next_row p d y more =
    let test : (y + 1 == p.height) ≡ false = grind (arith, nat_tests) in
    rw test (ap (λ (points : List ℕ). with_part d (record { picture = record { width = p.width; height = p.height; points = points }; rows = y + 1 })) (row_more p y))

-- the lines from the row at y on
abbrev lines_from : Picture → ℕ → List ℕ
lines_from p y = row_lines (row_above p y) (drop y (rows_of p))

lines_from-more : (p : Picture) (y : ℕ) (rest : List ℕ) → y < p.height → lines_from p y ++ rest ≡ row_body (row_above p y) (row_at p y) ++ 10 ∷ (lines_from p (y + 1) ++ rest)
lines_from-more p y rest inside =
    let body : List ℕ = row_body (row_above p y) (row_at p y) in
    ap (λ (rows : List (List ℕ)). row_lines (row_above p y) rows ++ rest) (rows_of-drop p y inside)
    ∙ ap (λ (line : List ℕ). (line ++ row_lines (Some (row_at p y)) (drop (y + 1) (rows_of p))) ++ rest) (row_line-body (row_above p y) (row_at p y))
    ∙ ap (λ (above : Option (List ℕ)). ((body ++ 10 ∷ []) ++ row_lines above (drop (y + 1) (rows_of p))) ++ rest) (sym (row_above-more p y))
    ∙ simp append_assoc

lines_from-end : (p : Picture) (rest : List ℕ) → lines_from p p.height ++ rest ≡ rest
lines_from-end p rest =
    let count = rows_of-count p in
    rw (drop_all p.height (rows_of p) (omega arith)) refl

pub step_on : (n : ℕ) (d next : Draft) (line : List ℕ) (lines : List (List ℕ)) → line_step d line ≡ Ok next → picture_from n d (line ∷ lines) ≡ picture_from (n + 1) next lines
step_on n d next line lines is = ap (λ (r : Result Draft Reason). on_line n r (λ next. picture_from (n + 1) next lines)) is

row_on : (p : Picture) (d : Draft) (n y : ℕ) (rest : List ℕ) → HasShape p → HasColours p → y < p.height → d.part ≡ Some (first_rows p y)
    → picture_from n d (lines_of (lines_from p y ++ rest)) ≡ picture_from (n + 1) (with_row d (first_rows p y) (row_at p y)) (lines_of (lines_from p (y + 1) ++ rest))
row_on p d n y rest shape colours inside here =
    let body : List ℕ = row_body (row_above p y) (row_at p y) in
    let few = shape.most_width in
    let wide = length-row p y shape inside in
    ap (λ (text : List ℕ). picture_from n d (lines_of text)) (lines_from-more p y rest inside)
    ∙ ap (picture_from n d) (line_first body (lines_from p (y + 1) ++ rest) (row_body-whole (row_above p y) (row_at p y) (omega arith)))
    ∙ step_on n d (with_row d (first_rows p y) (row_at p y)) body (lines_of (lines_from p (y + 1) ++ rest)) (ap (λ (part : Option PartOfPicture). step_at part d body) here ∙ row_taken p d y shape colours inside)

rows_on : (left : ℕ) (p : Picture) (d : Draft) (n y : ℕ) (rest : List ℕ) → HasShape p → HasColours p → y + suc left ≡ p.height → d.part ≡ Some (first_rows p y)
    → picture_from n d (lines_of (lines_from p y ++ rest)) ≡ picture_from (n + suc left) (with_picture d p) (lines_of rest)
rows_on zero p d n y rest shape colours count here =
    let end : y + 1 ≡ p.height = omega arith in
    row_on p d n y rest shape colours (omega arith) here
    ∙ ap (λ (next : Draft). picture_from (n + 1) next (lines_of (lines_from p (y + 1) ++ rest))) (last_row p d y shape end)
    ∙ ap (λ (z : ℕ). picture_from (n + 1) (with_picture d p) (lines_of (lines_from p z ++ rest))) end
    ∙ ap (λ (text : List ℕ). picture_from (n + 1) (with_picture d p) (lines_of text)) (lines_from-end p rest)
rows_on (suc left) p d n y rest shape colours count here =
    let next : Draft = with_part d (first_rows p (y + 1)) in
    let counted : n + 1 + suc left ≡ n + suc (suc left) = omega arith in
    row_on p d n y rest shape colours (omega arith) here
    ∙ ap (λ (next : Draft). picture_from (n + 1) next (lines_of (lines_from p (y + 1) ++ rest))) (next_row p d y (omega arith))
    ∙ rows_on left p next (n + 1) (y + 1) rest shape colours (omega arith) refl
    ∙ ap (λ (m : ℕ). picture_from m (with_picture d p) (lines_of rest)) counted

-- ---- the whole text

frame_text-parts : (p : Picture) (rest : List ℕ) → frame_text p ++ rest ≡ header_body p ++ 10 ∷ (lines_from p 0 ++ rest)
unfolding frame_text
frame_text-parts p rest = simp append_assoc

start_rows : (p : Picture) → opened p.width p.height ≡ first_rows p 0
start_rows p =
    let none : 0 * p.width ≡ 0 = omega arith in
    rw none refl

pub frame_read : (p : Picture) (d : Draft) (n : ℕ) (rest : List ℕ) → HasShape p → HasColours p → d.part ≡ None → picture_from n d (lines_of (frame_text p ++ rest)) ≡ picture_from (n + (p.height + 1)) (with_picture d p) (lines_of rest)
frame_read p d n rest shape colours none =
    let some = shape.some_height in
    let left : ℕ = p.height - 1 in
    let next : Draft = with_part d (first_rows p 0) in
    let counted : n + 1 + suc left ≡ n + (p.height + 1) = omega arith in
    ap (λ (text : List ℕ). picture_from n d (lines_of text)) (frame_text-parts p rest)
    ∙ ap (picture_from n d) (line_first (header_body p) (lines_from p 0 ++ rest) (header-whole p shape))
    ∙ step_on n d next (header_body p) (lines_of (lines_from p 0 ++ rest)) (ap (λ (part : Option PartOfPicture). step_at part d (header_body p)) none ∙ header-read p d shape ∙ ap (λ (part : PartOfPicture). Ok (with_part d part)) (start_rows p))
    ∙ rows_on left p next (n + 1) 0 rest shape colours (omega arith) refl
    ∙ ap (λ (m : ℕ). picture_from m (with_picture d p) (lines_of rest)) counted

pub picture_read : (p : Picture) → HasShape p → HasColours p → picture_in None (frame_text p) ≡ Ok p
unfolding picture_in
picture_read p shape colours =
    ap (λ (text : List ℕ). picture_from 1 (start None) (lines_of text)) (sym (append-nil (frame_text p))) ∙ frame_read p (start None) 1 [] shape colours refl
