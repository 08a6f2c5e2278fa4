-- The laws of bodies: each is a bitmap's or has a fault, and not both, and it has one of either.
use Rattle.std.proofs.Common.{◌≡◌, ◌⊎◌, ℕ, ◌+◌, ◌<◌, ◌≤◌, true, false, ltb, List, [], ◌∷◌, ◌++◌, length, Option, Some, None, Result, Ok, Err, refl, sym, ap, subst, ◌∙◌, inl, inr, arith, append_assoc}
use Rattle.std.specs.Prelude.{codes, MatchResult}
use Rattle.std.proofs.lemmas.Bool.Decides.{nat_tests}
use Rattle.std.proofs.lemmas.List.{append-nil, length-append}
use Rattle.spelling.specs.Parts.{lines_of}
use Rattle.spelling.specs.LineReading.{on, on_line, run, IsReading}
use Rattle.spelling.proofs.CallerLemmas as lines
use Rattle.spelling.proofs.CallerLemmas.{run_on}
use Rattle.bitmap.specs.declared.place.Place.{Place}
use Rattle.bitmap.specs.declared.place.Place.TheVariants.{AfterRows, AfterEnd}
use Rattle.bitmap.specs.declared.fault.BitmapWhy.{BitmapWhy}
use Rattle.bitmap.specs.declared.fault.BitmapFault.{BitmapFault}
use Rattle.bitmap.specs.declared.fault.BitmapRefused.{BitmapRefused}
use Rattle.bitmap.specs.declared.fault.BitmapRefused.TheVariants as refused
use Rattle.bitmap.specs.Bitmaps.{Bitmap}
use Rattle.bitmap.specs.Texts.{AreRows, AreLinesOf, IsBody}
use Rattle.bitmap.specs.Faults.{IsPrefix, IsFault, IsRefused, WhyAt, why_at, why_cut}
use Rattle.bitmap.specs.Reading.{Draft, start, row_of, after_line, bitmap_of, or_why, line_step, place_of, from_line, read_of, Says, SaysBitmap}
use Rattle.bitmap.proofs.RowLaws.{row_again, as_many}
use Rattle.bitmap.proofs.DraftLaws.{joined, read_stands, sides_after, prefix_at, whole_says}

-- ---- a bitmap's lines are read

-- after so many rows
abbrev rowed : ℕ → ℕ → ℕ → List (Option ℕ) → Draft
rowed width height many points = record { width = width; height = height; place = AfterRows many; points = points }

-- after the line `end`
abbrev ended : ℕ → ℕ → List (Option ℕ) → Draft
ended width height points = record { width = width; height = height; place = AfterEnd; points = points }

same_rowed : (width height m n : ℕ) (ps qs : List (Option ℕ)) → m ≡ n → ps ≡ qs → rowed width height m ps ≡ rowed width height n qs
same_rowed width height m n ps qs many points = ap (λ (k : ℕ). rowed width height k ps) many ∙ ap (rowed width height n) points

takes_row : (width height many : ℕ) (points row : List (Option ℕ)) (line : List ℕ) → many < height → row_of width line ≡ Some row → line_step (rowed width height many points) line ≡ Ok (rowed width height (many + 1) (points ++ row))
unfolding after_line
takes_row width height many points row line less is =
    let test : ltb many height ≡ true = grind (arith, nat_tests) in
    rw (test, is) refl

takes_end : (width height : ℕ) (points : List (Option ℕ)) → line_step (rowed width height height points) (codes "end") ≡ Ok (ended width height points)
unfolding after_line
takes_end width height points =
    let test : ltb height height ≡ false = grind (arith, nat_tests) in
    rw test refl

goes_on : (d e : Draft) (line : List ℕ) (more : List (List ℕ)) → line_step d line ≡ Ok e → run line_step d (line ∷ more) ≡ run line_step e more
goes_on d e line more is = ap (λ (r : Result Draft BitmapWhy). on r (λ next. run line_step next more)) is

abbrev fine : Draft → Result Draft BitmapWhy
fine d = Ok d

rows_run : (width height many : ℕ) (points : List (Option ℕ)) (prefix : List (List ℕ)) (rows : List (List (Option ℕ))) → AreRows width prefix rows → many + length rows ≤ height → run line_step (rowed width height many points) prefix ≡ Ok (rowed width height (many + length rows) (points ++ joined rows))
rows_run width height many points [] [] each few = ap fine (same_rowed width height many (many + 0) points (points ++ []) (omega arith) (sym (append-nil points)))
rows_run width height many points [] (row ∷ rows) each few = absurd each
rows_run width height many points (line ∷ prefix) [] each few = absurd each
rows_run width height many points (line ∷ prefix) (row ∷ rows) each few =
    let next : Draft = rowed width height (many + 1) (points ++ row) in
    goes_on (rowed width height many points) next line prefix (takes_row width height many points row line (omega arith) (row_again width line row each.0 each.1)) ∙ rows_run width height (many + 1) (points ++ row) prefix rows each.2 (omega arith)
    ∙ ap fine (same_rowed width height (many + 1 + length rows) (many + length (row ∷ rows)) ((points ++ row) ++ joined rows) (points ++ joined (row ∷ rows)) (omega arith) (append_assoc points row (joined rows)))

prefix_run : (width height many : ℕ) (prefix : List (List ℕ)) (rows : List (List (Option ℕ))) → AreRows width prefix rows → length rows ≡ many → many ≤ height → run line_step (start width height) prefix ≡ Ok (rowed width height many (joined rows))
prefix_run width height many prefix rows each count few =
    rows_run width height 0 [] prefix rows each (omega arith) ∙ ap fine (same_rowed width height (0 + length rows) many (joined rows) (joined rows) (omega arith) refl)

all_run : (width height : ℕ) (lines before : List (List ℕ)) (rows : List (List (Option ℕ))) → AreRows width before rows → length rows ≡ height → lines ≡ before ++ codes "end" ∷ [] → run line_step (start width height) lines ≡ Ok (ended width height (joined rows))
all_run width height lines before rows each count spelled =
    let last : Draft = rowed width height height (joined rows) in
    ap (run line_step (start width height)) spelled ∙ run_on line_step (start width height) last before (codes "end" ∷ []) (prefix_run width height height before rows each count (omega arith))
    ∙ goes_on last (ended width height (joined rows)) (codes "end") [] (takes_end width height (joined rows))

-- what is read of a prefix
abbrev IsReadAs : ℕ → ℕ → List (List ℕ) → Place → Type 0
IsReadAs width height prefix place = (d : Draft) × (run line_step (start width height) prefix ≡ Ok d) × (place_of d ≡ place)

prefix_read : (width height : ℕ) (prefix : List (List ℕ)) (place : Place) → IsPrefix width height prefix place → IsReadAs width height prefix place
prefix_read width height prefix (AfterRows many) is = (rowed width height many (joined is.rows), prefix_run width height many prefix is.rows is.each is.count is.few, refl)
prefix_read width height prefix AfterEnd is = (ended width height (joined is.rows), all_run width height prefix is.before is.rows is.each is.count is.spelled, refl)

abbrev bitmap_with : ℕ → ℕ → List (Option ℕ) → Bitmap
bitmap_with width height points = record { width = width; height = height; points = points }

-- all lines of a bitmap are taken
pub whole_read : (width height : ℕ) (lines : List (List ℕ)) (b : Bitmap) → AreLinesOf width height lines b → (d : Draft) × (run line_step (start width height) lines ≡ Ok d) × (d.place ≡ AfterEnd) × (bitmap_of d ≡ b)
whole_read width height lines b is =
    let points : List (Option ℕ) = joined is.rows in (
      ended width height points,
      all_run width height lines is.before is.rows is.each is.count is.spelled,
      refl,
      ap (λ (w : ℕ). bitmap_with w height points) (sym is.wide) ∙ ap (λ (h : ℕ). bitmap_with b.width h points) (sym is.high) ∙ ap (bitmap_with b.width b.height) (sym is.shown),
    )

-- ---- the step reads the prefixes

refused_by : (why : BitmapWhy) (o : Option Draft) (reason : BitmapWhy) → or_why why o ≡ Err reason → reason ≡ why
refused_by why None reason is = cc
refused_by why (Some d) reason is = absurd cc

pub reading : (width height : ℕ) → IsReading line_step (start width height) place_of (IsPrefix width height) (WhyAt height)
reading width height = record {
  sound = λ xs d is. prefix_at width height d.place d xs (read_stands width height xs d is);
  complete = λ xs place prefix. prefix_read width height xs place prefix;
  reasons = λ xs d line reason is wrong. refused_by (why_at d.height d.place) (after_line d line) reason wrong ∙ ap (λ (h : ℕ). why_at h d.place) (sides_after width height xs d is).1;
  one_reason = λ xs place line r s prefix longer is also. is ∙ sym also;
}

-- ---- what reading says

uncut : (place : Place) → why_cut place ≡ None → place ≡ AfterEnd
uncut (AfterRows many) is = absurd cc
uncut AfterEnd is = refl

abbrev Says_of : ℕ → ℕ → List ℕ → Result Draft (ℕ × BitmapWhy) → Type 0
Says_of width height body r = lines.Describes line_step (start width height) place_of (IsPrefix width height) (WhyAt height) why_cut (lines_of body) r

says : (width height : ℕ) (body : List ℕ) → Says_of width height body (read_of width height body)
unfolding read_of
says width height body = lines.read_says line_step (start width height) place_of (IsPrefix width height) (WhyAt height) why_cut (reading width height) (lines_of body)

pub is_fault : (width height : ℕ) (body : List ℕ) (fault : BitmapFault) → read_of width height body ≡ Err (fault.line, fault.why) → IsFault width height body fault
is_fault width height body fault is = subst (Says_of width height body) is (says width height body)

-- for `read`
pub is_answer : (width height : ℕ) (body : List ℕ) (r : Result Bitmap BitmapRefused) → MatchResult r (SaysBitmap (read_of width height body)) (Says (read_of width height body)) → MatchResult r (λ b. IsBody width height body b) (IsRefused width height body)
is_answer width height body (Ok b) is =
    let whole = subst (Says_of width height body) is.1 (says width height body) in
    subst (IsBody width height body) is.3 (whole_says width height (lines_of body) is.0 whole.0 is.2)
is_answer width height body (Err refused.Memory) is = tt
is_answer width height body (Err (refused.Fault fault)) is = is_fault width height body fault is

-- ---- a bitmap or a fault

pub either : (width height : ℕ) (body : List ℕ) → ((b : Bitmap) × IsBody width height body b) ⊎ ((fault : BitmapFault) × IsFault width height body fault)
either width height body =
    elim (lines.either line_step (start width height) place_of (IsPrefix width height) (WhyAt height) why_cut (reading width height) (lines_of body)) [
      | inl whole ↦ inl (bitmap_of whole.0, whole_says width height (lines_of body) whole.0 whole.1 (uncut whole.0.place whole.2))
      | inr fault ↦ inr (record { line = fault.0; why = fault.1 }, fault.2)
    ]

prefix_of : (width height : ℕ) (body : List ℕ) (b : Bitmap) → IsBody width height body b → IsPrefix width height (lines_of body) AfterEnd
prefix_of width height body b is = record { before = is.before; rows = is.rows; each = is.each; count = is.count; spelled = is.spelled }

pub not_both : (width height : ℕ) (body : List ℕ) (b : Bitmap) (fault : BitmapFault) → IsBody width height body b → IsFault width height body fault → ⊥
not_both width height body b fault is wrong =
    lines.not_both line_step (start width height) place_of (IsPrefix width height) (WhyAt height) why_cut (reading width height) (lines_of body) AfterEnd fault.line fault.why (prefix_of width height body b is) refl wrong

-- ---- one of either

same_draft : (o : Result Draft BitmapWhy) (d e : Draft) → o ≡ Ok d → o ≡ Ok e → d ≡ e
same_draft o d e one other = cc

one_of_lines : (width height : ℕ) (lines : List (List ℕ)) (a b : Bitmap) → AreLinesOf width height lines a → AreLinesOf width height lines b → a ≡ b
one_of_lines width height lines a b is also =
    let r = whole_read width height lines a is in
    let s = whole_read width height lines b also in
    sym r.3 ∙ ap (λ (d : Draft). bitmap_of d) (same_draft (run line_step (start width height) lines) r.0 s.0 r.1 s.1) ∙ s.3

pub one_bitmap : (width height : ℕ) (body : List ℕ) (a b : Bitmap) → IsBody width height body a → IsBody width height body b → a ≡ b
one_bitmap width height body a b is also = one_of_lines width height (lines_of body) a b is also

abbrev fault_at : ℕ → BitmapWhy → BitmapFault
fault_at line reason = record { line = line; why = reason }

pub one_fault : (width height : ℕ) (body : List ℕ) (a b : BitmapFault) → IsFault width height body a → IsFault width height body b → a ≡ b
one_fault width height body a b is also =
    let same = lines.one_fault line_step (start width height) place_of (IsPrefix width height) (WhyAt height) why_cut (reading width height) (lines_of body) a.line b.line a.why b.why is also in
    ap (λ (n : ℕ). fault_at n a.why) same.0 ∙ ap (fault_at b.line) same.1

-- ---- a bitmap's lines before others

same_prefixes : (xs ys bs cs : List (List ℕ)) → length xs ≡ length bs → xs ++ ys ≡ bs ++ cs → (xs ≡ bs) × (ys ≡ cs)
same_prefixes [] ys [] cs many is = (refl, is)
same_prefixes [] ys (b ∷ bs) cs many is = absurd (omega arith)
same_prefixes (x ∷ xs) ys [] cs many is = absurd (omega arith)
same_prefixes (x ∷ xs) ys (b ∷ bs) cs many is =
    let head : x ≡ b = cc in
    let tail : xs ++ ys ≡ bs ++ cs = cc in
    let more = same_prefixes xs ys bs cs (omega arith) tail in
    (cc (head, more.0), more.1)

many_lines : (width height : ℕ) (lines : List (List ℕ)) (b : Bitmap) → AreLinesOf width height lines b → length lines ≡ height + 1
many_lines width height lines b is =
    let same = ap length is.spelled in
    let both = length-append is.before (codes "end" ∷ []) in
    let rows = as_many width is.before is.rows is.each in
    let count = is.count in
    omega arith

-- lines that begin with a bitmap's begin with no other's
pub apart : (width height : ℕ) (xs ys bs cs : List (List ℕ)) (a b : Bitmap) → AreLinesOf width height xs a → AreLinesOf width height bs b → xs ++ ys ≡ bs ++ cs → (a ≡ b) × (ys ≡ cs)
apart width height xs ys bs cs a b is also same =
    let parts = same_prefixes xs ys bs cs (many_lines width height xs a is ∙ sym (many_lines width height bs b also)) same in
    (one_of_lines width height bs a b (subst (λ (ls : List (List ℕ)). AreLinesOf width height ls a) parts.0 is) also, parts.1)

-- ---- for the loop

pub reads_on : (n : ℕ) (d e : Draft) (line : List ℕ) (lines : List (List ℕ)) → after_line d line ≡ Some e → from_line n d (line ∷ lines) ≡ from_line (n + 1) e lines
reads_on n d e line lines is = ap (λ (o : Option Draft). on_line n (or_why (why_at d.height d.place) o) (λ next. from_line (n + 1) next lines)) is
