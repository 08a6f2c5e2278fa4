-- What a draft says of the lines that were read.
use Rattle.std.proofs.Common.{◌≡◌, ℕ, ◌+◌, ◌*◌, ◌<◌, ◌≤◌, true, false, ltb, List, [], ◌∷◌, ◌++◌, length, Option, Some, None, Ok, refl, sym, ap, subst, ◌∙◌, inl, inr, arith, append_assoc}
use Rattle.std.specs.Prelude.{bytes_eq, codes}
use Rattle.std.specs.List.{flat_map}
use Rattle.std.proofs.lemmas.Bool.Decides.{nat_tests}
use Rattle.std.proofs.lemmas.List.{append-nil, length-append}
use Rattle.std.proofs.lemmas.List.Concat.{flat_map-append}
use Rattle.std.proofs.lemmas.Option.{same_Some}
use Rattle.spelling.specs.LineReading.{run}
use Rattle.spelling.proofs.CallerLemmas.{chosen, named, on_ok}
use Rattle.bitmap.specs.declared.place.Place.{Place}
use Rattle.bitmap.specs.declared.place.Place.TheVariants.{AfterRows, AfterEnd}
use Rattle.bitmap.specs.declared.fault.BitmapWhy.{BitmapWhy}
use Rattle.bitmap.specs.Texts.{AreRows, AreLinesOf}
use Rattle.bitmap.specs.Faults.{IsPrefix}
use Rattle.bitmap.specs.Reading.{Draft, start, row_of, with_row, after_end, after_at, after_line, is_end, is_whole, bitmap_of, rows_at, IsDraft, or_why, line_step}
use Rattle.bitmap.proofs.RowLaws.{row_takes, one_more}

abbrev pub joined : List (List (Option ℕ)) → List (Option ℕ)
joined rows = flat_map (λ row. row) rows

-- ---- one line

-- with a row more
abbrev row_on : Draft → ℕ → List (Option ℕ) → Draft
row_on d many row = record d { place = AfterRows (many + 1); points = d.points ++ row }

with_row_some : (d e : Draft) (many : ℕ) (o : Option (List (Option ℕ))) → with_row d many o ≡ Some e → (row : List (Option ℕ)) × (o ≡ Some row) × (row_on d many row ≡ e)
with_row_some d e many None is = absurd cc
with_row_some d e many (Some row) is = (row, refl, same_Some (row_on d many row) e is)

after_end_some : (d e : Draft) (line : List ℕ) → after_end d line ≡ Some e → (line ≡ codes "end") × (record d { place = AfterEnd } ≡ e)
after_end_some d e line is =
    elim (chosen (bytes_eq line (codes "end")) (Some (record d { place = AfterEnd })) None (Some e) is) [
      | inl end ↦ (named line (codes "end") end.0, same_Some (record d { place = AfterEnd }) e end.1)
      | inr other ↦ absurd (cc other.1)
    ]

-- what the next line is, and the draft after it
data Line (d e : Draft) (many : ℕ) (line : List ℕ) : Type 0 where
  a_row : (row : List (Option ℕ)) → many < d.height → row_of d.width line ≡ Some row → row_on d many row ≡ e → Line d e many line
  the_end : d.height ≤ many → line ≡ codes "end" → record d { place = AfterEnd } ≡ e → Line d e many line

less_by_test : (m n : ℕ) → ltb m n ≡ true → m < n
less_by_test m n test = grind (arith, nat_tests)

more_by_test : (m n : ℕ) → ltb m n ≡ false → n ≤ m
more_by_test m n test = grind (arith, nat_tests)

line_at : (d e : Draft) (many : ℕ) (line : List ℕ) → after_at (AfterRows many) d line ≡ Some e → Line d e many line
line_at d e many line is =
    elim (chosen (ltb many d.height) (with_row d many (row_of d.width line)) (after_end d line) (Some e) is) [
      | inl row ↦ let r = with_row_some d e many (row_of d.width line) row.1 in a_row r.0 (less_by_test many d.height row.0) r.1 r.2
      | inr end ↦ let r = after_end_some d e line end.1 in the_end (more_by_test many d.height end.0) r.0 r.1
    ]

pub nothing_after : (d e : Draft) (line : List ℕ) → d.place ≡ AfterEnd → after_line d line ≡ Some e → ⊥
unfolding after_line
nothing_after d e line whole is = let none : after_line d line ≡ None = ap (λ (at : Place). after_at at d line) whole in absurd (cc (sym none ∙ is))

-- ---- what drafts keep

pub start_is_draft : (width height : ℕ) → 1 ≤ width → width ≤ 256 → 1 ≤ height → height ≤ 256 → IsDraft (start width height)
start_is_draft width height some_width most_width some_height most_height = record {
  some_width = some_width;
  most_width = most_width;
  some_height = some_height;
  most_height = most_height;
  few = omega arith;
  count_is = omega arith;
}

-- how many lines were read
abbrev pub lines_at : ℕ → Place → ℕ
lines_at height (AfterRows many) = many
lines_at height AfterEnd = height + 1

-- a draft after a line, and its count of lines
record Goes (d e : Draft) : Type 0 where
  pub draft : IsDraft e
  pub count : lines_at e.height e.place ≡ lines_at d.height d.place + 1

line_goes : (d e : Draft) (many : ℕ) (line : List ℕ) → IsDraft d → d.place ≡ AfterRows many → Line d e many line → Goes d e
line_goes d e many line is place (a_row row less read same) =
    let count : length d.points ≡ many * d.width = subst (λ (at : Place). length d.points ≡ rows_at d.height at * d.width) place is.count_is in
    let wide : length row ≡ d.width = (row_takes d.width line row read).1 in
    let both = length-append d.points row in
    subst (Goes d) same (record {
      draft = record { some_width = is.some_width; most_width = is.most_width; some_height = is.some_height; most_height = is.most_height; few = omega arith; count_is = omega arith };
      count = ap (λ (at : Place). lines_at d.height at + 1) (sym place);
    })
line_goes d e many line is place (the_end more spelled same) =
    let count : length d.points ≡ many * d.width = subst (λ (at : Place). length d.points ≡ rows_at d.height at * d.width) place is.count_is in
    let few : many ≤ d.height = subst (λ (at : Place). rows_at d.height at ≤ d.height) place is.few in
    let all : many ≡ d.height = omega arith in
    subst (Goes d) same (record {
      draft = record { some_width = is.some_width; most_width = is.most_width; some_height = is.some_height; most_height = is.most_height; few = omega arith; count_is = count ∙ ap (λ (n : ℕ). n * d.width) all };
      count = ap (λ (n : ℕ). n + 1) (sym all) ∙ ap (λ (at : Place). lines_at d.height at + 1) (sym place);
    })

goes_at : (at : Place) (d e : Draft) (line : List ℕ) → IsDraft d → d.place ≡ at → after_at at d line ≡ Some e → Goes d e
goes_at (AfterRows many) d e line is place taken = line_goes d e many line is place (line_at d e many line taken)
goes_at AfterEnd d e line is place taken = absurd cc

goes : (d e : Draft) (line : List ℕ) → IsDraft d → after_line d line ≡ Some e → Goes d e
unfolding after_line
goes d e line is taken = goes_at d.place d e line is refl taken

pub draft_after : (d e : Draft) (line : List ℕ) → IsDraft d → after_line d line ≡ Some e → IsDraft e
draft_after d e line is taken = (goes d e line is taken).draft

pub line_counted : (d e : Draft) (line : List ℕ) → IsDraft d → after_line d line ≡ Some e → lines_at e.height e.place ≡ lines_at d.height d.place + 1
line_counted d e line is taken = (goes d e line is taken).count

end_at : (at : Place) → is_end at ≡ true → at ≡ AfterEnd
end_at (AfterRows many) is = absurd cc
end_at AfterEnd is = refl

pub whole_place : (d : Draft) → is_whole d ≡ true → d.place ≡ AfterEnd
whole_place d is = end_at d.place is

-- ---- where a draft stands

-- the lines after the rows
abbrev closing : Place → List (List ℕ)
closing (AfterRows many) = []
closing AfterEnd = codes "end" ∷ []

-- the draft at this place, after these lines
pub record StandsAt (width height : ℕ) (at : Place) (d : Draft) (prefix : List (List ℕ)) : Type 0 where
  pub wide : d.width ≡ width
  pub high : d.height ≡ height
  pub before : List (List ℕ)
  pub rows : List (List (Option ℕ))
  pub each : AreRows width before rows
  pub count : length rows ≡ rows_at height at
  pub few : length rows ≤ height
  pub shown : d.points ≡ joined rows
  pub spelled : prefix ≡ before ++ closing at

abbrev pub Stands : ℕ → ℕ → Draft → List (List ℕ) → Type 0
Stands width height d prefix = StandsAt width height d.place d prefix

start_stands : (width height : ℕ) → Stands width height (start width height) []
start_stands width height = record { wide = refl; high = refl; before = []; rows = []; each = tt; count = refl; few = omega arith; shown = refl; spelled = refl }

line_stands : (width height : ℕ) (d e : Draft) (many : ℕ) (prefix : List (List ℕ)) (line : List ℕ) → StandsAt width height (AfterRows many) d prefix → Line d e many line → Stands width height e (prefix ++ line ∷ [])
line_stands width height d e many prefix line was (a_row row less read same) =
    let t = row_takes width line row (subst (λ (n : ℕ). row_of n line ≡ Some row) was.wide read) in
    let more = length-append was.rows (row ∷ []) in
    let count = was.count in
    let high = was.high in
    subst (λ (x : Draft). Stands width height x (prefix ++ line ∷ [])) same (record {
      wide = was.wide;
      high = was.high;
      before = was.before ++ line ∷ [];
      rows = was.rows ++ row ∷ [];
      each = one_more width was.before was.rows line row was.each t.0 t.1;
      count = omega arith;
      few = omega arith;
      shown = ap (λ (ps : List (Option ℕ)). ps ++ row) was.shown ∙ ap (λ (ps : List (Option ℕ)). joined was.rows ++ ps) (sym (append-nil row)) ∙ sym (flat_map-append (λ (r : List (Option ℕ)). r) was.rows (row ∷ []));
      spelled = ap (λ (ls : List (List ℕ)). ls ++ line ∷ []) (was.spelled ∙ append-nil was.before) ∙ sym (append-nil (was.before ++ line ∷ []));
    })
line_stands width height d e many prefix line was (the_end more spelled same) =
    let count = was.count in
    let few = was.few in
    let high = was.high in
    subst (λ (x : Draft). Stands width height x (prefix ++ line ∷ [])) same (record {
      wide = was.wide;
      high = was.high;
      before = was.before;
      rows = was.rows;
      each = was.each;
      count = omega arith;
      few = was.few;
      shown = was.shown;
      spelled = ap (λ (ls : List (List ℕ)). ls ++ line ∷ []) (was.spelled ∙ append-nil was.before) ∙ ap (λ (l : List ℕ). was.before ++ l ∷ []) spelled;
    })

stands_at : (width height : ℕ) (at : Place) (d e : Draft) (prefix : List (List ℕ)) (line : List ℕ) → StandsAt width height at d prefix → after_at at d line ≡ Some e → Stands width height e (prefix ++ line ∷ [])
stands_at width height (AfterRows many) d e prefix line was is = line_stands width height d e many prefix line was (line_at d e many line is)
stands_at width height AfterEnd d e prefix line was is = absurd cc

step : (width height : ℕ) (d e : Draft) (prefix : List (List ℕ)) (line : List ℕ) → Stands width height d prefix → after_line d line ≡ Some e → Stands width height e (prefix ++ line ∷ [])
unfolding after_line
step width height d e prefix line was is = stands_at width height d.place d e prefix line was is

taken : (reason : BitmapWhy) (o : Option Draft) (e : Draft) → or_why reason o ≡ Ok e → o ≡ Some e
taken reason None e is = absurd cc
taken reason (Some d) e is = cc

stands_after : (width height : ℕ) (d e : Draft) (prefix lines : List (List ℕ)) → Stands width height d prefix → run line_step d lines ≡ Ok e → Stands width height e (prefix ++ lines)
stands_after width height d e prefix [] was is = let same : d ≡ e = cc in subst (Stands width height e) (sym (append-nil prefix)) (subst (λ (x : Draft). Stands width height x prefix) same was)
stands_after width height d e prefix (line ∷ lines) was is =
    let next = on_ok (line_step d line) (λ next. run line_step next lines) e is in
    let after : after_line d line ≡ Some next.0 = taken _ (after_line d line) next.0 next.1 in
    subst (Stands width height e) (append_assoc prefix (line ∷ []) lines) (stands_after width height next.0 e (prefix ++ line ∷ []) lines (step width height d next.0 prefix line was after) next.2)

pub read_stands : (width height : ℕ) (lines : List (List ℕ)) (d : Draft) → run line_step (start width height) lines ≡ Ok d → Stands width height d lines
read_stands width height lines d is = stands_after width height (start width height) d [] lines (start_stands width height) is

pub sides_after : (width height : ℕ) (lines : List (List ℕ)) (d : Draft) → run line_step (start width height) lines ≡ Ok d → (d.width ≡ width) × (d.height ≡ height)
sides_after width height lines d is = let was = read_stands width height lines d is in (was.wide, was.high)

-- ---- what was read

pub prefix_at : (width height : ℕ) (at : Place) (d : Draft) (prefix : List (List ℕ)) → StandsAt width height at d prefix → IsPrefix width height prefix at
prefix_at width height (AfterRows many) d prefix was =
    let count = was.count in
    let few = was.few in
    record { rows = was.rows; each = subst (λ (ls : List (List ℕ)). AreRows width ls was.rows) (sym (was.spelled ∙ append-nil was.before)) was.each; count = was.count; few = omega arith }
prefix_at width height AfterEnd d prefix was = record { before = was.before; rows = was.rows; each = was.each; count = was.count; spelled = was.spelled }

pub whole_says : (width height : ℕ) (lines : List (List ℕ)) (d : Draft) → run line_step (start width height) lines ≡ Ok d → d.place ≡ AfterEnd → AreLinesOf width height lines (bitmap_of d)
whole_says width height lines d is whole =
    let was : StandsAt width height AfterEnd d lines = subst (λ (at : Place). StandsAt width height at d lines) whole (read_stands width height lines d is) in
    record { wide = was.wide; high = was.high; before = was.before; rows = was.rows; count = was.count; each = was.each; shown = was.shown; spelled = was.spelled }
