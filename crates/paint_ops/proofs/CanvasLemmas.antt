-- Drawing on one row of a canvas, each point once: two drawings, one after the other, are one, and drawings that show the same are one.
use Rattle.std.proofs.Common.{◌≡◌, ℕ, ◌+◌, ◌%◌, ◌^◌, ◌<◌, ◌≤◌, min, Bool, true, false, cond, ◌&&◌, ◌||◌, ◌==◌, nat_le, Option, Some, None, refl, sym, ap, ◌∙◌, arith}
use Rattle.std.specs.Prelude.{is_some, unwrap_or}
use Rattle.std.proofs.lemmas.Bool.{and_parts, and_from, eqb-true, eq-eqb}
use Rattle.std.proofs.lemmas.Bool.Decides.{nat_tests}
use Rattle.std.proofs.lemmas.Nat.{mod_below}
use Rattle.frame.specs.Pictures.{HasShape}
use Rattle.frame.specs.Areas.{is_at, in_span, span_count}
use Rattle.frame.specs.Canvases.{Canvas, drawn}
use Rattle.frame.proofs.CallerLemmas.{count_below-same, count_below-none, count_below-or, count_below-part, canvas_is, no_more, some_more}
use Rattle.paint_ops.specs.Operations.{on_points}
use Rattle.paint_ops.specs.Rows.{is_inked, ink_count, row_drawn, row_written}
use Rattle.paint_ops.specs.Strips.{FitsIn}
use Rattle.paint_ops.specs.declared.strip.Strip.{Strip}
use Rattle.paint_ops.proofs.RowLemmas.{shown, shown_there, shown-none, both_shown, shown_again, shown_part, shown_rest, row_drawn-same, row_drawn-twice, row_drawn-nothing, has_shape-row_drawn, changed-is_at, changed-in_span}

-- ---- which columns are inked, by what is shown there

-- two colours, one over the other, are there where they are shown, whatever was there
inked_twice : (a b k : Bool) (x y z : ℕ) → ((old : ℕ) → cond b y (cond a x old) ≡ cond k z old) → (a || b) ≡ k
inked_twice true true true x y z same = refl
inked_twice true false true x y z same = refl
inked_twice false true true x y z same = refl
inked_twice false false false x y z same = refl
inked_twice true true false x y z same = absurd (let e = same (y + 1) in omega arith)
inked_twice true false false x y z same = absurd (let e = same (x + 1) in omega arith)
inked_twice false true false x y z same = absurd (let e = same (y + 1) in omega arith)
inked_twice false false true x y z same = absurd (let e = same (z + 1) in omega arith)

inked_once : (a k : Bool) (x z : ℕ) → ((old : ℕ) → cond a x old ≡ cond k z old) → a ≡ k
inked_once true true x z same = refl
inked_once false false x z same = refl
inked_once true false x z same = absurd (let e = same (x + 1) in omega arith)
inked_once false true x z same = absurd (let e = same (z + 1) in omega arith)

-- ---- drawings that show the same

pub row_written-same : (f : Canvas) (y : ℕ) (here there : ℕ → Bool) (colour other : ℕ → Option ℕ) → HasShape f.picture
    → ((u old : ℕ) → u < f.picture.width → shown (here u) (colour u) old ≡ shown (there u) (other u) old)
    → row_written f y here colour ≡ row_written f y there other
row_written-same f y here there colour other shape same =
    canvas_is _ _ _ _ (row_drawn-same f.picture y here there colour other shape same)
    (ap (λ (n : ℕ). (f.writes + n) % 2 ^ 64) (count_below-same (is_inked here colour) (is_inked there other) f.picture.width (λ u u_in. inked_once _ _ _ _ (λ old. same u old u_in))))

-- two drawings, one after the other, of which no column is in both
pub row_written-twice : (f : Canvas) (y : ℕ) (here there both : ℕ → Bool) (colour other all : ℕ → Option ℕ) → HasShape f.picture
    → ((u : ℕ) → u < f.picture.width → is_inked here colour u ≡ true → is_inked there other u ≡ false)
    → ((u old : ℕ) → u < f.picture.width → shown (there u) (other u) (shown (here u) (colour u) old) ≡ shown (both u) (all u) old)
    → row_written (row_written f y here colour) y there other ≡ row_written f y both all
row_written-twice f y here there both colour other all shape apart same =
    let width = f.picture.width in
    let count : ink_count width both all ≡ ink_count width here colour + ink_count width there other =
    sym (count_below-same (λ u. is_inked here colour u || is_inked there other u) (is_inked both all) width (λ u u_in. inked_twice (is_inked here colour u) (is_inked there other u) (is_inked both all u) (unwrap_or (colour u) 0) (unwrap_or (other u) 0) (unwrap_or (all u) 0) (λ old. same u old u_in)))
    ∙ count_below-or (is_inked here colour) (is_inked there other) width apart in
    canvas_is _ _ _ _ (row_drawn-twice f.picture y here there both colour other all shape same) (some_more f.writes (ink_count width here colour) (ink_count width there other) (ink_count width both all) count)

-- a drawing that shows nothing
pub row_written-nothing : (f : Canvas) (y : ℕ) (here : ℕ → Bool) (colour : ℕ → Option ℕ) → HasShape f.picture → f.writes < 2 ^ 64
    → ((u old : ℕ) → u < f.picture.width → shown (here u) (colour u) old ≡ old)
    → row_written f y here colour ≡ f
row_written-nothing f y here colour shape below same =
    canvas_is _ _ _ _ (row_drawn-nothing f.picture y here colour shape same)
    (sym (no_more f.writes _ below (count_below-none (is_inked here colour) f.picture.width (λ u u_in. inked_once _ false _ 0 (λ old. same u old u_in)))))

-- ---- what frames draw

and-true : (a : Bool) → (a && true) ≡ a
and-true true = refl
and-true false = refl

-- one point
pub written-is_at : (f : Canvas) (x y c : ℕ) → HasShape f.picture → x < f.picture.width → drawn f (is_at x y) (λ _ _. c) 1 ≡ row_written f y (λ u. u == x) (λ _. Some c)
written-is_at f x y c shape x_in =
    let count : ink_count f.picture.width (λ u. u == x) (λ _. Some c) ≡ 1 =
    count_below-part (is_inked (λ u. u == x) (λ _. Some c)) x (x + 1) f.picture.width (omega arith)
    (λ u _ low high. and_from _ _ (eq-eqb u x (omega arith)) refl)
    (λ u _ h. let e = eqb-true u x (and_parts _ _ h).0 in (omega arith, omega arith))
    ∙ omega arith in
    canvas_is _ _ _ _ (changed-is_at f.picture x y c shape) (ap (λ (n : ℕ). (f.writes + n) % 2 ^ 64) (sym count))

-- a span
pub written-in_span : (f : Canvas) (y x0 x1 c : ℕ) → HasShape f.picture → x1 < f.picture.width → drawn f (in_span y x0 x1) (λ _ _. c) (span_count x0 x1) ≡ row_written f y (λ u. nat_le x0 u && nat_le u x1) (λ _. Some c)
written-in_span f y x0 x1 c shape x1_in =
    let count : ink_count f.picture.width (λ u. nat_le x0 u && nat_le u x1) (λ _. Some c) ≡ span_count x0 x1 =
    count_below-part (is_inked (λ u. nat_le x0 u && nat_le u x1) (λ _. Some c)) (min x0 (x1 + 1)) (x1 + 1) f.picture.width (omega arith)
    (λ u _ low high. span_inside u low high)
    (λ u _ h. let e = (and_parts _ _ h).0 in span_outside u e)
    ∙ omega arith in
    canvas_is _ _ _ _ (changed-in_span f.picture y x0 x1 c shape) (ap (λ (n : ℕ). (f.writes + n) % 2 ^ 64) (sym count))
  where
    span_inside : (u : ℕ) → min x0 (x1 + 1) ≤ u → u < x1 + 1 → ((nat_le x0 u && nat_le u x1) && true) ≡ true
    span_inside u low high = let columns : (nat_le x0 u && nat_le u x1) ≡ true = grind (arith, nat_tests) in and-true _ ∙ columns

    span_outside : (u : ℕ) → (nat_le x0 u && nat_le u x1) ≡ true → (min x0 (x1 + 1) ≤ u) × (u < x1 + 1)
    span_outside u h =
        let low : x0 ≤ u = grind (arith, nat_tests) in
        let high : u ≤ x1 = grind (arith, nat_tests) in
        (omega arith, omega arith)

-- ---- drawings in one colour

pub row_written-same_colours : (f : Canvas) (y : ℕ) (here : ℕ → Bool) (colour other : ℕ → Option ℕ) → HasShape f.picture → ((u : ℕ) → u < f.picture.width → here u ≡ true → colour u ≡ other u)
    → row_written f y here colour ≡ row_written f y here other
row_written-same_colours f y here colour other shape same = row_written-same f y here here colour other shape (λ u old u_in. shown_there (here u) (colour u) (other u) old (same u u_in))

pub row_written-same_tests : (f : Canvas) (y c : ℕ) (here g k : ℕ → Bool) → HasShape f.picture → ((u : ℕ) → u < f.picture.width → here u ≡ true → g u ≡ k u)
    → row_written f y here (λ u. on_points (g u) c) ≡ row_written f y here (λ u. on_points (k u) c)
row_written-same_tests f y c here g k shape same = row_written-same_colours f y here _ _ shape (λ u u_in in_here. ap (λ (b : Bool). on_points b c) (same u u_in in_here))

pub row_written-no_colours : (f : Canvas) (y : ℕ) (here : ℕ → Bool) (colour : ℕ → Option ℕ) → HasShape f.picture → f.writes < 2 ^ 64 → ((u : ℕ) → u < f.picture.width → here u ≡ true → colour u ≡ None)
    → row_written f y here colour ≡ f
row_written-no_colours f y here colour shape below none =
    row_written-nothing f y here colour shape below (λ u old u_in. shown_there (here u) (colour u) None old (none u u_in) ∙ shown-none (here u) old)

pub row_written-no_tests : (f : Canvas) (y c : ℕ) (here k : ℕ → Bool) → HasShape f.picture → f.writes < 2 ^ 64 → ((u : ℕ) → u < f.picture.width → here u ≡ true → k u ≡ false)
    → row_written f y here (λ u. on_points (k u) c) ≡ f
row_written-no_tests f y c here k shape below none = row_written-no_colours f y here _ shape below (λ u u_in in_here. ap (λ (b : Bool). on_points b c) (none u u_in in_here))

inked_parts : (here g : Bool) (c : ℕ) → (here && is_some (on_points g c)) ≡ true → (here ≡ true) × (g ≡ true)
inked_parts true true c h = (refl, refl)
inked_parts true false c h = absurd cc
inked_parts false g c h = absurd cc

not_inked : (here g : Bool) (c : ℕ) → (here ≡ true → g ≡ false) → (here && is_some (on_points g c)) ≡ false
not_inked true g c off = rw (off refl) refl
not_inked false g c off = refl

-- the columns of two tests, drawn one after the other
pub row_written-either : (f : Canvas) (y c : ℕ) (here g h k : ℕ → Bool) → HasShape f.picture → ((u : ℕ) → u < f.picture.width → here u ≡ true → g u ≡ true → h u ≡ false) → ((u : ℕ) → u < f.picture.width → here u ≡ true → (h u || g u) ≡ k u)
    → row_written (row_written f y here (λ u. on_points (g u) c)) y here (λ u. on_points (h u) c) ≡ row_written f y here (λ u. on_points (k u) c)
row_written-either f y c here g h k shape apart same =
    row_written-twice f y here here here _ _ _ shape
    (λ u u_in inked. let parts = inked_parts (here u) (g u) c inked in not_inked (here u) (h u) c (λ in_here. apart u u_in in_here parts.1))
    (λ u old u_in. both_shown (here u) (g u) (h u) (k u) c old (same u u_in))

off_here : (here : Bool) (c : Option ℕ) → here ≡ false → (here && is_some c) ≡ false
off_here here c off = rw off refl

-- the same colours, drawn in some columns and then in others
pub row_written-more : (f : Canvas) (y : ℕ) (here there both : ℕ → Bool) (colour : ℕ → Option ℕ) → HasShape f.picture → ((u : ℕ) → u < f.picture.width → here u ≡ true → there u ≡ false) → ((u : ℕ) → u < f.picture.width → both u ≡ (here u || there u))
    → row_written (row_written f y here colour) y there colour ≡ row_written f y both colour
row_written-more f y here there both colour shape apart same =
    row_written-twice f y here there both colour colour colour shape
    (λ u u_in inked. off_here (there u) (colour u) (apart u u_in (and_parts (here u) (is_some (colour u)) inked).0))
    (λ u old u_in. shown_again (here u) (there u) (both u) (colour u) old (same u u_in))

-- a part of some columns, drawn in one colour
pub row_written-part : (f : Canvas) (y c : ℕ) (part here test : ℕ → Bool) → HasShape f.picture → ((u : ℕ) → u < f.picture.width → part u ≡ (here u && test u))
    → row_written f y part (λ _. Some c) ≡ row_written f y here (λ u. on_points (test u) c)
row_written-part f y c part here test shape same = row_written-same f y part here (λ _. Some c) (λ u. on_points (test u) c) shape (λ u old u_in. shown_part (part u) (here u) (test u) c old (same u u_in))

-- a part of some columns, where the others have no colour
pub row_written-rest : (f : Canvas) (y : ℕ) (part here : ℕ → Bool) (colour : ℕ → Option ℕ) → HasShape f.picture → ((u : ℕ) → part u ≡ true → here u ≡ true) → ((u : ℕ) → here u ≡ true → part u ≡ false → colour u ≡ None)
    → row_written f y part colour ≡ row_written f y here colour
row_written-rest f y part here colour shape inside rest = row_written-same f y part here colour colour shape (λ u old _. shown_rest (part u) (here u) (colour u) old (inside u) (rest u))

-- ---- strips

pub count-below : (n : ℕ) → n % 2 ^ 64 < 2 ^ 64
count-below n = mod_below n (2 ^ 64) (omega arith)

-- a strip fits a drawn canvas as well, whatever was counted
pub fits-counted : (f : Canvas) (n y : ℕ) (here : ℕ → Bool) (colour : ℕ → Option ℕ) (s : Strip) → FitsIn f s → FitsIn (record { picture = row_drawn f.picture y here colour; writes = n % 2 ^ 64 }) s
fits-counted f n y here colour s fits =
    record {
      shape = has_shape-row_drawn f.picture y here colour fits.shape;
      count = count-below n;
      some = fits.some;
      within = fits.within;
      row = fits.row;
    }

pub fits-row_written : (f : Canvas) (y : ℕ) (here : ℕ → Bool) (colour : ℕ → Option ℕ) (s : Strip) → FitsIn f s → FitsIn (row_written f y here colour) s
fits-row_written f y here colour s fits = fits-counted f (f.writes + ink_count f.picture.width here colour) y here colour s fits
