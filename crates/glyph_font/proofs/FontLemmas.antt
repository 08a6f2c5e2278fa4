-- The glyphs of a font, and the slots that lead to them.
use Rattle.std.proofs.Common.{◌≡◌, ℕ, zero, suc, ◌+◌, ◌-◌, ◌<◌, ◌≤◌, Bool, true, false, cond, eqb, List, [], ◌∷◌, ◌++◌, length, get_or, set, take, map, Option, Some, None, refl, sym, ap, subst, ◌∙◌, inl, inr, arith}
use Rattle.std.specs.Prelude.{◌⊎◌}
use Rattle.std.specs.Option.{option_or}
use Rattle.std.specs.List.{AllByRecursion, list_all}
use Rattle.std.specs.Int.{bit_at}
use Rattle.std.proofs.lemmas.Bool.{cases_lt, cases_eq, and_parts, eqb-true}
use Rattle.std.proofs.lemmas.Bool.Decides.{nat_tests}
use Rattle.std.proofs.lemmas.Option.{slice_get-get_or}
use Rattle.std.proofs.lemmas.List.{get_or-map, length-map, length-append, map-append, get_or_past, get_or-take, get_or_append_left, get_or_push, get_or-set_same, get_or-set_other}
use Rattle.std.proofs.lemmas.List.Folds.{find-append}
use Rattle.spelling.proofs.CallerLemmas.{chosen}
use Rattle.std.proofs.lemmas.Option.{same_Some}
use Rattle.glyph_font.specs.declared.glyph.Glyph.{Glyph as Kept}
use Rattle.glyph_font.specs.Bits.{bits_of}
use Rattle.glyph_font.specs.Fonts.{Glyph, Font, IsGlyph, IsRising, IsFont, glyph_in, glyph_of, has_point, is_set}
use Rattle.glyph_font.specs.Kept.{glyph_from, glyphs_from, at_slot, IsTable}
use Rattle.glyph_font.proofs.DraftLaws.{rising_less, rising_length, all_more}
use Rattle.glyph_font.proofs.BitLemmas.{length-bits_of, get_or-bits_of}

-- ---- codes

pub none_below : (least : ℕ) (glyphs : List Glyph) (code : ℕ) → IsRising least glyphs → code < least → glyph_in glyphs code ≡ None
none_below least [] code rising less = refl
none_below least (g ∷ gs) code rising less =
    let from : least ≤ g.code = rising.0 in
    let other : eqb g.code code ≡ false = grind (arith, nat_tests) in
    rw other (none_below (g.code + 1) gs code rising.2 (omega arith))

pub none_above : (least : ℕ) (glyphs : List Glyph) (code : ℕ) → IsRising least glyphs → 126 < code → glyph_in glyphs code ≡ None
none_above least [] code rising more = refl
none_above least (g ∷ gs) code rising more =
    let until : g.code ≤ 126 = rising.1 in
    let other : eqb g.code code ≡ false = grind (arith, nat_tests) in
    rw other (none_above (g.code + 1) gs code rising.2 more)

pub none_outside : (glyphs : List Glyph) (code : ℕ) → IsRising 32 glyphs → (code < 32) ⊎ (126 < code) → glyph_in glyphs code ≡ None
none_outside glyphs code rising (inl less) = none_below 32 glyphs code rising less
none_outside glyphs code rising (inr more) = none_above 32 glyphs code rising more

-- ---- slots

pub kept_at : (height : ℕ) (kept : List Kept) (slots : List ℕ) (code slot : ℕ) (g : Kept) → IsTable slots (glyphs_from height kept) → 32 ≤ code → code ≤ 126 → slot ≡ get_or slots (code - 32) 0 → 0 < slot → g ≡ get_or kept (slot - 1) g
    → glyph_in (glyphs_from height kept) code ≡ Some (glyph_from height g)
kept_at height kept slots code zero g table from until is some here = absurd (omega arith)
kept_at height kept slots code (suc n) g table from until is some here =
    let long = length-map kept (glyph_from height) in
    let room = table.within (code - 32) in
    let within : n < length kept = omega arith in
    let place : n ≡ suc n - 1 = omega arith in
    let at : at_slot (glyphs_from height kept) (suc n) ≡ Some (glyph_from height g) =
    slice_get-get_or (glyphs_from height kept) n (glyph_from height g) (omega arith) ∙ ap (λ (x : Glyph). Some x) (get_or-map (glyph_from height) kept n g (glyph_from height g) within ∙ ap (glyph_from height) (ap (λ (k : ℕ). get_or kept k g) place ∙ sym here)) in
    sym (table.holds code from until) ∙ ap (at_slot (glyphs_from height kept)) (sym is) ∙ at

pub none_kept : (height : ℕ) (kept : List Kept) (slots : List ℕ) (code slot : ℕ) → IsTable slots (glyphs_from height kept) → 32 ≤ code → code ≤ 126 → slot ≡ get_or slots (code - 32) 0 → slot ≡ 0
    → glyph_in (glyphs_from height kept) code ≡ None
none_kept height kept slots code slot table from until is nothing = sym (table.holds code from until) ∙ ap (at_slot (glyphs_from height kept)) (sym is ∙ nothing)

-- ---- a font without glyphs

no_slot : (slots : List ℕ) (i : ℕ) → list_all (λ s. eqb s 0) slots ≡ true → get_or slots i 0 ≡ 0
no_slot [] i e = refl
no_slot (s ∷ slots) zero e = eqb-true _ _ (and_parts (eqb s 0) (list_all (λ s. eqb s 0) slots) e).0
no_slot (s ∷ slots) (suc i) e = no_slot slots i (and_parts (eqb s 0) (list_all (λ s. eqb s 0) slots) e).1

pub empty_is : (height : ℕ) (kept : List Kept) (slots : List ℕ) → kept ≡ [] → 1 ≤ height → height ≤ 32 → list_all (λ s. eqb s 0) slots ≡ true
    → IsFont (record { height = height; glyphs = glyphs_from height kept }) × IsTable slots (glyphs_from height kept)
empty_is height (g ∷ kept) slots none some few clear = absurd cc
empty_is height [] slots none some few clear = (
  record { high = some; not_too_high = few; glyphs = tt; rising = tt },
  record {
    within = λ i. let same = no_slot slots i clear in omega arith;
    holds = λ code from until. ap (at_slot []) (no_slot slots (code - 32) clear);
  },
)

-- ---- points

pub found_is : (P : Glyph → Type 0) (glyphs : List Glyph) (code : ℕ) (g : Glyph) → AllByRecursion P glyphs → glyph_in glyphs code ≡ Some g → P g
found_is P [] code g all e = absurd cc
found_is P (first ∷ glyphs) code g all e =
    elim (chosen (eqb first.code code) (Some first) (glyph_in glyphs code) (Some g) e) [
      | inl is ↦ subst P (same_Some first g is.1) all.0
      | inr other ↦ found_is P glyphs code g all.1 other.1
    ]

high_rows : (height : ℕ) (g : Kept) → IsGlyph height (glyph_from height g) → length (take height g.rows) ≡ height
high_rows height g is = sym (length-map (take height g.rows) (bits_of g.width)) ∙ is.high

pub point_kept : (height : ℕ) (g : Kept) (col row : ℕ) → IsGlyph height (glyph_from height g) → col < g.width → row < height → has_point (Some (glyph_from height g)) col row ≡ eqb (bit_at (get_or g.rows row 0) col) 1
point_kept height g col row is in_col in_row =
    let long = high_rows height g is in
    let within : row < length (take height g.rows) = omega arith in
    ap (λ (points : List Bool). get_or points col false) (get_or-map (bits_of g.width) (take height g.rows) row 0 [] within)
    ∙ get_or-bits_of g.width (get_or (take height g.rows) row 0) col false in_col ∙ ap (λ (word : ℕ). eqb (bit_at word col) 1) (get_or-take height g.rows row 0 in_row)

pub no_row : (height : ℕ) (g : Kept) (col row : ℕ) → IsGlyph height (glyph_from height g) → height ≤ row → has_point (Some (glyph_from height g)) col row ≡ false
no_row height g col row is below =
    let long : length (map (bits_of g.width) (take height g.rows)) ≡ height = is.high in
    ap (λ (points : List Bool). get_or points col false) (get_or_past (map (bits_of g.width) (take height g.rows)) row [] (omega arith))

pub no_column : (height : ℕ) (g : Kept) (col row : ℕ) → IsGlyph height (glyph_from height g) → g.width ≤ col → has_point (Some (glyph_from height g)) col row ≡ false
no_column height g col row is past =
    let long = high_rows height g is in
    elim (cases_lt row height) [
      | inl within ↦
          let word : ℕ = get_or (take height g.rows) row 0 in
          let count = length-bits_of g.width word in
          ap (λ (points : List Bool). get_or points col false) (get_or-map (bits_of g.width) (take height g.rows) row 0 [] (omega arith)) ∙ get_or_past (bits_of g.width word) col false (omega arith)
      | inr below ↦ no_row height g col row is below
    ]

-- the same as questions about a font
pub set_inside : (font : Font) (code : ℕ) (g : Kept) (col row : ℕ) → IsFont font → glyph_of font code ≡ Some (glyph_from font.height g) → col < g.width → row < font.height → is_set font code col row ≡ eqb (bit_at (get_or g.rows row 0) col) 1
set_inside font code g col row is found in_col in_row =
    ap (λ (o : Option Glyph). has_point o col row) found ∙ point_kept font.height g col row (found_is (IsGlyph font.height) font.glyphs code (glyph_from font.height g) is.glyphs found) in_col in_row

pub set_outside : (font : Font) (code : ℕ) (g : Kept) (col row : ℕ) → IsFont font → glyph_of font code ≡ Some (glyph_from font.height g) → (g.width ≤ col) ⊎ (font.height ≤ row) → is_set font code col row ≡ false
set_outside font code g col row is found (inl past) =
    ap (λ (o : Option Glyph). has_point o col row) found ∙ no_column font.height g col row (found_is (IsGlyph font.height) font.glyphs code (glyph_from font.height g) is.glyphs found) past
set_outside font code g col row is found (inr below) =
    ap (λ (o : Option Glyph). has_point o col row) found ∙ no_row font.height g col row (found_is (IsGlyph font.height) font.glyphs code (glyph_from font.height g) is.glyphs found) below

pub found_width : (font : Font) (code : ℕ) (g : Kept) → IsFont font → glyph_of font code ≡ Some (glyph_from font.height g) → g.width ≤ 32
found_width font code g is found = let glyph = found_is (IsGlyph font.height) font.glyphs code (glyph_from font.height g) is.glyphs found in glyph.not_too_wide

-- ---- a glyph more

last_above : (least : ℕ) (glyphs : List Glyph) (g : Glyph) → IsRising least (glyphs ++ g ∷ []) → least ≤ g.code
last_above least [] g rising = rising.0
last_above least (first ∷ glyphs) g rising =
    let from : least ≤ first.code = rising.0 in
    let more = last_above (first.code + 1) glyphs g rising.2 in
    omega arith

or_none : {A : Type 0} (o : Option A) → option_or o None ≡ o
or_none None = refl
or_none (Some x) = refl

none_of_last : (least : ℕ) (glyphs : List Glyph) (g : Glyph) → IsRising least (glyphs ++ g ∷ []) → glyph_in glyphs g.code ≡ None
none_of_last least [] g rising = refl
none_of_last least (first ∷ glyphs) g rising =
    let more = none_of_last (first.code + 1) glyphs g rising.2 in
    let from = last_above (first.code + 1) glyphs g rising.2 in
    let above : first.code < g.code = omega arith in
    let other : eqb first.code g.code ≡ false = grind (arith, nat_tests) in
    rw other more

found_same : (glyphs : List Glyph) (g : Glyph) (code : ℕ) → glyph_in glyphs code ≡ None → g.code ≡ code → glyph_in (glyphs ++ g ∷ []) code ≡ Some g
found_same glyphs g code none is =
    let test : eqb g.code code ≡ true = grind (arith, nat_tests) in
    find-append (λ x. eqb x.code code) glyphs (g ∷ []) ∙ ap (λ (o : Option Glyph). option_or o (glyph_in (g ∷ []) code)) none ∙ ap (λ (b : Bool). cond b (Some g) None) test

found_other : (glyphs : List Glyph) (g : Glyph) (code : ℕ) → (g.code ≡ code → ⊥) → glyph_in (glyphs ++ g ∷ []) code ≡ glyph_in glyphs code
found_other glyphs g code other =
    let test : eqb g.code code ≡ false = grind (arith, nat_tests) in
    find-append (λ x. eqb x.code code) glyphs (g ∷ []) ∙ ap (λ (b : Bool). option_or (glyph_in glyphs code) (cond b (Some g) None)) test ∙ or_none (glyph_in glyphs code)

slot_same : (glyphs : List Glyph) (g : Glyph) (slot : ℕ) → slot ≤ length glyphs → at_slot (glyphs ++ g ∷ []) slot ≡ at_slot glyphs slot
slot_same glyphs g zero within = refl
slot_same glyphs g (suc n) within =
    let long = length-append glyphs (g ∷ []) in
    let less : n < length glyphs = omega arith in
    slice_get-get_or (glyphs ++ g ∷ []) n g (omega arith) ∙ ap (λ (x : Glyph). Some x) (get_or_append_left glyphs (g ∷ []) g n less) ∙ sym (slice_get-get_or glyphs n g less)

slot_last : (glyphs : List Glyph) (g : Glyph) → at_slot (glyphs ++ g ∷ []) (suc (length glyphs)) ≡ Some g
slot_last glyphs g =
    let long = length-append glyphs (g ∷ []) in
    slice_get-get_or (glyphs ++ g ∷ []) (length glyphs) g (omega arith) ∙ ap (λ (x : Glyph). Some x) (get_or_push glyphs g g (length glyphs) refl)

table_more : (slots : List ℕ) (glyphs : List Glyph) (g : Glyph) (at slot : ℕ) → IsTable slots glyphs → IsRising 32 (glyphs ++ g ∷ []) → length slots ≡ 95 → at ≡ g.code - 32 → slot ≡ suc (length glyphs) → IsTable (set slots at slot) (glyphs ++ g ∷ [])
table_more slots glyphs g at slot table rising long place number =
    let parts = rising_less 32 glyphs g rising in
    let last : g.code ≤ 126 = parts.2 in
    let from : 32 ≤ g.code = last_above 32 glyphs g rising in
    let more = length-append glyphs (g ∷ []) in
    let inside : at < length slots = omega arith in
    record {
      within = λ i.
          elim (cases_eq i at) [
            | inl same ↦ let is = ap (λ (k : ℕ). get_or (set slots at slot) k 0) same ∙ get_or-set_same slots at slot 0 inside in omega arith
            | inr other ↦ let is = get_or-set_other slots at i slot 0 other in let old = table.within i in omega arith
          ];
      holds = λ code low high.
          elim (cases_eq g.code code) [
            | inl same ↦
                let here : code - 32 ≡ at = omega arith in
                let is = ap (λ (k : ℕ). get_or (set slots at slot) k 0) here ∙ get_or-set_same slots at slot 0 inside ∙ number in
                ap (at_slot (glyphs ++ g ∷ [])) is ∙ slot_last glyphs g ∙ sym (found_same glyphs g code (ap (glyph_in glyphs) (sym same) ∙ none_of_last 32 glyphs g rising) same)
            | inr other ↦
                let there : code - 32 ≡ at → ⊥ = λ e. other (omega arith) in
                let is = get_or-set_other slots at (code - 32) slot 0 there in
                ap (at_slot (glyphs ++ g ∷ [])) is ∙ slot_same glyphs g (get_or slots (code - 32) 0) (table.within (code - 32)) ∙ table.holds code low high ∙ sym (found_other glyphs g code other)
          ];
    }

pub pushed_is : (height : ℕ) (kept more : List Kept) (g : Kept) (slots : List ℕ) (at slot : ℕ) → IsFont (record { height = height; glyphs = glyphs_from height kept }) → IsTable slots (glyphs_from height kept) → more ≡ kept ++ g ∷ [] → IsGlyph height (glyph_from height g) → IsRising 32 (glyphs_from height kept ++ glyph_from height g ∷ []) → length slots ≡ 95 → at ≡ g.code - 32 → slot ≡ length more
    → IsFont (record { height = height; glyphs = glyphs_from height more }) × IsTable (set slots at slot) (glyphs_from height more)
pushed_is height kept more g slots at slot font table items glyph rising long place number =
    let is : glyphs_from height more ≡ glyphs_from height kept ++ glyph_from height g ∷ [] = ap (glyphs_from height) items ∙ map-append (glyph_from height) kept (g ∷ []) in
    let count = length-map kept (glyph_from height) in
    let longer = ap length items ∙ length-append kept (g ∷ []) in
    rw is
    (record { high = font.high; not_too_high = font.not_too_high; glyphs = all_more (IsGlyph height) (glyphs_from height kept) (glyph_from height g) font.glyphs glyph; rising = rising }, table_more slots (glyphs_from height kept) (glyph_from height g) at slot table rising long place (omega arith))

-- the last code lies in its range, and so there are few glyphs
pub last_code : (glyphs : List Glyph) (g : Glyph) → IsRising 32 (glyphs ++ g ∷ []) → (32 ≤ g.code) × (g.code ≤ 126) × (length glyphs < 95)
last_code glyphs g rising =
    let parts = rising_less 32 glyphs g rising in
    let few = rising_length 32 (glyphs ++ g ∷ []) rising (omega arith) in
    let long = length-append glyphs (g ∷ []) in
    (last_above 32 glyphs g rising, parts.2, omega arith)
