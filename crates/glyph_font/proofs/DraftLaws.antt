-- What a draft says of the lines that were read.
use Rattle.std.proofs.Common.{◌≡◌, ℕ, ◌+◌, ◌*◌, ◌<◌, ◌≤◌, Bool, true, false, cond, eqb, List, [], ◌∷◌, ◌++◌, length, map, Option, Some, None, refl, sym, ap, subst, ◌∙◌, inl, inr, arith, append_assoc}
use Rattle.std.specs.Prelude.{bytes_eq, codes}
use Rattle.std.specs.List.{AllByRecursion}
use Rattle.std.proofs.lemmas.Bool.{cases_lt}
use Rattle.std.proofs.lemmas.Bool.Decides.{nat_tests}
use Rattle.std.proofs.lemmas.List.{append-nil, length-append, length-map, map-append}
use Rattle.std.proofs.lemmas.List.Concat.{flat_map-append}
use Rattle.spelling.specs.Words.{words_of}
use Rattle.spelling.proofs.CallerLemmas.{chosen, named}
use Rattle.std.proofs.lemmas.Option.{same_Some}
use Rattle.glyph_font.specs.declared.place.Place.{Place}
use Rattle.glyph_font.specs.declared.place.Place.TheVariants.{Between, Within, After}
use Rattle.glyph_font.specs.Fonts.{Glyph, IsGlyph, IsRising}
use Rattle.glyph_font.specs.Texts.{row_text, head_text, glyph_lines, lines_of_glyphs}
use Rattle.glyph_font.specs.Reading.{Draft, start, begun, grown, with_glyph, settled, with_row, after_head, after_row, after_at, after_line, head_of, row_of, least_after, Keeps, IsDraft}
use Rattle.glyph_font.proofs.LineLaws.{IsHead, head_takes, row_takes}

-- ---- rising codes

pub rising_more : (least : ℕ) (gs : List Glyph) (g : Glyph) → IsRising least gs → least_after least gs ≤ g.code → g.code ≤ 126 → IsRising least (gs ++ g ∷ [])
rising_more least [] g rising from until = (from, until, tt)
rising_more least (first ∷ gs) g rising from until = (rising.0, rising.1, rising_more (first.code + 1) gs g rising.2 from until)

pub rising_less : (least : ℕ) (gs : List Glyph) (g : Glyph) → IsRising least (gs ++ g ∷ []) → IsRising least gs × (least_after least gs ≤ g.code) × (g.code ≤ 126)
rising_less least [] g rising = (tt, rising.0, rising.1)
rising_less least (first ∷ gs) g rising = let more = rising_less (first.code + 1) gs g rising.2 in ((rising.0, rising.1, more.0), more.1, more.2)

pub rising_same : (least : ℕ) (gs : List Glyph) (g h : Glyph) → h.code ≡ g.code → IsRising least (gs ++ g ∷ []) → IsRising least (gs ++ h ∷ [])
rising_same least gs g h same rising =
    let parts = rising_less least gs g rising in
    let from : least_after least gs ≤ g.code = parts.1 in
    let until : g.code ≤ 126 = parts.2 in
    rising_more least gs h parts.0 (omega arith) (omega arith)

pub least_more : (least : ℕ) (gs : List Glyph) (g : Glyph) → least_after least (gs ++ g ∷ []) ≡ g.code + 1
least_more least [] g = refl
least_more least (first ∷ gs) g = least_more (first.code + 1) gs g

pub rising_length : (least : ℕ) (gs : List Glyph) → IsRising least gs → least ≤ 127 → length gs + least ≤ 127
rising_length least [] rising below = omega arith
rising_length least (g ∷ gs) rising below =
    let from : least ≤ g.code = rising.0 in
    let until : g.code ≤ 126 = rising.1 in
    let more = rising_length (g.code + 1) gs rising.2 (omega arith) in
    omega arith

pub all_more : {X : Type 0} (P : X → Type 0) (xs : List X) (x : X) → AllByRecursion P xs → P x → AllByRecursion P (xs ++ x ∷ [])
all_more P [] x all is = (is, tt)
all_more P (y ∷ xs) x all is = (all.0, all_more P xs x all.1 is)

-- ---- where a draft stands

abbrev pub Spelled : Place → Draft → List (List ℕ) → Type 0
Spelled Between d prefix = prefix ≡ lines_of_glyphs d.font.glyphs
Spelled Within d prefix = prefix ≡ lines_of_glyphs (d.font.glyphs ++ d.last ∷ [])
Spelled After d prefix = prefix ≡ lines_of_glyphs d.font.glyphs ++ codes "end" ∷ []

-- the draft at this place, after these lines
pub record StandsAt (at : Place) (d : Draft) (prefix : List (List ℕ)) : Type 0 where
  pub high : 1 ≤ d.font.height
  pub not_too_high : d.font.height ≤ 32
  pub whole : AllByRecursion (IsGlyph d.font.height) d.font.glyphs
  pub keeps : Keeps at d
  pub spelled : Spelled at d prefix

abbrev pub Stands : Draft → List (List ℕ) → Type 0
Stands d prefix = StandsAt d.place d prefix

pub is_draft : (d : Draft) (prefix : List (List ℕ)) → Stands d prefix → IsDraft d
is_draft d prefix was = record { high = was.high; not_too_high = was.not_too_high; whole = was.whole; keeps = was.keeps }

pub start_stands : (height : ℕ) → 1 ≤ height → height ≤ 32 → Stands (start height) []
start_stands height some few = record { high = some; not_too_high = few; whole = tt; keeps = (tt, refl); spelled = refl }

-- ---- one line

-- the lines with a glyph's first line more
spelled_head : (gs : List Glyph) (code width : ℕ) → lines_of_glyphs gs ++ head_text code width ∷ [] ≡ lines_of_glyphs (gs ++ record { code = code; width = width; rows = [] } ∷ [])
spelled_head gs code width = sym (flat_map-append glyph_lines gs (record { code = code; width = width; rows = [] } ∷ []))

-- and with a row more
spelled_row : (gs : List Glyph) (g : Glyph) (row : List Bool) → lines_of_glyphs (gs ++ g ∷ []) ++ row_text row ∷ [] ≡ lines_of_glyphs (gs ++ grown g row ∷ [])
spelled_row gs g row =
    let head : List ℕ = head_text g.code g.width in
    let old : List (List ℕ) = map row_text g.rows in
    ap (λ (ls : List (List ℕ)). ls ++ row_text row ∷ []) (flat_map-append glyph_lines gs (g ∷ []) ∙ ap (λ (ls : List (List ℕ)). lines_of_glyphs gs ++ ls) (append-nil (head ∷ old))) ∙ append_assoc (lines_of_glyphs gs) (head ∷ old) (row_text row ∷ [])
    ∙ ap (λ (ls : List (List ℕ)). lines_of_glyphs gs ++ (head ∷ ls)) (sym (map-append row_text g.rows (row ∷ []))) ∙ ap (λ (ls : List (List ℕ)). lines_of_glyphs gs ++ ls) (sym (append-nil (glyph_lines (grown g row))))
    ∙ sym (flat_map-append glyph_lines gs (grown g row ∷ []))

after_head_some : (d e : Draft) (o : Option (ℕ × ℕ)) → after_head d o ≡ Some e → (head : ℕ × ℕ) × (o ≡ Some head) × (begun d head ≡ e)
after_head_some d e None is = absurd cc
after_head_some d e (Some head) is = (head, refl, same_Some (begun d head) e is)

after_row_some : (d e : Draft) (o : Option (List Bool)) → after_row d o ≡ Some e → (row : List Bool) × (o ≡ Some row) × (with_row d row ≡ e)
after_row_some d e None is = absurd cc
after_row_some d e (Some row) is = (row, refl, same_Some (with_row d row) e is)

pub settled_whole : (d : Draft) → length d.last.rows ≡ d.font.height → settled d ≡ record d { place = Between; font = with_glyph d.font d.last }
unfolding settled
settled_whole d all =
    let test : eqb (length d.last.rows) d.font.height ≡ true = grind (arith, nat_tests) in
    rw test refl

pub settled_lacks : (d : Draft) → length d.last.rows < d.font.height → settled d ≡ d
unfolding settled
settled_lacks d less =
    let test : eqb (length d.last.rows) d.font.height ≡ false = grind (arith, nat_tests) in
    rw test refl

ended : (d : Draft) (prefix : List (List ℕ)) (line : List ℕ) → StandsAt Between d prefix → line ≡ codes "end" → StandsAt After (record d { place = After }) (prefix ++ line ∷ [])
ended d prefix line was is = record {
  high = was.high;
  not_too_high = was.not_too_high;
  whole = was.whole;
  keeps = was.keeps;
  spelled = ap (λ (ls : List (List ℕ)). ls ++ line ∷ []) was.spelled ∙ ap (λ (l : List ℕ). lines_of_glyphs d.font.glyphs ++ l ∷ []) is;
}

has_begun : (d : Draft) (prefix : List (List ℕ)) (line : List ℕ) (head : ℕ × ℕ) → StandsAt Between d prefix → line ≡ head_text head.0 head.1 → IsHead d.least head → StandsAt Within (begun d head) (prefix ++ line ∷ [])
has_begun d prefix line head was is fits =
    let least : d.least ≡ least_after 32 d.font.glyphs = was.keeps.1 in
    let from : d.least ≤ head.0 = fits.from in
    let some : 1 ≤ d.font.height = was.high in
    record {
      high = was.high;
      not_too_high = was.not_too_high;
      whole = was.whole;
      keeps = (record { wide = fits.wide; not_too_wide = fits.not_too_wide; high = refl; even = tt }, omega arith, rising_more 32 d.font.glyphs (begun d head).last was.keeps.0 (omega arith) fits.until, refl);
      spelled = ap (λ (ls : List (List ℕ)). ls ++ line ∷ []) was.spelled ∙ ap (λ (l : List ℕ). lines_of_glyphs d.font.glyphs ++ l ∷ []) is ∙ spelled_head d.font.glyphs head.0 head.1;
    }

-- the glyph with a row more
pub grows : (g : Glyph) (row : List Bool) → IsGlyph (length g.rows) g → length row ≡ g.width → IsGlyph (length g.rows + 1) (grown g row)
grows g row is wide = record { wide = is.wide; not_too_wide = is.not_too_wide; high = length-append g.rows (row ∷ []); even = all_more (λ row. length row ≡ g.width) g.rows row is.even wide }

has_grown : (d : Draft) (prefix : List (List ℕ)) (line : List ℕ) (row : List Bool) → d.place ≡ Within → StandsAt Within d prefix → line ≡ row_text row → length row ≡ d.last.width → Stands (with_row d row) (prefix ++ line ∷ [])
has_grown d prefix line row within was is wide =
    let g : Glyph = grown d.last row in
    let next : Draft = record d { last = g } in
    let glyph = grows d.last row was.keeps.0 wide in
    let count = glyph.high in
    let lacked : length d.last.rows < d.font.height = was.keeps.1 in
    let least : d.least ≡ d.last.code + 1 = was.keeps.3 in
    let rising = rising_same 32 d.font.glyphs d.last g refl was.keeps.2 in
    let text : prefix ++ line ∷ [] ≡ lines_of_glyphs (d.font.glyphs ++ g ∷ []) =
    ap (λ (ls : List (List ℕ)). ls ++ line ∷ []) was.spelled ∙ ap (λ (l : List ℕ). lines_of_glyphs (d.font.glyphs ++ d.last ∷ []) ++ l ∷ []) is ∙ spelled_row d.font.glyphs d.last row in
    elim (cases_lt (length g.rows) d.font.height) [
      | inl lacks ↦
          let stands : StandsAt Within next (prefix ++ line ∷ []) = record {
            high = was.high;
            not_too_high = was.not_too_high;
            whole = was.whole;
            keeps = (subst (λ (n : ℕ). IsGlyph n g) (sym count) glyph, lacks, rising, least);
            spelled = text;
          } in
          subst (λ (x : Draft). Stands x (prefix ++ line ∷ [])) (sym (settled_lacks next lacks)) (subst (λ (at : Place). StandsAt at next (prefix ++ line ∷ [])) (sym within) stands)
      | inr full ↦
          let all : length g.rows ≡ d.font.height = omega arith in
          let same : length d.last.rows + 1 ≡ d.font.height = omega arith in
          let stands : StandsAt Between (record next { place = Between; font = with_glyph d.font g }) (prefix ++ line ∷ []) = record {
            high = was.high;
            not_too_high = was.not_too_high;
            whole = all_more (IsGlyph d.font.height) d.font.glyphs g was.whole (subst (λ (n : ℕ). IsGlyph n g) same glyph);
            keeps = (rising, least ∙ sym (least_more 32 d.font.glyphs g));
            spelled = text;
          } in
          subst (λ (x : Draft). Stands x (prefix ++ line ∷ [])) (sym (settled_whole next all)) stands
    ]

step_at : (at : Place) (d e : Draft) (prefix : List (List ℕ)) (line : List ℕ) → d.place ≡ at → StandsAt at d prefix → after_at at d line ≡ Some e → Stands e (prefix ++ line ∷ [])
step_at Between d e prefix line place was is =
    elim (chosen (bytes_eq line (codes "end")) (Some (record d { place = After })) (after_head d (head_of d.least (words_of line))) (Some e) is) [
      | inl end ↦ subst (λ (x : Draft). Stands x (prefix ++ line ∷ [])) (same_Some (record d { place = After }) e end.1) (ended d prefix line was (named line (codes "end") end.0))
      | inr other ↦
          let h = after_head_some d e (head_of d.least (words_of line)) other.1 in
          let t = head_takes d.least line h.0 h.1 in
          subst (λ (x : Draft). Stands x (prefix ++ line ∷ [])) h.2 (has_begun d prefix line h.0 was t.0 t.1)
    ]
step_at Within d e prefix line place was is =
    let r = after_row_some d e (row_of d.last.width line) is in
    let t = row_takes d.last.width line r.0 r.1 in
    subst (λ (x : Draft). Stands x (prefix ++ line ∷ [])) r.2 (has_grown d prefix line r.0 place was t.0 t.1)
step_at After d e prefix line place was is = absurd cc

pub step : (d e : Draft) (prefix : List (List ℕ)) (line : List ℕ) → Stands d prefix → after_line d line ≡ Some e → Stands e (prefix ++ line ∷ [])
unfolding after_line
step d e prefix line was is = step_at d.place d e prefix line refl was is

-- no line changes the height
either_height : (b : Bool) (d e : Draft) (height : ℕ) → d.font.height ≡ height → e.font.height ≡ height → (cond b d e).font.height ≡ height
either_height true d e height one other = one
either_height false d e height one other = other

settled_height : (d : Draft) → (settled d).font.height ≡ d.font.height
unfolding settled
settled_height d = either_height (eqb (length d.last.rows) d.font.height) (record d { place = Between; font = with_glyph d.font d.last }) d d.font.height refl refl

height_at : (at : Place) (d e : Draft) (line : List ℕ) → after_at at d line ≡ Some e → e.font.height ≡ d.font.height
height_at Between d e line is =
    elim (chosen (bytes_eq line (codes "end")) (Some (record d { place = After })) (after_head d (head_of d.least (words_of line))) (Some e) is) [
      | inl end ↦ ap (λ (x : Draft). x.font.height) (sym (same_Some (record d { place = After }) e end.1))
      | inr other ↦ let h = after_head_some d e (head_of d.least (words_of line)) other.1 in ap (λ (x : Draft). x.font.height) (sym h.2)
    ]
height_at Within d e line is =
    let r = after_row_some d e (row_of d.last.width line) is in
    ap (λ (x : Draft). x.font.height) (sym r.2) ∙ settled_height (record d { last = grown d.last r.0 })
height_at After d e line is = absurd cc

pub height_step : (d e : Draft) (line : List ℕ) → after_line d line ≡ Some e → e.font.height ≡ d.font.height
unfolding after_line
height_step d e line is = height_at d.place d e line is

-- ---- how many lines

few_rows : (gs : List Glyph) → AllByRecursion (λ g. length g.rows ≤ 32) gs → length (lines_of_glyphs gs) ≤ 33 * length gs
few_rows [] few = omega arith
few_rows (g ∷ gs) few =
    let one : length g.rows ≤ 32 = few.0 in
    let more = few_rows gs few.1 in
    let lines = length-map g.rows row_text in
    let both = length-append (glyph_lines g) (lines_of_glyphs gs) in
    omega arith

all_few : (height : ℕ) (gs : List Glyph) → height ≤ 32 → AllByRecursion (IsGlyph height) gs → AllByRecursion (λ g. length g.rows ≤ 32) gs
all_few height [] low all = tt
all_few height (g ∷ gs) low all = let high = all.0.high in (omega arith, all_few height gs low all.1)

few_lines_at : (at : Place) (d : Draft) (prefix : List (List ℕ)) → StandsAt at d prefix → length prefix ≤ 3136
few_lines_at Between d prefix was =
    let rising = rising_length 32 d.font.glyphs was.keeps.0 (omega arith) in
    let few = few_rows d.font.glyphs (all_few d.font.height d.font.glyphs was.not_too_high was.whole) in
    let same = ap length was.spelled in
    omega arith
few_lines_at Within d prefix was =
    let rising = rising_length 32 (d.font.glyphs ++ d.last ∷ []) was.keeps.2 (omega arith) in
    let lacks : length d.last.rows < d.font.height = was.keeps.1 in
    let low = was.not_too_high in
    let few = few_rows (d.font.glyphs ++ d.last ∷ []) (all_more (λ g. length g.rows ≤ 32) d.font.glyphs d.last (all_few d.font.height d.font.glyphs was.not_too_high was.whole) (omega arith)) in
    let same = ap length was.spelled in
    omega arith
few_lines_at After d prefix was =
    let rising = rising_length 32 d.font.glyphs was.keeps.0 (omega arith) in
    let few = few_rows d.font.glyphs (all_few d.font.height d.font.glyphs was.not_too_high was.whole) in
    let same = ap length was.spelled in
    let more = length-append (lines_of_glyphs d.font.glyphs) (codes "end" ∷ []) in
    omega arith

pub few_lines : (d : Draft) (prefix : List (List ℕ)) → Stands d prefix → length prefix ≤ 3136
few_lines d prefix was = few_lines_at d.place d prefix was
