-- The first lines of a font are read, and what is read are first lines of a font.
use Rattle.std.proofs.Common.{◌≡◌, ℕ, ◌+◌, ◌<◌, ◌≤◌, Bool, List, [], ◌∷◌, ◌++◌, length, map, Option, Some, None, Result, Ok, refl, sym, ap, subst, ◌∙◌, arith, append_assoc}
use Rattle.std.specs.Prelude.{codes}
use Rattle.std.specs.List.{AllByRecursion}
use Rattle.std.proofs.lemmas.List.{append-nil, length-append}
use Rattle.std.proofs.lemmas.List.Concat.{flat_map-append}
use Rattle.spelling.specs.LineReading.{on}
use Rattle.spelling.specs.LineReading.{run as run_lines}
use Rattle.spelling.proofs.CallerLemmas.{on_ok, run_on}
use Rattle.glyph_font.specs.declared.fault.FontWhy.{FontWhy}
use Rattle.glyph_font.specs.declared.place.Place.{Place}
use Rattle.glyph_font.specs.declared.place.Place.TheVariants.{Between, Within, After}
use Rattle.glyph_font.specs.Fonts.{Glyph, Font, IsGlyph, IsRising}
use Rattle.glyph_font.specs.Texts.{row_text, head_text, glyph_lines, lines_of_glyphs}
use Rattle.glyph_font.specs.Faults.{AreRows, IsPrefix}
use Rattle.glyph_font.specs.Reading.{Draft, start, begun, grown, with_glyph, with_row, after_head, after_row, after_at, after_line, or_why, line_step, least_after}
use Rattle.glyph_font.proofs.LineLaws.{IsHead, head_again, row_again}
use Rattle.glyph_font.proofs.DraftLaws.{StandsAt, Stands, start_stands, step, height_step, settled_whole, settled_lacks, rising_less}

-- ---- several lines

abbrev fine : Draft → Result Draft FontWhy
fine d = Ok d

-- what these lines say after a draft
abbrev pub run : Draft → List (List ℕ) → Result Draft FontWhy
run d lines = run_lines line_step d lines

steps : (place : Place) (o : Option Draft) (e : Draft) → o ≡ Some e → or_why place o ≡ Ok e
steps place o e is = ap (or_why place) is

pub stepped : (place : Place) (o : Option Draft) (e : Draft) → or_why place o ≡ Ok e → o ≡ Some e
stepped place None e is = absurd cc
stepped place (Some d) e is = cc

-- after a line
goes_on : (d e : Draft) (line : List ℕ) (lines : List (List ℕ)) → after_line d line ≡ Some e → run d (line ∷ lines) ≡ run e lines
goes_on d e line lines is = ap (λ (o : Result Draft FontWhy). on o (λ next. run next lines)) (steps d.place (after_line d line) e is)

pub stands_after : (d e : Draft) (prefix lines : List (List ℕ)) → Stands d prefix → run d lines ≡ Ok e → Stands e (prefix ++ lines)
stands_after d e prefix [] was is = let same : d ≡ e = cc in subst (Stands e) (sym (append-nil prefix)) (subst (λ (x : Draft). Stands x prefix) same was)
stands_after d e prefix (line ∷ lines) was is =
    let next = on_ok (line_step d line) (λ next. run next lines) e is in
    subst (Stands e) (append_assoc prefix (line ∷ []) lines) (stands_after next.0 e (prefix ++ line ∷ []) lines (step d next.0 prefix line was (stepped d.place (after_line d line) next.0 next.1)) next.2)

-- ---- what was read

prefix_at : (at : Place) (d : Draft) (prefix : List (List ℕ)) → StandsAt at d prefix → IsPrefix d.font.height prefix at
prefix_at Between d prefix was = record { glyphs = d.font.glyphs; whole = was.whole; rising = was.keeps.0; spelled = was.spelled }
prefix_at Within d prefix was = record { glyphs = d.font.glyphs; last = d.last; whole = was.whole; begun = was.keeps.0; lacks = was.keeps.1; rising = was.keeps.2; spelled = was.spelled }
prefix_at After d prefix was = record { glyphs = d.font.glyphs; whole = was.whole; rising = was.keeps.0; spelled = was.spelled }

pub height_kept : (d e : Draft) (lines : List (List ℕ)) → run d lines ≡ Ok e → e.font.height ≡ d.font.height
height_kept d e [] is = let same : d ≡ e = cc in ap (λ (x : Draft). x.font.height) (sym same)
height_kept d e (line ∷ lines) is =
    let next = on_ok (line_step d line) (λ next. run next lines) e is in
    height_kept next.0 e lines next.2 ∙ height_step d next.0 line (stepped d.place (after_line d line) next.0 next.1)

pub read_stands : (height : ℕ) (d : Draft) (lines : List (List ℕ)) → 1 ≤ height → height ≤ 32 → run (start height) lines ≡ Ok d → Stands d lines
read_stands height d lines some few is = stands_after (start height) d [] lines (start_stands height some few) is

pub prefix_read_of : (height : ℕ) (d : Draft) (lines : List (List ℕ)) → 1 ≤ height → height ≤ 32 → run (start height) lines ≡ Ok d → IsPrefix height lines d.place
prefix_read_of height d lines some few is = subst (λ (h : ℕ). IsPrefix h lines d.place) (height_kept (start height) d lines is) (prefix_at d.place d lines (read_stands height d lines some few is))

-- ---- what is read

pub at_place : (at : Place) (d : Draft) (line : List ℕ) → d.place ≡ at → after_line d line ≡ after_at at d line
unfolding after_line
at_place at d line is = ap (λ (x : Place). after_at x d line) is

-- a row of a begun glyph
row_read : (d : Draft) (row : List Bool) → d.place ≡ Within → length row ≡ d.last.width → after_line d (row_text row) ≡ Some (with_row d row)
row_read d row within wide = at_place Within d (row_text row) within ∙ ap (after_row d) (row_again d.last.width row wide)

abbrev with_rows : Draft → List (List Bool) → Draft
with_rows d rows = record d { last = record d.last { rows = d.last.rows ++ rows } }

more_rows : (d : Draft) (row : List Bool) (rows : List (List Bool)) → with_rows (record d { last = grown d.last row }) rows ≡ with_rows d (row ∷ rows)
more_rows d row rows = ap (λ (all : List (List Bool)). record d { last = record d.last { rows = all } }) (append_assoc d.last.rows (row ∷ []) rows)

-- rows that don't make the glyph whole
rows_read : (d : Draft) (rows : List (List Bool)) → d.place ≡ Within → AllByRecursion (λ row. length row ≡ d.last.width) rows → length d.last.rows + length rows < d.font.height → run d (map row_text rows) ≡ Ok (with_rows d rows)
rows_read d [] within wide less = ap (λ (all : List (List Bool)). fine (record d { last = record d.last { rows = all } })) (sym (append-nil d.last.rows))
rows_read d (row ∷ rows) within wide less =
    let next : Draft = record d { last = grown d.last row } in
    let more = length-append d.last.rows (row ∷ []) in
    let lacks : length next.last.rows < d.font.height = omega arith in
    goes_on d next (row_text row) (map row_text rows) (row_read d row within wide.0 ∙ ap (λ (e : Draft). Some e) (settled_lacks next lacks)) ∙ rows_read next rows within wide.1 (omega arith)
    ∙ ap fine (more_rows d row rows)

-- rows that do
abbrev with_last : Draft → List (List Bool) → Draft
with_last d rows = let g = record d.last { rows = d.last.rows ++ rows } in record d { place = Between; font = with_glyph d.font g; last = g }

more_last : (d : Draft) (row : List Bool) (rows : List (List Bool)) → with_last (record d { last = grown d.last row }) rows ≡ with_last d (row ∷ rows)
more_last d row rows =
    ap (λ (all : List (List Bool)). record d { place = Between; font = with_glyph d.font (record d.last { rows = all }); last = record d.last { rows = all } }) (append_assoc d.last.rows (row ∷ []) rows)

last_read : (d : Draft) (row : List Bool) (rows : List (List Bool)) → d.place ≡ Within → AllByRecursion (λ row. length row ≡ d.last.width) (row ∷ rows) → length d.last.rows + length (row ∷ rows) ≡ d.font.height → run d (map row_text (row ∷ rows)) ≡ Ok (with_last d (row ∷ rows))
last_read d row [] within wide all =
    let next : Draft = record d { last = grown d.last row } in
    let more = length-append d.last.rows (row ∷ []) in
    let whole : length next.last.rows ≡ d.font.height = omega arith in
    goes_on d (with_last d (row ∷ [])) (row_text row) [] (row_read d row within wide.0 ∙ ap (λ (e : Draft). Some e) (settled_whole next whole))
last_read d row (second ∷ rows) within wide all =
    let next : Draft = record d { last = grown d.last row } in
    let more = length-append d.last.rows (row ∷ []) in
    let lacks : length next.last.rows < d.font.height = omega arith in
    goes_on d next (row_text row) (map row_text (second ∷ rows)) (row_read d row within wide.0 ∙ ap (λ (e : Draft). Some e) (settled_lacks next lacks))
    ∙ last_read next second rows within wide.1 (omega arith) ∙ ap fine (more_last d row (second ∷ rows))

-- a glyph's first line
head_read : (d : Draft) (head : ℕ × ℕ) → d.place ≡ Between → IsHead d.least head → after_line d (head_text head.0 head.1) ≡ Some (begun d head)
head_read d head between is = at_place Between d (head_text head.0 head.1) between ∙ ap (after_head d) (head_again d.least head is)

is_head : (n least : ℕ) (g : Glyph) → IsGlyph n g → least ≤ g.code → g.code ≤ 126 → IsHead least (g.code, g.width)
is_head n least g is from until = record { from = from; until = until; wide = is.wide; not_too_wide = is.not_too_wide }

-- the draft after a glyph
abbrev after_glyph : Draft → Glyph → Draft
after_glyph d g = record d { place = Between; least = g.code + 1; font = with_glyph d.font g; last = g }

glyph_of_rows : (d : Draft) (g : Glyph) (rows : List (List Bool)) → g.rows ≡ rows → d.place ≡ Between → 1 ≤ d.font.height → IsGlyph d.font.height g → d.least ≤ g.code → g.code ≤ 126 → run d (glyph_lines g) ≡ Ok (after_glyph d g)
glyph_of_rows d g [] rows between some is from until = let none = ap length rows in let high = is.high in absurd (omega arith)
glyph_of_rows d g (row ∷ more) rows between some is from until =
    let head : ℕ × ℕ = (g.code, g.width) in
    let next : Draft = begun d head in
    let count = ap length rows in
    let high = is.high in
    goes_on d next (head_text g.code g.width) (map row_text g.rows) (head_read d head between (is_head d.font.height d.least g is from until)) ∙ ap (λ (all : List (List Bool)). run next (map row_text all)) rows
    ∙ last_read next row more refl (subst (AllByRecursion (λ row. length row ≡ g.width)) rows is.even) (omega arith)
    ∙ ap (λ (all : List (List Bool)). fine (record d { place = Between; least = g.code + 1; font = with_glyph d.font (record g { rows = all }); last = record g { rows = all } })) (sym rows)

-- what was read of glyphs
pub record IsRead (d : Draft) (gs : List Glyph) : Type 0 where
  pub after : Draft
  pub read : run d (lines_of_glyphs gs) ≡ Ok after
  pub between : after.place ≡ Between
  pub font : after.font ≡ record d.font { glyphs = d.font.glyphs ++ gs }
  pub least : after.least ≡ least_after d.least gs

pub glyphs_read : (d : Draft) (gs : List Glyph) → d.place ≡ Between → 1 ≤ d.font.height → AllByRecursion (IsGlyph d.font.height) gs → IsRising d.least gs → IsRead d gs
glyphs_read d [] between some whole rising = record {
  after = d;
  read = refl;
  between = between;
  font = ap (λ (all : List Glyph). record d.font { glyphs = all }) (sym (append-nil d.font.glyphs));
  least = refl;
}
glyphs_read d (g ∷ gs) between some whole rising =
    let next : Draft = after_glyph d g in
    let more = glyphs_read next gs refl some whole.1 rising.2 in
    record {
      after = more.after;
      read = run_on line_step d next (glyph_lines g) (lines_of_glyphs gs) (glyph_of_rows d g g.rows refl between some whole.0 rising.0 rising.1) ∙ more.read;
      between = more.between;
      font = more.font ∙ ap (λ (all : List Glyph). record d.font { glyphs = all }) (append_assoc d.font.glyphs (g ∷ []) gs);
      least = more.least;
    }

-- ---- prefixes

end_read : (d : Draft) → d.place ≡ Between → after_line d (codes "end") ≡ Some (record d { place = After })
end_read d between = at_place Between d (codes "end") between

-- a draft that has read these lines, and stands at that place
pub record Reads (height : ℕ) (at : Place) (lines : List (List ℕ)) : Type 0 where
  pub draft : Draft
  pub read : run (start height) lines ≡ Ok draft
  pub place : draft.place ≡ at

-- a font's lines, to the end
pub record ReadsAll (height : ℕ) (glyphs : List Glyph) (lines : List (List ℕ)) : Type 0 where
  pub draft : Draft
  pub read : run (start height) lines ≡ Ok draft
  pub place : draft.place ≡ After
  pub font : draft.font ≡ record { height = height; glyphs = glyphs }

pub all_read : (height : ℕ) (glyphs : List Glyph) (lines : List (List ℕ)) → 1 ≤ height → AllByRecursion (IsGlyph height) glyphs → IsRising 32 glyphs → lines ≡ lines_of_glyphs glyphs ++ codes "end" ∷ [] → ReadsAll height glyphs lines
all_read height glyphs lines some whole rising spelled =
    let r = glyphs_read (start height) glyphs refl some whole rising in
    record {
      draft = record r.after { place = After };
      read = ap (run (start height)) spelled ∙ run_on line_step (start height) r.after (lines_of_glyphs glyphs) (codes "end" ∷ []) r.read ∙ goes_on r.after (record r.after { place = After }) (codes "end") [] (end_read r.after r.between);
      place = refl;
      font = r.font;
    }

rows_prefix : (height : ℕ) (lines : List (List ℕ)) → 1 ≤ height → AreRows height lines → Reads height Within lines
rows_prefix height lines some prefix =
    let g : Glyph = prefix.last in
    let parts = rising_less 32 prefix.glyphs g prefix.rising in
    let r = glyphs_read (start height) prefix.glyphs refl some prefix.whole parts.0 in
    let from : least_after 32 prefix.glyphs ≤ g.code = parts.1 in
    let least = r.least in
    let lacks = prefix.lacks in
    let high = ap (λ (f : Font). f.height) r.font in
    let next : Draft = begun r.after (g.code, g.width) in
    let head = head_read r.after (g.code, g.width) r.between (is_head (length g.rows) r.after.least g prefix.begun (omega arith) parts.2) in
    record {
      draft = with_rows next g.rows;
      read = ap (run (start height)) (prefix.spelled ∙ flat_map-append glyph_lines prefix.glyphs (g ∷ []) ∙ ap (λ (ls : List (List ℕ)). lines_of_glyphs prefix.glyphs ++ ls) (append-nil (glyph_lines g))) ∙ run_on line_step (start height) r.after (lines_of_glyphs prefix.glyphs) (glyph_lines g) r.read
          ∙ goes_on r.after next (head_text g.code g.width) (map row_text g.rows) head ∙ rows_read next g.rows refl prefix.begun.even (omega arith);
      place = refl;
    }

pub prefix_reads : (height : ℕ) (lines : List (List ℕ)) (at : Place) → 1 ≤ height → IsPrefix height lines at → Reads height at lines
prefix_reads height lines Between some prefix =
    let r = glyphs_read (start height) prefix.glyphs refl some prefix.whole prefix.rising in
    record { draft = r.after; read = ap (run (start height)) prefix.spelled ∙ r.read; place = r.between }
prefix_reads height lines Within some prefix = rows_prefix height lines some prefix
prefix_reads height lines After some prefix =
    let r = all_read height prefix.glyphs lines some prefix.whole prefix.rising prefix.spelled in
    record { draft = r.draft; read = r.read; place = r.place }
