-- A font's lines among other lines, as a reader meets them that hands a draft one line after the other.
use Rattle.std.proofs.Common.{◌≡◌, ℕ, ◌≤◌, true, List, [], ◌∷◌, ◌++◌, Some, Ok, refl, sym, ap, subst, ◌∙◌}
use Rattle.std.specs.Prelude.{codes}
use Rattle.spelling.specs.LineReading.{run}
use Rattle.spelling.proofs.CallerLemmas.{on_ok}
use Rattle.glyph_font.specs.declared.place.Place.{Place}
use Rattle.glyph_font.specs.declared.place.Place.TheVariants.{Between, Within, After}
use Rattle.glyph_font.specs.Fonts.{Glyph, Font, IsFont}
use Rattle.glyph_font.specs.Texts.{lines_of_glyphs, font_lines}
use Rattle.glyph_font.specs.Reading.{Draft, is_after, is_whole, start, after_line, line_step, IsDraft}
use Rattle.glyph_font.proofs.DraftLaws.{StandsAt, Spelled, Stands, is_draft, start_stands, step}
use Rattle.glyph_font.proofs.LinesReadLemmas.{stepped, height_kept, read_stands, at_place, ReadsAll, all_read}

-- ---- drafts

pub start_is_draft : (height : ℕ) → 1 ≤ height → height ≤ 32 → IsDraft (start height)
start_is_draft height some few = is_draft (start height) [] (start_stands height some few)

-- the lines that lead to a draft at this place
abbrev said : Place → Draft → List (List ℕ)
said Between d = lines_of_glyphs d.font.glyphs
said Within d = lines_of_glyphs (d.font.glyphs ++ d.last ∷ [])
said After d = lines_of_glyphs d.font.glyphs ++ codes "end" ∷ []

spelled_so : (at : Place) (d : Draft) → Spelled at d (said at d)
spelled_so Between d = refl
spelled_so Within d = refl
spelled_so After d = refl

stands_so : (d : Draft) → IsDraft d → Stands d (said d.place d)
stands_so d is = record { high = is.high; not_too_high = is.not_too_high; whole = is.whole; keeps = is.keeps; spelled = spelled_so d.place d }

pub draft_after : (d e : Draft) (line : List ℕ) → IsDraft d → after_line d line ≡ Some e → IsDraft e
draft_after d e line is read = is_draft e (said d.place d ++ line ∷ []) (step d e (said d.place d) line (stands_so d is) read)

pub nothing_after : (d e : Draft) (line : List ℕ) → d.place ≡ After → after_line d line ≡ Some e → ⊥
nothing_after d e line after read = absurd (cc (sym (at_place After d line after) ∙ read))

-- what the program's test of a draft tells
pub whole_after : (d : Draft) → is_whole d ≡ true → d.place ≡ After
whole_after d whole = after_at_end d.place whole where
  after_at_end : (place : Place) → is_after place ≡ true → place ≡ After
  after_at_end Between is = absurd cc
  after_at_end Within is = absurd cc
  after_at_end After is = refl

pub height_after : (height : ℕ) (d : Draft) (lines : List (List ℕ)) → run line_step (start height) lines ≡ Ok d → d.font.height ≡ height
height_after height d lines read = height_kept (start height) d lines read

-- ---- whole fonts

abbrev pub font_with : ℕ → List Glyph → Font
font_with height glyphs = record { height = height; glyphs = glyphs }

-- a font's lines are read, as those of its glyphs
pub font_reads : (height : ℕ) (font : Font) (lines : List (List ℕ)) → IsFont font → font.height ≡ height → lines ≡ font_lines font → ReadsAll height font.glyphs lines
font_reads height font lines is high spelled = subst (λ (h : ℕ). ReadsAll h font.glyphs lines) high (all_read font.height font.glyphs lines is.high is.glyphs is.rising spelled)

pub whole_read : (height : ℕ) (font : Font) → IsFont font → font.height ≡ height → (d : Draft) × (run line_step (start height) (font_lines font) ≡ Ok d) × (d.place ≡ After) × (d.font ≡ font)
whole_read height font is high =
    let r = font_reads height font (font_lines font) is high refl in
    (r.draft, r.read, r.place, r.font ∙ ap (λ (h : ℕ). font_with h font.glyphs) (sym high))

pub whole_says : (height : ℕ) (lines : List (List ℕ)) (d : Draft) → 1 ≤ height → height ≤ 32 → run line_step (start height) lines ≡ Ok d → d.place ≡ After → IsFont d.font × (d.font.height ≡ height) × (lines ≡ font_lines d.font)
whole_says height lines d some few read after =
    let stands : StandsAt After d lines = subst (λ (at : Place). StandsAt at d lines) after (read_stands height d lines some few read) in
    (record { high = stands.high; not_too_high = stands.not_too_high; glyphs = stands.whole; rising = stands.keeps.0 }, height_after height d lines read, stands.spelled)

-- a font's lines are no other font's of that height
pub one_font_lines : (height : ℕ) (lines : List (List ℕ)) (a b : Font) → IsFont a → a.height ≡ height → lines ≡ font_lines a → IsFont b → b.height ≡ height → lines ≡ font_lines b → a ≡ b
one_font_lines height lines a b is high spelled also also_high also_spelled =
    let r = font_reads height a lines is high spelled in
    let s = font_reads height b lines also also_high also_spelled in
    let same : r.draft ≡ s.draft = cc (sym r.read ∙ s.read) in
    let glyphs : a.glyphs ≡ b.glyphs = ap (λ (f : Font). f.glyphs) (sym r.font ∙ ap (λ (d : Draft). d.font) same ∙ s.font) in
    ap (λ (h : ℕ). font_with h a.glyphs) (high ∙ sym also_high) ∙ ap (font_with b.height) glyphs

-- ---- two fonts at the beginning of the same lines

taken : (d e : Draft) (line : List ℕ) (lines : List (List ℕ)) → run line_step d (line ∷ lines) ≡ Ok e → (next : Draft) × (after_line d line ≡ Some next) × (run line_step next lines ≡ Ok e)
taken d e line lines read =
    let next = on_ok (line_step d line) (λ next. run line_step next lines) e read in
    (next.0, stepped d.place (after_line d line) next.0 next.1, next.2)

no_line_after : (d e f : Draft) (line : List ℕ) (lines : List (List ℕ)) → run line_step d [] ≡ Ok e → e.place ≡ After → run line_step d (line ∷ lines) ≡ Ok f → ⊥
no_line_after d e f line lines ended after read =
    let same : d ≡ e = cc in
    let next = taken d f line lines read in
    nothing_after d next.0 line (ap (λ (x : Draft). x.place) same ∙ after) next.1

same_block : (d e f : Draft) (xs bs ys cs : List (List ℕ)) → run line_step d xs ≡ Ok e → e.place ≡ After → run line_step d bs ≡ Ok f → f.place ≡ After → xs ++ ys ≡ bs ++ cs → (xs ≡ bs) × (ys ≡ cs)
same_block d e f [] [] ys cs read after also also_after same = (refl, same)
same_block d e f [] (b ∷ bs) ys cs read after also also_after same = absurd (no_line_after d e f b bs read after also)
same_block d e f (x ∷ xs) [] ys cs read after also also_after same = absurd (no_line_after d f e x xs also also_after read)
same_block d e f (x ∷ xs) (b ∷ bs) ys cs read after also also_after same =
    let head : x ≡ b = cc in
    let tail : xs ++ ys ≡ bs ++ cs = cc in
    let first = taken d e x xs read in
    let second = taken d f b bs also in
    let next : first.0 ≡ second.0 = cc (sym first.1 ∙ ap (after_line d) head ∙ second.1) in
    let more = same_block first.0 e f xs bs ys cs first.2 after (subst (λ (n : Draft). run line_step n bs ≡ Ok f) (sym next) second.2) also_after tail in
    (cc (head, more.0), more.1)

pub apart : (height : ℕ) (a b : Font) (ys cs : List (List ℕ)) → IsFont a → a.height ≡ height → IsFont b → b.height ≡ height → font_lines a ++ ys ≡ font_lines b ++ cs → (a ≡ b) × (ys ≡ cs)
apart height a b ys cs is high also also_high same =
    let r = whole_read height a is high in
    let s = whole_read height b also also_high in
    let block = same_block (start height) r.0 s.0 (font_lines a) (font_lines b) ys cs r.1 r.2 s.1 s.2 same in
    (one_font_lines height (font_lines a) a b is high refl also also_high block.0, block.1)
