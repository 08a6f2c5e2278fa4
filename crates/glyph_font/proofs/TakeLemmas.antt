-- The program's draft with a row more.
use Rattle.std.proofs.Common.{◌≡◌, ℕ, ◌+◌, ◌<◌, ◌≤◌, Bool, List, [], ◌∷◌, ◌++◌, length, set, take, map, refl, sym, ap, subst, ◌∙◌, arith}
use Rattle.std.proofs.lemmas.List.{length-map, length-take, map-append, take_more_set}
use Rattle.glyph_font.specs.declared.glyph.Glyph.{Glyph as Kept}
use Rattle.glyph_font.specs.declared.draft.FontDraft.TheInside.{Inside}
use Rattle.glyph_font.specs.declared.place.Place.{Place}
use Rattle.glyph_font.specs.declared.place.Place.TheVariants.{Within}
use Rattle.glyph_font.specs.Bits.{bits_of}
use Rattle.glyph_font.specs.Fonts.{Glyph, IsGlyph, IsRising}
use Rattle.glyph_font.specs.Kept.{glyph_from}
use Rattle.glyph_font.specs.Reading.{Draft, grown, Keeps, IsDraft}
use Rattle.glyph_font.proofs.BitLemmas.{length-bits_of}
use Rattle.glyph_font.proofs.DraftLaws.{grows, rising_same}

-- the kept glyph with a row more
abbrev pub with_row_at : Kept → ℕ → ℕ → Kept
with_row_at k at row = record k { rows = set k.rows at row }

pub kept_grows : (k : Kept) (rows at row : ℕ) → at ≡ rows → rows < length k.rows → glyph_from (rows + 1) (with_row_at k at row) ≡ grown (glyph_from rows k) (bits_of k.width row)
kept_grows k rows at row is within =
    ap (λ (all : List (List Bool)). record { code = k.code; width = k.width; rows = all })
    (ap (λ (i : ℕ). map (bits_of k.width) (take (rows + 1) (set k.rows i row))) is ∙ ap (map (bits_of k.width)) (take_more_set k.rows rows row within) ∙ map-append (bits_of k.width) (take rows k.rows) (row ∷ []))

-- the draft that these fields are
abbrev pub seen : Inside → Draft
seen d = record { place = d.place; least = d.least; font = d.font; last = glyph_from d.rows d.last }

-- a draft within a glyph has read fewer rows than there is room for
rows_within : (d : Inside) → IsDraft (seen d) → Keeps Within (seen d) → length d.last.rows ≡ 32 → d.rows ≤ 32 → d.rows < 32
rows_within d is keeps long few =
    let lacks : length (seen d).last.rows < d.font.height = keeps.1 in
    let low = is.not_too_high in
    let shown = length-map (take d.rows d.last.rows) (bits_of d.last.width) in
    let count = length-take d.rows d.last.rows in
    omega arith

-- the last glyph with a row more
pub row_grows : (d : Inside) (at row : ℕ) → IsDraft (seen d) → d.place ≡ Within → length d.last.rows ≡ 32 → d.rows ≤ 32 → at ≡ d.rows
    → IsGlyph (length (glyph_from (d.rows + 1) (with_row_at d.last at row)).rows) (glyph_from (d.rows + 1) (with_row_at d.last at row)) × IsRising 32 (d.font.glyphs ++ glyph_from (d.rows + 1) (with_row_at d.last at row) ∷ [])
row_grows d at row is place long few same =
    let keeps : Keeps Within (seen d) = subst (λ (at : Place). Keeps at (seen d)) place is.keeps in
    let less = rows_within d is keeps long few in
    let g : Glyph = grown (seen d).last (bits_of d.last.width row) in
    let more = grows (seen d).last (bits_of d.last.width row) keeps.0 (length-bits_of d.last.width row) in
    let glyph : IsGlyph (length g.rows) g = subst (λ (n : ℕ). IsGlyph n g) (sym more.high) more in
    let shown = kept_grows d.last d.rows at row same (omega arith) in
    (subst (λ (x : Glyph). IsGlyph (length x.rows) x) (sym shown) glyph, subst (λ (x : Glyph). IsRising 32 (d.font.glyphs ++ x ∷ [])) (sym shown) (rising_same 32 d.font.glyphs (seen d).last g refl keeps.2))
