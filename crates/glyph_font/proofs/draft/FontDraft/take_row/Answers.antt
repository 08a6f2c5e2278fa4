use Rattle.std.proofs.Common.{◌≡◌, ◌∙◌, length, sym, ap, subst, rules}
use Rattle.glyph_font.specs.declared.place.Place.TheVariants.{Within}
use Rattle.glyph_font.specs.Reading.{Draft, IsDraft}
use Rattle.glyph_font.proofs.TakeLemmas.{seen, row_grows}
use Rattle.glyph_font.proofs.draft.FontDraft.take_row.Goals as goal

pub settle-requires-clause-glyph : goal.settle-requires-clause-glyph
settle-requires-clause-glyph c =
    let is : IsDraft (seen c.self.inside) = subst IsDraft (sym c.self.view_is) c.requires.draft in
    let place : c.self.inside.place ≡ Within = ap (λ (d : Draft). d.place) c.self.view_is ∙ c.requires.place in
    let long : length c.self.inside.last.rows ≡ 32 = search rules in
    let same : c.from.result ≡ c.self.inside.rows = search rules in
    (row_grows c.self.inside c.from.result c.in-Some.row is place long c.self.invariant same).0

pub settle-requires-clause-rising : goal.settle-requires-clause-rising
settle-requires-clause-rising c =
    let is : IsDraft (seen c.self.inside) = subst IsDraft (sym c.self.view_is) c.requires.draft in
    let place : c.self.inside.place ≡ Within = ap (λ (d : Draft). d.place) c.self.view_is ∙ c.requires.place in
    let long : length c.self.inside.last.rows ≡ 32 = search rules in
    let same : c.from.result ≡ c.self.inside.rows = search rules in
    (row_grows c.self.inside c.from.result c.in-Some.row is place long c.self.invariant same).1
