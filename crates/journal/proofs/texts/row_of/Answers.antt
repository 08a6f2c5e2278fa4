use Rattle.std.proofs.Common.{◌≡◌, length, ap, ◌∙◌, arith}
use Rattle.std.proofs.lemmas.List.FromFn.{length-map-range_with_len}
use Rattle.frame.specs.Pictures.{colour_at}
use Rattle.frame.proofs.CallerLemmas.{row_at-points}
use Rattle.journal.proofs.texts.row_of.Goals as goal

pub returns-clause-some : goal.returns-clause-some
returns-clause-some c =
    let p = c.args.frame.now.picture in
    let y = c.args.y in
    let count : length c.row.result.now ≡ p.width = ap length (c.row.ensures ∙ row_at-points p y c.width.ensures.shape c.requires) ∙ length-map-range_with_len (λ x. colour_at p x y) 0 p.width in
    (omega (arith, count, c.width.ensures.shape.some_width), omega (arith, count, c.width.ensures.shape.most_width))
