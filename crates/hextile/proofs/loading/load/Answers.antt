use Rattle.std.proofs.Common.{map, ap, ◌∙◌, arith}
use Rattle.std.proofs.lemmas.List.{take_at, length-take-le}
use Rattle.pixel_format.specs.Formats.{value_of}
use Rattle.hextile.proofs.LoadLemmas.{map_again, sides_few, sides_some}
use Rattle.hextile.proofs.loading.load.Goals as goal

pub put_values-requires-clause-some : goal.put_values-requires-clause-some
put_values-requires-clause-some c =
    let a = c.args in
    let few = sides_few a.w a.h c.requires.sides.0 c.requires.sides.1 in
    let some = sides_some a.w a.h c.requires.part.some_width c.requires.part.some_height in
    omega (arith, some, c.copy_colours-count.ensures.count, length-take-le c.copy_colours-count.result c.copy_colours-count.new.colours (omega (arith, few, c.copy_colours-count.ensures.count)))

pub returns-clause-values : goal.returns-clause-values
returns-clause-values c =
    let a = c.args in
    let f = value_of a.format.now in
    let few = sides_few a.w a.h c.requires.sides.0 c.requires.sides.1 in
    let long = length-take-le c.copy_colours-count.result a.points.now (omega (arith, few, c.copy_colours-count.ensures.count)) in
    take_at c.put_values.new.points _ c.copy_colours-count.result (omega (arith, long))
    ∙ c.put_values.ensures
    ∙ ap (map f) c.copy_colours-count.ensures.colours
    ∙ map_again f _ _
