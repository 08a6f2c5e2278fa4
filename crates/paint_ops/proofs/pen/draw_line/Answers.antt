use Rattle.std.proofs.Common.{◌<◌, refl, rules, w32, arith}
use Rattle.std.proofs.lemmas.Int.{ints, to_z-of_z}
use mir.Val.{SFits}
use Rattle.gfx_base.specs.Range.{IsNear}
use Rattle.gfx_base.proofs.CallerLemmas.{same_rect}
use Rattle.paint_ops.proofs.PaneLemmas.{column_is}
use Rattle.paint_ops.proofs.PenLemmas.{inked, clip-ready}
use Rattle.paint_ops.proofs.pen.draw_line.Goals as goal

pub walk-requires-clause-may_put : goal.walk-requires-clause-may_put
walk-requires-clause-may_put c q h =
    let o = c.args.origin in
    let f : SFits w32 o.x = search rules in
    let nx : IsNear o.x = (omega (arith, ints), omega (arith, ints)) in
    let ny : IsNear o.y = (omega (arith, ints), omega (arith, ints)) in
    let fits = c.requires.strip in
    let wide : c.args.strip.right < 65536 = omega (arith, fits.within, fits.shape.most_width) in
    let high : c.args.strip.y < 65536 = omega (arith, fits.row, fits.shape.most_height) in
    let left : c.args.strip.left < 65536 = omega (arith, fits.some) in
    let y = column_is c.from.result o.y c.args.strip.y c.from.ensures ny high in
    let clip = same_rect _ _ _ _ _ _ _ _ (column_is c.from-2.result o.x c.args.strip.left c.from-2.ensures nx left) y (column_is c.from-3.result o.x c.args.strip.right c.from-3.ensures nx wide) y in
    clip-ready c.args.target.now c.args.strip o _ _ q clip (to_z-of_z w32 o.x f) fits h

pub returns : goal.returns
returns c =
    let o = c.args.origin in
    let f : SFits w32 o.x = search rules in
    let nx : IsNear o.x = (omega (arith, ints), omega (arith, ints)) in
    let ny : IsNear o.y = (omega (arith, ints), omega (arith, ints)) in
    let fits = c.requires.strip in
    let wide : c.args.strip.right < 65536 = omega (arith, fits.within, fits.shape.most_width) in
    let high : c.args.strip.y < 65536 = omega (arith, fits.row, fits.shape.most_height) in
    let left : c.args.strip.left < 65536 = omega (arith, fits.some) in
    let y = column_is c.from.result o.y c.args.strip.y c.from.ensures ny high in
    let clip = same_rect _ _ _ _ _ _ _ _ (column_is c.from-2.result o.x c.args.strip.left c.from-2.ensures nx left) y (column_is c.from-3.result o.x c.args.strip.right c.from-3.ensures nx wide) y in
    let k = inked _ _ c.args.strip c.args.a c.args.b o _ c.walk.ensures clip (to_z-of_z w32 o.x f) refl fits in
    let reference = k.reference in
    let canvas = k.canvas in
    search rules
