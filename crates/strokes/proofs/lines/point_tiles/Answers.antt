use Rattle.strokes.proofs.TileLemmas.{on-wide_screen}
use Rattle.strokes.proofs.CourseLemmas.{one_point}
use Rattle.strokes.proofs.lines.point_tiles.Goals as goal

pub add_free-requires : goal.add_free-requires
add_free-requires c q h = on-wide_screen c.args.width c.args.height c.args.area.now q c.requires.area c.requires.sides.0 c.requires.sides.1 h

pub returns : goal.returns
returns c =
    let a = c.args in
    one_point a.width a.height a.corner a.p c.on_screen.result a.area.now a.holes.now c.empty-tiles.result c.add_free.new.tiles c.requires.area c.on_screen.ensures c.empty-tiles.ensures c.add_free.ensures
