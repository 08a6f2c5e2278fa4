use Rattle.std.proofs.Common.{◌≡◌, ◌-◌, ◌*◌}
use Rattle.frame.specs.Pictures.{colour_at}
use Rattle.frame.specs.Areas.{span_count}
use Rattle.frame.specs.Canvases.{drawn}
use Rattle.frame.proofs.TileLemmas.{tile_above}
use Rattle.frame.proofs.frame.Frame.copy_tile.Given as goal

abbrev pub invariant-loop-y : goal.invariant-loop-y
invariant-loop-y l = l.self ≡ drawn l.fn.self (tile_above l.fn.t.col l.fn.t.row l.y) (colour_at l.from.picture) ((l.y - l.y0) * span_count l.x0 l.x1)
