use Rattle.std.proofs.Common.{take}
use Rattle.std.specs.List.{All}
use Rattle.scene.specs.Looks.{IsPaintable}
use Rattle.samples.proofs.setups.are_paintable.Given as goal

abbrev pub invariant-loop-w : goal.invariant-loop-w
invariant-loop-w l = All (IsPaintable l.assets) (take l.w-index l.stack)
