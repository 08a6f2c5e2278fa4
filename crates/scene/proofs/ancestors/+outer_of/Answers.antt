use Rattle.std.proofs.Common.{sym}
use Rattle.scene.specs.Places.{place_of, place_at}
use Rattle.scene.proofs.PathLemmas.{IsOuter-settled, parent_found}
use Rattle.scene.proofs.ancestors.+outer_of.Goals as goal

pub add-spot-requires-clause-known : goal.add-spot-requires-clause-known
add-spot-requires-clause-known t c = parent_found c.args.stack.now (place_of c.args.w.now) _ (sym c.in_ok-parent.ensures)

pub returns-clause-outer : goal.returns-clause-outer
returns-clause-outer t c = IsOuter-settled (place_at c.args.stack.now) c.args.screen.now _ (place_of c.args.w.now) _ _ (sym c.in_ok-parent.ensures) c.add-spot.ensures.spot
